use Rattle.acc_host.proofs.HostStands.{ready_stands, Stands-follow, refused_stands, stands_on}
use Rattle.acc_host.proofs.BareStatements.{follows_bare}
use Rattle.acc_host.proofs.laws.hosts_follow.Goals as goal

pub returns-clause-first : goal.returns-clause-first
returns-clause-first c = ready_stands

pub returns-clause-follow : goal.returns-clause-follow
returns-clause-follow c = Stands-follow

pub returns-clause-refused : goal.returns-clause-refused
returns-clause-refused c = refused_stands

pub returns-clause-bare : goal.returns-clause-bare
returns-clause-bare c = follows_bare

pub returns-clause-steps : goal.returns-clause-steps
returns-clause-steps c = stands_on
