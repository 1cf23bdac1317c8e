use Rattle.acc_host.proofs.WorkedHosts.{questions_follow, seen_follows, default_follows}
use Rattle.acc_host.proofs.laws.worked_hosts.Goals as goal

pub returns-clause-questions : goal.returns-clause-questions
returns-clause-questions c = questions_follow

pub returns-clause-synchronous : goal.returns-clause-synchronous
returns-clause-synchronous c = seen_follows

pub returns-clause-default : goal.returns-clause-default
returns-clause-default c = default_follows
