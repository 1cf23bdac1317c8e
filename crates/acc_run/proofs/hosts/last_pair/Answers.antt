use Rattle.acc_run.proofs.PairedHosts.{last_of_paired}
use Rattle.acc_run.proofs.hosts.last_pair.Goals as goal

pub returns-clause-pair : goal.returns-clause-pair
returns-clause-pair c =
    (last_of_paired c.args.hosts.now.items c.args.tokens.now.items c.pop.new.self.items c.pop-2.new.self.items c.in_ok-host.host c.in-Some.token c.requires c.in_ok-host.ensures.items c.in-Some.ensures.items).last

pub returns-clause-others : goal.returns-clause-others
returns-clause-others c =
    (last_of_paired c.args.hosts.now.items c.args.tokens.now.items c.pop.new.self.items c.pop-2.new.self.items c.in_ok-host.host c.in-Some.token c.requires c.in_ok-host.ensures.items c.in-Some.ensures.items).others
