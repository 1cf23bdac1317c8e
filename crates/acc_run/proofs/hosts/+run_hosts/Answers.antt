use Rattle.acc_run.specs.Running.{CameBack}
use Rattle.acc_run.proofs.ReturnedHosts.{came_back, promised, went_end}
use Rattle.acc_run.proofs.hosts.+run_hosts.Goals as goal
use Rattle.acc_run.proofs.hosts.+run_hosts.Goals.{in-Ok, in-Err}

pub returns-clause-went : goal.returns-clause-went
returns-clause-went g t c =
    let back : CameBack c.args.runtime.now.config.devices c.in-Some.host c.in-Some.token c.match-started.host.0 c.match-started.host.1 = elim c.match-started.branch [
      | in-Ok w ↦ promised c.args.runtime.now.config.devices w.in-Ok.thread.promise.devices c.in-Some.host w.in-Ok.thread.promise.host.value c.in-Some.token w.in-Ok.thread.promise.token.value c.match-started.host w.join.result w.in-Ok.ensures.devices w.in-Ok.ensures.host w.in-Ok.ensures.token w.host-is w.join.ensures
      | in-Err w ↦ came_back c.args.runtime.now.config.devices c.in-Some.host c.in-Some.token c.match-started.host w.in-Err.back w.host-is w.in-Err.ensures.barred
    ] in
    went_end c.args.runtime.now.config.devices c.args.hosts.now.items c.args.tokens.now.items c.last_pair.new.hosts.items c.last_pair.new.tokens.items c.in-Some.host c.in-Some.token c.run_hosts.new.hosts.items c.run_hosts.new.tokens.items
    c.match-started.host.0 c.match-started.host.1 c.push_reserved.new.self.items c.push_reserved-2.new.self.items c.in-Some.ensures.hosts c.in-Some.ensures.tokens c.run_hosts.ensures.went back c.push_reserved.ensures.items c.push_reserved-2.ensures.items
