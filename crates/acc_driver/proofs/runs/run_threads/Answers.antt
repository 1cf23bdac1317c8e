use Rattle.std.proofs.Common.{map, sym, ap, ◌∙◌}
use Rattle.acc_host.specs.Hosts.{state_of}
use Rattle.acc_run.specs.Finishing.{histories_of}
use Rattle.acc_driver.proofs.ThreadRuns.{hosts_stopped}
use Rattle.acc_driver.proofs.runs.run_threads.Goals as goal

pub returns-clause-left : goal.returns-clause-left
returns-clause-left g c =
    let outcome = c.in_ok-outcome.outcome in
    let left = c.in_ok-outcome.ensures in
    let config = left.config ∙ c.run_hosts.ensures.config in
    record {
      configured = config ∙ c.in_ok-runtime.ensures.config;
      legal = left.legal;
      queues = left.queues;
      stopped = hosts_stopped c.tokens_follow.ensures (histories_of outcome) c.args.programs.items c.in_ok-runtime.runtime.config.devices c.in_ok-hosts.hosts.items c.in_ok-runtime.tokens.items
          c.in-Ok.back.0.items c.in-Ok.back.1.items c.in_ok-states.states.items
          c.in_ok-runtime.ensures.tokens (ap (λ config. config.devices) (sym config)) c.in_ok-hosts.ensures.hosts c.in-Ok.ensures.ran left.agree.each
          (c.in_ok-states.ensures.states ∙ ap (map state_of) c.as_slice.ensures.value);
    }
