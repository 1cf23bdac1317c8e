use Rattle.std.proofs.Common.{◌∙◌}
use Rattle.std.proofs.lemmas.List.{length-reverse}
use Rattle.acc_report.specs.Reports.{left_by}
use Rattle.acc_script.specs.Scripts.{view_of_script}
use Rattle.acc_driver.specs.Replays.{driver_fault}
use Rattle.acc_driver.specs.Runs.{histories_left}
use Rattle.acc_driver.proofs.ReplayAnswers.{usable_runs}
use Rattle.acc_driver.proofs.ThreadRuns.{as_many, run_configured}
use Rattle.acc_driver.proofs.runs.run.Goals as goal

pub returns-in-Err-config_of-clause-configured : goal.returns-in-Err-config_of-clause-configured
returns-in-Err-config_of-clause-configured g c = λ usable.
    let why = driver_fault c.in-Err-config_of.fault in
    rw c.of_input.ensures
    (run_configured why (usable_runs c.args.options (view_of_script c.args.script) why c.requires.declared c.requires.few c.in-Err-config_of.ensures.refused usable))

pub report-requires : goal.report-requires
report-requires g c =
    let outcome = c.in-Ok-run_threads.outcome in
    let left = c.in-Ok-run_threads.ensures.left in
    record {
      accepted = left.legal.accepted;
      counted = length-reverse outcome.counts.items ∙ c.in-Ok-run_threads.ensures.counted;
      few = rw (as_many (histories_left (left_by outcome)) 0 c.args.script.programs.items outcome.hosts.items left.stopped) c.requires.few;
    }
