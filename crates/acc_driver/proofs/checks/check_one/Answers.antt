use Rattle.std.proofs.Common.{◌∙◌, ap}
use Rattle.std.specs.Prelude.{Ok, false}
use Rattle.acc_driver.specs.Inputs.{parts}
use Rattle.acc_driver.proofs.CheckAnswers.{one_checked, schedule_checked, script_wrong}
use Rattle.acc_driver.proofs.checks.check_one.Goals as goal

pub returns-in_default : goal.returns-in_default
returns-in_default g c =
    let none = rw (c.split.ensures.script, c.as_slice.ensures.value) at c.in_ok-hosts.ensures.told c.in_default.is in
    let written = g.W.Write.contents c.args.output.now in
    record {
      answers = one_checked (g.R.Read.remaining c.args.both.reader) c.in_ok-text.text.items c.args.devices written written (Ok false) c.in_ok-text.ensures.bytes
          (script_wrong c.args.devices (parts c.in_ok-text.text.items) written written none);
    }

pub returns : goal.returns
returns g c =
    let script = rw (c.in-Some.is, c.split.ensures.script, c.as_slice.ensures.value) at c.in_ok-hosts.ensures.script in
    let schedule = rw (c.split.ensures.schedule, c.as_slice.ensures.value) at c.is_schedule.ensures.schedule in
    let quiet = rw c.in-Some.is at c.in_ok-hosts.ensures.silent in
    let answers = schedule_checked c.args.devices c.in-Some.hosts (parts c.in_ok-text.text.items) _ _ c.is_schedule.result script schedule
    (λ whole. c.is_schedule.ensures.silent whole ∙ ap g.W.Write.contents quiet) c.is_schedule.ensures.fault in
    record {
      answers = one_checked (g.R.Read.remaining c.args.both.reader) c.in_ok-text.text.items c.args.devices _ _ c.is_schedule.result c.in_ok-text.ensures.bytes answers;
    }
