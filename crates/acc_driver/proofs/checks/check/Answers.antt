use Rattle.std.proofs.Common.{◌∙◌, ap}
use Rattle.acc_driver.specs.Inputs.{Parts}
use Rattle.acc_driver.proofs.CheckAnswers.{both_checked, schedule_checked, script_checked}
use Rattle.acc_driver.proofs.checks.check.Goals as goal

pub returns-in_default : goal.returns-in_default
returns-in_default g c =
    let none = rw c.as_slice.ensures.value at c.in_ok-hosts.ensures.told c.in_default.is in
    let written = g.W.Write.contents c.args.output.now in
    record {
      answers = script_checked (g.R.Read.remaining c.args.script.reader) (g.S.Read.remaining c.args.schedule.reader) c.in_ok-text.text.items c.args.devices written written
          c.in_ok-text.ensures.bytes none;
    }

pub returns : goal.returns
returns g c =
    let script = rw (c.in-Some.is, c.as_slice.ensures.value) at c.in_ok-hosts.ensures.script in
    let schedule = rw c.as_slice-2.ensures.value at c.is_schedule.ensures.schedule in
    let quiet = rw c.in-Some.is at c.in_ok-hosts.ensures.silent in
    let texts : Parts = record { script = c.in_ok-text.text.items; schedule = c.in_ok-text-2.text.items } in
    let answers = schedule_checked c.args.devices c.in-Some.hosts texts _ _ c.is_schedule.result script schedule
    (λ whole. c.is_schedule.ensures.silent whole ∙ ap g.W.Write.contents quiet) c.is_schedule.ensures.fault in
    record {
      answers = both_checked (g.R.Read.remaining c.args.script.reader) (g.S.Read.remaining c.args.schedule.reader) c.in_ok-text.text.items c.in_ok-text-2.text.items c.args.devices _ _ c.is_schedule.result
          c.in_ok-text.ensures.bytes c.in_ok-text-2.ensures.bytes answers;
    }
