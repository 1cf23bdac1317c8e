use Rattle.std.proofs.Common.{◌++◌, append_assoc, sym, ap, ◌∙◌}
use Rattle.acc_schedule.specs.Schedules.{repeated}
use Rattle.acc_schedule.proofs.RepeatedTurns.{repeated-next}
use Rattle.acc_steps.specs.Walks.{on_line}
use Rattle.acc_steps.proofs.EventsByLine.{on_line_more}
use Rattle.acc_steps.proofs.walk.push_turns.Goals as goal

pub loop-preserved : goal.loop-preserved
loop-preserved c =
    let number = c.args.number in
    let events = c.events-events.result.now in
    let before = repeated c.loop.counter events in
    c.in_ok-push_events.ensures.events ∙ ap (λ l. l ++ on_line number events) c.loop.invariant
    ∙ append_assoc c.args.list.now.items (on_line number before) (on_line number events)
    ∙ ap (λ l. c.args.list.now.items ++ l) (sym (on_line_more number before events) ∙ ap (on_line number) (sym (repeated-next events c.loop.counter)))
