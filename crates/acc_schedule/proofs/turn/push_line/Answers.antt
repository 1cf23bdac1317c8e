use Rattle.std.proofs.Common.{append_assoc}
use Rattle.acc_schedule.specs.Schedules.{repeated}
use Rattle.acc_schedule.proofs.RepeatedTurns.{repeated-next}
use Rattle.acc_schedule.proofs.turn.push_line.Goals as goal

pub loop-preserved : goal.loop-preserved
loop-preserved c =
    let turn = c.events-turn.result.now in
    let next = repeated-next turn c.loop.counter in
    let parts = append_assoc c.args.events.now.items (repeated c.loop.counter turn) turn in
    cc (next, parts, c.loop.invariant, c.in_ok-extend_from_slice.ensures.items)
