use Rattle.std.proofs.Common.{◌≡◌, ◌+◌, ◌<◌, length, ◌∙◌, arith}
use Rattle.acc_steps.proofs.EventsByLine.{events_more}
use Rattle.acc_steps.proofs.walk.numbered_events.Goals as goal

pub loop-line-preserved : goal.loop-line-preserved
loop-line-preserved c =
    let next : c.in-Some.next ≡ c.loop-line.line-index + 1 = omega (arith, c.loop-line.invariant.number) in
    let below : c.loop-line.line-index < length c.args.lines.now = omega (arith, c.loop-line-test.true) in
    record {
      number = next;
      events = c.in_ok-push_line.ensures.events ∙ events_more c.args.hosts c.args.devices c.loop-line.line-index c.in-Some.next _ c.args.lines.now c.loop-line.list.items below next c.loop-line.invariant.events;
    }
