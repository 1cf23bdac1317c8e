use Rattle.std.proofs.Common.{◌≡◌, ◌+◌, arith}
use Rattle.acc_report.specs.Puts.{sink}
use Rattle.acc_steps.specs.Lines.{words_told}
use Rattle.acc_steps.proofs.ToldSteps.{tells_next}
use Rattle.acc_steps.proofs.walk.tell_steps.Goals as goal

pub loop-next-preserved : goal.loop-next-preserved
loop-next-preserved g c =
    let l = c.loop-next in
    let number : l.number + 1 ≡ l.next-index + 1 = omega (arith, l.invariant.number) in
    let before = sink (g.W.Write.contents c.args.out.now) c.args.failed.now in
    let now = sink (g.W.Write.contents l.out) l.failed in
    let after = sink (g.W.Write.contents c.tell_step.new.out) c.tell_step.new.failed in
    let step = rw c.next-item.is at c.in_ok-tell_step.ensures.told in
    record {
      number = number;
      told = tells_next (words_told c.args.telling.now) (l.number + 1) l.next-index c.args.events.now _ c.args.world.now l.world c.tell_step.new.world before now after
          c.loop-next-test.true number l.invariant.told step;
    }
