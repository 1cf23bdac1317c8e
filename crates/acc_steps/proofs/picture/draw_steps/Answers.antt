use Rattle.std.proofs.Common.{◌≡◌, ◌+◌, sym, ◌∙◌, arith}
use Rattle.acc_steps.specs.Lines.{words_told}
use Rattle.acc_steps.specs.Scenes.{lines_in}
use Rattle.acc_steps.proofs.DrawnBoxes.{limit_passed}
use Rattle.acc_steps.proofs.DrawnSteps.{drawn_next}
use Rattle.acc_steps.proofs.picture.draw_steps.Goals as goal

pub loop-next-preserved : goal.loop-next-preserved
loop-next-preserved c =
    let l = c.loop-next in
    let number : l.number + 1 ≡ l.next-index + 1 = omega (arith, l.invariant.number) in
    let step = rw c.next-item.is at c.in_ok-add.ensures.drawn in
    record {
      number = number;
      drawn = drawn_next (words_told c.args.telling.now) (l.number + 1) l.next-index c.args.events.now _ c.args.world.now l.world c.add.new.world
          (lines_in l.scene.boxes.items) (lines_in c.add.new.self.boxes.items) c.loop-next-test.true number l.invariant.drawn step;
      bytes = c.in_ok-add.ensures.bytes l.invariant.bytes;
    }

pub returns-then-is_too_large-clause-none : goal.returns-then-is_too_large-clause-none
returns-then-is_too_large-clause-none c =
    let l = c.loop-next in
    let number : l.number + 1 ≡ l.next-index + 1 = omega (arith, l.invariant.number) in
    let step = rw c.next-item.is at c.in_ok-add.ensures.drawn in
    record {
      count = l.next-index + 1;
      lines = lines_in c.add.new.self.boxes.items;
      drawn = drawn_next (words_told c.args.telling.now) (l.number + 1) l.next-index c.args.events.now _ c.args.world.now l.world c.add.new.world
          (lines_in l.scene.boxes.items) (lines_in c.add.new.self.boxes.items) c.loop-next-test.true number l.invariant.drawn step;
      passes = limit_passed c.add.new.self.boxes.items c.add.new.self.bytes (sym c.is_too_large.ensures ∙ c.if-is_too_large.true)
          (c.in_ok-add.ensures.bytes l.invariant.bytes);
    }
