use Rattle.std.proofs.Common.{◌≡◌, ◌≤◌, length, take}
use Rattle.acc_steps.specs.Lines.{words_told}
use Rattle.acc_steps.specs.Pictures.{AreDrawn, joined}
use Rattle.acc_steps.specs.Scenes.{lines_in}
use Rattle.acc_steps.proofs.picture.draw_steps.Given as goal

abbrev pub invariant-loop-next : goal.invariant-loop-next
invariant-loop-next l = record {
  number : l.number ≡ l.next-index;
  drawn : AreDrawn (words_told l.telling) 1 (take l.next-index l.events) l.fn.world l.world (lines_in l.scene.boxes.items);
  bytes : l.scene.bytes ≤ length (joined (lines_in l.scene.boxes.items));
}
