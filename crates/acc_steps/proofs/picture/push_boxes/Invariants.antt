use Rattle.std.proofs.Common.{◌≡◌, ◌++◌, ℕ, List, take}
use Rattle.acc_steps.specs.Pictures.{AreBoxes}
use Rattle.acc_steps.specs.Scenes.{lines_in}
use Rattle.acc_steps.proofs.picture.push_boxes.Given as goal

abbrev pub invariant-loop-column : goal.invariant-loop-column
invariant-loop-column l =
    (text : List ℕ) × AreBoxes (lines_in (take l.column l.boxes)) text × (l.picture.items ≡ l.fn.picture.items ++ text)
