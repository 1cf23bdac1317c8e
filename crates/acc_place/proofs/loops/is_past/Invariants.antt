use Rattle.std.proofs.Common.{◌≡◌, false, take}
use Rattle.std.specs.List.{All, list_any}
use Rattle.acc_kernel.specs.Kernels.{reach_of}
use Rattle.acc_place.specs.Accepting.{reaches_past}
use Rattle.acc_place.specs.Implicit.{item_of}
use Rattle.acc_place.specs.Loops.{StaysInsideOf}
use Rattle.acc_place.proofs.loops.is_past.Given as goal

abbrev pub invariant-loop-array : goal.invariant-loop-array
invariant-loop-array l =
    record {
      past : list_any (λ array. reaches_past (reach_of l.kernel array) (item_of array l.items)) (take l.array-index l.arrays) ≡ false;
      held : All (StaysInsideOf l.kernel l.items) (take l.array-index l.arrays);
    }
