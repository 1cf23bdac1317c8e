use Rattle.std.proofs.Common.{◌≡◌, ◌*◌, take}
use Rattle.std.specs.List.{flat_map}
use Rattle.acc_batch.specs.Values.{bytes_of}
use Rattle.acc_batch.proofs.values.write_each.Given as goal

abbrev pub invariant-loop-i : goal.invariant-loop-i
invariant-loop-i l = take (l.i * l.count) l.bytes ≡ flat_map (bytes_of l.width) (take l.i l.cells)
