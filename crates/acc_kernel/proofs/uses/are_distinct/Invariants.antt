use Rattle.std.proofs.Common.{◌≡◌, ℕ, length, take, get_or, false}
use Rattle.std.specs.Prelude.{◌==◌}
use Rattle.std.specs.List.{list_any}
use Rattle.acc_kernel.specs.Jobs.{AreDistinct}
use Rattle.acc_kernel.proofs.uses.are_distinct.Given as goal

abbrev pub invariant-loop-range : goal.invariant-loop-range
invariant-loop-range l =
    (length l.used ≡ 256) × AreDistinct (take l.range-index l.uses)
    × ((array : ℕ) → get_or l.used array false ≡ list_any (λ u. u.1.array == array) (take l.range-index l.uses))
