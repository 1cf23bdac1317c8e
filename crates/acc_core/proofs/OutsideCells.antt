-- A memory holds zero where no host array has a cell.
use Rattle.std.proofs.Common.{◌≡◌, ℕ, ◌+◌, ◌<◌, ◌≤◌, Bool, true, false, List, [], length, Some, None, Option, refl, sym, ap, ◌∙◌, arith}
use Rattle.std.specs.Prelude.{ℤ, pos, ◌&&◌, nat_lt, nat_le, slice_get}
use Rattle.std.proofs.lemmas.Bool.{leb-false}
use Rattle.std.proofs.lemmas.Option.{slice_get_past}
use Rattle.acc_base.specs.declared.range.Range.{Range}
use Rattle.acc_base.specs.Configurations.{ends_within, has_range}
use Rattle.acc_memory.specs.Values.{or_empty, or_zero}

-- the range of one cell
abbrev pub one_cell : ℕ → ℕ → Range
one_cell array cell = record { array = array; lo = cell; len = 1 }

pub outside_zero : (arrays : List (List ℤ)) (array cell : ℕ) → has_range arrays (one_cell array cell) ≡ false → or_zero (slice_get (or_empty (slice_get arrays array)) cell) ≡ pos 0
outside_zero arrays array cell outside = by (slice_get arrays array) outside
  where
    by : (o : Option (List ℤ)) → ends_within o (cell + 1) ≡ false → or_zero (slice_get (or_empty o) cell) ≡ pos 0
    by None past = ap or_zero (slice_get_past [] cell (omega arith))
    by (Some cells) past = ap or_zero (slice_get_past cells cell (omega (arith, leb-false (cell + 1) (length cells) past)))
