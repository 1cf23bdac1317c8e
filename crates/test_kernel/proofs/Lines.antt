-- Where the cells of a line are.
use Rattle.std.proofs.Common.{◌≡◌, ℕ, ◌+◌, ◌<◌, true, List, [], ◌∷◌, get_or, refl, sym, subst, arith}
use Rattle.std.specs.Prelude.{ℤ, pos, ◌≤ℤ◌, ◌<ℤ◌}
use Rattle.acc_kernel.specs.Jobs.{Use, no_use, place_of, used_range}
use Rattle.acc_kernel.proofs.CellIn.{Spot, used}
use Rattle.acc_kernel.proofs.ValueAfter.{within}
use Rattle.test_kernel.specs.Lines.{whole_use, line_has}

pub spot : (row : List ℤ) (array : ℕ) (cell : ℤ) → line_has row array cell ≡ true → Spot (whole_use row) (row ∷ []) array cell 0
spot row array cell has =
    let us : List Use = whole_use row in
    let here : place_of us array < 1 = used us array cell has in
    let at : 0 ≡ place_of us array = omega arith in
    let ends = within (pos (used_range us array).lo) (pos ((used_range us array).lo + (used_range us array).len)) cell has in
    record {
      at = at;
      here = omega arith;
      there = omega arith;
      low = subst (λ (p : ℕ). pos (get_or us p no_use).1.lo ≤ℤ cell) (sym at) ends.0;
      high = subst (λ (p : ℕ). cell <ℤ pos ((get_or us p no_use).1.lo + (get_or us p no_use).1.len)) (sym at) ends.1;
      long = refl;
    }
