-- Rows that have as many cells as their range, and one of which some cells are written.
use Rattle.std.proofs.Common.{◌≡◌, ℕ, ◌-◌, true, List, length, Option, Some, None, refl, sym, ap, ◌∙◌, inl, inr}
use Rattle.std.specs.Prelude.{ℤ}
use Rattle.std.specs.Option.{option_map}
use Rattle.std.proofs.lemmas.Bool.{cases_eq, eq-eqb, eqb-true}
use Rattle.acc_kernel.proofs.SplicedRow.{length-spliced}
use Rattle.acc_memory.specs.Memories.{Row, is_whole}
use Rattle.acc_memory.specs.inner.Rows.{AreWhole, HasRoom, IsSetAt, number_of, stored}
use Rattle.acc_memory.proofs.ByNumber.{set_at, set_past}

-- they have after one is set that has
pub whole_set : (n : ℕ) (row : Option Row) (old new : List Row) → AreWhole old → ((x : Row) → row ≡ Some x → is_whole x ≡ true) → IsSetAt n row old new → AreWhole new
whole_set n row old new whole one is k x found = elim (cases_eq k n) [
  | inl same ↦ one x (sym (set_at number_of n k row old new is same) ∙ found)
  | inr other ↦ whole k x (sym (set_past number_of n k row old new is other) ∙ found)
]

-- so has one of which some cells are written
pub stored_whole : (old : Option Row) (first : ℕ) (values : List ℤ) → ((x : Row) → old ≡ Some x → is_whole x ≡ true) → ((x : Row) → old ≡ Some x → HasRoom x first (length values))
    → (x : Row) → option_map (λ row. stored row (first - row.range.lo) values) old ≡ Some x → is_whole x ≡ true
stored_whole None first values whole room x e = let never : ⊥ = cc in absurd never
stored_whole (Some row) first values whole room x e =
    let is : stored row (first - row.range.lo) values ≡ x = cc in
    let size = length-spliced row.cells values (first - row.range.lo) (room row refl).high ∙ eqb-true (length row.cells) row.range.len (whole row refl) in
    ap is_whole (sym is) ∙ eq-eqb (length (stored row (first - row.range.lo) values).cells) row.range.len size
