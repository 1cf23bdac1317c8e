-- What the rows of a device and the cells of a host array show after an operation on the device.
use Rattle.std.proofs.Common.{◌≡◌, ℕ, ◌+◌, ◌-◌, ◌≤◌, true, false, List, Some, None, refl, sym, ap, ◌∙◌, arith, inl, inr}
use Rattle.std.specs.Prelude.{◌&&◌, nat_lt, nat_le, slice_get, replicate, ℤ, pos}
use Rattle.std.proofs.lemmas.Bool.{cases_Bool, cases_eq, eq-eqb, ne_eqb}
use Rattle.std.proofs.lemmas.Bool.Decides.{nat_tests}
use Rattle.acc_base.specs.declared.range.Range.{Range}
use Rattle.acc_batch.specs.declared.label.OpLabel.TheVariants.{Make, CopyIn, CopyOut, Release}
use Rattle.acc_memory.specs.Memories.{Row, find_row, row_cell, row_has, ShowsRows, ShowsArray, IsCopy}
use Rattle.acc_memory.specs.Values.{Cell, Block_cell, is_in, or_zero, after_op}
use Rattle.acc_memory.specs.inner.Rows.{IsSetAt, number_of}
use Rattle.acc_memory.proofs.ByNumber.{set_at, set_past}
use Rattle.acc_memory.proofs.CellsIn.{is_in-from, is_in-parts}
use Rattle.acc_memory.proofs.CopyCells.{zero_at}

-- a block that is not the operation's shows what it did
other_block : (device : ℕ) (old new : List Row) (was : Cell → ℤ) (k i : ℕ) → ShowsRows device old was → find_row new k ≡ find_row old k
    → row_has (find_row new k) i ≡ true → row_cell (find_row new k) i ≡ was (Block_cell device k i)
other_block device old new was k i shows same has = rw same (shows k i (ap (λ row. row_has row i) (sym same) ∙ has))

-- ## Make and release

pub shows_make : (device : ℕ) (old new : List Row) (y : Row) (was : Cell → ℤ) → y.cells ≡ replicate y.range.len (pos 0) → IsSetAt y.block (Some y) old new
    → ShowsRows device old was → ShowsRows device new (after_op device (Make y.range y.block) was)
shows_make device old new y was zeros is shows k i has =
    elim (cases_eq k y.block) [
      | inl same ↦
          let at = set_at number_of y.block k (Some y) old new is same in
          let inside : is_in y.range i ≡ true = ap (λ row. row_has row i) (sym at) ∙ has in
          rw (eq-eqb device device refl, at, eq-eqb k y.block same, inside) (ap (λ cells. or_zero (slice_get cells (i - y.range.lo))) zeros ∙ zero_at y.range.len (i - y.range.lo))
      | inr other ↦ rw (eq-eqb device device refl, ne_eqb k y.block other) (other_block device old new was k i shows (set_past number_of y.block k (Some y) old new is other) has)
    ]

pub shows_release : (device : ℕ) (old new : List Row) (n : ℕ) (was : Cell → ℤ) → IsSetAt n None old new
    → ShowsRows device old was → ShowsRows device new (after_op device (Release n) was)
shows_release device old new n was is shows k i has =
    elim (cases_eq k n) [
      | inl same ↦
          let at = set_at number_of n k None old new is same in
          let none : false ≡ true = ap (λ row. row_has row i) (sym at) ∙ has in
          cc
      | inr other ↦ rw (eq-eqb device device refl) (other_block device old new was k i shows (set_past number_of n k None old new is other) has)
    ]

-- ## Copies

-- the same test of a cell by its number and by its index in a row
shifted : (lo at n i : ℕ) → lo ≤ at → lo ≤ i → (nat_le (at - lo) (i - lo) && nat_lt (i - lo) (at - lo + n)) ≡ (nat_le at i && nat_lt i (at + n))
shifted lo at n i low here = grind (arith, nat_tests)

is_in-wider : (r s : Range) (i : ℕ) → s.lo ≤ r.lo → r.lo + r.len ≤ s.lo + s.len → is_in r i ≡ true → is_in s i ≡ true
is_in-wider r s i low high inside = (let ends = is_in-parts r i inside in is_in-from s i (omega arith) (omega arith))

-- a row of this block and range, and a range that lies in it
pub record HoldsRow (rows : List Row) (n : ℕ) (x : Row) (r : Range) : Type 0 where
  pub found : find_row rows n ≡ Some x
  pub low : x.range.lo ≤ r.lo
  pub high : r.lo + r.len ≤ x.range.lo + x.range.len

pub shows_copy_in : (device : ℕ) (old new : List Row) (n : ℕ) (r : Range) (x y : Row) (arr : List ℤ) (was : Cell → ℤ) → HoldsRow old n x r → y.range ≡ x.range
    → IsCopy arr x.cells y.cells r.lo (r.lo - x.range.lo) r.len → IsSetAt n (Some y) old new
    → ShowsArray r.array arr was → ShowsRows device old was → ShowsRows device new (after_op device (CopyIn r n) was)
shows_copy_in device old new n r x y arr was h same copy is array shows k i has =
    elim (cases_eq k n) [
      | inr other ↦ rw (eq-eqb device device refl, ne_eqb k n other) (other_block device old new was k i shows (set_past number_of n k (Some y) old new is other) has)
      | inl eq ↦
          let at = set_at number_of n k (Some y) old new is eq in
          let inside : is_in x.range i ≡ true = ap (λ (s : Range). is_in s i) (sym same) ∙ (ap (λ row. row_has row i) (sym at) ∙ has) in
          let here = (is_in-parts x.range i inside).0 in
          let test = shifted x.range.lo r.lo r.len i h.low here in
          let first : row_cell (Some y) i ≡ or_zero (slice_get y.cells (i - x.range.lo)) = ap (λ (s : Range). or_zero (slice_get y.cells (i - s.lo))) same in
          let found : find_row old k ≡ Some x = ap (find_row old) eq ∙ h.found in
          elim (cases_Bool (is_in r i)) [
            | inl copied ↦
                let above = (is_in-parts r i copied).0 in
                let index : i - x.range.lo - (r.lo - x.range.lo) + r.lo ≡ i = omega (arith, h.low) in
                let cell : slice_get y.cells (i - x.range.lo) ≡ slice_get arr i = copy.cells (i - x.range.lo) ∙ rw (test ∙ copied) (ap (slice_get arr) index) in
                rw (eq-eqb device device refl, at, eq-eqb k n eq, copied) (first ∙ (ap or_zero cell ∙ array i))
            | inr stays ↦
                let cell : slice_get y.cells (i - x.range.lo) ≡ slice_get x.cells (i - x.range.lo) = copy.cells (i - x.range.lo) ∙ rw (test ∙ stays) refl in
                let before : row_cell (Some x) i ≡ was (Block_cell device k i) = ap (λ row. row_cell row i) (sym found) ∙ shows k i (ap (λ row. row_has row i) found ∙ inside) in
                rw (eq-eqb device device refl, at, eq-eqb k n eq, stays) (first ∙ (ap or_zero cell ∙ before))
          ]
    ]

pub shows_copy_out : (device : ℕ) (rows : List Row) (n : ℕ) (r : Range) (x : Row) (before after : List ℤ) (was : Cell → ℤ) → HoldsRow rows n x r
    → IsCopy x.cells before after (r.lo - x.range.lo) r.lo r.len
    → ShowsArray r.array before was → ShowsRows device rows was → ShowsArray r.array after (after_op device (CopyOut r n) was)
shows_copy_out device rows n r x before after was h copy array shows i =
    elim (cases_Bool (is_in r i)) [
      | inl copied ↦
          let above = (is_in-parts r i copied).0 in
          let index : i - r.lo + (r.lo - x.range.lo) ≡ i - x.range.lo = omega (arith, h.low) in
          let cell : slice_get after i ≡ slice_get x.cells (i - x.range.lo) = copy.cells i ∙ rw copied (ap (slice_get x.cells) index) in
          let source : row_cell (Some x) i ≡ was (Block_cell device n i) =
          ap (λ row. row_cell row i) (sym h.found) ∙ shows n i (ap (λ row. row_has row i) h.found ∙ is_in-wider r x.range i h.low h.high copied) in
          rw (eq-eqb r.array r.array refl, copied) (ap or_zero cell ∙ source)
      | inr stays ↦
          let cell : slice_get after i ≡ slice_get before i = copy.cells i ∙ rw stays refl in
          rw (eq-eqb r.array r.array refl, stays) (ap or_zero cell ∙ array i)
    ]
