-- What each call makes of the blocks of a device.
use Rattle.std.proofs.Common.{◌≡◌, ℕ, ◌+◌, ◌-◌, ◌<◌, ◌≤◌, true, List, length, map, take, drop, subst, length-drop, Some, sym, refl, ap, ◌∙◌, arith}
use Rattle.std.specs.Prelude.{replicate, ℤ, pos}
use Rattle.std.specs.Option.{option_map}
use Rattle.std.proofs.lemmas.Bool.{eq-eqb, eqb-true}
use Rattle.std.proofs.lemmas.List.{length-replicate, length-take-le}
use Rattle.acc_base.specs.declared.range.Range.{Range}
use Rattle.acc_batch.specs.Lives.{Made}
use Rattle.acc_batch.specs.declared.label.OpLabel.TheVariants.{CopyIn}
use Rattle.acc_memory.specs.Memories.{Row, ShowsRows, ShowsArray, SameBlocks, IsCopy, find_row, made_of, is_whole, HasRange}
use Rattle.acc_memory.specs.Values.{Cell, after_op}
use Rattle.acc_memory.specs.inner.Rows.{AreWhole, HasRoom, IsSetAt, stored}
use Rattle.acc_memory.proofs.AfterOp.{HoldsRow, shows_copy_in}
use Rattle.acc_memory.proofs.CopyCells.{is_copy_from}
use Rattle.acc_memory.proofs.Rows.{row_there, same_replaced}

-- ## The block that a call finds

-- a block that is there, and a range that lies in its range
pub record RangeAt (rows : List Row) (n : ℕ) (r : Range) : Type 0 where
  pub row : Row
  pub holds : HoldsRow rows n row r

pub range_at : (rows : List Row) (n : ℕ) (r : Range) → HasRange (map made_of rows) n r → 0 < r.len → RangeAt rows n r
range_at rows n r g some =
    let m : Made = record { block = n; range = g.whole_range } in
    let t = row_there rows n m g.held in
    let range : t.row.range ≡ g.whole_range = ap (λ (k : Made). k.range) t.made in
    let lo : t.row.range.lo ≡ g.whole_range.lo = ap (λ (k : Range). k.lo) range in
    let len : t.row.range.len ≡ g.whole_range.len = ap (λ (k : Range). k.len) range in
    let first = g.inside r.array r.lo (refl, omega arith, omega (arith, some)) in
    let last = g.inside r.array (r.lo + (r.len - 1)) (refl, omega arith, omega (arith, some)) in
    record {
      row = t.row;
      holds = record { found = t.found; low = omega (arith, first.1, lo); high = omega (arith, last.2, some, lo, len) };
    }

-- a block whose cells are all zero has as many as its range
pub zeros_whole : (b : Row) → b.cells ≡ replicate b.range.len (pos 0) → is_whole b ≡ true
zeros_whole b zeros = eq-eqb (length b.cells) b.range.len (ap length zeros ∙ length-replicate b.range.len (pos 0))

-- ## Copies

-- the range lies in the row that is found
pub holds_found : (rows : List Row) (n : ℕ) (r : Range) (x : Row) → RangeAt rows n r → find_row rows n ≡ Some x → HoldsRow rows n x r
holds_found rows n r x h found =
    let both : Some h.row ≡ Some x = sym h.holds.found ∙ found in
    let is : h.row ≡ x = cc in
    subst (λ (y : Row). HoldsRow rows n y r) is h.holds

abbrev source_of : List ℤ → Range → List ℤ
source_of arr r = take (r.lo + r.len - r.lo) (drop r.lo arr)

source_len : (arr : List ℤ) (r : Range) → r.lo + r.len ≤ length arr → length (source_of arr r) ≡ r.len
source_len arr r long =
    let n : r.lo + r.len - r.lo ≡ r.len = omega arith in
    ap (λ k. length (take k (drop r.lo arr))) n ∙ length-take-le r.len (drop r.lo arr) (omega (arith, long, length-drop r.lo arr))

-- there is room for the copy
pub copy_fits : (rows : List Row) (n : ℕ) (r : Range) (arr : List ℤ) → RangeAt rows n r → AreWhole rows → r.lo + r.len ≤ length arr
    → (row : Row) → find_row rows n ≡ Some row → HasRoom row r.lo (length (source_of arr r))
copy_fits rows n r arr h whole long row found =
    let holds = holds_found rows n r row h found in
    let size = eqb-true (length row.cells) row.range.len (whole n row found) in
    record { low = holds.low; high = omega (arith, size, source_len arr r long, holds.low, holds.high) }

-- a copy from the cells of a host array
pub record CopiesInto (arr : List ℤ) (n : ℕ) (r : Range) (old new : List Row) : Type 0 where
  pub shows : (device : ℕ) (was : Cell → ℤ) → ShowsArray r.array arr was → ShowsRows device old was → ShowsRows device new (after_op device (CopyIn r n) was)
  pub blocks : SameBlocks (map made_of new) (map made_of old)

pub copies_in : (rows new : List Row) (n : ℕ) (r : Range) (arr : List ℤ) → RangeAt rows n r → AreWhole rows → r.lo + r.len ≤ length arr
    → IsSetAt n (option_map (λ row. stored row (r.lo - row.range.lo) (source_of arr r)) (find_row rows n)) rows new → CopiesInto arr n r rows new
copies_in rows new n r arr h whole long is =
    let x = h.row in
    let put : IsSetAt n (Some (stored h.row (r.lo - h.row.range.lo) (source_of arr r))) rows new = rw h.holds.found at is in
    let size = eqb-true (length x.cells) x.range.len (whole n x h.holds.found) in
    let copy : IsCopy arr x.cells (stored x (r.lo - x.range.lo) (source_of arr r)).cells r.lo (r.lo - x.range.lo) r.len =
    is_copy_from arr x.cells (source_of arr r) (stored x (r.lo - x.range.lo) (source_of arr r)).cells r.lo (r.lo - x.range.lo) r.len (r.lo + r.len - r.lo) long
    (omega (arith, size, h.holds.low, h.holds.high)) (omega arith) refl refl in
    record {
      shows = λ device was array shows. shows_copy_in device rows new n r x (stored x (r.lo - x.range.lo) (source_of arr r)) arr was h.holds refl copy put array shows;
      blocks = same_replaced n x (stored x (r.lo - x.range.lo) (source_of arr r)) rows new h.holds.found refl put;
    }
