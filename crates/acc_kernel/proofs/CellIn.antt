-- Cells of rows: where a cell is, what writing it changes, and rows that have given cells.
use Rattle.std.proofs.Common.{◌≡◌, ◌≢◌, ℕ, ◌+◌, ◌<◌, ◌≤◌, Bool, true, false, List, [], length, map, get_or, set, refl, sym, ap, subst, ◌∙◌, arith, inl, inr}
use Rattle.std.specs.Prelude.{ℤ, pos, negsuc, ◌-ℤ◌, ◌≤ℤ◌, ◌<ℤ◌, not, ◌&&◌, ◌==◌, nat_lt, int_le, int_lt, cond, slice_get, Some, None, if◌then◌else◌}
use Rattle.std.specs.List.{range_with_len}
use Rattle.std.specs.Ordering.{int_eq}
use Rattle.std.proofs.Math.Path.{fun_ext}
use Rattle.std.proofs.lemmas.Bool.{cases_lt, ltb-false}
use Rattle.std.proofs.lemmas.Bool.Decides.{Decides-eqb, Decides-int_eq, not_from_Decides}
use Rattle.std.proofs.lemmas.Int.{ints}
use Rattle.std.proofs.lemmas.List.{ext_get_or, get_or_default, get_or_past, get_or-map, get_or-set_other, get_or-set_same, length-map}
use Rattle.std.proofs.lemmas.List.FromFn.{length-map-range_with_len, get_or-map-range_with_len}
use Rattle.std.proofs.lemmas.Option.{get_or_from_slice_get}
use Rattle.std.proofs.lemmas.List.Sums.{passes_at_first, position_or_len_is, prefix_len-le-length}
use Rattle.acc_kernel.specs.Cells.{with_cell, value_in}
use Rattle.acc_kernel.specs.Jobs.{Use, no_use, place_of, used_range, uses_have, cell_in, AreDistinct, AreRows}
use Rattle.acc_kernel.specs.inner.RowTables.{IsStored}
use Rattle.acc_kernel.proofs.ValueAfter.{CellsOf, within}

abbrev pub uses_array : ℕ → Use → Bool
uses_array array u = u.1.array == array

place-le : (uses : List Use) (array : ℕ) → place_of uses array ≤ length uses
place-le uses array = prefix_len-le-length (λ (u : Use). not (u.1.array == array)) uses

-- where nothing was found, the answer is the length
pub place_if_none : (uses : List Use) (array : ℕ) (b : Bool) → nat_lt (place_of uses array) (length uses) ≡ b
    → None ≡ cond b (Some (place_of uses array)) None → length uses ≡ place_of uses array
place_if_none uses array true e h = let never : ⊥ = cc in absurd never
place_if_none uses array false e h =
    let le : place_of uses array ≤ length uses = place-le uses array in
    let ge : length uses ≤ place_of uses array = ltb-false (place_of uses array) (length uses) e in
    omega arith

-- a cell that is there is in a use's range
pub used : (uses : List Use) (array : ℕ) (cell : ℤ) → uses_have uses array cell ≡ true → place_of uses array < length uses
used uses array cell has =
    elim (cases_lt (place_of uses array) (length uses)) [
      | inl here ↦ here
      | inr past ↦ absurd (no_cell past)
    ]
  where
    no_cell : length uses ≤ place_of uses array → ⊥
    no_cell past =
        let none : get_or uses (place_of uses array) no_use ≡ no_use = get_or_past uses (place_of uses array) no_use past in
        let w = within (pos 0) (pos (0 + 0)) cell (subst (λ (u : Use). (int_le (pos u.1.lo) cell && int_lt cell (pos (u.1.lo + u.1.len))) ≡ true) none has) in
        let low : pos 0 ≤ℤ cell = w.0 in
        let high : cell <ℤ pos (0 + 0) = w.1 in
        omega (arith, ints)

-- the use of an array stands at the first place that has the array
pub its_place : (uses : List Use) (place : ℕ) → AreDistinct uses → place < length uses → place_of uses (get_or uses place no_use).1.array ≡ place
its_place uses place distinct h =
    position_or_len_is (uses_array (get_or uses place no_use).1.array) uses place no_use (omega arith)
    (λ k lt. different k lt (uses_array (get_or uses place no_use).1.array (get_or uses k no_use)) refl)
    (λ lt. (Decides-eqb (get_or uses place no_use).1.array (get_or uses place no_use).1.array).1 refl)
  where
    different : (k : ℕ) → k < place → (b : Bool) → uses_array (get_or uses place no_use).1.array (get_or uses k no_use) ≡ b → b ≡ false
    different k lt true e = absurd (distinct k place no_use lt h ((Decides-eqb (get_or uses k no_use).1.array (get_or uses place no_use).1.array).0 e))
    different k lt false e = refl

-- where a cell is
pub record Spot (uses : List Use) (rows : List (List ℤ)) (array : ℕ) (cell : ℤ) (place : ℕ) : Type 0 where
  pub at : place ≡ place_of uses array
  pub here : place < length uses
  pub there : place < length rows
  pub low : pos (get_or uses place no_use).1.lo ≤ℤ cell
  pub high : cell <ℤ pos ((get_or uses place no_use).1.lo + (get_or uses place no_use).1.len)
  pub long : length (get_or rows place []) ≡ (get_or uses place no_use).1.len

pub spot_of : (uses : List Use) (places : List ℕ) (rows : List (List ℤ)) (array : ℕ) (cell : ℤ) (index place : ℕ) → IsStored uses places rows
    → index ≡ array → array < 256 → place ≡ get_or places index place → uses_have uses array cell ≡ true → Spot uses rows array cell place
spot_of uses places rows array cell index place stored same small at has =
    let count : length places ≡ 256 = stored.table.count in
    let e : place ≡ place_of uses array =
    at ∙ (ap (λ (n : ℕ). get_or places n place) same
    ∙ (get_or_default places array place 0 (omega arith) ∙ stored.table.places_are array small)) in
    let found : place_of uses array < length uses = used uses array cell has in
    let here : place < length uses = omega arith in
    let rows_are : length rows ≡ length uses = stored.shape.count in
    let w = within (pos (used_range uses array).lo) (pos ((used_range uses array).lo + (used_range uses array).len)) cell has in
    record {
      at = e;
      here = here;
      there = omega arith;
      low = subst (λ (p : ℕ). pos (get_or uses p no_use).1.lo ≤ℤ cell) (sym e) w.0;
      high = subst (λ (p : ℕ). cell <ℤ pos ((get_or uses p no_use).1.lo + (get_or uses p no_use).1.len)) (sym e) w.1;
      long = stored.shape.lengths place here;
    }

-- a row with one value written
value_in_other : (row : List ℤ) (n : ℕ) (value z : ℤ) → z ≢ pos n → value_in (set row n value) z ≡ value_in row z
value_in_other row n value (pos m) h =
    let other : m ≢ n = λ e. h (ap pos e) in
    get_or-set_other row n m value (pos 0) other
value_in_other row n value (negsuc m) h = refl

pub value_in-set : (row : List ℤ) (n lo : ℕ) (cell c value : ℤ) → n < length row → cell -ℤ pos lo ≡ pos n
    → value_in (set row n value) (c -ℤ pos lo) ≡ (if int_eq cell c then value else value_in row (c -ℤ pos lo))
value_in-set row n lo cell c value inside at = by (int_eq cell c) refl
  where
    by : (b : Bool) → int_eq cell c ≡ b → value_in (set row n value) (c -ℤ pos lo) ≡ (if b then value else value_in row (c -ℤ pos lo))
    by true e =
        let there : c -ℤ pos lo ≡ pos n = ap (λ (x : ℤ). x -ℤ pos lo) (sym ((Decides-int_eq cell c).0 e)) ∙ at in
        ap (value_in (set row n value)) there ∙ get_or-set_same row n value (pos 0) inside
    by false e =
        let other : cell ≢ c = not_from_Decides (int_eq cell c) (Decides-int_eq cell c) e in
        let apart : c -ℤ pos lo ≢ pos n = λ q. other (omega (arith, ints)) in
        value_in_other row n value (c -ℤ pos lo) apart

-- a row that is replaced shows in its own array alone
pub other_row : (uses : List Use) (rows : List (List ℤ)) (array : ℕ) (cell : ℤ) (place : ℕ) → Spot uses rows array cell place → (row : List ℤ) (a : ℕ) (c : ℤ) → (array == a) ≡ false
    → cell_in uses (set rows place row) a c ≡ cell_in uses rows a c
other_row uses rows array cell place s row a c e =
    let other : array ≢ a = not_from_Decides (array == a) (Decides-eqb array a) e in
    let apart : place_of uses a ≢ place = λ q.
    let here : place < length uses = s.here in
    let p : uses_array a (get_or uses (place_of uses a) no_use) ≡ true = passes_at_first (uses_array a) uses no_use (omega arith) in
    let r : uses_array array (get_or uses (place_of uses array) no_use) ≡ true = passes_at_first (uses_array array) uses no_use (let at_place : place ≡ place_of uses array = s.at in omega arith) in
    let ea : (get_or uses (place_of uses a) no_use).1.array ≡ a = (Decides-eqb (get_or uses (place_of uses a) no_use).1.array a).0 p in
    let eb : (get_or uses (place_of uses array) no_use).1.array ≡ array = (Decides-eqb (get_or uses (place_of uses array) no_use).1.array array).0 r in
    let move : (get_or uses (place_of uses array) no_use).1.array ≡ (get_or uses (place_of uses a) no_use).1.array =
    ap (λ (x : ℕ). (get_or uses x no_use).1.array) (sym (q ∙ s.at)) in
    other (sym eb ∙ (move ∙ ea)) in
    ap (λ (l : List ℤ). value_in l (c -ℤ pos (used_range uses a).lo)) (get_or-set_other rows place (place_of uses a) row [] apart)

module _ (uses : List Use) (rows : List (List ℤ)) (array : ℕ) (cell value : ℤ) (place n : ℕ) where
  abbrev written : List (List ℤ)
  written = set rows place (set (get_or rows place []) n value)

  -- the cells of the array itself
  own : Spot uses rows array cell place → cell -ℤ pos (get_or uses place no_use).1.lo ≡ pos n → (c : ℤ)
      → value_in (get_or written place []) (c -ℤ pos (get_or uses place no_use).1.lo)
      ≡ (if int_eq cell c then value else value_in (get_or rows place []) (c -ℤ pos (get_or uses place no_use).1.lo))
  own s at c =
      let inside : n < length (get_or rows place []) = (let long = s.long in let high = s.high in omega (arith, ints)) in
      ap (λ (l : List ℤ). value_in l (c -ℤ pos (get_or uses place no_use).1.lo)) (get_or-set_same rows place (set (get_or rows place []) n value) [] s.there)
      ∙ value_in-set (get_or rows place []) n (get_or uses place no_use).1.lo cell c value inside at

  one_cell : Spot uses rows array cell place → cell -ℤ pos (get_or uses place no_use).1.lo ≡ pos n → (a : ℕ) (c : ℤ) (b : Bool) → (array == a) ≡ b
      → cell_in uses written a c ≡ (if b && int_eq cell c then value else cell_in uses rows a c)
  one_cell s at a c true e =
      let same : array ≡ a = (Decides-eqb array a).0 e in
      let here : place ≡ place_of uses a = s.at ∙ ap (λ (x : ℕ). place_of uses x) same in
      subst (λ (p : ℕ). value_in (get_or written p []) (c -ℤ pos (get_or uses p no_use).1.lo) ≡ (if int_eq cell c then value else value_in (get_or rows p []) (c -ℤ pos (get_or uses p no_use).1.lo)))
      here (own s at c)
  one_cell s at a c false e = other_row uses rows array cell place s (set (get_or rows place []) n value) a c e

  pub write_one : Spot uses rows array cell place → cell -ℤ pos (get_or uses place no_use).1.lo ≡ pos n
      → cell_in uses (set rows place (set (get_or rows place []) n value)) ≡ with_cell (cell_in uses rows) array cell value
  write_one s at = fun_ext (λ (a : ℕ). fun_ext (λ (c : ℤ). one_cell s at a c (array == a) refl))

  pub read_one : Spot uses rows array cell place → cell -ℤ pos (get_or uses place no_use).1.lo ≡ pos n → slice_get (get_or rows place []) n ≡ Some value
      → value ≡ cell_in uses rows array cell
  read_one s at found =
      sym (ap (λ (p : ℕ). value_in (get_or rows p []) (cell -ℤ pos (get_or uses p no_use).1.lo)) (sym s.at)
      ∙ (ap (value_in (get_or rows place [])) at ∙ get_or_from_slice_get (get_or rows place []) n value (pos 0) found))

-- rows that have these cells are the lists of the ranges' cells
module _ (uses : List Use) (rows : List (List ℤ)) (cells : CellsOf) where
  pub value_of : AreDistinct uses → (place n : ℕ) → place < length uses
      → cell_in uses rows (get_or uses place no_use).1.array (pos ((get_or uses place no_use).1.lo + n)) ≡ get_or (get_or rows place []) n (pos 0)
  value_of distinct place n h =
      let at : pos ((get_or uses place no_use).1.lo + n) -ℤ pos (get_or uses place no_use).1.lo ≡ pos n = omega (arith, ints) in
      ap (λ (p : ℕ). value_in (get_or rows p []) (pos ((get_or uses place no_use).1.lo + n) -ℤ pos (get_or uses p no_use).1.lo)) (its_place uses place distinct h)
      ∙ ap (λ (z : ℤ). value_in (get_or rows place []) z) at

  one_row : AreDistinct uses → AreRows uses rows → cell_in uses rows ≡ cells → (place : ℕ) → place < length uses
      → get_or rows place [] ≡ map (λ n. cells (get_or uses place no_use).1.array (pos n)) (range_with_len (get_or uses place no_use).1.lo (get_or uses place no_use).1.len)
  one_row distinct shape e place h =
      let long : length (get_or rows place []) ≡ (get_or uses place no_use).1.len = shape.lengths place h in
      ext_get_or (pos 0) (get_or rows place []) (map (λ n. cells (get_or uses place no_use).1.array (pos n)) (range_with_len (get_or uses place no_use).1.lo (get_or uses place no_use).1.len))
      (long ∙ sym (length-map-range_with_len (λ n. cells (get_or uses place no_use).1.array (pos n)) (get_or uses place no_use).1.lo (get_or uses place no_use).1.len))
      (λ n lt.
      sym (value_of distinct place n h)
      ∙ (ap (λ (g : CellsOf). g (get_or uses place no_use).1.array (pos ((get_or uses place no_use).1.lo + n))) e
      ∙ sym (get_or-map-range_with_len (λ m. cells (get_or uses place no_use).1.array (pos m)) (get_or uses place no_use).1.lo (get_or uses place no_use).1.len n ((get_or uses place no_use).1.lo + n) (pos 0) (omega arith) refl)))

  pub rows_are : AreDistinct uses → AreRows uses rows → cell_in uses rows ≡ cells
      → rows ≡ map (λ u. map (λ n. cells u.1.array (pos n)) (range_with_len u.1.lo u.1.len)) uses
  rows_are distinct shape e =
      let count : length rows ≡ length uses = shape.count in
      ext_get_or [] rows (map (λ u. map (λ n. cells u.1.array (pos n)) (range_with_len u.1.lo u.1.len)) uses)
      (count ∙ sym (length-map uses (λ u. map (λ n. cells u.1.array (pos n)) (range_with_len u.1.lo u.1.len))))
      (λ place lt.
      one_row distinct shape e place (omega arith)
      ∙ sym (get_or-map (λ u. map (λ n. cells u.1.array (pos n)) (range_with_len u.1.lo u.1.len)) uses place no_use [] (omega arith)))

-- rows that are alike place by place
pub same_rows : (uses : List Use) (rows other : List (List ℤ)) → AreRows uses rows → length other ≡ length uses
    → ((place : ℕ) → place < length uses → get_or other place [] ≡ get_or rows place []) → other ≡ rows
same_rows uses rows other shape count alike =
    let rows_count : length rows ≡ length uses = shape.count in
    ext_get_or [] other rows (count ∙ sym rows_count) (λ place lt. alike place (omega arith))
