-- Cells that a loop sees: the block where they are, their values, and what writing them changes.
use Rattle.std.proofs.Common.{◌≡◌, ◌≢◌, [], ◌∷◌, ℕ, ◌+◌, ◌-◌, ◌<◌, ◌≤◌, Bool, true, false, List, length, get_or, Option, Some, None, refl, sym, ap, subst, ◌∙◌, arith, inl, inr}
use Rattle.std.specs.Prelude.{◌==◌, ◌&&◌, ℤ, pos, ◌+ℤ◌, ◌-ℤ◌, ◌≤ℤ◌, ◌<ℤ◌, int_le, int_lt, if◌then◌else◌}
use Rattle.std.specs.List.{slice_range}
use Rattle.std.proofs.Math.Bool.{and-false}
use Rattle.std.proofs.Math.Path.{fun_ext}
use Rattle.std.specs.Ordering.{int_eq}
use Rattle.std.proofs.lemmas.Bool.{and_parts, and_from, cases_Bool, cases_eq, eq-eqb, ne_eqb, eqb-true}
use Rattle.std.proofs.lemmas.Bool.Decides.{Decides-int_eq, not_from_Decides}
use Rattle.std.proofs.lemmas.Int.{ints}
use Rattle.std.proofs.lemmas.List.{get_or-take, get_or-drop}
use Rattle.acc_kernel.specs.Cells.{is_among, value_in, with_cell, with_cells}
use Rattle.acc_kernel.specs.Jobs.{Use}
use Rattle.acc_kernel.proofs.ValueAfter.{within, plus_zero}
use Rattle.acc_kernel.proofs.SplicedRow.{length-spliced, value_spliced}
use Rattle.acc_memory.specs.Memories.{Row, find_row, is_whole}
use Rattle.acc_memory.specs.Values.{block_of}
use Rattle.acc_memory.specs.inner.Rows.{HasRoom, IsSetAt, number_of, stored}
use Rattle.acc_memory.specs.inner.Windows.{of_array, row_for, has_at, cell_at, window_has, window_cells, KeepsRows}
use Rattle.acc_memory.proofs.ByNumber.{set_at, set_past}
use Rattle.acc_memory.proofs.Rows.{same_replaced}

-- where a cell is
pub record Spot (rows : List Row) (uses : List Use) (array : ℕ) (cell : ℤ) : Type 0 where
  pub row : Row
  pub found : find_row rows (block_of uses array) ≡ Some row
  pub same_array : row.range.array ≡ array
  pub long : length row.cells ≡ row.range.len
  pub low : pos row.range.lo ≤ℤ cell
  pub high : cell <ℤ pos (row.range.lo + row.range.len)

pub spot_seen : (rows : List Row) (uses : List Use) (array : ℕ) (cell : ℤ) → window_has rows uses array cell ≡ true → Spot rows uses array cell
spot_seen rows uses array cell h = by_row (find_row rows (block_of uses array)) refl h
  where
    by_array : (x : Row) → find_row rows (block_of uses array) ≡ Some x → (t : Bool) → (x.range.array == array) ≡ t
        → has_at (if t then Some x else None) cell ≡ true → Spot rows uses array cell
    by_array x e true same h =
        let parts = and_parts (is_whole x) (int_le (pos x.range.lo) cell && int_lt cell (pos (x.range.lo + x.range.len))) h in
        let ends = within (pos x.range.lo) (pos (x.range.lo + x.range.len)) cell parts.1 in
        record {
          row = x;
          found = e;
          same_array = eqb-true x.range.array array same;
          long = eqb-true (length x.cells) x.range.len parts.0;
          low = ends.0;
          high = ends.1;
        }
    by_array x e false same h = let never : ⊥ = cc in absurd never

    by_row : (o : Option Row) → find_row rows (block_of uses array) ≡ o → has_at (of_array array o) cell ≡ true → Spot rows uses array cell
    by_row None e h = let never : ⊥ = cc in absurd never
    by_row (Some x) e h = by_array x e (x.range.array == array) refl h

-- the block that is used for an array
pub row_for_is : (rows : List Row) (uses : List Use) (array : ℕ) (x : Row) → find_row rows (block_of uses array) ≡ Some x → x.range.array ≡ array → row_for rows uses array ≡ Some x
row_for_is rows uses array x e same = rw (e, eq-eqb x.range.array array same) refl

-- ## A block that is replaced by one alike

pub record IsAlike (old new : Row) : Type 0 where
  pub block : new.block ≡ old.block
  pub range : new.range ≡ old.range
  pub size : length new.cells ≡ length old.cells

module _ (rows new : List Row) (uses : List Use) (array : ℕ) (cell : ℤ) (s : Spot rows uses array cell) (y : Row) (w : IsAlike s.row y)
    (is : IsSetAt (block_of uses array) (Some y) rows new) where
  own_row : row_for new uses array ≡ Some y
  own_row =
      row_for_is new uses array y (set_at number_of (block_of uses array) (block_of uses array) (Some y) rows new is refl)
      (ap (λ r. r.array) w.range ∙ s.same_array)

  other_row : (a : ℕ) → (a ≡ array → ⊥) → row_for new uses a ≡ row_for rows uses a
  other_row a other = elim (cases_eq (block_of uses a) (block_of uses array)) [
    | inl same ↦
        let now : find_row new (block_of uses a) ≡ Some y = set_at number_of (block_of uses array) (block_of uses a) (Some y) rows new is same in
        let was : find_row rows (block_of uses a) ≡ Some s.row = ap (find_row rows) same ∙ s.found in
        let mine : y.range.array ≡ array = ap (λ r. r.array) w.range ∙ s.same_array in
        rw (now, was, ne_eqb y.range.array a (λ e. other (sym e ∙ mine)), ne_eqb s.row.range.array a (λ e. other (sym e ∙ s.same_array))) refl
    | inr apart ↦ ap (of_array a) (set_past number_of (block_of uses array) (block_of uses a) (Some y) rows new is apart)
  ]

  -- the same cells are seen
  has_one : (a : ℕ) (c : ℤ) → window_has new uses a c ≡ window_has rows uses a c
  has_one a c = elim (cases_eq a array) [
    | inl same ↦
        let old : row_for rows uses array ≡ Some s.row = row_for_is rows uses array s.row s.found s.same_array in
        rw (same, own_row, old, w.size, w.range) refl
    | inr other ↦ ap (λ o. has_at o c) (other_row a other)
  ]

  pub alike_has : window_has new uses ≡ window_has rows uses
  alike_has = fun_ext (λ (a : ℕ). fun_ext (λ (c : ℤ). has_one a c))

  -- where the block's own cells change as the array's are to change, the cells change so
  pub alike_cells : (test : ℤ → Bool) (value : ℤ → ℤ)
      → ((c : ℤ) → value_in y.cells (c -ℤ pos y.range.lo) ≡ (if test c then value c else value_in s.row.cells (c -ℤ pos s.row.range.lo)))
      → window_cells new uses ≡ (λ a c. if (array == a) && test c then value c else window_cells rows uses a c)
  alike_cells test value own = fun_ext (λ (a : ℕ). fun_ext (λ (c : ℤ). at a c))
    where
      at : (a : ℕ) (c : ℤ) → window_cells new uses a c ≡ (if (array == a) && test c then value c else window_cells rows uses a c)
      at a c = elim (cases_eq a array) [
        | inl same ↦
            let old : row_for rows uses array ≡ Some s.row = row_for_is rows uses array s.row s.found s.same_array in
            rw (same, own_row, old, eq-eqb array array refl) (own c)
        | inr other ↦ rw (ne_eqb array a (λ e. other (sym e))) (ap (λ o. cell_at o c) (other_row a other))
      ]

  pub alike_keeps : KeepsRows uses rows new
  alike_keeps = record {
    blocks = same_replaced (block_of uses array) s.row y rows new s.found (rw (w.block, w.range) refl) is;
    others = λ n x here apart. set_past number_of (block_of uses array) n (Some y) rows new is (λ same. apart (mine n x here same)) ∙ here;
  }
    where
      mine : (n : ℕ) (x : Row) → find_row rows n ≡ Some x → n ≡ block_of uses array → block_of uses x.range.array ≡ n
      mine n x here same =
          let both : Some x ≡ Some s.row = sym here ∙ (ap (find_row rows) same ∙ s.found) in
          let is : x ≡ s.row = cc in
          ap (λ (k : Row). block_of uses k.range.array) is ∙ (ap (block_of uses) s.same_array ∙ sym same)

-- ## Cells side by side

-- all cells of a column are seen
abbrev pub SeesAll : List Row → List Use → ℕ → ℤ → ℕ → Type 0
SeesAll rows uses array first count = (k : ℕ) → k < count → window_has rows uses array (first +ℤ pos k) ≡ true

pub first_seen : (rows : List Row) (uses : List Use) (array : ℕ) (first : ℤ) (count : ℕ) → 0 < count → SeesAll rows uses array first count → Spot rows uses array first
first_seen rows uses array first count some all =
    spot_seen rows uses array first (subst (λ (c : ℤ). window_has rows uses array c ≡ true) (plus_zero first) (all 0 (omega arith)))

-- one block has them all
pub room_seen : (rows : List Row) (uses : List Use) (array : ℕ) (first : ℤ) (count n : ℕ) → 0 < count → (all : SeesAll rows uses array first count) (s : Spot rows uses array first)
    → first -ℤ pos s.row.range.lo ≡ pos n → n + count ≤ length s.row.cells
room_seen rows uses array first count n some all s at =
    let t = spot_seen rows uses array (first +ℤ pos (count - 1)) (all (count - 1) (omega arith)) in
    let both : Some t.row ≡ Some s.row = sym t.found ∙ s.found in
    let row : t.row ≡ s.row = cc in
    let high : (first +ℤ pos (count - 1)) <ℤ pos (s.row.range.lo + s.row.range.len) = subst (λ (b : Row). (first +ℤ pos (count - 1)) <ℤ pos (b.range.lo + b.range.len)) row t.high in
    let long : length s.row.cells ≡ s.row.range.len = s.long in
    omega (arith, ints)

-- a cell by its number, and by its distance from the block's first
pub from_lo : (cell : ℤ) (n lo : ℕ) → pos lo ≤ℤ cell → cell -ℤ pos 0 ≡ pos n → cell -ℤ pos lo ≡ pos (n - lo)
from_lo cell n lo low at = omega (arith, ints)

pub room_at : (rows : List Row) (uses : List Use) (array : ℕ) (first : ℤ) (count n : ℕ) (row : Row) → 0 < count → (all : SeesAll rows uses array first count) (s : Spot rows uses array first)
    → first -ℤ pos 0 ≡ pos n → find_row rows (block_of uses array) ≡ Some row → HasRoom row n count
room_at rows uses array first count n row some all s at found =
    let both : Some s.row ≡ Some row = sym s.found ∙ found in
    let is : s.row ≡ row = cc in
    let low : s.row.range.lo ≤ n = omega (arith, ints, s.low) in
    subst (λ (x : Row). HasRoom x n count) is
    (record { low = low; high = room_seen rows uses array first count (n - s.row.range.lo) some all s (from_lo first n s.row.range.lo s.low at) })

in_range : (row : List ℤ) (n count k : ℕ) → k < count → get_or (slice_range row n (n + count)) k (pos 0) ≡ get_or row (n + k) (pos 0)
in_range row n count k lt = grind (arith, get_or-take, get_or-drop)

pub seen_run : (rows : List Row) (uses : List Use) (array : ℕ) (first : ℤ) (count n : ℕ) (s : Spot rows uses array first)
    → first -ℤ pos s.row.range.lo ≡ pos n → (k : ℕ) → k < count
    → get_or (slice_range s.row.cells n (n + count)) k (pos 0) ≡ window_cells rows uses array (first +ℤ pos k)
seen_run rows uses array first count n s at k lt =
    let there : (first +ℤ pos k) -ℤ pos s.row.range.lo ≡ pos (n + k) = omega (arith, ints) in
    let own : row_for rows uses array ≡ Some s.row = row_for_is rows uses array s.row s.found s.same_array in
    in_range s.row.cells n count k lt
    ∙ sym (ap (λ (o : Option Row). cell_at o (first +ℤ pos k)) own ∙ ap (value_in s.row.cells) there)

-- what writing a column that is seen changes
pub record WritesRun (rows new : List Row) (uses : List Use) (array : ℕ) (first : ℤ) (values : List ℤ) : Type 0 where
  pub has : window_has new uses ≡ window_has rows uses
  pub cells : window_cells new uses ≡ with_cells (window_cells rows uses) array first (length values) values
  pub keeps : KeepsRows uses rows new

pub writes_run : (rows new : List Row) (uses : List Use) (array : ℕ) (first : ℤ) (values : List ℤ) (n : ℕ) → 0 < length values
    → SeesAll rows uses array first (length values) → (s : Spot rows uses array first)
    → first -ℤ pos s.row.range.lo ≡ pos n → IsSetAt (block_of uses array) (Some (stored s.row n values)) rows new
    → WritesRun rows new uses array first values
writes_run rows new uses array first values n some all s there is =
    let room : n + length values ≤ length s.row.cells = room_seen rows uses array first (length values) n some all s there in
    let y : Row = stored s.row n values in
    let alike : IsAlike s.row (stored s.row n values) = record { block = refl; range = refl; size = length-spliced s.row.cells values n room } in
    record {
      has = alike_has rows new uses array first s (stored s.row n values) alike is;
      cells = alike_cells rows new uses array first s (stored s.row n values) alike is (λ c. is_among first (length values) c) (λ c. value_in values (c -ℤ first))
          (λ c. value_spliced s.row.cells values n (length values) s.row.range.lo first c (c -ℤ pos s.row.range.lo) refl there refl room);
      keeps = alike_keeps rows new uses array first s (stored s.row n values) alike is;
    }

-- one cell is written as a column of one
among_one : (cell c : ℤ) → is_among cell 1 c ≡ int_eq cell c
among_one cell c = by (int_eq cell c) refl
  where
    by : (b : Bool) → int_eq cell c ≡ b → is_among cell 1 c ≡ b
    by true e =
        let same : cell ≡ c = (Decides-int_eq cell c).0 e in
        let low : int_le cell c ≡ true = grind (arith, ints) in
        let high : int_lt c (cell +ℤ pos 1) ≡ true = grind (arith, ints) in
        and_from (int_le cell c) (int_lt c (cell +ℤ pos 1)) low high
    by false e =
        let other : cell ≢ c = not_from_Decides (int_eq cell c) (Decides-int_eq cell c) e in
        elim (cases_Bool (is_among cell 1 c)) [
          | inl among ↦
              let parts = within cell (cell +ℤ pos 1) c among in
              absurd (other (omega (arith, ints)))
          | inr apart ↦ apart
        ]

pub one_cell : (cells : ℕ → ℤ → ℤ) (array : ℕ) (cell value : ℤ) → with_cells cells array cell 1 (value ∷ []) ≡ with_cell cells array cell value
one_cell cells array cell value = fun_ext (λ (a : ℕ). fun_ext (λ (c : ℤ). at a c))
  where
    at : (a : ℕ) (c : ℤ) → with_cells cells array cell 1 (value ∷ []) a c ≡ with_cell cells array cell value a c
    at a c = by (int_eq cell c) refl
      where
        by : (b : Bool) → int_eq cell c ≡ b → (if (array == a) && is_among cell 1 c then value_in (value ∷ []) (c -ℤ cell) else cells a c) ≡ (if (array == a) && int_eq cell c then value else cells a c)
        by true e =
            let same : cell ≡ c = (Decides-int_eq cell c).0 e in
            let here : c -ℤ cell ≡ pos 0 = omega (arith, ints) in
            rw (among_one cell c, here) refl
        by false e = rw (among_one cell c, e, and-false (array == a)) refl
