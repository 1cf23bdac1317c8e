-- Rows of which several cells, side by side, are read or written.
use Rattle.std.proofs.Common.{◌≡◌, ◌≢◌, ℕ, ◌+◌, ◌-◌, ◌<◌, ◌≤◌, Bool, true, false, List, [], ◌++◌, length, get_or, set, take, drop, refl, sym, ap, subst, ◌∙◌, arith, inl, inr}
use Rattle.std.specs.Prelude.{ℤ, pos, negsuc, ◌+ℤ◌, ◌-ℤ◌, ◌≤ℤ◌, ◌<ℤ◌, ◌&&◌, ◌==◌, int_le, int_lt, IsTrue, if◌then◌else◌}
use Rattle.std.specs.List.{slice_range}
use Rattle.std.proofs.Math.Bool.{and-false}
use Rattle.std.proofs.Math.Path.{fun_ext}
use Rattle.std.proofs.lemmas.Bool.{cases_lt}
use Rattle.std.proofs.lemmas.Bool.Decides.{Decides-eqb}
use Rattle.std.proofs.lemmas.Int.{ints}
use Rattle.std.proofs.lemmas.List.{get_or-append_right, get_or-drop, get_or-set_other, get_or-set_same, get_or-take, get_or_append_left, length-append, length-drop, length-set, length-take-le}
use Rattle.acc_kernel.specs.Cells.{is_among, value_in, with_cells}
use Rattle.acc_kernel.specs.Jobs.{Use, no_use, place_of, used_range, uses_have, cell_in, AreRows}
use Rattle.acc_kernel.proofs.ValueAfter.{plus_zero, within}
use Rattle.acc_kernel.proofs.CellIn.{Spot, other_row}

abbrev pub spliced : List ℤ → ℕ → List ℤ → List ℤ
spliced row n values = take n row ++ values ++ drop (n + length values) row

-- an index is among some from the first on, or before or behind them
pub among_in : (first c : ℤ) (count : ℕ) → first ≤ℤ c → c <ℤ (first +ℤ pos count) → is_among first count c ≡ true
among_in first c count low high =
    let under : int_le first c ≡ true = grind (arith, ints) in
    let over : int_lt c (first +ℤ pos count) ≡ true = grind (arith, ints) in
    ap (λ (b : Bool). b && int_lt c (first +ℤ pos count)) under ∙ over

among_before : (first c : ℤ) (count : ℕ) → c <ℤ first → is_among first count c ≡ false
among_before first c count high =
    let under : int_le first c ≡ false = grind (arith, ints) in
    ap (λ (b : Bool). b && int_lt c (first +ℤ pos count)) under

among_behind : (first c : ℤ) (count : ℕ) → (first +ℤ pos count) ≤ℤ c → is_among first count c ≡ false
among_behind first c count low =
    let over : int_lt c (first +ℤ pos count) ≡ false = grind (arith, ints) in
    ap (λ (b : Bool). int_le first c && b) over ∙ and-false (int_le first c)

module _ (row values : List ℤ) (n count lo : ℕ) (first c : ℤ) where
  -- where a row has its values, once some were written over
  pub value_spliced : (z : ℤ) → c -ℤ pos lo ≡ z → first -ℤ pos lo ≡ pos n → length values ≡ count → n + count ≤ length row
      → value_in (spliced row n values) z ≡ (if is_among first count c then value_in values (c -ℤ first) else value_in row z)
  value_spliced (negsuc m) e at long room =
      sym (ap (λ (b : Bool). if b then value_in values (c -ℤ first) else pos 0) (among_before first c count (omega (arith, ints))))
  value_spliced (pos m) e at long room =
      let front : length (take n row) ≡ n = length-take-le n row (omega arith) in
      let joined : length (take n row ++ values) ≡ length (take n row) + length values = length-append (take n row) values in
      let both : length (take n row ++ values) ≡ n + count = omega arith in
      elim (cases_lt m (n + count)) [
        | inl below ↦
            get_or_append_left (take n row ++ values) (drop (n + length values) row) (pos 0) m (omega arith)
            ∙ elim (cases_lt m n) [
              | inl before ↦
                  get_or_append_left (take n row) values (pos 0) m (omega arith)
                  ∙ (get_or-take n row m (pos 0) before
                  ∙ sym (ap (λ (b : Bool). if b then value_in values (c -ℤ first) else get_or row m (pos 0)) (among_before first c count (omega (arith, ints)))))
              | inr from ↦
                  let here : c -ℤ first ≡ pos (m - n) = omega (arith, ints) in
                  get_or-append_right (take n row) values n m (pos 0) front from
                  ∙ (sym (ap (value_in values) here)
                  ∙ sym (ap (λ (b : Bool). if b then value_in values (c -ℤ first) else get_or row m (pos 0)) (among_in first c count (omega (arith, ints)) (omega (arith, ints)))))
            ]
        | inr behind ↦
            let same : (n + length values) + (m - (n + count)) ≡ m = omega arith in
            get_or-append_right (take n row ++ values) (drop (n + length values) row) (n + count) m (pos 0) both behind
            ∙ (get_or-drop (n + length values) row (m - (n + count)) (pos 0)
            ∙ (ap (λ (x : ℕ). get_or row x (pos 0)) same
            ∙ sym (ap (λ (b : Bool). if b then value_in values (c -ℤ first) else get_or row m (pos 0)) (among_behind first c count (omega (arith, ints))))))
      ]

pub length-spliced : (row values : List ℤ) (n : ℕ) → n + length values ≤ length row → length (spliced row n values) ≡ length row
length-spliced row values n room =
    let front : length (take n row) ≡ n = length-take-le n row (omega arith) in
    let a : length (take n row ++ values) ≡ length (take n row) + length values = length-append (take n row) values in
    let d : length (drop (n + length values) row) ≡ length row - (n + length values) = length-drop (n + length values) row in
    length-append (take n row ++ values) (drop (n + length values) row) ∙ omega arith

pub length_range : (row : List ℤ) (n count : ℕ) → n + count ≤ length row → length (slice_range row n (n + count)) ≡ count
length_range row n count room =
    let rest : length (drop n row) ≡ length row - n = length-drop n row in
    length-take-le ((n + count) - n) (drop n row) (omega (arith, room, rest)) ∙ omega arith

-- all cells of a column are there
abbrev pub HasAll : List Use → ℕ → ℤ → ℕ → Type 0
HasAll uses array first count = (k : ℕ) → k < count → IsTrue (uses_have uses array (first +ℤ pos k))

pub first_there : (uses : List Use) (array : ℕ) (first : ℤ) (count : ℕ) → 0 < count → HasAll uses array first count → uses_have uses array first ≡ true
first_there uses array first count some all = subst (λ (c : ℤ). uses_have uses array c ≡ true) (plus_zero first) (all 0 (omega arith))

module _ (uses : List Use) (rows : List (List ℤ)) (array : ℕ) (first : ℤ) (count place n : ℕ) where
  -- the row has room for a column from the first cell on
  pub room_for : Spot uses rows array first place → first -ℤ pos (get_or uses place no_use).1.lo ≡ pos n → 0 < count → HasAll uses array first count → n + count ≤ length (get_or rows place [])
  room_for s at some all =
      let w = within (pos (used_range uses array).lo) (pos ((used_range uses array).lo + (used_range uses array).len)) (first +ℤ pos (count - 1)) (all (count - 1) (omega arith)) in
      let high : (first +ℤ pos (count - 1)) <ℤ pos ((get_or uses place no_use).1.lo + (get_or uses place no_use).1.len) =
      subst (λ (p : ℕ). (first +ℤ pos (count - 1)) <ℤ pos ((get_or uses p no_use).1.lo + (get_or uses p no_use).1.len)) (sym s.at) w.1 in
      let long : length (get_or rows place []) ≡ (get_or uses place no_use).1.len = s.long in
      omega (arith, ints)

  pub read_run : Spot uses rows array first place → first -ℤ pos (get_or uses place no_use).1.lo ≡ pos n → n + count ≤ length (get_or rows place [])
      → (k : ℕ) → k < count → get_or (slice_range (get_or rows place []) n (n + count)) k (pos 0) ≡ cell_in uses rows array (first +ℤ pos k)
  read_run s at room k lt =
      let there : (first +ℤ pos k) -ℤ pos (get_or uses place no_use).1.lo ≡ pos (n + k) = omega (arith, ints) in
      part (get_or rows place []) k lt
      ∙ sym (ap (λ (p : ℕ). value_in (get_or rows p []) ((first +ℤ pos k) -ℤ pos (get_or uses p no_use).1.lo)) (sym s.at)
      ∙ ap (value_in (get_or rows place [])) there)
    where
      part : (row : List ℤ) (k : ℕ) → k < count → get_or (slice_range row n (n + count)) k (pos 0) ≡ get_or row (n + k) (pos 0)
      part row k lt = grind (arith, get_or-take, get_or-drop)

  pub write_run : Spot uses rows array first place → first -ℤ pos (get_or uses place no_use).1.lo ≡ pos n → n + count ≤ length (get_or rows place []) → (values : List ℤ) → length values ≡ count
      → cell_in uses (set rows place (spliced (get_or rows place []) n values)) ≡ with_cells (cell_in uses rows) array first count values
  write_run s at room values long = fun_ext (λ (a : ℕ). fun_ext (λ (c : ℤ). by a c (array == a) refl))
    where
      by : (a : ℕ) (c : ℤ) (b : Bool) → (array == a) ≡ b
          → cell_in uses (set rows place (spliced (get_or rows place []) n values)) a c
          ≡ (if b && is_among first count c then value_in values (c -ℤ first) else cell_in uses rows a c)
      by a c true e =
          let here : place ≡ place_of uses a = s.at ∙ ap (λ (x : ℕ). place_of uses x) ((Decides-eqb array a).0 e) in
          subst
          (λ (p : ℕ).
          value_in (get_or (set rows place (spliced (get_or rows place []) n values)) p []) (c -ℤ pos (get_or uses p no_use).1.lo)
          ≡ (if is_among first count c then value_in values (c -ℤ first) else value_in (get_or rows p []) (c -ℤ pos (get_or uses p no_use).1.lo)))
          here
          (ap (λ (l : List ℤ). value_in l (c -ℤ pos (get_or uses place no_use).1.lo)) (get_or-set_same rows place (spliced (get_or rows place []) n values) [] s.there)
          ∙ value_spliced (get_or rows place []) values n count (get_or uses place no_use).1.lo first c (c -ℤ pos (get_or uses place no_use).1.lo) refl at long room)
      by a c false e = other_row uses rows array first place s (spliced (get_or rows place []) n values) a c e

  pub shape_kept : AreRows uses rows → (row : List ℤ) → place < length rows → length row ≡ length (get_or rows place []) → AreRows uses (set rows place row)
  shape_kept shape row there long =
      record {
        count = length-set rows place row ∙ shape.count;
        lengths =
            λ p lt.
            let alike : length (get_or (set rows place row) p []) ≡ length (get_or rows p []) = by p in
            alike ∙ shape.lengths p lt;
      }
    where
      by : (p : ℕ) → length (get_or (set rows place row) p []) ≡ length (get_or rows p [])
      by p =
          elim (cases_lt p place) [
            | inl below ↦ let apart : p ≢ place = omega arith in ap (λ (l : List ℤ). length l) (get_or-set_other rows place p row [] apart)
            | inr from ↦
                elim (cases_lt place p) [
                  | inl above ↦ let apart : p ≢ place = omega arith in ap (λ (l : List ℤ). length l) (get_or-set_other rows place p row [] apart)
                  | inr at ↦
                      let same : place ≡ p = omega arith in
                      subst (λ (q : ℕ). length (get_or (set rows place row) q []) ≡ length (get_or rows q [])) same
                      (ap (λ (l : List ℤ). length l) (get_or-set_same rows place row [] there) ∙ long)
                ]
          ]
