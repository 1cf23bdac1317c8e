-- A row of cells with two windows of it, the first of which comes first: the cells before, between and behind them.
use Rattle.std.proofs.Common.{◌≡◌, ℕ, ◌+◌, ◌-◌, ◌*◌, ◌≤◌, List, ◌++◌, length, take, drop, refl, sym, ap, ◌∙◌, arith}
use Rattle.std.specs.Prelude.{ℤ}
use Rattle.std.proofs.lemmas.List.{take-append-le, take-append-drop, drop-append-le, drop-drop, drop-take, take-take, length-take-le, length-drop}
use borrow.Table.Elements.{at, at_mul}
use Rattle.acc_raw.specs.declared.cells.Window.{Window}
use Rattle.acc_raw.specs.Windows.{cells_in, with_window}

-- a window has as many cells as it says
pub length-cells_in : (w : Window) (xs : List ℤ) → w.start + w.len ≤ length xs → length (cells_in w xs) ≡ w.len
length-cells_in w xs within = let left = length-drop w.start xs in length-take-le w.len (drop w.start xs) (omega (arith, left))

-- so many cells from one on, and then the others
cells_then : (i n j : ℕ) (xs : List ℤ) → i + n ≡ j → take n (drop i xs) ++ drop j xs ≡ drop i xs
cells_then i n j xs e = ap (λ (t : List ℤ). take n (drop i xs) ++ t) (ap (λ (k : ℕ). drop k xs) (sym e) ∙ sym (drop-drop n i xs)) ∙ take-append-drop n (drop i xs)

-- the cells before the first window, between the two, and behind the second
abbrev pub before : Window → List ℤ → List ℤ
before v xs = take v.start xs

abbrev pub between : Window → Window → List ℤ → List ℤ
between v w xs = take (w.start - (v.start + v.len)) (drop (v.start + v.len) xs)

abbrev pub behind : Window → List ℤ → List ℤ
behind w xs = drop (w.start + w.len) xs

module _ (v w : Window) (xs : List ℤ) (apart : v.start + v.len ≤ w.start) (within : w.start + w.len ≤ length xs) where
  abbrev up_to_second : List ℤ
  up_to_second = take w.start xs

  meets : (v.start + v.len) + (w.start - (v.start + v.len)) ≡ w.start
  meets = omega arith

  pub in_parts : xs ≡ before v xs ++ (cells_in v xs ++ (between v w xs ++ (cells_in w xs ++ behind w xs)))
  in_parts = sym (
      ap (λ (t : List ℤ). before v xs ++ (cells_in v xs ++ (between v w xs ++ t))) (cells_then w.start w.len (w.start + w.len) xs refl)
      ∙ ap (λ (t : List ℤ). before v xs ++ (cells_in v xs ++ t)) (cells_then (v.start + v.len) (w.start - (v.start + v.len)) w.start xs meets)
      ∙ ap (λ (t : List ℤ). before v xs ++ t) (cells_then v.start v.len (v.start + v.len) xs refl)
      ∙ take-append-drop v.start xs)

  -- with other cells in both windows, it is still all of these
  pub with_both : (x y : List ℤ) → before v xs ++ (x ++ (between v w xs ++ (y ++ behind w xs))) ≡ with_window (with_window xs w y) v x
  with_both x y =
      let long : length up_to_second ≡ w.start = length-take-le w.start xs (omega arith) in
      let first : take v.start (up_to_second ++ (y ++ behind w xs)) ≡ before v xs =
      take-append-le v.start up_to_second (y ++ behind w xs) (omega (arith, long)) ∙ take-take v.start w.start xs (omega arith) in
      let last : drop (v.start + v.len) (up_to_second ++ (y ++ behind w xs)) ≡ between v w xs ++ (y ++ behind w xs) =
      drop-append-le (v.start + v.len) up_to_second (y ++ behind w xs) (omega (arith, long))
      ∙ ap (λ (t : List ℤ). t ++ (y ++ behind w xs)) (ap (λ (k : ℕ). drop (v.start + v.len) (take k xs)) (sym meets) ∙ drop-take (v.start + v.len) (w.start - (v.start + v.len)) xs) in
      sym (ap (λ (t : List ℤ). t ++ (x ++ drop (v.start + v.len) (up_to_second ++ (y ++ behind w xs)))) first ∙ ap (λ (t : List ℤ). before v xs ++ (x ++ t)) last)

  -- where the two lie in memory, 8 bytes a cell, if the row begins at o
  pub first_there : (o : ℕ) → at o 8 (length (before v xs)) ≡ v.start * 8 + o
  first_there o = at_mul o 8 (length (before v xs)) ∙ ap (λ (k : ℕ). k * 8 + o) (length-take-le v.start xs (omega arith))

  pub second_there : (o : ℕ) → at (at (v.start * 8 + o) 8 (length (cells_in v xs))) 8 (length (between v w xs)) ≡ w.start * 8 + o
  second_there o =
      let long : length (cells_in v xs) ≡ v.len = length-cells_in v xs (omega arith) in
      let wide : length (between v w xs) ≡ w.start - (v.start + v.len) = (let left = length-drop (v.start + v.len) xs in length-take-le (w.start - (v.start + v.len)) (drop (v.start + v.len) xs) (omega (arith, left))) in
      at_mul (at (v.start * 8 + o) 8 (length (cells_in v xs))) 8 (length (between v w xs))
      ∙ ap (λ (k : ℕ). length (between v w xs) * 8 + k) (at_mul (v.start * 8 + o) 8 (length (cells_in v xs))) ∙ omega (arith, long, wide)
