-- Windows of a row of cells, and the row with windows replaced.
use Rattle.std.specs.Prelude.{ℕ, ℤ, ◌+◌, ◌≤◌, ◌⊎◌, nat_le, if◌then◌else◌, List, ◌++◌, length, take, drop}
use Rattle.std.specs.List.{refill}
use Rattle.acc_raw.specs.declared.cells.Window.{Window}

-- the window lies in a row of so many cells
abbrev pub IsWithin : ℕ → Window → Type 0
IsWithin len w = w.start + w.len ≤ len

-- one window ends where the other begins, or before
abbrev pub AreApart : Window → Window → Type 0
AreApart v w = (v.start + v.len ≤ w.start) ⊎ (w.start + w.len ≤ v.start)

-- the cells of a window
abbrev pub cells_in : Window → List ℤ → List ℤ
cells_in w cells = take w.len (drop w.start cells)

-- the row with the cells of a window replaced
abbrev pub with_window : List ℤ → Window → List ℤ → List ℤ
with_window cells w values = take w.start cells ++ (values ++ drop (w.start + w.len) cells)

-- the row with those of two windows replaced, of the one behind first, so that the other stays in its place
abbrev pub with_both : List ℤ → Window → Window → List ℤ → List ℤ → List ℤ
with_both cells v w xs ys = if nat_le (v.start + v.len) w.start then with_window (with_window cells w ys) v xs else with_window (with_window cells v xs) w ys

-- the same, as long as the row: a slice keeps its length, and any other list is cut or filled up
abbrev pub with_windows : List ℤ → Window → Window → List ℤ → List ℤ → List ℤ
with_windows cells v w xs ys = refill (length cells) cells (with_both cells v w xs ys)
