-- A window of one array: the cells of array 0, from 0 on.
use Rattle.std.specs.Prelude.{ℕ, ℤ, Bool, List, [], ◌∷◌, length}
use Rattle.acc_kernel.specs.Jobs.{Use, uses_have, cell_in}

-- the use of so many of them
abbrev pub uses_to : ℕ → List Use
uses_to len = (0, record { array = 0; lo = 0; len = len }) ∷ []

abbrev pub whole_use : List ℤ → List Use
whole_use row = uses_to (length row)

abbrev pub line_has : List ℤ → ℕ → ℤ → Bool
line_has row = uses_have (whole_use row)

abbrev pub line : List ℤ → ℕ → ℤ → ℤ
line row = cell_in (whole_use row) (row ∷ [])
