-- How a value is spelled in a script.
use Rattle.std.specs.Prelude.{◌≤◌, ℕ, suc, List, ◌++◌, ℤ, pos, negsuc, codes}
use Rattle.std.specs.Fmt.{decimal}

abbrev pub value_text : ℤ → List ℕ
value_text (pos n) = decimal n
value_text (negsuc n) = codes "-" ++ decimal (suc n)

-- what a cell can hold
abbrev pub IsLong : ℤ → Type 0
IsLong (pos n) = n ≤ 9223372036854775807
IsLong (negsuc n) = suc n ≤ 9223372036854775808

-- what a sign says with a number that a cell can hold
abbrev pub IsSigned : ℤ → Type 0
IsSigned (pos n) = n ≤ 9223372036854775807
IsSigned (negsuc n) = suc n ≤ 9223372036854775807
