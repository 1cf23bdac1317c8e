-- How an expression is spelled with all its parentheses, and that it is read so.
use Rattle.std.specs.Prelude.{◌≡◌, ◌≤◌, ◌<◌, ℕ, suc, List, [], ◌++◌, length, slice_index_or, Ok, ℤ, pos, negsuc, codes}
use Rattle.std.specs.Fmt.{decimal}
use Rattle.acc_kernel.specs.declared.limits.TheConstants.{MAX_DEPTH}
use Rattle.acc_kernel.specs.declared.operator.Operator.{Operator}
use Rattle.acc_kernel.specs.declared.operator.Operator.TheVariants.{Plus, Minus, Times, Less, AtMost, More, AtLeast, Equal, Differs}
use Rattle.acc_kernel.specs.Trees.{Tree, Number, Index, Read, Negate, Binary, Choose, depth_of}
use Rattle.acc_script.specs.Expressions.{Names, expression_at}
use Rattle.test_grammar.specs.RangeSpellings.{IsName, AreNames}
use Rattle.test_grammar.specs.ValueSpellings.{IsSigned}

abbrev pub sign_of : Operator → List ℕ
sign_of Plus = codes "+"
sign_of Minus = codes "-"
sign_of Times = codes "*"
sign_of Less = codes "<"
sign_of AtMost = codes "<="
sign_of More = codes ">"
sign_of AtLeast = codes ">="
sign_of Equal = codes "=="
sign_of Differs = codes "!="

abbrev pub array_name : Names → ℕ → List ℕ
array_name names array = slice_index_or names.arrays.names array []

-- a literal; one below zero has no spelling of its own
abbrev pub literal : ℤ → List ℕ
literal (pos n) = decimal n
literal (negsuc n) = []

-- how far from the index
abbrev pub distance : ℤ → List ℕ
distance (pos n) = codes " + " ++ decimal n
distance (negsuc n) = codes " - " ++ decimal (suc n)

-- the expression, before what stands behind it
unfoldable pub spelled : Names → Tree → List ℕ → List ℕ
spelled names (Number value) behind = literal value ++ behind
spelled names Index behind = names.index ++ behind
spelled names (Read array offset) behind =
    array_name names array ++ (codes "[" ++ (names.index ++ (distance offset ++ (codes "]" ++ behind))))
spelled names (Negate part) behind = codes "-(" ++ spelled names part (codes ")" ++ behind)
spelled names (Binary operator left right) behind =
    codes "(" ++ spelled names left (codes ") " ++ (sign_of operator ++ (codes " (" ++ spelled names right (codes ")" ++ behind))))
spelled names (Choose test first second) behind =
    codes "(" ++ spelled names test (codes ") ? (" ++ spelled names first (codes ") : (" ++ spelled names second (codes ")" ++ behind)))

abbrev pub IsLiteral : ℤ → Type 0
IsLiteral (pos n) = n ≤ 9223372036854775807
IsLiteral (negsuc n) = ⊥

-- what can be spelled
abbrev pub IsSayable : Names → Tree → Type 0
IsSayable names (Number value) = IsLiteral value
IsSayable names Index = Unit {0}
IsSayable names (Read array offset) = (array < length names.arrays.names) × IsSigned offset
IsSayable names (Negate part) = IsSayable names part
IsSayable names (Binary operator left right) = IsSayable names left × IsSayable names right
IsSayable names (Choose test first second) = IsSayable names test × IsSayable names first × IsSayable names second

-- the loop isn't called as an array is
pub record AreApart (names : Names) : Type 0 where
  pub arrays : AreNames names.arrays.names
  pub index : IsName names.index
  pub apart : (array : ℕ) → array < length names.arrays.names → array_name names array ≡ names.index → ⊥

-- An expression that a loop can have is read again as it is spelled, before the semicolon.
abbrev pub ExpressionIsReadAgain : Type 0
ExpressionIsReadAgain =
    (names : Names) (tree : Tree) (line : ℕ) (rest : List ℕ)
    → AreApart names → IsSayable names tree → depth_of tree ≤ MAX_DEPTH
    → expression_at names (record { line = line; bytes = spelled names tree (codes ";" ++ rest) })
    ≡ Ok (tree, record { line = line; bytes = codes ";" ++ rest })
