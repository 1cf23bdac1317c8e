-- The expressions of a loop. Binary operators group to the left, `?:` to the right; parentheses, unary signs and `?:`
-- together stand at most so deep.
use Rattle.std.specs.Prelude.{ℕ, zero, suc, ◌==◌, true, false, List, length, Option, Some, None, Result, Ok, ℤ, pos, neg_ℤ, codes, bytes_eq, if◌then◌else◌}
use Rattle.acc_kernel.specs.declared.operator.Operator.{Operator}
use Rattle.acc_kernel.specs.declared.operator.Operator.TheVariants.{Plus, Minus, Times, Less, AtMost, More, AtLeast, Equal, Differs}
use Rattle.acc_kernel.specs.Trees.{Tree, Number, Index, Read, Negate, Binary, Choose}
use Rattle.acc_script.specs.declared.expression.Level.{Level}
use Rattle.acc_script.specs.declared.expression.Level.TheVariants.{Product, Sum, Comparison, Equality}
use Rattle.acc_script.specs.declared.expression.Scope.{Scope}
use Rattle.acc_script.specs.declared.expression.TheConstants.{MAX_NESTING}
use Rattle.acc_token.specs.declared.read_fault.ReadFault.{ReadFault}
use Rattle.acc_token.specs.declared.read_fault.ReadKind.TheVariants.{End, Name, Limit}
use Rattle.acc_script.specs.Arrays.{Declared, array_of}
use Rattle.acc_token.specs.Faults.{fails, ◌>>=◌}
use Rattle.acc_token.specs.Tokens.{Spot, Lexeme, front, is_digit, token_at, exactly, expect, number_of, name_of}
use Rattle.acc_token.specs.Turns.{Turn, turn, all_turns}

-- what a name in a loop can stand for: an array, or the loop's index
pub record Names : Type 0 where
  pub arrays : Declared
  pub index : List ℕ

abbrev pub names : Declared → List ℕ → Names
names arrays index = record { arrays = arrays; index = index }

-- what reads an expression, or a part of one
abbrev pub Reader : Type 0
Reader = Spot → Result (Tree × Spot) ReadFault

-- what may stand one deeper: an operand, and an expression
pub record Deeper : Type 0 where
  pub unary : Reader
  pub expr : Reader

-- one deeper behind this token, or the limit is passed there
abbrev pub one_deeper : Option Deeper → Lexeme → Result Deeper ReadFault
one_deeper None t = fails t.line Limit
one_deeper (Some inner) t = Ok inner

-- the loop's name
unfoldable pub index_at : List ℕ → Spot → Result Spot ReadFault
index_at index at =
    token_at false at >>= λ t.
    name_of t >>= λ name.
    exactly index t

-- number, as it stands in an expression
unfoldable pub number_at : Spot → Result (ℕ × Spot) ReadFault
number_at at = token_at false at >>= number_of 9223372036854775807

-- [ ( "+" | "-" ) number ]: how far from the index
unfoldable pub offset_at : Spot → Result (ℤ × Spot) ReadFault
offset_at at =
    token_at false at >>= λ t.
    if bytes_eq t.text (codes "+") then (number_at t.after >>= λ n. Ok (pos n.0, n.1))
    else (if bytes_eq t.text (codes "-") then (number_at t.after >>= λ n. Ok (neg_ℤ (pos n.0), n.1))
    else Ok (pos 0, at))

-- "[" name [ ( "+" | "-" ) number ] "]" behind the name of an array, which stands in this line: it is no value by itself
unfoldable pub read_behind : Names → ℕ → ℕ → Spot → Result (Tree × Spot) ReadFault
read_behind names line array at =
    token_at false at >>= λ t.
    if bytes_eq t.text (codes "[") then
    (index_at names.index t.after >>= λ at.
    offset_at at >>= λ offset.
    expect false (codes "]") offset.1 >>= λ at.
    Ok (Read array offset.0, at))
    else (if length t.text == 0 then fails t.line End else fails line Name)

-- number | name | name "[" name [ ( "+" | "-" ) number ] "]"
unfoldable pub leaf_of : Names → Lexeme → Result (Tree × Spot) ReadFault
leaf_of names t =
    if is_digit (front t.text) then (number_of 9223372036854775807 t >>= λ n. Ok (Number (pos n.0), n.1))
    else (name_of t >>= λ name.
    if bytes_eq name.0 names.index then Ok (Index, name.1)
    else (array_of names.arrays t >>= λ array. read_behind names t.line array.0 array.1))

-- "(" expr ")", from the "(" on
unfoldable pub group_of : Option Deeper → Lexeme → Result (Tree × Spot) ReadFault
group_of below t =
    one_deeper below t >>= λ inner.
    inner.expr t.after >>= λ part.
    expect false (codes ")") part.1 >>= λ at.
    Ok (part.0, at)

-- primary = number | name | name "[" name [ ( "+" | "-" ) number ] "]" | "(" expr ")"
unfoldable pub primary_of : Names → Option Deeper → Lexeme → Result (Tree × Spot) ReadFault
primary_of names below t =
    if bytes_eq t.text (codes "(") then group_of below t else leaf_of names t

-- "-" unary, from the "-" on
unfoldable pub negated_of : Option Deeper → Lexeme → Result (Tree × Spot) ReadFault
negated_of below t =
    one_deeper below t >>= λ inner.
    inner.unary t.after >>= λ part.
    Ok (Negate part.0, part.1)

-- unary = "-" unary | primary
unfoldable pub unary_at : Names → Option Deeper → Spot → Result (Tree × Spot) ReadFault
unary_at names below at =
    token_at false at >>= λ t.
    if bytes_eq t.text (codes "-") then negated_of below t else primary_of names below t

-- the operators of each level
abbrev pub operator_of : Level → List ℕ → Option Operator
operator_of Product text = if bytes_eq text (codes "*") then Some Times else None
operator_of Sum text =
    if bytes_eq text (codes "+") then Some Plus
    else (if bytes_eq text (codes "-") then Some Minus else None)
operator_of Comparison text =
    if bytes_eq text (codes "<") then Some Less
    else (if bytes_eq text (codes "<=") then Some AtMost
    else (if bytes_eq text (codes ">") then Some More
    else (if bytes_eq text (codes ">=") then Some AtLeast else None)))
operator_of Equality text =
    if bytes_eq text (codes "==") then Some Equal
    else (if bytes_eq text (codes "!=") then Some Differs else None)

-- the part behind an operator; another token is left to who reads on
abbrev pub part_behind : Reader → Tree → Spot → Lexeme → Option Operator → Result (Turn Tree) ReadFault
part_behind part left at t None = Ok (turn false left at)
part_behind part left at t (Some operator) = part t.after >>= λ right. Ok (turn true (Binary operator left right.0) right.1)

unfoldable pub chain_turn : Level → Reader → Tree → Spot → Result (Turn Tree) ReadFault
chain_turn level part left at =
    token_at false at >>= λ t. part_behind part left at t (operator_of level t.text)

-- part { operator part }: what has been read is the left part of the operator behind it
unfoldable pub chain_at : Level → Reader → Spot → Result (Tree × Spot) ReadFault
chain_at level part at =
    part at >>= λ first.
    all_turns (chain_turn level part) first.0 first.1 >>= λ all.
    Ok (all.so_far, all.at)

-- product = unary { "*" unary }
abbrev pub product_at : Reader → Reader
product_at unary = chain_at Product unary

-- sum = product { ( "+" | "-" ) product }
abbrev pub sum_at : Reader → Reader
sum_at unary = chain_at Sum (product_at unary)

-- compare = sum { ( "<" | "<=" | ">" | ">=" ) sum }
abbrev pub compare_at : Reader → Reader
compare_at unary = chain_at Comparison (sum_at unary)

-- equal = compare { ( "==" | "!=" ) compare }
abbrev pub equal_at : Reader → Reader
equal_at unary = chain_at Equality (compare_at unary)

-- what the operators of a level stand between
abbrev pub part_at : Level → Reader → Reader
part_at Product unary = unary
part_at Sum unary = product_at unary
part_at Comparison unary = sum_at unary
part_at Equality unary = compare_at unary

-- "?" expr ":" expr behind its first part, from the "?" on
unfoldable pub choice_of : Option Deeper → Tree → Lexeme → Result (Tree × Spot) ReadFault
choice_of below test t =
    one_deeper below t >>= λ inner.
    inner.expr t.after >>= λ first.
    expect false (codes ":") first.1 >>= λ at.
    inner.expr at >>= λ second.
    Ok (Choose test first.0 second.0, second.1)

-- expr = equal [ "?" expr ":" expr ]
unfoldable pub expr_at : Names → Option Deeper → Spot → Result (Tree × Spot) ReadFault
expr_at names below at =
    equal_at (unary_at names below) at >>= λ test.
    token_at false test.1 >>= λ t.
    if bytes_eq t.text (codes "?") then choice_of below test.0 t else Ok test

-- what may stand one deeper, where so many more can be opened
unfoldable pub deeper : Names → ℕ → Option Deeper
deeper names zero = None
deeper names (suc deep) = Some (record { unary = unary_at names (deeper names deep); expr = expr_at names (deeper names deep) })

unfoldable pub expression_at : Names → Spot → Result (Tree × Spot) ReadFault
expression_at names at = expr_at names (deeper names MAX_NESTING) at

-- the same of what a program holds
abbrev pub names_in : Scope → Names
names_in s = names s.arrays.now s.index.now

abbrev pub below : Scope → Option Deeper
below s = deeper (names_in s) s.deep

abbrev pub deeper_in : Scope → Deeper
deeper_in s = record { unary = unary_at (names_in s) (below s); expr = expr_at (names_in s) (below s) }
