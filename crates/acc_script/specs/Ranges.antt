-- Ranges of arrays in a script, and the ranges of a clause.
use Rattle.std.specs.Prelude.{ℕ, ◌-◌, Bool, true, false, nat_le, List, [], ◌∷◌, ◌++◌, length, Option, Some, None, unwrap_or, Result, Ok, codes, bytes_eq, if◌then◌else◌}
use Rattle.acc_base.specs.declared.range.Range.{Range}
use Rattle.acc_place.specs.declared.directive.Clause.{Clause}
use Rattle.acc_place.specs.declared.directive.DataItem.{DataItem}
use Rattle.acc_token.specs.declared.read_fault.ReadFault.{ReadFault}
use Rattle.acc_token.specs.declared.read_fault.ReadKind.TheVariants.{Limit}
use Rattle.acc_script.specs.declared.range.TheConstants.{MAX_INDEX, MAX_RANGES}
use Rattle.acc_token.specs.Faults.{fails, ◌>>=◌}
use Rattle.acc_token.specs.Tokens.{Spot, Lexeme, front, is_digit, token_at, exactly, expect, number_of}
use Rattle.acc_token.specs.Turns.{Turn, turn, all_turns}
use Rattle.acc_script.specs.Arrays.{Declared, array_of, size_of}

-- a bound of a range, if it is written
unfoldable pub bound_at : Bool → Spot → Result (Option ℕ × Spot) ReadFault
bound_at in_directive at =
    token_at in_directive at >>= λ t.
    if is_digit (front t.text) then (number_of MAX_INDEX t >>= λ n. Ok (Some n.0, n.1))
    else Ok (None, at)

-- A missing lower bound is 0; a missing length is the array's size less the lower bound, or 0.
abbrev pub range_in : ℕ → ℕ → Option ℕ → Option ℕ → Range
range_in array size lo len =
    record { array = array; lo = unwrap_or lo 0; len = unwrap_or len (size - unwrap_or lo 0) }

-- [ number ] ":" [ number ] "]"
unfoldable pub bounds_at : Bool → ℕ → ℕ → Spot → Result (Range × Spot) ReadFault
bounds_at in_directive array size at =
    bound_at in_directive at >>= λ lo.
    expect in_directive (codes ":") lo.1 >>= λ at.
    bound_at in_directive at >>= λ len.
    expect in_directive (codes "]") len.1 >>= λ at.
    Ok (range_in array size lo.0 len.0, at)

-- what may stand behind the array's name; without brackets the range is the whole array
unfoldable pub range_behind : Bool → ℕ → ℕ → Spot → Result (Range × Spot) ReadFault
range_behind in_directive array size at =
    token_at in_directive at >>= λ t.
    if bytes_eq t.text (codes "[") then bounds_at in_directive array size t.after
    else Ok (range_in array size None None, at)

-- range = name [ "[" [ number ] ":" [ number ] "]" ]
unfoldable pub range_of : Bool → Declared → Lexeme → Result (Range × Spot) ReadFault
range_of in_directive arrays t =
    array_of arrays t >>= λ array.
    range_behind in_directive array.0 (size_of arrays array.0) array.1

unfoldable pub range_at : Bool → Declared → Spot → Result (Range × Spot) ReadFault
range_at in_directive arrays at = token_at in_directive at >>= range_of in_directive arrays

abbrev pub item : Clause → Range → DataItem
item clause range = record { clause = clause; range = range }

-- a range of a clause, and the comma or the ) behind it
unfoldable pub item_behind : Clause → List DataItem → ℕ → ℕ → Spot → Result (Turn (List DataItem)) ReadFault
item_behind clause items array size at =
    range_behind true array size at >>= λ range.
    token_at true range.1 >>= λ t.
    if bytes_eq t.text (codes ",") then Ok (turn true (items ++ item clause range.0 ∷ []) t.after)
    else (exactly (codes ")") t >>= λ at. Ok (turn false (items ++ item clause range.0 ∷ []) at))

-- A directive has a limit of ranges in all its clauses; one too many is told at its name.
unfoldable pub item_turn : Declared → Clause → List DataItem → Spot → Result (Turn (List DataItem)) ReadFault
item_turn arrays clause items at =
    token_at true at >>= λ t.
    array_of arrays t >>= λ array.
    if nat_le MAX_RANGES (length items) then fails t.line Limit
    else item_behind clause items array.0 (size_of arrays array.0) array.1

-- range { "," range } ")"
abbrev pub items_at : Declared → Clause → List DataItem → Spot → Result (Turn (List DataItem)) ReadFault
items_at arrays clause items at = all_turns (item_turn arrays clause) items at
