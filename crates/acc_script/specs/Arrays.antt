-- The arrays of a script: how they are declared, and where a name stands for one.
use Rattle.std.specs.Borrow.{Bor}
use Rattle.std.specs.Prelude.{◌≡◌, ◌≤◌, map, All, ℕ, ◌-◌, Bool, true, false, ◌&&◌, ◌||◌, not, ◌==◌, nat_lt, nat_le, List, [], ◌∷◌, ◌++◌, length, replicate, slice_index_or, Option, Some, None, Result, Ok, ℤ, pos, negsuc, zero, suc, codes, bytes_eq, if◌then◌else◌}
use Rattle.std.specs.List.{list_any, position}
use Rattle.acc_base.specs.declared.config.TheConstants.{MAX_ARRAYS, MAX_CELLS}
use Rattle.acc_token.specs.declared.read_fault.ReadFault.{ReadFault}
use Rattle.acc_token.specs.declared.read_fault.ReadKind.TheVariants.{Name, Limit}
use Rattle.acc_token.specs.Faults.{fails, ◌>>=◌}
use Rattle.acc_token.specs.Tokens.{Spot, Lexeme, front, is_digit, token_at, unwanted_token, exactly, expect, number_of, name_of}
use Rattle.acc_token.specs.Turns.{Turn, turn, all_turns}

-- the names of the arrays in the order of declaration, and their initial values
pub record Declared : Type 0 where
  pub names : List (List ℕ)
  pub cells : List (List ℤ)

-- the names as a program holds them
abbrev pub texts : List (Bor (List ℕ)) → List (List ℕ)
texts names = map (λ name. name.now) names

-- the limits of what is declared
pub record IsDeclared (arrays : Declared) : Type 0 where
  pub one_each : length arrays.cells ≡ length arrays.names
  pub few : length arrays.names ≤ MAX_ARRAYS
  pub sizes : All (λ cells. (1 ≤ length cells) × (length cells ≤ MAX_CELLS)) arrays.cells

abbrev pub none_declared : Declared
none_declared = record { names = []; cells = [] }

abbrev pub negative : ℕ → ℤ
negative zero = pos zero
negative (suc n) = negsuc n

-- value = [ "-" ] number
unfoldable pub value_of : Lexeme → Result (ℤ × Spot) ReadFault
value_of t =
    if bytes_eq t.text (codes "-") then
    (token_at false t.after >>= λ u. number_of 9223372036854775808 u >>= λ n. Ok (negative n.0, n.1))
    else (number_of 9223372036854775807 t >>= λ n. Ok (pos n.0, n.1))

abbrev pub begins_value : List ℕ → Bool
begins_value text = is_digit (front text) || bytes_eq text (codes "-")

-- a value, and the comma or the } behind it
unfoldable pub value_turn_behind : List ℤ → Lexeme → Result (Turn (List ℤ)) ReadFault
value_turn_behind cells t =
    value_of t >>= λ value.
    token_at false value.1 >>= λ u.
    if bytes_eq u.text (codes ",") then Ok (turn true (cells ++ value.0 ∷ []) u.after)
    else (exactly (codes "}") u >>= λ at. Ok (turn false (cells ++ value.0 ∷ []) at))

-- value { "," value } [ "," ] "}", no more values than cells
unfoldable pub value_turn : ℕ → List ℤ → Spot → Result (Turn (List ℤ)) ReadFault
value_turn size cells at =
    token_at false at >>= λ t.
    if bytes_eq t.text (codes "}") && nat_lt 0 (length cells) then Ok (turn false cells t.after)
    else (if not (begins_value t.text) then unwanted_token t
    else (if nat_le size (length cells) then fails t.line Limit
    else value_turn_behind cells t))

-- an array's size, which is judged at its number
unfoldable pub size_at : Spot → Result (ℕ × Spot) ReadFault
size_at at =
    token_at false at >>= λ t.
    number_of MAX_CELLS t >>= λ n.
    if n.0 == 0 then fails t.line Limit else Ok n

-- Missing values are zero.
abbrev pub padded_cells : ℕ → List ℤ → List ℤ
padded_cells size cells = cells ++ replicate (size - length cells) (pos 0)

-- [ "=" "{" values "}" ] ";"
unfoldable pub initial_values_at : ℕ → Spot → Result (List ℤ × Spot) ReadFault
initial_values_at size at =
    token_at false at >>= λ t.
    if bytes_eq t.text (codes "=") then
    (expect false (codes "{") t.after >>= λ at.
    all_turns (value_turn size) [] at >>= λ values.
    expect false (codes ";") values.at >>= λ at.
    Ok (padded_cells size values.so_far, at))
    else (exactly (codes ";") t >>= λ at. Ok (padded_cells size [], at))

-- A name is declared once.
unfoldable pub fresh_name : List (List ℕ) → Lexeme → Result (List ℕ × Spot) ReadFault
fresh_name names t =
    name_of t >>= λ name.
    if list_any (bytes_eq name.0) names then fails t.line Name else Ok name

-- name "[" number "]" and what it holds, behind `long`
unfoldable pub array_at : Declared → Spot → Result (Declared × Spot) ReadFault
array_at arrays at =
    token_at false at >>= λ t.
    fresh_name arrays.names t >>= λ name.
    expect false (codes "[") name.1 >>= λ at.
    size_at at >>= λ size.
    expect false (codes "]") size.1 >>= λ at.
    initial_values_at size.0 at >>= λ cells.
    Ok (record { names = arrays.names ++ name.0 ∷ []; cells = arrays.cells ++ cells.0 ∷ [] }, cells.1)

unfoldable pub array_turn : Declared → Spot → Result (Turn Declared) ReadFault
array_turn arrays at =
    token_at false at >>= λ t.
    if not (bytes_eq t.text (codes "long")) then Ok (turn false arrays at)
    else (if nat_le MAX_ARRAYS (length arrays.names) then fails t.line Limit
    else (array_at arrays t.after >>= λ more. Ok (turn true more.0 more.1)))

-- the array that a name stands for
abbrev pub known_array : ℕ → Spot → Option ℕ → Result (ℕ × Spot) ReadFault
known_array line at None = fails line Name
known_array line at (Some index) = Ok (index, at)

unfoldable pub array_of : Declared → Lexeme → Result (ℕ × Spot) ReadFault
array_of arrays t = name_of t >>= λ name. known_array t.line name.1 (position (bytes_eq name.0) arrays.names)

abbrev pub size_of : Declared → ℕ → ℕ
size_of arrays array = length (slice_index_or arrays.cells array [])
