-- The statements of a host in a script.
use Rattle.std.specs.Prelude.{ℕ, ◌+◌, ◌-◌, ◌==◌, true, false, List, [], ◌∷◌, ◌++◌, Result, Ok, ℤ, codes, bytes_eq, if◌then◌else◌}
use Rattle.acc_place.specs.declared.directive.Kind.{Kind}
use Rattle.acc_place.specs.declared.directive.Kind.TheVariants as kind
use Rattle.acc_place.specs.declared.directive.Target.TheVariants.{Plain}
use Rattle.acc_place.specs.declared.directive.Waits.TheVariants.{Nothing}
use Rattle.acc_host.specs.declared.program.Act.{Act}
use Rattle.acc_host.specs.declared.program.Act.TheVariants.{Place, Write}
use Rattle.acc_host.specs.declared.program.Statement.{Statement}
use Rattle.acc_token.specs.declared.read_fault.ReadFault.{ReadFault}
use Rattle.acc_script.specs.declared.range.TheConstants.{MAX_INDEX}
use Rattle.acc_token.specs.Faults.{◌>>=◌}
use Rattle.acc_token.specs.Tokens.{Spot, Lexeme, token_at, expect, number_of}
use Rattle.acc_token.specs.Turns.{Turn, turn}
use Rattle.acc_script.specs.Arrays.{Declared, array_of, value_of}
use Rattle.acc_script.specs.Directives.{placed, directive_at}
use Rattle.acc_script.specs.Routines.{is_routine, call_of, print_at}

unfoldable pub signed_number_at : Spot → Result (ℤ × Spot) ReadFault
signed_number_at at = token_at false at >>= value_of

unfoldable pub cell_at : Spot → Result (ℕ × Spot) ReadFault
cell_at at = token_at false at >>= number_of MAX_INDEX

-- "[" number "]" "=" value behind the array's name
unfoldable pub write_at : ℕ → Spot → Result (Act × Spot) ReadFault
write_at array at =
    expect false (codes "[") at >>= λ at.
    cell_at at >>= λ cell.
    expect false (codes "]") cell.1 >>= λ at.
    expect false (codes "=") at >>= λ at.
    signed_number_at at >>= λ value.
    Ok (Write array cell.0 value.0, value.1)

-- name "[" number "]" "=" value | "print" "(" shown ")" | call
unfoldable pub simple_of : Declared → Lexeme → Result (Act × Spot) ReadFault
simple_of arrays t =
    if bytes_eq t.text (codes "print") then print_at arrays t.after
    else (if is_routine t.text then call_of arrays t
    else (array_of arrays t >>= λ array. write_at array.0 array.1))

-- a directive, or what ends with a semicolon
unfoldable pub act_of : Declared → ℕ → Lexeme → Result (Act × Spot) ReadFault
act_of arrays depth t =
    if bytes_eq t.text (codes "#") then directive_at arrays depth t.after
    else (simple_of arrays t >>= λ act. expect false (codes ";") act.1 >>= λ at. Ok (act.0, at))

-- the statements of a host that have been read, and how many data constructs are open behind them
pub record Body : Type 0 where
  pub statements : List Statement
  pub depth : ℕ

abbrev pub body : List Statement → ℕ → Body
body statements depth = record { statements = statements; depth = depth }

-- How many data constructs are open behind a statement.
abbrev pub depth_behind_kind : ℕ → Kind → ℕ
depth_behind_kind depth kind.Data = depth + 1
depth_behind_kind depth kind.EndData = depth - 1
depth_behind_kind depth k = depth

abbrev pub depth_behind : ℕ → Act → ℕ
depth_behind depth (Place d) = depth_behind_kind depth d.kind
depth_behind depth act = depth

abbrev pub with_statement : Body → ℕ → Act → Body
with_statement b line act =
    body (b.statements ++ record { line = line; act = act } ∷ []) (depth_behind b.depth act)

-- the end of a data construct
abbrev pub end_of_construct : Act
end_of_construct = placed kind.EndData [] Plain Nothing

-- { statement } "}", where a data construct ends by a } of its own; a statement has the line of its first token
unfoldable pub statement_turn : Declared → Body → Spot → Result (Turn Body) ReadFault
statement_turn arrays b at =
    token_at false at >>= λ t.
    if bytes_eq t.text (codes "}") then
    (if b.depth == 0 then Ok (turn false b t.after) else Ok (turn true (with_statement b t.line end_of_construct) t.after))
    else (act_of arrays b.depth t >>= λ act. Ok (turn true (with_statement b t.line act.0) act.1))
