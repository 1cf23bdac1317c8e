-- What a script says: the arrays, and what each host does.
use Rattle.std.specs.Prelude.{ℕ, ◌==◌, nat_le, true, false, List, [], ◌∷◌, ◌++◌, length, Result, Ok, ℤ, codes, if◌then◌else◌}
use Rattle.acc_base.specs.declared.config.TheConstants.{MAX_HOSTS}
use Rattle.acc_base.specs.Configurations.{rows}
use Rattle.acc_host.specs.declared.program.HostProgram.{HostProgram}
use Rattle.acc_token.specs.declared.read_fault.ReadFault.{ReadFault}
use Rattle.acc_token.specs.declared.read_fault.ReadKind.TheVariants.{Limit}
use Rattle.acc_script.specs.declared.script.Script.{Script}
use Rattle.acc_token.specs.Faults.{fails, ◌>>=◌}
use Rattle.acc_token.specs.Texts.{within}
use Rattle.acc_token.specs.declared.text.TheConstants.{MAX_TEXT}
use Rattle.acc_token.specs.Tokens.{Spot, token_at, exactly, expect}
use Rattle.acc_token.specs.Turns.{Turn, turn, all_turns}
use Rattle.acc_script.specs.Arrays.{Declared, texts, none_declared, array_turn}
use Rattle.acc_script.specs.Statements.{body, statement_turn}

-- the names of the arrays, their initial values, and the programs of the hosts
pub record ScriptView : Type 0 where
  pub names : List (List ℕ)
  pub arrays : List (List ℤ)
  pub programs : List HostProgram

abbrev pub script_view : Declared → List HostProgram → ScriptView
script_view arrays programs = record { names = arrays.names; arrays = arrays.cells; programs = programs }

-- hostpart = "host" "{" { statement } "}", behind the "host" of the host of this number
unfoldable pub host_at : Declared → ℕ → Spot → Result (HostProgram × Spot) ReadFault
host_at arrays host at =
    expect false (codes "{") at >>= λ at.
    all_turns (statement_turn arrays) (body [] 0) at >>= λ statements.
    Ok (record { host = host; statements = statements.so_far.statements }, statements.at)

-- { hostpart } up to the end of the text; a host too many is told at its word
unfoldable pub host_turn : Declared → List HostProgram → Spot → Result (Turn (List HostProgram)) ReadFault
host_turn arrays programs at =
    token_at false at >>= λ t.
    if length t.text == 0 then Ok (turn false programs t.after)
    else (exactly (codes "host") t >>= λ at.
    if nat_le MAX_HOSTS (length programs) then fails t.line Limit
    else (host_at arrays (length programs) at >>= λ p. Ok (turn true (programs ++ p.0 ∷ []) p.1)))

-- script = { array } { hostpart }
unfoldable pub script_at : Spot → Result ScriptView ReadFault
script_at at =
    all_turns array_turn none_declared at >>= λ arrays.
    all_turns (host_turn arrays.so_far) [] arrays.at >>= λ programs.
    Ok (script_view arrays.so_far programs.so_far)

unfoldable pub script_of : List ℕ → Result ScriptView ReadFault
script_of text = within MAX_TEXT (λ (text : List ℕ). script_at (record { line = 1; bytes = text })) text

-- a script as the reader gives it
abbrev pub view_of_script : Script → ScriptView
view_of_script s = record { names = texts s.names.keys; arrays = rows s.arrays.items; programs = s.programs.items }
