-- The loop behind a directive `parallel loop`.
use Rattle.std.specs.Prelude.{ℕ, true, false, ◌&&◌, ◌||◌, nat_lt, List, [], ◌∷◌, ◌++◌, length, Option, Some, None, Result, Ok, ℤ, codes, bytes_eq, if◌then◌else◌}
use Rattle.acc_kernel.specs.declared.assign.Assign.{Assign}
use Rattle.acc_kernel.specs.declared.fault.KernelFault.{KernelFault}
use Rattle.acc_kernel.specs.declared.fault.KernelFault.TheVariants.{ReadsAssigned, NoStatement, TooDeep, TooFar, TooMany, Memory}
use Rattle.acc_kernel.specs.Faults.{loop_fault}
use Rattle.acc_kernel.specs.Kernels.{Loop, loop}
use Rattle.acc_token.specs.declared.read_fault.ReadError.{ReadError}
use Rattle.acc_token.specs.declared.read_fault.ReadError.TheVariants as error
use Rattle.acc_token.specs.declared.read_fault.ReadFault.{ReadFault}
use Rattle.acc_token.specs.declared.read_fault.ReadKind.{ReadKind}
use Rattle.acc_token.specs.declared.read_fault.ReadKind.TheVariants.{Limit, Form}
use Rattle.acc_script.specs.declared.loops.Header.{Header}
use Rattle.acc_script.specs.Arrays.{Declared, value_of, fresh_name, array_of}
use Rattle.acc_script.specs.Expressions.{Names, names, index_at, expression_at}
use Rattle.acc_token.specs.Faults.{fails, ◌>>=◌}
use Rattle.acc_token.specs.Tokens.{Spot, Lexeme, token_at, exactly, expect}
use Rattle.acc_token.specs.Turns.{Turn, turn, all_turns}

-- what stands between the parentheses of a loop
pub record Opening : Type 0 where
  pub index : List ℕ
  pub lo : ℤ
  pub hi : ℤ

-- the same as a program holds it
abbrev pub opening_of : Header → Opening
opening_of h = record { index = h.index.now; lo = h.lo; hi = h.hi }

-- [ "int" | "long" ]
unfoldable pub type_at : Spot → Result Spot ReadFault
type_at at =
    token_at false at >>= λ t.
    if bytes_eq t.text (codes "int") || bytes_eq t.text (codes "long") then Ok t.after else Ok at

-- [ "int" | "long" ] name "=" value ";", where the name isn't an array's
unfoldable pub first_at : Declared → Spot → Result ((List ℕ × ℤ) × Spot) ReadFault
first_at arrays at =
    type_at at >>= λ at.
    token_at false at >>= λ t.
    fresh_name arrays.names t >>= λ name.
    expect false (codes "=") name.1 >>= λ at.
    token_at false at >>= λ u.
    value_of u >>= λ lo.
    expect false (codes ";") lo.1 >>= λ at.
    Ok ((name.0, lo.0), at)

-- name "<" value ";"
unfoldable pub upper_bound_at : List ℕ → Spot → Result (ℤ × Spot) ReadFault
upper_bound_at index at =
    index_at index at >>= λ at.
    expect false (codes "<") at >>= λ at.
    token_at false at >>= λ t.
    value_of t >>= λ hi.
    expect false (codes ";") hi.1 >>= λ at.
    Ok (hi.0, at)

-- "for" "(" [ "int" | "long" ] name "=" value ";" name "<" value ";" name "++" ")", behind the "for"
unfoldable pub header_at : Declared → Spot → Result (Opening × Spot) ReadFault
header_at arrays at =
    expect false (codes "(") at >>= λ at.
    first_at arrays at >>= λ first.
    upper_bound_at first.0.0 first.1 >>= λ bound.
    index_at first.0.0 bound.1 >>= λ at.
    expect false (codes "++") at >>= λ at.
    expect false (codes ")") at >>= λ at.
    Ok (record { index = first.0.0; lo = first.0.1; hi = bound.0 }, at)

-- assign = name "[" name "]" "=" expr ";"
unfoldable pub assign_of : Names → Lexeme → Result (Assign × Spot) ReadFault
assign_of names t =
    array_of names.arrays t >>= λ array.
    expect false (codes "[") array.1 >>= λ at.
    index_at names.index at >>= λ at.
    expect false (codes "]") at >>= λ at.
    expect false (codes "=") at >>= λ at.
    expression_at names at >>= λ value.
    expect false (codes ";") value.1 >>= λ at.
    Ok (record { array = array.0; value = value.0 }, at)

-- assign { assign } "}"
unfoldable pub assign_turn : Names → List Assign → Spot → Result (Turn (List Assign)) ReadFault
assign_turn names assigns at =
    token_at false at >>= λ t.
    if bytes_eq t.text (codes "}") && nat_lt 0 (length assigns) then Ok (turn false assigns t.after)
    else (assign_of names t >>= λ assign. Ok (turn true (assigns ++ assign.0 ∷ []) assign.1))

-- assign | "{" assign { assign } "}"
unfoldable pub body_at : Names → Spot → Result (List Assign × Spot) ReadFault
body_at names at =
    token_at false at >>= λ t.
    if bytes_eq t.text (codes "{") then (all_turns (assign_turn names) [] t.after >>= λ all. Ok (all.so_far, all.at))
    else (assign_of names t >>= λ assign. Ok (assign.0 ∷ [], assign.1))

-- how the fault of a loop is told; by definition it is never want of memory
abbrev pub kind_of : KernelFault → ReadKind
kind_of ReadsAssigned = Form
kind_of NoStatement = Form
kind_of TooDeep = Limit
kind_of TooFar = Limit
kind_of TooMany = Limit
kind_of Memory = Limit

-- the same as a reader answers it, which may want memory
abbrev pub told_fault : ℕ → KernelFault → ReadError
told_fault line ReadsAssigned = error.Fault (record { line = line; kind = Form })
told_fault line NoStatement = error.Fault (record { line = line; kind = Form })
told_fault line TooDeep = error.Fault (record { line = line; kind = Limit })
told_fault line TooFar = error.Fault (record { line = line; kind = Limit })
told_fault line TooMany = error.Fault (record { line = line; kind = Limit })
told_fault line Memory = error.Memory

abbrev pub judged_loop : ℕ → Loop → Option KernelFault → Result Loop ReadFault
judged_loop line k None = Ok k
judged_loop line k (Some fault) = fails line (kind_of fault)

-- A loop keeps its limits; where it doesn't, its first fault has this line.
unfoldable pub accepted_loop : ℕ → Loop → Result Loop ReadFault
accepted_loop line k = judged_loop line k (loop_fault k)

-- loop = "for" "(" [ "int" | "long" ] name "=" value ";" name "<" value ";" name "++" ")"
-- ( assign | "{" assign { assign } "}" ); it is judged behind its last token, with the line of its first
unfoldable pub loop_at : Declared → Spot → Result (Loop × Spot) ReadFault
loop_at arrays at =
    token_at false at >>= λ t.
    exactly (codes "for") t >>= λ at.
    header_at arrays at >>= λ header.
    body_at (names arrays header.0.index) header.1 >>= λ body.
    accepted_loop t.line (loop header.0.lo header.0.hi body.0) >>= λ k.
    Ok (k, body.1)
