-- The directives of a script.
use Rattle.std.specs.Prelude.{ℕ, true, false, nat_le, List, Result, Ok, codes, bytes_eq, if◌then◌else◌}
use Rattle.acc_place.specs.Directives.{written_first}
use Rattle.acc_place.specs.declared.directive.DataItem.{DataItem}
use Rattle.acc_place.specs.declared.directive.Kind.{Kind}
use Rattle.acc_place.specs.declared.directive.Kind.TheVariants as kind
use Rattle.acc_place.specs.declared.directive.Target.{Target}
use Rattle.acc_place.specs.declared.directive.Waits.{Waits}
use Rattle.acc_place.specs.declared.directive.Waits.TheVariants.{Nothing}
use Rattle.acc_host.specs.declared.program.Act.{Act}
use Rattle.acc_host.specs.declared.program.Act.TheVariants.{Place}
use Rattle.acc_script.specs.declared.head.Head.{Head}
use Rattle.acc_script.specs.declared.head.Head.TheVariants as head
use Rattle.acc_script.specs.declared.clause.Clauses.{Clauses}
use Rattle.acc_script.specs.declared.directive.TheConstants.{MAX_CONSTRUCTS}
use Rattle.acc_token.specs.declared.read_fault.ReadFault.{ReadFault}
use Rattle.acc_token.specs.declared.read_fault.ReadKind.TheVariants.{Limit}
use Rattle.acc_token.specs.Faults.{fails, ◌>>=◌}
use Rattle.acc_token.specs.Tokens.{Spot, Lexeme, token_at, unwanted_token, expect}
use Rattle.acc_token.specs.Turns.{all_turns}
use Rattle.acc_script.specs.Arrays.{Declared}
use Rattle.acc_script.specs.Queues.{waits_at}
use Rattle.acc_script.specs.Clauses.{no_clauses, clause_turn}
use Rattle.acc_script.specs.Loops.{loop_at}

-- what a directive begins with; a data construct inside too many is told at its word
unfoldable pub head_of : ℕ → Lexeme → Result (Head × Spot) ReadFault
head_of depth t =
    if bytes_eq t.text (codes "enter") then (expect true (codes "data") t.after >>= λ at. Ok (head.EnterData, at))
    else (if bytes_eq t.text (codes "exit") then (expect true (codes "data") t.after >>= λ at. Ok (head.ExitData, at))
    else (if bytes_eq t.text (codes "update") then Ok (head.Update, t.after)
    else (if bytes_eq t.text (codes "wait") then Ok (head.Wait, t.after)
    else (if bytes_eq t.text (codes "data") then
    (if nat_le MAX_CONSTRUCTS depth then fails t.line Limit else Ok (head.Data, t.after))
    else (if bytes_eq t.text (codes "parallel") then (expect true (codes "loop") t.after >>= λ at. Ok (head.Loop, at))
    else unwanted_token t)))))

-- What stands before the clauses: the queues of a `wait`.
abbrev pub opening_at : Head → Spot → Result (Clauses × Spot) ReadFault
opening_at head.Wait at = waits_at at >>= λ waits. Ok (no_clauses waits.0, waits.1)
opening_at h at = Ok (no_clauses Nothing, at)

-- a directive as it is written, for device 0 and the host's first default async value
abbrev pub placed : Kind → List DataItem → Target → Waits → Act
placed k items target waits =
    Place (written_first (record { kind = k; items = items; target = target; waits = waits }))

abbrev pub placed_with : Kind → Clauses → Act
placed_with k c = placed k c.items c.target c.waits

-- What the directive is, behind its line: a data construct is entered at the { that follows, and a loop follows in
-- whole.
unfoldable pub act_behind : Declared → Head → Clauses → Spot → Result (Act × Spot) ReadFault
act_behind arrays head.EnterData c at = Ok (placed_with kind.EnterData c, at)
act_behind arrays head.ExitData c at = Ok (placed_with (kind.ExitData c.flagged) c, at)
act_behind arrays head.Update c at = Ok (placed_with (kind.Update c.flagged) c, at)
act_behind arrays head.Wait c at = Ok (placed_with kind.Wait c, at)
act_behind arrays head.Data c at = expect false (codes "{") at >>= λ at. Ok (placed_with kind.Data c, at)
act_behind arrays head.Loop c at = loop_at arrays at >>= λ l. Ok (placed_with (kind.Loop l.0) c, l.1)

-- "pragma" "acc" directive, behind the "#", inside so many data constructs
unfoldable pub directive_at : Declared → ℕ → Spot → Result (Act × Spot) ReadFault
directive_at arrays depth at =
    expect true (codes "pragma") at >>= λ at.
    expect true (codes "acc") at >>= λ at.
    token_at true at >>= λ t.
    head_of depth t >>= λ h.
    opening_at h.0 h.1 >>= λ opening.
    all_turns (clause_turn arrays h.0) opening.0 opening.1 >>= λ clauses.
    act_behind arrays h.0 clauses.so_far clauses.at
