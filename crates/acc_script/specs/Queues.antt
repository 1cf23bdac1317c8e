-- Async values in a script, and the queues of a wait (OpenACC API 3.0, 2.16, Asynchronous Behavior).
use Rattle.std.specs.Prelude.{ℕ, Bool, true, false, ◌||◌, ◌&&◌, nat_le, List, [], ◌∷◌, ◌++◌, length, Result, Ok, ℤ, pos, negsuc, codes, bytes_eq, if◌then◌else◌}
use Rattle.acc_place.specs.declared.directive.Waits.{Waits}
use Rattle.acc_place.specs.declared.directive.Waits.TheVariants.{All, Listed}
use Rattle.acc_token.specs.declared.read_fault.ReadFault.{ReadFault}
use Rattle.acc_token.specs.declared.read_fault.ReadKind.TheVariants.{Limit}
use Rattle.acc_script.specs.declared.queue.TheConstants.{MAX_QUEUES}
use Rattle.acc_token.specs.Faults.{fails, ◌>>=◌}
use Rattle.acc_token.specs.Tokens.{Spot, Lexeme, token_at, exactly, number_of}
use Rattle.acc_token.specs.Turns.{Turn, turn, all_turns}
use Rattle.acc_script.specs.Arrays.{negative, begins_value}

-- acc_async_noval and acc_async_sync
abbrev pub noval_value : ℤ
noval_value = negsuc 0

abbrev pub sync_value : ℤ
sync_value = negsuc 1

-- queue = [ "-" ] number | "acc_async_sync" | "acc_async_noval"
unfoldable pub queue_of : Bool → Lexeme → Result (ℤ × Spot) ReadFault
queue_of in_directive t =
    if bytes_eq t.text (codes "-") then
    (token_at in_directive t.after >>= λ u. number_of 9223372036854775807 u >>= λ n. Ok (negative n.0, n.1))
    else (if bytes_eq t.text (codes "acc_async_sync") then Ok (sync_value, t.after)
    else (if bytes_eq t.text (codes "acc_async_noval") then Ok (noval_value, t.after)
    else (number_of 9223372036854775807 t >>= λ n. Ok (pos n.0, n.1))))

abbrev pub begins_queue : List ℕ → Bool
begins_queue text = begins_value text || (bytes_eq text (codes "acc_async_sync") || bytes_eq text (codes "acc_async_noval"))

-- a queue, and the comma or the ) behind it
unfoldable pub queue_behind : List ℤ → Lexeme → Result (Turn (List ℤ)) ReadFault
queue_behind values t =
    queue_of true t >>= λ queue.
    token_at true queue.1 >>= λ u.
    if bytes_eq u.text (codes ",") then Ok (turn true (values ++ queue.0 ∷ []) u.after)
    else (exactly (codes ")") u >>= λ at. Ok (turn false (values ++ queue.0 ∷ []) at))

-- queues = queue { "," queue }, with the ) behind it; one too many is told at its first token
unfoldable pub queues_turn : List ℤ → Spot → Result (Turn (List ℤ)) ReadFault
queues_turn values at =
    token_at true at >>= λ t.
    if nat_le MAX_QUEUES (length values) && begins_queue t.text then fails t.line Limit
    else queue_behind values t

-- [ "(" queues ")" ] behind `wait`; without queues all are meant
unfoldable pub waits_at : Spot → Result (Waits × Spot) ReadFault
waits_at at =
    token_at true at >>= λ t.
    if bytes_eq t.text (codes "(") then
    (all_turns queues_turn [] t.after >>= λ queues. Ok (Listed queues.so_far, queues.at))
    else Ok (All, at)
