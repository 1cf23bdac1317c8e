-- The runtime library routines of a script (OpenACC API 3.0, 3.2).
use Rattle.std.specs.Prelude.{ℕ, Bool, true, false, List, [], ◌∷◌, take, Option, Some, None, Result, Ok, ℤ, codes, bytes_eq, if◌then◌else◌}
use Rattle.acc_base.specs.declared.range.Range.{Range}
use Rattle.acc_place.specs.declared.directive.Clause.{Clause}
use Rattle.acc_place.specs.declared.directive.Clause.TheVariants.{Copyin, Create, Copyout, Delete, Present, UpdateSelf, UpdateDevice}
use Rattle.acc_place.specs.declared.directive.Kind.{Kind}
use Rattle.acc_place.specs.declared.directive.Kind.TheVariants as kind
use Rattle.acc_place.specs.declared.directive.Target.TheVariants.{Plain, Value}
use Rattle.acc_place.specs.declared.directive.Waits.{Waits}
use Rattle.acc_place.specs.declared.directive.Waits.TheVariants.{Nothing, All, Listed}
use Rattle.acc_host.specs.declared.program.Act.{Act}
use Rattle.acc_host.specs.declared.program.Act.TheVariants.{Print, SetDevice, SetAsync, ShowDevice, ShowDevices}
use Rattle.acc_token.specs.declared.read_fault.ReadFault.{ReadFault}
use Rattle.acc_script.specs.declared.range.TheConstants.{MAX_INDEX}
use Rattle.acc_script.specs.declared.routine.DataRoutine.{DataRoutine}
use Rattle.acc_token.specs.Faults.{◌>>=◌}
use Rattle.acc_token.specs.Tokens.{Spot, Lexeme, token_at, unwanted_token, expect, number_of}
use Rattle.acc_script.specs.Arrays.{Declared}
use Rattle.acc_script.specs.Ranges.{range_of, range_at, item}
use Rattle.acc_script.specs.Queues.{queue_of}
use Rattle.acc_script.specs.Directives.{placed}

-- ## Routines that act as a directive with one range

abbrev pub routine : Kind → Clause → Option DataRoutine
routine k clause = Some (record { kind = k; clause = clause })

-- datacall
abbrev pub routine_named : List ℕ → Option DataRoutine
routine_named word =
    if bytes_eq word (codes "acc_copyin") then routine kind.EnterData Copyin
    else (if bytes_eq word (codes "acc_create") then routine kind.EnterData Create
    else (if bytes_eq word (codes "acc_copyout") then routine (kind.ExitData false) Copyout
    else (if bytes_eq word (codes "acc_delete") then routine (kind.ExitData false) Delete
    else (if bytes_eq word (codes "acc_copyout_finalize") then routine (kind.ExitData true) Copyout
    else (if bytes_eq word (codes "acc_delete_finalize") then routine (kind.ExitData true) Delete
    else (if bytes_eq word (codes "acc_update_device") then routine (kind.Update false) UpdateDevice
    else (if bytes_eq word (codes "acc_update_self") then routine (kind.Update false) UpdateSelf
    else None)))))))

-- ## Arguments, behind the routine's name

-- "(" range ")"
unfoldable pub range_argument : Declared → Spot → Result (Range × Spot) ReadFault
range_argument arrays at =
    expect false (codes "(") at >>= λ at.
    range_at false arrays at >>= λ range.
    expect false (codes ")") range.1 >>= λ at.
    Ok (range.0, at)

-- "(" queue ")"
unfoldable pub queue_argument : Spot → Result (ℤ × Spot) ReadFault
queue_argument at =
    expect false (codes "(") at >>= λ at.
    token_at false at >>= λ t.
    queue_of false t >>= λ queue.
    expect false (codes ")") queue.1 >>= λ at.
    Ok (queue.0, at)

-- "(" queue "," queue ")"
unfoldable pub two_queues : Spot → Result ((ℤ × ℤ) × Spot) ReadFault
two_queues at =
    expect false (codes "(") at >>= λ at.
    token_at false at >>= λ t.
    queue_of false t >>= λ first.
    expect false (codes ",") first.1 >>= λ at.
    token_at false at >>= λ u.
    queue_of false u >>= λ second.
    expect false (codes ")") second.1 >>= λ at.
    Ok ((first.0, second.0), at)

-- "(" number ")"
unfoldable pub number_argument : Spot → Result (ℕ × Spot) ReadFault
number_argument at =
    expect false (codes "(") at >>= λ at.
    token_at false at >>= λ t.
    number_of MAX_INDEX t >>= λ number.
    expect false (codes ")") number.1 >>= λ at.
    Ok (number.0, at)

-- "(" ")"
unfoldable pub no_argument : Spot → Result Spot ReadFault
no_argument at = expect false (codes "(") at >>= λ at. expect false (codes ")") at

-- ## Calls and questions

-- a word at which a call or a question begins
abbrev pub is_routine : List ℕ → Bool
is_routine word = bytes_eq (take 4 word) (codes "acc_")

abbrev pub waiting_act : Kind → Waits → Act
waiting_act k waits = placed k [] Plain waits

unfoldable pub data_call : Declared → DataRoutine → Spot → Result (Act × Spot) ReadFault
data_call arrays r at =
    range_argument arrays at >>= λ range.
    Ok (placed r.kind (item r.clause range.0 ∷ []) Plain Nothing, range.1)

-- call, but for the data routines
unfoldable pub other_call : Lexeme → Result (Act × Spot) ReadFault
other_call t =
    if bytes_eq t.text (codes "acc_wait") then
    (queue_argument t.after >>= λ queue. Ok (waiting_act kind.Wait (Listed (queue.0 ∷ [])), queue.1))
    else (if bytes_eq t.text (codes "acc_wait_all") then
    (no_argument t.after >>= λ at. Ok (waiting_act kind.Wait All, at))
    else (if bytes_eq t.text (codes "acc_wait_async") then
    (two_queues t.after >>= λ queues. Ok (placed kind.Wait [] (Value queues.0.1) (Listed (queues.0.0 ∷ [])), queues.1))
    else (if bytes_eq t.text (codes "acc_set_device_num") then
    (number_argument t.after >>= λ number. Ok (SetDevice number.0, number.1))
    else (if bytes_eq t.text (codes "acc_set_default_async") then
    (queue_argument t.after >>= λ queue. Ok (SetAsync queue.0, queue.1))
    else unwanted_token t))))

abbrev pub call_or_other : Declared → Lexeme → Option DataRoutine → Result (Act × Spot) ReadFault
call_or_other arrays t None = other_call t
call_or_other arrays t (Some r) = data_call arrays r t.after

unfoldable pub call_of : Declared → Lexeme → Result (Act × Spot) ReadFault
call_of arrays t = call_or_other arrays t (routine_named t.text)

-- a question in `print`
unfoldable pub question_of : Declared → Lexeme → Result (Act × Spot) ReadFault
question_of arrays t =
    if bytes_eq t.text (codes "acc_is_present") then
    (range_argument arrays t.after >>= λ range. Ok (placed kind.IsPresent (item Present range.0 ∷ []) Plain Nothing, range.1))
    else (if bytes_eq t.text (codes "acc_async_test") then
    (queue_argument t.after >>= λ queue. Ok (waiting_act kind.AsyncTest (Listed (queue.0 ∷ [])), queue.1))
    else (if bytes_eq t.text (codes "acc_async_test_all") then
    (no_argument t.after >>= λ at. Ok (waiting_act kind.AsyncTest All, at))
    else (if bytes_eq t.text (codes "acc_get_device_num") then
    (no_argument t.after >>= λ at. Ok (ShowDevice, at))
    else (if bytes_eq t.text (codes "acc_get_num_devices") then
    (no_argument t.after >>= λ at. Ok (ShowDevices, at))
    else unwanted_token t))))

-- shown = range | a question
unfoldable pub shown_of : Declared → Lexeme → Result (Act × Spot) ReadFault
shown_of arrays t =
    if is_routine t.text then question_of arrays t
    else (range_of false arrays t >>= λ range. Ok (Print range.0, range.1))

-- "(" shown ")" behind `print`
unfoldable pub print_at : Declared → Spot → Result (Act × Spot) ReadFault
print_at arrays at =
    expect false (codes "(") at >>= λ at.
    token_at false at >>= λ t.
    shown_of arrays t >>= λ shown.
    expect false (codes ")") shown.1 >>= λ at.
    Ok (shown.0, at)
