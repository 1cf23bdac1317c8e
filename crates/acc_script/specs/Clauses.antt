-- The clauses of a directive in a script.
use Rattle.std.specs.Prelude.{ℕ, Bool, true, false, not, ◌&&◌, ◌||◌, ◌==◌, List, [], ◌∷◌, length, Option, Some, None, Result, Ok, codes, bytes_eq, if◌then◌else◌}
use Rattle.std.specs.List.{list_any}
use Rattle.acc_place.specs.Clauses.{is_of_region, allows_clause}
use Rattle.acc_place.specs.declared.directive.Clause.{Clause}
use Rattle.acc_place.specs.declared.directive.Clause.TheVariants.{Copy, Copyin, Copyout, Create, Present, NoCreate, Delete, UpdateSelf, UpdateDevice}
use Rattle.acc_place.specs.declared.directive.Kind.TheVariants as kind
use Rattle.acc_place.specs.declared.directive.Target.{Target}
use Rattle.acc_place.specs.declared.directive.Target.TheVariants.{Plain, Unvalued, Value}
use Rattle.acc_place.specs.declared.directive.Waits.{Waits}
use Rattle.acc_place.specs.declared.directive.Waits.TheVariants.{Nothing}
use Rattle.acc_script.specs.declared.head.Head.{Head}
use Rattle.acc_script.specs.declared.head.Head.TheVariants as head
use Rattle.acc_script.specs.declared.clause.Clauses.{Clauses}
use Rattle.acc_token.specs.declared.read_fault.ReadFault.{ReadFault}
use Rattle.acc_token.specs.Faults.{◌>>=◌}
use Rattle.acc_token.specs.Tokens.{Spot, Lexeme, token_at, unwanted_token, expect}
use Rattle.acc_token.specs.Turns.{Turn, turn}
use Rattle.acc_script.specs.Arrays.{Declared}
use Rattle.acc_script.specs.Ranges.{items_at}
use Rattle.acc_script.specs.Queues.{queue_of, waits_at}

-- ## Words

abbrev pub is_one_of : List ℕ → List (List ℕ) → Bool
is_one_of word words = list_any (bytes_eq word) words

-- the data clause of a word; some have other names
abbrev pub clause_named : List ℕ → Option Clause
clause_named word =
    if is_one_of word (codes "copy" ∷ codes "pcopy" ∷ codes "present_or_copy" ∷ []) then Some Copy
    else (if is_one_of word (codes "copyin" ∷ codes "pcopyin" ∷ codes "present_or_copyin" ∷ []) then Some Copyin
    else (if is_one_of word (codes "copyout" ∷ codes "pcopyout" ∷ codes "present_or_copyout" ∷ []) then Some Copyout
    else (if is_one_of word (codes "create" ∷ codes "pcreate" ∷ codes "present_or_create" ∷ []) then Some Create
    else (if is_one_of word (codes "present" ∷ []) then Some Present
    else (if is_one_of word (codes "no_create" ∷ []) then Some NoCreate
    else (if is_one_of word (codes "delete" ∷ []) then Some Delete
    else (if is_one_of word (codes "self" ∷ codes "host" ∷ []) then Some UpdateSelf
    else (if is_one_of word (codes "device" ∷ []) then Some UpdateDevice
    else None))))))))

-- ## What a directive may have

-- the data clauses
abbrev pub allows : Head → Clause → Bool
allows head.EnterData c = allows_clause kind.EnterData c
allows head.ExitData c = allows_clause (kind.ExitData false) c
allows head.Update c = allows_clause (kind.Update false) c
allows head.Wait c = false
allows head.Data c = allows_clause kind.Data c
allows head.Loop c = is_of_region c

-- Whether it needs one of them.
abbrev pub needs_item : Head → Bool
needs_item head.Wait = false
needs_item head.Loop = false
needs_item h = true

abbrev pub may_have_async : Head → Bool
may_have_async head.Data = false
may_have_async h = true

-- Whether it may have a wait clause.
abbrev pub may_wait : Head → Bool
may_wait head.Data = false
may_wait head.Wait = false
may_wait h = true

-- the word without an argument that it may have: `finalize` or `if_present`
abbrev pub is_flag : Head → List ℕ → Bool
is_flag head.ExitData word = bytes_eq word (codes "finalize")
is_flag head.Update word = bytes_eq word (codes "if_present")
is_flag h word = false

-- ## Clauses that have been read

abbrev pub no_clauses : Waits → Clauses
no_clauses waits = record { items = []; target = Plain; waits = waits; flagged = false }

abbrev pub is_plain : Target → Bool
is_plain Plain = true
is_plain t = false

abbrev pub waits_for_nothing : Waits → Bool
waits_for_nothing Nothing = true
waits_for_nothing w = false

-- Whether none has been read, in a directive that isn't `wait`.
abbrev pub is_bare : Clauses → Bool
is_bare c = (length c.items == 0 && is_plain c.target) && (waits_for_nothing c.waits && not c.flagged)

-- Whether the directive can end here.
abbrev pub is_complete : Head → Clauses → Bool
is_complete h c = not (needs_item h) || not (length c.items == 0)

-- A comma stands between two clauses. Of a `wait` only one clause is possible.
abbrev pub may_have_comma : Head → Clauses → Bool
may_have_comma head.Wait c = false
may_have_comma h c = not (is_bare c)

-- [ "(" queue ")" ] behind `async`
unfoldable pub target_at : Spot → Result (Target × Spot) ReadFault
target_at at =
    token_at true at >>= λ t.
    if bytes_eq t.text (codes "(") then
    (token_at true t.after >>= λ u.
    queue_of true u >>= λ queue.
    expect true (codes ")") queue.1 >>= λ at.
    Ok (Value queue.0, at))
    else Ok (Unvalued, at)

-- "(" range { "," range } ")"
unfoldable pub ranges_at : Declared → Clause → Clauses → Spot → Result (Clauses × Spot) ReadFault
ranges_at arrays clause clauses at =
    expect true (codes "(") at >>= λ at.
    items_at arrays clause clauses.items at >>= λ items.
    Ok (record clauses { items = items.so_far }, items.at)

-- a data clause, if the directive may have the one that this word names
abbrev pub data_clause : Declared → Head → Clauses → Lexeme → Option Clause → Result (Clauses × Spot) ReadFault
data_clause arrays h clauses t None = unwanted_token t
data_clause arrays h clauses t (Some clause) =
    if allows h clause then ranges_at arrays clause clauses t.after else unwanted_token t

-- clause = word "(" range { "," range } ")" | "async" [ "(" queue ")" ] | "wait" [ "(" queues ")" ] | "finalize" | "if_present"
-- Each but the data clauses stands once at most.
unfoldable pub clause_of : Declared → Head → Clauses → Lexeme → Result (Clauses × Spot) ReadFault
clause_of arrays h clauses t =
    if bytes_eq t.text (codes "async") && (may_have_async h && is_plain clauses.target) then
    (target_at t.after >>= λ target. Ok (record clauses { target = target.0 }, target.1))
    else (if bytes_eq t.text (codes "wait") && (may_wait h && waits_for_nothing clauses.waits) then
    (waits_at t.after >>= λ waits. Ok (record clauses { waits = waits.0 }, waits.1))
    else (if is_flag h t.text && not clauses.flagged then
    Ok (record clauses { flagged = true }, t.after)
    else data_clause arrays h clauses t (clause_named t.text)))

-- A directive ends with its line, or with the text.
abbrev pub ends_line : List ℕ → Bool
ends_line text = length text == 0 || bytes_eq text (codes "\n")

-- a clause, behind which more may follow
abbrev pub clause_more : Declared → Head → Clauses → Lexeme → Result (Turn Clauses) ReadFault
clause_more arrays h clauses t = clause_of arrays h clauses t >>= λ more. Ok (turn true more.0 more.1)

-- clauses = [ clause { [ "," ] clause } ], and the end of the line
unfoldable pub clause_turn : Declared → Head → Clauses → Spot → Result (Turn Clauses) ReadFault
clause_turn arrays h clauses at =
    token_at true at >>= λ t.
    if ends_line t.text && is_complete h clauses then Ok (turn false clauses t.after)
    else (if bytes_eq t.text (codes ",") && may_have_comma h clauses then
    (token_at true t.after >>= λ u. clause_more arrays h clauses u)
    else clause_more arrays h clauses t)
