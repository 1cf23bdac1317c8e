-- Worked programs of hosts, and the lists that follow them.
use Rattle.std.specs.Prelude.{ℕ, ℤ, pos, negsuc, Bool, true, false, List, [], ◌∷◌, ◌++◌, Option, Some, None}
use Rattle.acc_base.specs.declared.fault.Fault.TheVariants.{BadDevice}
use Rattle.acc_place.specs.declared.directive.Clause.TheVariants as clause
use Rattle.acc_place.specs.declared.directive.DataItem.{DataItem}
use Rattle.acc_place.specs.declared.directive.Kind.{Kind}
use Rattle.acc_place.specs.declared.directive.Kind.TheVariants as kind
use Rattle.acc_place.specs.declared.directive.Placed.{Placed}
use Rattle.acc_place.specs.declared.directive.Target.{Target}
use Rattle.acc_place.specs.declared.directive.Target.TheVariants as target
use Rattle.acc_place.specs.declared.directive.Waits.{Waits}
use Rattle.acc_place.specs.declared.directive.Waits.TheVariants as waits
use Rattle.acc_place.specs.Directives.{Directive}
use Rattle.acc_batch.specs.declared.entry.Told.TheVariants as told
use Rattle.acc_host.specs.declared.program.Act.{Act}
use Rattle.acc_host.specs.declared.program.Act.TheVariants as act
use Rattle.acc_host.specs.declared.program.Statement.{Statement}
use Rattle.acc_host.specs.declared.state.HostState.TheVariants as state
use Rattle.acc_host.specs.Engines.{HostEntry, Gave, Had}
use Rattle.acc_host.specs.Following.{Follows}
use Rattle.acc_host.specs.Steps.{alone}

abbrev pub directive : ℕ → ℤ → Kind → List DataItem → Target → Waits → Directive
directive device default k items t w = record { device = device; default = default; kind = k; items = items; target = t; waits = w }

abbrev pub at_line : ℕ → Act → Statement
at_line line a = record { line = line; act = a }

-- so many batches on queue `1`, which is queue 3
abbrev pub counts_of : ℕ → List ℕ
counts_of n = alone 3 n

abbrev pub answered : Option (ℕ × ℕ) → List ℕ → Bool → Placed
answered None counts present = record { batch = None; counts = counts; present = present }
answered (Some b) counts present = record { batch = Some (record { device = 0; queue = b.0 }, b.1); counts = counts; present = present }

abbrev pub noval : ℤ
noval = negsuc 0

abbrev pub a_item : List DataItem
a_item = record { clause = clause.Create; range = record { array = 0; lo = 0; len = 1 } } ∷ []

abbrev pub create : ℕ → Directive
create device = directive device noval kind.EnterData a_item (target.Value (pos 1)) waits.Nothing

abbrev pub test : ℕ → Waits → Directive
test device w = directive device noval kind.AsyncTest [] target.Plain w

abbrev pub wait : ℕ → Waits → Directive
wait device w = directive device noval kind.Wait [] target.Plain w

abbrev pub is_present : ℕ → Directive
is_present device = directive device noval kind.IsPresent a_item target.Plain waits.Nothing

-- enter data create(a) async(1); three questions with a wait between; the devices; a question on device 1; device 2, which isn't
-- there
abbrev pub questions : List Statement
questions =
    at_line 3 (act.Place (create 0)) ∷ at_line 4 (act.Place (test 0 (waits.Listed (pos 1 ∷ [])))) ∷ at_line 5 (act.Place (test 0 (waits.Listed (pos 2 ∷ []))))
    ∷ at_line 6 (act.Place (wait 0 (waits.Listed (pos 1 ∷ [])))) ∷ at_line 7 (act.Place (test 0 waits.All)) ∷ at_line 8 (act.SetDevice 1) ∷ at_line 9 act.ShowDevice
    ∷ at_line 10 act.ShowDevices ∷ at_line 11 (act.Place (is_present 0)) ∷ at_line 12 (act.SetDevice 2) ∷ []

abbrev pub asked : List HostEntry
asked =
    Gave (create 0) (answered (Some (3, 1)) (counts_of 0) false)
    ∷ Gave (test 0 (waits.Listed (pos 1 ∷ []))) (answered None (counts_of 1) false) ∷ Had (told.Test 0 false (counts_of 1))
    ∷ Gave (test 0 (waits.Listed (pos 2 ∷ []))) (answered None (counts_of 0) false)
    ∷ Gave (wait 0 (waits.Listed (pos 1 ∷ []))) (answered None (counts_of 1) false) ∷ Had (told.Seen 0 (counts_of 1))
    ∷ Gave (test 0 waits.All) (answered None (counts_of 1) false) ∷ Had (told.Test 0 true (counts_of 1))
    ∷ Gave (is_present 1) (answered None (counts_of 0) false) ∷ []

-- Refused at the last statement, with all others ended.
abbrev pub QuestionsAreAnswered : Type 0
QuestionsAreAnswered = Follows 2 questions (state.Refused 9 12 BadDevice) asked

-- a write, and a synchronous directive whose batch isn't performed yet
abbrev pub sync_create : Directive
sync_create = directive 0 noval kind.EnterData a_item target.Plain waits.Nothing

abbrev pub writes_and_creates : List Statement
writes_and_creates = at_line 1 (act.Write 0 0 (pos 7)) ∷ at_line 2 (act.Place sync_create) ∷ []

abbrev pub waiting : List HostEntry
waiting = Had (told.Write 0 0 (pos 7)) ∷ Gave sync_create (answered (Some (0, 1)) (counts_of 0) false) ∷ []

-- The directive stands behind the statements that have ended, and ends once its batch is seen.
abbrev pub SynchronousIsSeen : Type 0
SynchronousIsSeen =
    Follows 1 writes_and_creates (state.Running 1) waiting
    × Follows 1 writes_and_creates state.Finished (waiting ++ Had (told.Seen 0 (alone 0 1)) ∷ [])

-- with the default async value set, the directive has it
abbrev pub unvalued : ℤ → Directive
unvalued default = directive 0 default kind.EnterData a_item target.Unvalued waits.Nothing

-- A default of acc_async_noval changes nothing, also after another one.
abbrev pub DefaultStays : Type 0
DefaultStays =
    Follows 1 (at_line 1 (act.SetAsync (pos 4)) ∷ at_line 2 (act.SetAsync noval) ∷ at_line 3 (act.Place (unvalued noval)) ∷ []) state.Finished
    (Gave (unvalued (pos 4)) (answered (Some (6, 1)) (counts_of 0) false) ∷ [])
