-- How a host's list follows its program: its directives with their answers, and its items.
use Rattle.std.specs.Prelude.{◌≡◌, ◌⊎◌, ℕ, zero, suc, ◌<◌, IsTrue, List, [], ◌∷◌, ◌++◌, length, slice_get, Option, Some, None, ℤ, Bool}
use Rattle.acc_place.specs.declared.directive.Placed.{Placed}
use Rattle.acc_batch.specs.declared.entry.Told.TheVariants as told
use Rattle.acc_host.specs.declared.program.Act.{Act}
use Rattle.acc_host.specs.declared.program.Act.TheVariants as act
use Rattle.acc_host.specs.Engines.{HostEntry, Gave, Had}
use Rattle.acc_host.specs.declared.state.HostState.{HostState}
use Rattle.acc_host.specs.declared.state.HostState.TheVariants as state
use Rattle.acc_host.specs.declared.state.Ids.{Ids}
use Rattle.acc_host.specs.declared.state.Phase.{Phase}
use Rattle.acc_host.specs.declared.state.Phase.TheVariants as phase
use Rattle.acc_host.specs.declared.program.Statement.{Statement}
use Rattle.acc_host.specs.Hosts.{HostView}
use Rattle.acc_host.specs.Steps.{Owed, nothing_owed, owes_seen, owes_test, owed_by, with_ids, first_ids, ids_after, is_async}

-- The items that settle what a host owes.
abbrev pub Settles : Owed → List HostEntry → Type 0
Settles nothing_owed list = list ≡ []
Settles (owes_seen device counts) list = list ≡ Had (told.Seen device counts) ∷ []
Settles (owes_test device counts) list = (answer : Bool) × (list ≡ Had (told.Test device answer counts) ∷ [])

-- The entries of one statement that has ended, where there are so many devices and the host has these ids.
abbrev pub Ends : ℕ → Ids → Act → List HostEntry → Type 0
Ends devices ids (act.Place d) list =
    (placed : Placed) × (items : List HostEntry)
    × (list ≡ Gave (with_ids ids d) placed ∷ items) × Settles (owed_by (with_ids ids d) placed) items
Ends devices ids (act.Write array cell value) list = list ≡ Had (told.Write array cell value) ∷ []
Ends devices ids (act.Print range) list = (values : List ℤ) × (list ≡ Had (told.Print range values) ∷ [])
Ends devices ids (act.SetDevice n) list = (n < devices) × (list ≡ [])
Ends devices ids (act.SetAsync v) list = IsTrue (is_async v) × (list ≡ [])
Ends devices ids act.ShowDevice list = list ≡ []
Ends devices ids act.ShowDevices list = list ≡ []

-- The entries are those of the first statements, as many as have ended, one statement behind the other.
abbrev pub Ended : ℕ → Ids → ℕ → List Statement → List HostEntry → Type 0
Ended devices ids zero statements list = list ≡ []
Ended devices ids (suc ended) [] list = ⊥
Ended devices ids (suc ended) (s ∷ statements) list =
    (first : List HostEntry) × (later : List HostEntry)
    × (list ≡ first ++ later) × Ends devices ids s.act first × Ended devices (ids_after s.act ids) ended statements later

-- the ids that a host has behind the first statements
abbrev pub ids_behind : Ids → ℕ → List Statement → Ids
ids_behind ids zero statements = ids
ids_behind ids (suc ended) [] = ids
ids_behind ids (suc ended) (s ∷ statements) = ids_behind (ids_after s.act ids) ended statements

-- A directive stands there with its answer, and its second step isn't made.
abbrev pub Begun : Ids → Act → List HostEntry → Type 0
Begun ids (act.Place d) list =
    (placed : Placed) × (list ≡ Gave (with_ids ids d) placed ∷ []) × (owed_by (with_ids ids d) placed ≡ nothing_owed → ⊥)
Begun ids (act.Write array cell value) list = ⊥
Begun ids (act.Print range) list = ⊥
Begun ids (act.SetDevice n) list = ⊥
Begun ids (act.SetAsync v) list = ⊥
Begun ids act.ShowDevice list = ⊥
Begun ids act.ShowDevices list = ⊥

-- Behind the statements that have ended, the next one stands with nothing, or is begun.
abbrev pub Begins : Ids → Option Statement → List HostEntry → Type 0
Begins ids None list = ⊥
Begins ids (Some s) list = (list ≡ []) ⊎ Begun ids s.act list

-- The list is that of the first statements, and of the next one as far as it has come.
pub record Comes (devices : ℕ) (statements : List Statement) (ended : ℕ) (list : List HostEntry) : Type 0 where
  pub past : List HostEntry
  pub behind : List HostEntry
  pub parts : list ≡ past ++ behind
  pub ends : Ended devices first_ids ended statements past
  pub begins : Begins (ids_behind first_ids ended statements) (slice_get statements ended) behind

abbrev pub HasLine : Option Statement → ℕ → Type 0
HasLine None line = ⊥
HasLine (Some s) line = s.line ≡ line

-- A host's list follows its program as far as the host's state says.
abbrev pub Follows : ℕ → List Statement → HostState → List HostEntry → Type 0
Follows devices statements state.Finished list = Ended devices first_ids (length statements) statements list
Follows devices statements (state.Running ended) list = Comes devices statements ended list
Follows devices statements (state.Refused ended line fault) list =
    Comes devices statements ended list × HasLine (slice_get statements ended) line

-- A statement whose second step is owed, by what the host does next.
abbrev pub OwesFor : Ids → Act → Owed → List HostEntry → Type 0
OwesFor ids (act.Place d) owed behind =
    (placed : Placed) × (behind ≡ Gave (with_ids ids d) placed ∷ []) × (owed_by (with_ids ids d) placed ≡ owed)
OwesFor ids (act.Write array cell value) owed behind = ⊥
OwesFor ids (act.Print range) owed behind = ⊥
OwesFor ids (act.SetDevice n) owed behind = ⊥
OwesFor ids (act.SetAsync v) owed behind = ⊥
OwesFor ids act.ShowDevice owed behind = ⊥
OwesFor ids act.ShowDevices owed behind = ⊥

abbrev pub Owes : Ids → Option Statement → Owed → List HostEntry → Type 0
Owes ids None owed behind = ⊥
Owes ids (Some s) owed behind = OwesFor ids s.act owed behind

-- What stands behind the statements that have ended, by what the host does next.
abbrev pub Behind : Ids → Phase → Option Statement → List HostEntry → Type 0
Behind ids phase.Ready next behind = behind ≡ []
Behind ids (phase.Waits device counts) next behind = Owes ids next (owes_seen device counts) behind
Behind ids (phase.Asks device counts) next behind = Owes ids next (owes_test device counts) behind
Behind ids (phase.Refused fault) next behind = Begins ids next behind

-- Where a host stands in its program between two steps, with this list.
pub record Stands (devices : ℕ) (host : HostView) (list : List HostEntry) : Type 0 where
  pub past : List HostEntry
  pub behind : List HostEntry
  pub parts : list ≡ past ++ behind
  pub ends : Ended devices first_ids host.ended host.statements past
  pub ids : host.ids ≡ ids_behind first_ids host.ended host.statements
  pub next : Behind host.ids host.phase (slice_get host.statements host.ended) behind
