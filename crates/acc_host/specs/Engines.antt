-- What a host asks of an engine, and what its own list gains by it.
use Rattle.std.specs.Prelude.{◌≡◌, ◌≢◌, ℕ, ℤ, Bool, true, false, List, [], ◌∷◌, ◌++◌, Result, Ok, Err}
use Rattle.acc_base.specs.declared.fault.Fault.{Fault}
use Rattle.acc_place.specs.declared.directive.Placed.{Placed}
use Rattle.acc_place.specs.Directives.{Directive}
use Rattle.acc_work.specs.declared.item.ItemLabel.{ItemLabel}
use Rattle.acc_work.specs.declared.item.ItemLabel.TheVariants as to_record
use Rattle.acc_work.specs.declared.item.Shown.{Shown}
use Rattle.acc_batch.specs.declared.entry.Told.{Told}
use Rattle.acc_batch.specs.declared.entry.Told.TheVariants as told
use Rattle.acc_work.specs.Items.{shown_by}

-- an entry of a host's own list: a directive with its answer, or an item
pub data HostEntry : Type 0 where
  Gave : Directive → Placed → HostEntry
  Had : Told → HostEntry

-- a call that a host makes, with its answer
pub data Call : Type 0 where
  Place : Directive → Result Placed Fault → Call
  Wait : ℕ → List ℕ → Result Bool Fault → Call
  Record : ItemLabel → Result Shown Fault → Call

-- What an item tells: a print some values, a test some answer.
abbrev pub MayTell : ItemLabel → Told → Type 0
MayTell (to_record.Write array cell value) what = what ≡ told.Write array cell value
MayTell (to_record.Print range) what = (values : List ℤ) × (what ≡ told.Print range values)
MayTell (to_record.Seen device counts) what = what ≡ told.Seen device counts
MayTell (to_record.Test device counts) what = (answer : Bool) × (what ≡ told.Test device answer counts)

-- The list has one more entry.
abbrev pub Gains : HostEntry → List HostEntry → List HostEntry → Type 0
Gains e old new = new ≡ old ++ e ∷ []

-- What a call leaves of the list.
abbrev pub Lists : Call → List HostEntry → List HostEntry → Type 0
Lists (Place d (Ok placed)) old new = Gains (Gave d placed) old new
Lists (Place d (Err fault)) old new = new ≡ old
Lists (Wait device counts (Ok true)) old new = Gains (Had (told.Seen device counts)) old new
Lists (Wait device counts (Ok false)) old new = new ≡ old
Lists (Wait device counts (Err fault)) old new = new ≡ old
Lists (Record item (Ok answer)) old new = (what : Told) × MayTell item what × (answer ≡ shown_by what) × Gains (Had what) old new
Lists (Record item (Err fault)) old new = new ≡ old

abbrev pub without_item : Result Shown (ItemLabel × Fault) → Result Shown Fault
without_item (Ok answer) = Ok answer
without_item (Err refused) = Err refused.1

-- What a call of a host keeps, whatever its answer: how many devices there are, which hosts are served, and the lists of
-- the other hosts.
pub record Keeps {S : Type 0} (devices : S → ℕ) (serves : S → ℕ → Type 0) (entries : S → ℕ → List HostEntry) (host : ℕ) (old new : S) : Type 0 where
  pub same_devices : devices new ≡ devices old
  pub still_serves : (k : ℕ) → serves old k → serves new k
  pub others : (k : ℕ) → k ≢ host → entries new k ≡ entries old k

-- Every item but a Seen, which only a wait records.
abbrev pub MayRecord : ItemLabel → Type 0
MayRecord (to_record.Write array cell value) = Unit {0}
MayRecord (to_record.Print range) = Unit {0}
MayRecord (to_record.Seen device counts) = ⊥
MayRecord (to_record.Test device counts) = Unit {0}
