-- The calls of a host in a thread of its own, and how it goes.
use Rattle.std.specs.Prelude.{◌≡◌, ℕ, Bool, List, [], ◌++◌, map, Ok, Err, ◌==◌, if◌then◌else◌}
use Rattle.acc_base.specs.declared.fault.Fault.{Fault}
use Rattle.acc_base.specs.declared.fault.Fault.TheVariants as fault
use Rattle.acc_host.specs.Engines.{HostEntry, Call, Place, Wait, Record}
use Rattle.acc_host.specs.Following.{Follows}
use Rattle.acc_host.specs.Hosts.{HostView, state_of}
use Rattle.acc_host.specs.declared.state.HostState.{HostState}
use Rattle.acc_host.specs.declared.state.HostState.TheVariants as state
use Rattle.acc_work.specs.declared.item.ItemLabel.{ItemLabel}
use Rattle.acc_work.specs.declared.item.ItemLabel.TheVariants as to_record
use Rattle.acc_work.specs.declared.item.Shown.{Shown}
use Rattle.acc_work.specs.declared.item.Shown.TheVariants as shown
use Rattle.acc_run.specs.declared.token.TokenEntry.{TokenEntry}
use Rattle.acc_run.specs.Tokens.{listed_entry}

-- A test is answered, and any other item gets nothing back.
abbrev pub IsAnswerTo : ItemLabel → Shown → Type 0
IsAnswerTo (to_record.Write array cell value) got = got ≡ shown.Nothing
IsAnswerTo (to_record.Print range) got = got ≡ shown.Nothing
IsAnswerTo (to_record.Seen device counts) got = got ≡ shown.Nothing
IsAnswerTo (to_record.Test device counts) got = (answer : Bool) × (got ≡ shown.Answer answer)

-- The fault isn't that of a full queue.
abbrev pub IsNotFull : Fault → Type 0
IsNotFull fault.QueueFull = ⊥
IsNotFull f = Unit {0}

-- A host has stopped: it has finished, or was refused, and not for a full queue.
abbrev pub HasStopped : HostState → Type 0
HasStopped (state.Running ended) = ⊥
HasStopped state.Finished = Unit {0}
HasStopped (state.Refused ended line f) = IsNotFull f

-- How a host has gone: it is the same host with its own program, and has stopped; its token's list begins with what it was, and has
-- gained what the program gives as far as the host's state says.
pub record Went (devices : ℕ) (host : HostView) (entries : List TokenEntry) (after : HostView) (longer : List TokenEntry) : Type 0 where
  pub same_host : after.host ≡ host.host
  pub same_program : after.statements ≡ host.statements
  pub stopped : HasStopped (state_of after)
  pub list : List TokenEntry
  pub gained : longer ≡ entries ++ list
  pub follows : Follows devices host.statements (state_of after) (map listed_entry list)

-- A host that calls a runtime: how many devices there are, and the host and the entries of its token.
pub record CallingView : Type 0 where
  pub devices : ℕ
  pub host : ℕ
  pub entries : List TokenEntry

-- the entries of a host, if it is the one that calls
abbrev pub listed : CallingView → ℕ → List HostEntry
listed c host = if c.host == host then map listed_entry c.entries else []

-- A call isn't refused for a full queue.
abbrev pub IsTriedAgain : Call → Type 0
IsTriedAgain (Place d (Ok placed)) = Unit {0}
IsTriedAgain (Place d (Err f)) = IsNotFull f
IsTriedAgain (Wait device counts (Ok seen)) = Unit {0}
IsTriedAgain (Wait device counts (Err f)) = IsNotFull f
IsTriedAgain (Record item (Ok answer)) = Unit {0}
IsTriedAgain (Record item (Err f)) = IsNotFull f

-- The second list begins with the first.
abbrev pub BeginsWith : List TokenEntry → List TokenEntry → Type 0
BeginsWith old new = (more : List TokenEntry) × (new ≡ old ++ more)

-- A call is tried again while its queue is full, and then the list begins with what it was.
abbrev pub IsCalled : CallingView → Call → CallingView → Type 0
IsCalled old call new = IsTriedAgain call × BeginsWith old.entries new.entries
