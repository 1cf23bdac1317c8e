-- An exploration that follows one event alone where this event may go first.
use Rattle.std.specs.Prelude.{◌≡◌, ◌⊎◌, ◌<◌, ◌+◌, ℕ, Bool, false, List, length, All, IsTrue}
use Rattle.acc_core.specs.Legality.{IsLegalState}
use Rattle.acc_core.specs.Machine.{State, step}
use Rattle.acc_explore.specs.Alike.{Alike}
use Rattle.acc_explore.specs.Explorations.{FollowsAll, Found, HoldsAlike, IsEnd, IsLedTo, TellsEnd}
use Rattle.acc_explore.specs.Runs.{MayCome, after, report_of}
use Rattle.acc_host.specs.declared.event.Event.{Event}
use Rattle.acc_host.specs.declared.program.HostProgram.{HostProgram}
use Rattle.acc_host.specs.declared.state.Reply.TheVariants as reply

-- Behind an event, fewer events than these lead to what they lead to.
pub record LeadsSooner (closing : Bool) (w : State) (e : Event) (events : List Event) : Type 0 where
  pub rest : List Event
  pub may : All (MayCome closing) rest
  pub fewer : length rest < length events
  pub alike : Alike (after (step false w e).state rest) (after w events)

-- An event may go first: whatever leads to an end does so behind it, with fewer events.
abbrev pub MayGoFirst : Bool → State → Event → Type 0
MayGoFirst closing w e =
    (events : List Event) → All (MayCome closing) events → IsEnd (after w events) → LeadsSooner closing w e events

-- One event of a state that may go first leads to what is like one of these.
pub record FollowsOne (closing : Bool) (found : List Found) (f : Found) : Type 0 where
  pub event : Event
  pub first : MayGoFirst closing f.state event
  pub leads : HoldsAlike (f.depth + 1) found (step false f.state event).state

-- One event of a state that may go first is followed, or each that can do something.
abbrev pub FollowsEnough : Bool → List Found → Found → Type 0
FollowsEnough closing found f = FollowsOne closing found f ⊎ FollowsAll closing found f

-- What is found of a state in part: as in an exploration, where of some that are found one event is followed alone.
pub record IsReduced (closing : Bool) (start : State) (found : List Found) : Type 0 where
  pub first : HoldsAlike 0 found start
  pub reached : All (IsLedTo closing start) found
  pub follows : All (FollowsEnough closing found) found

-- No report of an end is missed, and none is found later.
abbrev pub ReducedMissesNone : Type 0
ReducedMissesNone =
    (closing : Bool) (names : List (List ℕ)) (programs : List HostProgram) (start : State) (found : List Found)
    → IsLegalState start → IsReduced closing start found
    → (events : List Event) → All (MayCome closing) events → IsEnd (after start events)
    → TellsEnd names programs (length events) found (report_of names programs (after start events))

-- Where a test holds, the event is still to come, and each other event can't come yet, or keeps the test and may as well come behind it.
pub record Commutes (closing : Bool) (test : State → Bool) (e : Event) : Type 0 where
  pub kept : (w : State) (x : Event) → IsLegalState w → IsTrue (test w) → MayCome closing x
      → (x ≡ e) ⊎ ((step false w x).reply ≡ reply.Idle)
      ⊎ (IsTrue (test (step false w x).state) × Alike (step false (step false w e).state x).state (step false (step false w x).state e).state)
  pub waits : (w : State) → IsLegalState w → IsTrue (test w) → IsEnd w → ⊥

-- Such an event may go first.
abbrev pub CommutingGoesFirst : Type 0
CommutingGoesFirst =
    (closing : Bool) (test : State → Bool) (e : Event) → Commutes closing test e
    → (w : State) → IsLegalState w → IsTrue (test w) → MayGoFirst closing w e
