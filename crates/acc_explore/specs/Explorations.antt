-- An exploration: states that hold all that a state can lead to, as soon as it can.
use Rattle.std.specs.Prelude.{◌≡◌, ◌≤◌, ◌+◌, ℕ, Bool, false, List, length, All, Contains}
use Rattle.acc_core.specs.Legality.{IsLegalState}
use Rattle.acc_core.specs.Machine.{State, step}
use Rattle.acc_explore.specs.Alike.{Alike}
use Rattle.acc_explore.specs.Runs.{MayCome, after, open_events, report_of}
use Rattle.acc_host.specs.declared.event.Event.{Event}
use Rattle.acc_host.specs.declared.program.HostProgram.{HostProgram}
use Rattle.acc_host.specs.declared.state.Reply.TheVariants as reply

-- A state that was found, and how many events led to it.
pub record Found : Type 0 where
  pub state : State
  pub depth : ℕ

-- Some events lead to it from the start, and so many.
pub record IsLedTo (closing : Bool) (start : State) (f : Found) : Type 0 where
  pub events : List Event
  pub may : All (MayCome closing) events
  pub count : length events ≡ f.depth
  pub there : after start events ≡ f.state

-- One of these is like a state, and was found within so many events.
pub record HoldsAlike (limit : ℕ) (found : List Found) (w : State) : Type 0 where
  pub one : Found
  pub listed : Contains found one
  pub soon : one.depth ≤ limit
  pub alike : Alike one.state w

-- Each event of a state that can do something leads to what is like one of these, found within one event more.
abbrev pub FollowsAll : Bool → List Found → Found → Type 0
FollowsAll closing found f =
    All (λ (e : Event). HoldsAlike (f.depth + 1) found (step false f.state e).state) (open_events closing f.state)

-- What is found of a state: it is one of these at once, each of them is reached from it, and each leads to others of them alone.
pub record IsExplored (closing : Bool) (start : State) (found : List Found) : Type 0 where
  pub first : HoldsAlike 0 found start
  pub reached : All (IsLedTo closing start) found
  pub closed : All (FollowsAll closing found) found

-- No host and no queue can go on.
abbrev pub IsEnd : State → Type 0
IsEnd w = (e : Event) → MayCome false e → (step false w e).reply ≡ reply.Idle

-- It suffices that those that are there can't.
abbrev pub IdleIsEnd : Type 0
IdleIsEnd = (w : State) → All (λ (e : Event). (step false w e).reply ≡ reply.Idle) (open_events false w) → IsEnd w

-- A text is the report of one of these, which is an end, and was found within so many events.
pub record TellsEnd (names : List (List ℕ)) (programs : List HostProgram) (limit : ℕ) (found : List Found) (text : List ℕ) : Type 0 where
  pub one : Found
  pub listed : Contains found one
  pub soon : one.depth ≤ limit
  pub ends : IsEnd one.state
  pub text_is : text ≡ report_of names programs one.state

-- Whatever events come, what they lead to is like one that is found, which no more events led to.
abbrev pub NothingIsMissed : Type 0
NothingIsMissed =
    (closing : Bool) (start : State) (found : List Found) → IsLegalState start → IsExplored closing start found
    → (events : List Event) → All (MayCome closing) events → HoldsAlike (length events) found (after start events)

-- Whatever events lead to an end, its report is that of an end that is found, which no more events led to.
abbrev pub NoReportIsMissed : Type 0
NoReportIsMissed =
    (closing : Bool) (names : List (List ℕ)) (programs : List HostProgram) (start : State) (found : List Found)
    → IsLegalState start → IsExplored closing start found
    → (events : List Event) → All (MayCome closing) events → IsEnd (after start events)
    → TellsEnd names programs (length events) found (report_of names programs (after start events))
