-- What a search keeps while it runs. Only private contracts and proofs cite it. Arrivals come with the latest first.
use Rattle.std.specs.Prelude.{◌≡◌, ◌≢◌, ◌⊎◌, ◌≤◌, ◌<◌, ◌+◌, ℕ, Bool, false, List, [], ◌∷◌, ◌++◌, length, reverse, All, Contains, Option, IfSome}
use Rattle.acc_core.specs.Machine.{State, idle, step}
use Rattle.acc_core.specs.Worlds.{first_state}
use Rattle.acc_explore.specs.Alike.{Alike}
use Rattle.acc_explore.specs.Arrivals.{found_at, found_by}
use Rattle.acc_explore.specs.declared.arrival.Arrival.{Arrival}
use Rattle.acc_explore.specs.declared.search.Course.{Course}
use Rattle.acc_explore.specs.declared.search.Course.TheVariants.{Idle, Led, Full}
use Rattle.acc_explore.specs.declared.task.Task.{Task}
use Rattle.acc_explore.specs.declared.worlds.Kept.{Kept}
use Rattle.acc_explore.specs.Explorations.{HoldsAlike, IsEnd}
use Rattle.acc_explore.specs.Reductions.{FollowsEnough}
use Rattle.acc_explore.specs.Runs.{after, closing_events, open_events, events_of_hosts, events_of_queues}
use Rattle.acc_host.specs.declared.event.Event.{Event}
use Rattle.acc_host.specs.declared.event.Event.TheVariants as event
use Rattle.acc_host.specs.declared.state.Reply.TheVariants as reply

-- the state with which a search begins
abbrev pub start_of : Task → State
start_of t = after (first_state t.config.now t.programs.now) t.before.now

-- the events of so many hosts and queues, in their order, then the owner's close
abbrev pub events_in_turn : Bool → ℕ → ℕ → List Event
events_in_turn closing hosts queues = reverse (events_of_hosts hosts) ++ reverse (events_of_queues queues) ++ closing_events closing

-- One of those that were found is like a state.
pub record IsLikeOne (start : State) (arrivals : List Arrival) (w : State) : Type 0 where
  pub number : ℕ
  pub there : number ≤ length arrivals
  pub alike : Alike (found_at start arrivals number).state w

-- A state is like one that was found, or it is found now, and there was room for it.
abbrev pub IsNoted : ℕ → State → List Arrival → List Arrival → Arrival → State → Type 0
IsNoted most start old new a w = ((new ≡ old) × IsLikeOne start old w) ⊎ ((new ≡ a ∷ old) × (length old < most))

-- What comes of an event of the state with a number.
abbrev pub Takes : ℕ → State → List Arrival → List Arrival → ℕ → State → Event → Course → Type 0
Takes most start old new number w e Idle = (step false w e ≡ idle w) × (new ≡ old)
Takes most start old new number w e Led =
    ((step false w e).reply ≢ reply.Idle) × IsNoted most start old new (record { from = number; by = e }) (step false w e).state
Takes most start old new number w e Full = (new ≡ old) × (most ≤ length old)

-- The world at hand, if there is one, is that of the state with a number.
abbrev pub IsHere : State → List Arrival → ℕ → Option State → Type 0
IsHere start arrivals number at_hand = IfSome at_hand (λ w. w ≡ (found_at start arrivals number).state)

-- A world that is kept is that of the state with its number.
abbrev pub IsWorldOf : State → List Arrival → Kept → Type 0
IsWorldOf start arrivals kept = (kept.number ≤ length arrivals) × (kept.world ≡ (found_at start arrivals kept.number).state)

abbrev pub AreAtHand : State → List Arrival → List (Option Kept) → Type 0
AreAtHand start arrivals seats = All (λ (seat : Option Kept). IfSome seat (IsWorldOf start arrivals)) seats

-- It leaves its state an end: it is the owner's, or did nothing.
abbrev pub LeavesEnd : Course → Event → Type 0
LeavesEnd Idle e = Unit {0}
LeavesEnd Led e = e ≡ event.Close
LeavesEnd Full e = e ≡ event.Close

-- Each that is found by now is one deeper at most than the one with a number was.
abbrev pub AreNear : State → List Arrival → List Arrival → ℕ → Type 0
AreNear start old new number = (n : ℕ) → n ≤ length new → (found_at start new n).depth ≤ (found_at start old number).depth + 1

-- They rise.
abbrev pub AreRising : List ℕ → Type 0
AreRising [] = Unit {0}
AreRising (n ∷ numbers) = All (λ (m : ℕ). n ≤ m) numbers × AreRising numbers

-- How far a search has come: of each state before the next one enough events are followed, and these of the next one.
pub record IsFollowed (closing : Bool) (most : ℕ) (start : State) (arrivals : List Arrival) (numbers : List ℕ) (next : ℕ) (done : List Event) : Type 0 where
  pub events : All (λ (a : Arrival). Contains (open_events closing start) a.by) arrivals
  pub few : length arrivals ≤ most
  pub there : next ≤ length arrivals + 1
  -- no state is found before one that is less deep, and those that are found behind the next one are one deeper at most
  pub by_depth : (i j : ℕ) → i ≤ j → j ≤ length arrivals → (found_at start arrivals i).depth ≤ (found_at start arrivals j).depth
  pub near : (n : ℕ) → next ≤ length arrivals → n ≤ length arrivals → (found_at start arrivals n).depth ≤ (found_at start arrivals next).depth + 1
  pub before : (n : ℕ) → n < next → FollowsEnough closing (found_by start arrivals) (found_at start arrivals n)
  pub these : All (λ (e : Event). HoldsAlike ((found_at start arrivals next).depth + 1) (found_by start arrivals) (step false (found_at start arrivals next).state e).state) done
  pub ends : All (λ (n : ℕ). (n < next) × IsEnd (found_at start arrivals n).state) numbers
  pub every_end : (n : ℕ) → n < next → IsEnd (found_at start arrivals n).state → Contains numbers n
  pub rising : AreRising numbers
