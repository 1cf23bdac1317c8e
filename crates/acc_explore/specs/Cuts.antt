-- An exploration that is cut, at a depth or anywhere, and what is left to explore from there.
use Rattle.std.specs.Prelude.{◌≡◌, ◌⊎◌, ◌≤◌, ◌+◌, ℕ, Bool, List, [], length, All, Contains}
use Rattle.acc_core.specs.Legality.{IsLegalState}
use Rattle.acc_core.specs.Machine.{State}
use Rattle.acc_explore.specs.Alike.{Alike}
use Rattle.acc_explore.specs.Explorations.{Found, HoldsAlike, IsEnd, IsLedTo}
use Rattle.acc_explore.specs.Reductions.{FollowsEnough}
use Rattle.acc_explore.specs.Runs.{MayCome, after}
use Rattle.acc_host.specs.declared.event.Event.{Event}

-- Enough events are followed of a state, or it is one of the leaves.
abbrev pub FollowsOrLeaves : Bool → List Found → List Found → Found → Type 0
FollowsOrLeaves closing leaves found f = FollowsEnough closing found f ⊎ Contains leaves f

-- What is found of a state, but for what only leaves lead to: as in a reduced exploration, of which leaves need not be followed.
pub record IsCut (closing : Bool) (leaves : List Found) (start : State) (found : List Found) : Type 0 where
  pub first : HoldsAlike 0 found start
  pub reached : All (IsLedTo closing start) found
  pub follows : All (FollowsOrLeaves closing leaves found) found

-- From one of the states that were found, which is a leaf unless it is the end itself, events go on to what is like an end; they and those
-- that led to the one are no more than the limit.
pub record GoesOnToEnd (closing : Bool) (leaves : List Found) (limit : ℕ) (found : List Found) (w : State) : Type 0 where
  pub one : Found
  pub listed : Contains found one
  pub rest : List Event
  pub may : All (MayCome closing) rest
  pub leaf : (rest ≡ []) ⊎ Contains leaves one
  pub soon : one.depth + length rest ≤ limit
  pub ends : IsEnd (after one.state rest)
  pub alike : Alike (after one.state rest) w

-- Whatever events lead to an end, one of the states goes on to it, with no more events: that of the end, or a leaf. Leaves may be all that
-- are so deep.
abbrev pub CutMissesNone : Type 0
CutMissesNone =
    (closing : Bool) (leaves : List Found) (start : State) (found : List Found) → IsLegalState start → IsCut closing leaves start found
    → (events : List Event) → All (MayCome closing) events → IsEnd (after start events)
    → GoesOnToEnd closing leaves (length events) found (after start events)
