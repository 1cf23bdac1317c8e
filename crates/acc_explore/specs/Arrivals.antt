-- States that are found one behind another.
use Rattle.std.specs.Prelude.{◌≡◌, ℕ, ◌+◌, ◌==◌, Bool, false, List, [], ◌∷◌, ◌++◌, length, All, slice_index_or, if◌then◌else◌}
use Rattle.acc_core.specs.Machine.{State, step}
use Rattle.acc_explore.specs.declared.arrival.Arrival.{Arrival}
use Rattle.acc_explore.specs.Explorations.{Found, IsLedTo}
use Rattle.acc_explore.specs.Runs.{MayCome, after}
use Rattle.acc_host.specs.declared.event.Event.{Event}

-- the start is found at once
abbrev pub at_once : State → Found
at_once start = record { state = start; depth = 0 }

-- what an event leads to
abbrev pub found_behind : Found → Arrival → Found
found_behind f a = record { state = (step false f.state a.by).state; depth = f.depth + 1 }

-- The start, and behind it what arrivals lead to, of which the latest comes first.
abbrev pub found_by : State → List Arrival → List Found
found_by start [] = at_once start ∷ []
found_by start (a ∷ before) =
    found_by start before ++ found_behind (slice_index_or (found_by start before) a.from (at_once start)) a ∷ []

-- the one with a number, from 0; the start where there is none
abbrev pub found_at : State → List Arrival → ℕ → Found
found_at start arrivals n = slice_index_or (found_by start arrivals) n (at_once start)

-- the events that lead to it
abbrev pub events_to : List Arrival → ℕ → List Event
events_to [] n = []
events_to (a ∷ before) n = if n == length before + 1 then events_to before a.from ++ a.by ∷ [] else events_to before n

-- They do, and they are as many as it is deep.
abbrev pub EventsLeadThere : Type 0
EventsLeadThere =
    (start : State) (arrivals : List Arrival) (n : ℕ)
    → (after start (events_to arrivals n) ≡ (found_at start arrivals n).state) × (length (events_to arrivals n) ≡ (found_at start arrivals n).depth)

-- All that is found so is reached.
abbrev pub ArrivalsAreReached : Type 0
ArrivalsAreReached =
    (closing : Bool) (start : State) (arrivals : List Arrival) → All (λ (a : Arrival). MayCome closing a.by) arrivals
    → All (IsLedTo closing start) (found_by start arrivals)
