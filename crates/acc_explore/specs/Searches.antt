-- What a search finds.
use Rattle.std.specs.Prelude.{◌≡◌, ◌≤◌, ◌<◌, ◌+◌, ℕ, Bool, false, IsTrue, List, [], ◌∷◌, length, drop, All, Contains}
use Rattle.acc_core.specs.Machine.{State}
use Rattle.acc_explore.specs.Arrivals.{found_at, found_by}
use Rattle.acc_explore.specs.Cuts.{IsCut}
use Rattle.acc_explore.specs.declared.arrival.Arrival.{Arrival}
use Rattle.acc_explore.specs.Explorations.{Found, IsEnd}
use Rattle.acc_explore.specs.Runs.{open_events}

-- Those with these numbers come by depth: none is found later than the ones behind it.
abbrev pub ComeByDepth : State → List Arrival → List ℕ → Type 0
ComeByDepth start arrivals [] = Unit {0}
ComeByDepth start arrivals (n ∷ ends) =
    All (λ (m : ℕ). (found_at start arrivals n).depth ≤ (found_at start arrivals m).depth) ends × ComeByDepth start arrivals ends

-- those behind so many
abbrev pub leaves_of : State → List Arrival → ℕ → List Found
leaves_of start arrivals followed = drop followed (found_by start arrivals)

-- What a search finds that keeps so many states at most behind the start, none deeper than the deepest, which it doesn't follow: how they are found, the latest
-- first, the numbers of ends among those that were followed, and how many these are. The others are leaves; from them and those ends none
-- is missed. Where it is whole, all leaves are the deepest; else as many states were found as may be.
pub record IsSearch (closing : Bool) (most deepest : ℕ) (start : State) (arrivals : List Arrival) (numbers : List ℕ) (followed : ℕ) (is_whole : Bool) : Type 0 where
  pub events : All (λ (a : Arrival). Contains (open_events closing start) a.by) arrivals
  pub few : length arrivals ≤ most
  pub there : followed ≤ length arrivals + 1
  pub ends : All (λ (n : ℕ). (n ≤ length arrivals) × IsEnd (found_at start arrivals n).state) numbers
  pub by_depth : ComeByDepth start arrivals numbers
  pub cut : IsCut closing (leaves_of start arrivals followed) start (found_by start arrivals)
  pub deep : IsTrue is_whole → (n : ℕ) → followed ≤ n → n ≤ length arrivals → deepest ≤ (found_at start arrivals n).depth
  pub shallow : (n : ℕ) → n ≤ length arrivals → (found_at start arrivals n).depth ≤ deepest
  pub stopped : is_whole ≡ false → length arrivals ≡ most
  pub every_end : (n : ℕ) → n < followed → IsEnd (found_at start arrivals n).state → Contains numbers n
