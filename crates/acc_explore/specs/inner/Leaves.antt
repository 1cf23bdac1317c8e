-- Numbers of the leaves of a search, and what is told of them. Only private contracts and proofs cite it.
use Rattle.std.specs.Prelude.{◌⊎◌, ◌≤◌, ◌<◌, ℕ, List, map, take, All, Contains}
use Rattle.acc_report.specs.Puts.{Puts, Sink}
use Rattle.acc_explore.specs.Arrivals.{events_to}
use Rattle.acc_explore.specs.declared.arrival.Arrival.{Arrival}
use Rattle.acc_explore.specs.Prefixes.{prefixes_text}

-- The numbers are the old ones, and all from that of the first leaf on, below the number of states.
pub record HaveLeaves (first states : ℕ) (old new : List ℕ) : Type 0 where
  pub kept : (n : ℕ) → Contains old n → Contains new n
  pub leaves : (n : ℕ) → first ≤ n → n < states → Contains new n
  pub each : All (λ (n : ℕ). Contains old n ⊎ ((first ≤ n) × (n < states))) new

-- The events to the first of these states were told as prefixes.
abbrev pub TellsFirstPrefixes : List ℕ → List Arrival → List ℕ → Sink → Sink → Type 0
TellsFirstPrefixes schedule arrivals numbers old new = (n : ℕ) × Puts old new (prefixes_text schedule 1 (map (events_to arrivals) (take n numbers)))
