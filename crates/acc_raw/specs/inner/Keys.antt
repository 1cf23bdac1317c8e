-- What a search by keys finds.
use Rattle.std.specs.Prelude.{◌≡◌, ℕ, ◌≤◌, Bool, ◌==◌, nat_lt, List, length}
use Rattle.acc_raw.specs.inner.Links.{Placed}
use Rattle.acc_raw.specs.inner.Wired.{place_at}
use Rattle.acc_raw.specs.declared.keyed.Aim.{Aim}
use Rattle.acc_raw.specs.declared.keyed.Aim.TheVariants.{Equal, Above}
use Rattle.acc_raw.specs.declared.keyed.Sought.{Sought}

-- the key is the one that is sought
abbrev pub meets : Aim → ℕ → Bool
meets (Equal k) key = key == k
meets (Above k) key = nat_lt k key

-- a number within the chain, with the place there
abbrev pub IsSought : {X : Type 0} → List (Placed X) → Sought → Type 0
IsSought ps s = (s.at ≡ place_at ps s.index.n) × (s.index.n ≤ length ps)
