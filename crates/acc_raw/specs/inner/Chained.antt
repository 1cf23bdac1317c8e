-- Linked nodes as a whole.
use Rattle.std.specs.Prelude.{◌≡◌, ℕ, ◌≤◌, Option, length}
use Rattle.acc_raw.specs.inner.Wired.{IsWiredChain, place_at}
use Rattle.acc_raw.specs.declared.chained.Chained.{Chained}
use Rattle.acc_raw.specs.declared.link.Place.{Place}

-- both ends are known, and each node names its neighbours
abbrev pub IsChained : {X : Type 0} → Chained X → Type 0
IsChained c = IsWiredChain c.head c.tail c.store.links

-- a way through the nodes stands at the n-th, or behind all
abbrev pub IsCursor : {X : Type 0} → Chained X → Option Place → ℕ → Type 0
IsCursor c at n = IsChained c × (at ≡ place_at c.store.links n) × (n ≤ length c.store.links)
