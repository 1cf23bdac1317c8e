-- What the nodes become once a borrow of one has ended.
use Rattle.std.specs.Prelude.{ℕ, List, slice_set}
use Rattle.std.specs.Borrow.{Fml, RattleType, MutBor, Lends}
use denote.RawPtr.{Ptr}
use Rattle.acc_raw.specs.inner.Links.{Lying}
use Rattle.acc_raw.specs.declared.store.Store.{Store}
use Rattle.acc_raw.specs.contracts.store.Store.{the_row}

abbrev pub with_links : {L : Type 0} → Store L → List (Lying L) → Store L
with_links s ls = record { mark = s.mark; links = ls }

-- the i-th node, which lies at p, ends as the last value written through r
abbrev pub lends_link : (R : RattleType) → MutBor (Store R.Denot) → ℕ → Ptr → MutBor R.Denot → Fml
lends_link R s i p r = Lends (the_row R) R s r (λ w. with_links s.now (slice_set s.now.links i (p, w)))
