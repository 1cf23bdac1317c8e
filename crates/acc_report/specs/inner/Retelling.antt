-- A place history told once more, entry by entry. Only private contracts and proofs cite it.
use Rattle.std.specs.Prelude.{◌≡◌, ℕ, ◌<◌, false, List, [], ◌∷◌, length, drop, slice_index_or, None}
use Rattle.acc_base.specs.Configurations.{Configuration}
use Rattle.acc_place.specs.Accepting.{refusal}
use Rattle.acc_place.specs.Histories.{CanClose, standing}
use Rattle.acc_place.specs.Standings.{Standing}
use Rattle.acc_place.specs.declared.directive.PlaceEntry.{PlaceEntry}
use Rattle.acc_place.specs.declared.directive.PlaceEntry.TheVariants as entry

-- Behind this standing the entry can come next.
abbrev pub CanFollow : Configuration → Standing → PlaceEntry → Type 0
CanFollow config st (entry.Accepted host d) = refusal config st host d ≡ None
CanFollow config st entry.Closing = st.closing ≡ false
CanFollow config st (entry.Closed at) = CanClose config st at

-- the counts behind an entry: a directive has taken one
abbrev pub counts_left : PlaceEntry → List ℕ → List ℕ
counts_left (entry.Accepted host d) counts = drop 1 counts
counts_left entry.Closing counts = counts
counts_left (entry.Closed at) counts = counts

-- and the counts that went by, the latest first
abbrev pub counts_gone : PlaceEntry → List ℕ → List ℕ → List ℕ
counts_gone (entry.Accepted host d) counts gone = slice_index_or counts 0 0 ∷ gone
counts_gone entry.Closing counts gone = gone
counts_gone (entry.Closed at) counts gone = gone

-- A directive has a count.
abbrev pub HasCount : PlaceEntry → List ℕ → Type 0
HasCount (entry.Accepted host d) counts = 0 < length counts
HasCount entry.Closing counts = Unit {0}
HasCount (entry.Closed at) counts = Unit {0}

-- The entries can come one after another behind these histories, and the counts are those of their directives.
abbrev pub AllFollow : Configuration → List PlaceEntry → List ℕ → List PlaceEntry → List ℕ → Type 0
AllFollow config history gone [] counts = counts ≡ []
AllFollow config history gone (e ∷ es) counts =
    CanFollow config (standing config history gone) e × HasCount e counts
    × AllFollow config (e ∷ history) (counts_gone e counts gone) es (counts_left e counts)
