-- A token's entries, compared one after another with what is unread of its host's own. Only private contracts and proofs cite it.
use Rattle.std.specs.Prelude.{◌≡◌, ◌↔◌, ◌<◌, ℕ, Bool, true, false, List, ◌∷◌, map}
use Rattle.acc_host.specs.Engines.{HostEntry}
use Rattle.acc_place.specs.declared.directive.PlaceEntry.{PlaceEntry}
use Rattle.acc_place.specs.declared.directive.PlaceEntry.TheVariants as noted
use Rattle.acc_batch.specs.declared.entry.WorkEntry.{WorkEntry}
use Rattle.acc_batch.specs.declared.entry.WorkEntry.TheVariants as entry
use Rattle.acc_run.specs.Agreement.{as_known, directives_in, shown_in}
use Rattle.acc_run.specs.declared.agreement.Unread.{Unread}

-- What is unread of a host's own entries is what these say, one by one.
pub record IsListed (unread : Unread) (list : List HostEntry) : Type 0 where
  pub directives : unread.directives ≡ directives_in unread.gone list
  pub items : map as_known unread.items ≡ shown_in list

-- An entry is compared with the next of its kind, which is read. Where they are the same, the others have to be; else all differ.
abbrev pub Reads : Unread → HostEntry → Bool → Unread → Type 0
Reads old e true new = (list : List HostEntry) → IsListed new list ↔ IsListed old (e ∷ list)
Reads old e false new = (list : List HostEntry) → IsListed old (e ∷ list) → ⊥

-- a directive, and an item, of one of the first hosts
abbrev pub IsPlacedBelow : ℕ → PlaceEntry → Type 0
IsPlacedBelow hosts (noted.Accepted h d) = h < hosts
IsPlacedBelow hosts noted.Closing = Unit {0}
IsPlacedBelow hosts (noted.Closed at) = Unit {0}

abbrev pub IsShownBelow : ℕ → WorkEntry → Type 0
IsShownBelow hosts (entry.Op at op) = Unit {0}
IsShownBelow hosts (entry.Item h what) = h < hosts
