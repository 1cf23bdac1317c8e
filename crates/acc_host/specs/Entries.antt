-- A host's own entries, found in both histories: its directives with their answers, and its items.
use Rattle.std.specs.Prelude.{ℕ, ◌-◌, ◌==◌, List, [], ◌∷◌, ◌++◌, take, drop, slice_index_or}
use Rattle.acc_base.specs.Configurations.{Configuration}
use Rattle.acc_place.specs.Batches.{answer_of}
use Rattle.acc_place.specs.Directives.{Directive}
use Rattle.acc_place.specs.Histories.{standing}
use Rattle.acc_place.specs.Standings.{Standing, walk_of}
use Rattle.acc_place.specs.declared.directive.Placed.{Placed}
use Rattle.acc_place.specs.declared.directive.PlaceEntry.{PlaceEntry}
use Rattle.acc_place.specs.declared.directive.PlaceEntry.TheVariants as noted
use Rattle.acc_work.specs.Logs.{one_more}
use Rattle.acc_batch.specs.declared.entry.WorkEntry.{WorkEntry}
use Rattle.acc_batch.specs.declared.entry.WorkEntry.TheVariants as entry
use Rattle.acc_host.specs.Engines.{HostEntry, Gave, Had}

-- A host's items, and its directives with their answers and how many of its items came before each.
abbrev pub items_shown : ℕ → List WorkEntry → List HostEntry
items_shown host [] = []
items_shown host (entry.Op at op ∷ before) = items_shown host before
items_shown host (entry.Item h shown ∷ before) = one_more (h == host) (items_shown host before) (Had shown)

pub record Own : Type 0 where
  pub items_before : ℕ
  pub directive : Directive
  pub placed : Placed

abbrev pub own_after : Standing → ℕ → ℕ → Directive → Own
own_after st host items_done d =
    record { items_before = items_done; directive = d; placed = answer_of st d (walk_of st host d) }

abbrev pub own_of : Configuration → ℕ → List PlaceEntry → List ℕ → List Own
own_of config host [] counts = []
own_of config host (noted.Accepted h d ∷ before) counts =
    one_more (h == host)
    (own_of config host before (drop 1 counts))
    (own_after (standing config before (drop 1 counts)) h (slice_index_or counts 0 0) d)
own_of config host (noted.Closing ∷ before) counts = own_of config host before counts
own_of config host (noted.Closed at ∷ before) counts = own_of config host before counts

-- the directives in their order, each behind as many items as its count says; `gone` items stand already
abbrev pub entries_merged : ℕ → List Own → List HostEntry → List HostEntry
entries_merged gone [] items = items
entries_merged gone (o ∷ os) items =
    take (o.items_before - gone) items
    ++ Gave o.directive o.placed ∷ entries_merged o.items_before os (drop (o.items_before - gone) items)
