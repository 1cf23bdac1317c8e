-- What is unread of a host's own entries. Only private contracts and proofs cite it.
use Rattle.std.specs.Prelude.{◌≡◌, ◌⊎◌, ℕ, ◌+◌, ◌<◌, ◌≤◌, ◌==◌, ◌^◌, List, [], ◌∷◌, ◌++◌, drop, Option, Some, None, if◌then◌else◌}
use Rattle.std.specs.Borrow.{Bor}
use Rattle.std.specs.List.{flat_map}
use Rattle.acc_place.specs.declared.directive.Placed.{Placed}
use Rattle.acc_place.specs.declared.directive.PlaceEntry.{PlaceEntry}
use Rattle.acc_place.specs.declared.directive.PlaceEntry.TheVariants as noted
use Rattle.acc_batch.specs.declared.entry.Told.{Told}
use Rattle.acc_batch.specs.declared.entry.WorkEntry.{WorkEntry}
use Rattle.acc_batch.specs.declared.entry.WorkEntry.TheVariants as entry
use Rattle.acc_host.specs.Engines.{HostEntry, Had}
use Rattle.acc_host.specs.Entries.{Own, entries_merged}
use Rattle.acc_host.specs.OwnEntries.{own}
use Rattle.acc_host.specs.declared.own_entries.OwnDirective.{OwnDirective}
use Rattle.acc_host.specs.declared.own_entries.OwnEntry.{OwnEntry}
use Rattle.acc_host.specs.declared.own_entries.OwnEntry.TheVariants as read

-- an entry of a place history with a count and an answer, if it is a directive of the host
abbrev pub own_by : ℕ → PlaceEntry → ℕ → Placed → List Own
own_by host (noted.Accepted h d) count placed =
    if h == host then record { items_before = count; directive = d; placed = placed } ∷ [] else []
own_by host noted.Closing count placed = []
own_by host (noted.Closed at) count placed = []

-- It is no directive of the host.
abbrev pub IsOther : ℕ → PlaceEntry → Type 0
IsOther host e = (n : ℕ) (a : Placed) → own_by host e n a ≡ []

-- The directives of a host: the first entry has the first count and the first answer, and so on.
abbrev pub owned_by : ℕ → List PlaceEntry → List ℕ → List Placed → List Own
owned_by host [] counts answers = []
owned_by host (e ∷ es) [] answers = []
owned_by host (e ∷ es) (n ∷ ns) [] = []
owned_by host (e ∷ es) (n ∷ ns) (a ∷ rest) = own_by host e n a ++ owned_by host es ns rest

-- those from an index on
abbrev pub owned_from : ℕ → List PlaceEntry → List ℕ → List Placed → ℕ → List Own
owned_from host places counts answers index = owned_by host (drop index places) (drop index counts) (drop index answers)

-- an entry of the work log, if it is an item of the host
abbrev pub item_by : ℕ → WorkEntry → List HostEntry
item_by host (entry.Op at op) = []
item_by host (entry.Item h what) = if h == host then Had what ∷ [] else []

-- the items of a host, in their order
abbrev pub items_by : ℕ → List WorkEntry → List HostEntry
items_by host works = flat_map (item_by host) works

-- where there is no next one, nothing stands behind it
abbrev pub own_then : Option OwnDirective → List Own → List Own
own_then None os = []
own_then (Some o) os = own o ∷ os

abbrev pub item_then : Option (Bor Told) → List HostEntry → List HostEntry
item_then None es = []
item_then (Some what) es = Had what.now ∷ es

-- the next directive with those behind it, and the next item with those behind it, where `gone` items stand already
abbrev pub unread : ℕ → Option OwnDirective → List Own → Option (Bor Told) → List HostEntry → List HostEntry
unread gone o os what es = entries_merged gone (own_then o os) (item_then what es)

-- The next directive, if there is one, stands behind more items, and one more can be counted.
abbrev pub IsLater : ℕ → Option OwnDirective → Type 0
IsLater gone None = Unit {0}
IsLater gone (Some o) = (gone < o.items_before) × (gone + 1 < 2 ^ 64)

-- The entry is the first of the next directive and the next item.
abbrev pub IsFirst : ℕ → Option OwnDirective → Option (Bor Told) → Option OwnEntry → Type 0
IsFirst gone d item None = (d ≡ None) × (item ≡ None)
IsFirst gone d item (Some (read.Gave o)) = (d ≡ Some o) × ((o.items_before ≤ gone) ⊎ (item ≡ None))
IsFirst gone d item (Some (read.Had what)) = (item ≡ Some what) × IsLater gone d
