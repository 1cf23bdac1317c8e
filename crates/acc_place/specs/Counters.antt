-- The counters and the data constructs that hosts are inside (OpenACC API 3.0, 2.6.7, Reference Counters): what holds of
-- them after directives that were each accepted after those before it.
use Rattle.std.specs.Prelude.{◌≡◌, ℕ, ◌+◌, ◌<◌, true, false, List, ◌∷◌, length, map, filter, drop, All, Contains, Some, None}
use Rattle.std.specs.List.{flat_map}
use Rattle.acc_base.specs.declared.range.Range.{Range}
use Rattle.acc_base.specs.Ranges.{range_contains}
use Rattle.acc_base.specs.Configurations.{Configuration}
use Rattle.acc_present.specs.Legality.{AllLegal}
use Rattle.acc_present.specs.Presences.{Presence, presences, is_present}
use Rattle.acc_place.specs.Directives.{Directive}
use Rattle.acc_place.specs.declared.directive.DataItem.{DataItem}
use Rattle.acc_place.specs.declared.directive.Kind.TheVariants.{Data, EndData}
use Rattle.acc_place.specs.declared.directive.PlaceEntry.{PlaceEntry}
use Rattle.acc_place.specs.declared.directive.PlaceEntry.TheVariants.{Accepted}
use Rattle.acc_place.specs.declared.directive.Region.{Region}
use Rattle.acc_place.specs.declared.directive.Target.TheVariants.{Plain}
use Rattle.acc_place.specs.declared.directive.Waits.TheVariants.{Nothing}
use Rattle.acc_place.specs.declared.directive.TheConstants.{MAX_DIRECTIVES}
use Rattle.acc_place.specs.Accepting.{refusal}
use Rattle.acc_place.specs.Histories.{AllAccepted, standing}
use Rattle.acc_place.specs.Regions.{open_region, regions_on}
use Rattle.acc_place.specs.Standings.{Standing}

-- the ranges that a region has entered, as often as it did
abbrev pub ranges_in : Region → List Range
ranges_in r = map (λ (i : DataItem). i.range) r.items

-- and those of all regions
abbrev pub entered_ranges : List Region → List Range
entered_ranges rs = flat_map ranges_in rs

abbrev pub count_inside : Range → List Range → ℕ
count_inside whole rs = length (filter (λ r. range_contains whole r) rs)

-- Each range that a region has entered is present, and the structured counter of a present range is the number of
-- those inside it.
pub record IsEnteredBy (rs : List Range) (ps : List Presence) : Type 0 where
  pub present : All (λ (r : Range). (0 < r.len) × (is_present ps r ≡ true)) rs
  pub counted : All (λ (p : Presence). p.s ≡ count_inside p.range rs) ps

-- On a device the marks are legal, and the structured counters are those of the open regions there.
pub record IsCountedOn (device : ℕ) (st : Standing) : Type 0 where
  pub legal : AllLegal (st.marks device)
  pub entered : IsEnteredBy (entered_ranges (regions_on device st.regions)) (presences (st.marks device))

-- Accepted directives keep it so on each device,
abbrev pub AcceptedAreCounted : Type 0
AcceptedAreCounted =
    (config : Configuration) (history : List PlaceEntry) (counts : List ℕ) (device : ℕ)
    → AllAccepted config history counts → IsCountedOn device (standing config history counts)

-- and a data construct that a host is inside can be left, until closing begins or the last directive of a run.
abbrev pub EnteredCanBeLeft : Type 0
EnteredCanBeLeft =
    (config : Configuration) (history : List PlaceEntry) (counts : List ℕ) (host : ℕ) (d : Directive) (r : Region)
    → AllAccepted config history counts → (standing config history counts).closing ≡ false → (standing config history counts).accepted < MAX_DIRECTIVES
    → d.kind ≡ EndData → d.target ≡ Plain → d.waits ≡ Nothing → d.device < config.devices → open_region host (standing config history counts).regions ≡ Some r
    → refusal config (standing config history counts) host d ≡ None

-- ## An entry and its end

-- The structured counter of a range that is present before and after differs by so many as ranges of the region are inside it.
abbrev pub DiffersBy : Region → List Presence → List Presence → Type 0
DiffersBy r fewer more =
    (p q : Presence) → Contains fewer p → Contains more q → p.range ≡ q.range → q.s ≡ p.s + count_inside p.range (ranges_in r)

-- The entry of a data construct adds that to each structured counter,
abbrev pub EntriesAdd : Type 0
EntriesAdd =
    (config : Configuration) (history : List PlaceEntry) (counts : List ℕ) (host : ℕ) (d : Directive) (r : Region)
    → AllAccepted config (Accepted host d ∷ history) counts → d.kind ≡ Data → open_region host (standing config (Accepted host d ∷ history) counts).regions ≡ Some r
    → DiffersBy r (presences ((standing config history (drop 1 counts)).marks r.device)) (presences ((standing config (Accepted host d ∷ history) counts).marks r.device))

-- and its end takes that back, whatever came between: each decrement meets its increment.
abbrev pub EndsTakeBack : Type 0
EndsTakeBack =
    (config : Configuration) (history : List PlaceEntry) (counts : List ℕ) (host : ℕ) (d : Directive) (r : Region)
    → AllAccepted config (Accepted host d ∷ history) counts → d.kind ≡ EndData → open_region host (standing config history (drop 1 counts)).regions ≡ Some r
    → DiffersBy r (presences ((standing config (Accepted host d ∷ history) counts).marks r.device)) (presences ((standing config history (drop 1 counts)).marks r.device))

-- A present range of which the entry counted nothing isn't touched by the end: so it is with one that came in between.
abbrev pub OthersAreKept : Type 0
OthersAreKept =
    (config : Configuration) (history : List PlaceEntry) (counts : List ℕ) (host : ℕ) (d : Directive) (r : Region) (p : Presence)
    → AllAccepted config (Accepted host d ∷ history) counts → d.kind ≡ EndData → open_region host (standing config history (drop 1 counts)).regions ≡ Some r
    → Contains (presences ((standing config history (drop 1 counts)).marks r.device)) p → count_inside p.range (ranges_in r) ≡ 0
    → Contains (presences ((standing config (Accepted host d ∷ history) counts).marks r.device)) p
