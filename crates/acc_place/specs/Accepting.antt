-- When a directive is accepted, and its first fault where it is not (OpenACC API 3.0, 2.6.5, Data Construct, 2.6.6, Enter
-- Data and Exit Data Directives, 2.7, Data Clauses, 2.14.4, Update Directive, and 2.16, Asynchronous Behavior).
use Rattle.std.specs.Prelude.{ℕ, ◌+◌, Bool, true, false, ◌&&◌, ◌||◌, not, nat_lt, nat_le, List, [], ◌∷◌, ◌++◌, length, map, Option, Some, None, pos, int_lt, int_le}
use Rattle.std.specs.List.{list_any}
use Rattle.acc_base.specs.declared.fault.Fault.{Fault}
use Rattle.acc_base.specs.declared.fault.Fault.TheVariants.{Closed, BadDevice, BadRange, BadAsync, TooMany, PartlyPresent, NotPresent, DeviceFull, OutsideRange, NoRegion}
use Rattle.acc_base.specs.Configurations.{Configuration, has_range}
use Rattle.acc_kernel.specs.declared.reach.Reach.{Reach}
use Rattle.acc_kernel.specs.Kernels.{Loop, arrays_of, reach_of}
use Rattle.acc_present.specs.Lifetimes.{opened_lifetimes}
use Rattle.acc_present.specs.Presences.{Presence, presences, is_present, is_partly_present, used_cells}
use Rattle.acc_place.specs.declared.directive.Clause.{Clause}
use Rattle.acc_place.specs.declared.directive.Clause.TheVariants as clause
use Rattle.acc_place.specs.Directives.{Directive}
use Rattle.acc_place.specs.declared.directive.DataItem.{DataItem}
use Rattle.acc_place.specs.declared.directive.Kind.{Kind}
use Rattle.acc_place.specs.declared.directive.Kind.TheVariants as kind
use Rattle.acc_place.specs.declared.directive.Region.{Region}
use Rattle.acc_place.specs.declared.directive.TheConstants.{MAX_ITEMS, MAX_REGIONS, MAX_DIRECTIVES}
use Rattle.acc_place.specs.Implicit.{item_of}
use Rattle.acc_place.specs.Regions.{open_region, regions_of}
use Rattle.acc_place.specs.Standings.{Standing, Walk, Visit, visits, walk_of}
use Rattle.acc_place.specs.Targets.{has_bad_queue, waits_on_too_many}

abbrev pub fault_where : Bool → Fault → Option Fault
fault_where true fault = Some fault
fault_where false fault = None

abbrev pub first_fault : List (Option Fault) → Option Fault
first_fault [] = None
first_fault (Some fault ∷ rest) = Some fault
first_fault (None ∷ rest) = first_fault rest

-- the visit opens a lifetime
abbrev pub has_opened : Visit → Bool
has_opened v = nat_lt (length (opened_lifetimes v.before)) (length (opened_lifetimes v.after))

-- a question about a range that is partly present is answered
abbrev pub wants_whole : Kind → Bool
wants_whole kind.IsPresent = false
wants_whole k = true

-- `present`, and an update without `if_present`, are about what is present
abbrev pub wants_presence : Kind → Clause → Bool
wants_presence kind.Data clause.Present = true
wants_presence (kind.Loop k) clause.Present = true
wants_presence (kind.Update if_present) c = not if_present
wants_presence k c = false

-- The faults of one item, where these are present; where it opens a lifetime or not, and so many cells are in use then.
abbrev pub item_faults : Configuration → Kind → DataItem → List Presence → Bool → ℕ → List (Option Fault)
item_faults config k i ps opens used =
    fault_where (not (has_range config.arrays i.range)) BadRange
    ∷ fault_where (wants_whole k && is_partly_present ps i.range) PartlyPresent
    ∷ fault_where (wants_presence k i.clause && not (is_present ps i.range)) NotPresent
    ∷ fault_where (opens && nat_lt config.capacity used) DeviceFull
    ∷ []

-- Each finds the marks of those before it.
abbrev pub faults_at : Configuration → Kind → Visit → List (Option Fault)
faults_at config k v = item_faults config k v.item (presences v.before) (has_opened v) (used_cells (presences v.after))

abbrev pub fault_at : Configuration → Kind → Visit → Option Fault
fault_at config k v = first_fault (faults_at config k v)

-- the host is inside as many regions as it can be
abbrev pub is_too_deep : Kind → ℕ → List Region → Bool
is_too_deep kind.Data host rs = nat_le MAX_REGIONS (length (regions_of host rs))
is_too_deep k host rs = false

abbrev pub has_too_many : Standing → ℕ → Directive → Walk → Bool
has_too_many st host d walk =
    nat_lt MAX_ITEMS (length walk.items)
    || (waits_on_too_many d.waits || (is_too_deep d.kind host st.regions || nat_le MAX_DIRECTIVES st.accepted))

-- a region's end without a region
abbrev pub ends_no_region : Kind → Option Region → Bool
ends_no_region kind.EndData None = true
ends_no_region k r = false

-- a loop reaches a cell of an array outside the range that it uses
abbrev pub reaches_past : Option Reach → Option DataItem → Bool
reaches_past None item = false
reaches_past (Some reach) None = true
reaches_past (Some reach) (Some i) =
    int_lt reach.first (pos i.range.lo) || int_le (pos (i.range.lo + i.range.len)) reach.last

abbrev pub is_past : Option Loop → List DataItem → Bool
is_past None items = false
is_past (Some k) items = list_any (λ array. reaches_past (reach_of k array) (item_of array items)) (arrays_of k)

-- Once closing has begun no directive is accepted, whatever else it is refused for. The items are judged in turn, and a loop's
-- reach after all of them.
abbrev pub refusal_on : Configuration → Standing → ℕ → Directive → Walk → Option Fault
refusal_on config st host d walk =
    first_fault (
    fault_where st.closing Closed
    ∷ fault_where (nat_le config.devices d.device) BadDevice
    ∷ fault_where (has_bad_queue d) BadAsync
    ∷ fault_where (has_too_many st host d walk) TooMany
    ∷ fault_where (ends_no_region d.kind (open_region host st.regions)) NoRegion
    ∷ (map (fault_at config d.kind) (visits (st.marks walk.device) walk.items)
    ++ fault_where (is_past walk.runs (map (λ a. a.item) walk.items)) OutsideRange ∷ [])
    )

-- The first fault of a host's directive after a history, or none.
unfoldable pub refusal : Configuration → Standing → ℕ → Directive → Option Fault
refusal config st host d = refusal_on config st host d (walk_of st host d)
