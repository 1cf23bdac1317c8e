-- The data constructs that hosts are inside (OpenACC API 3.0, 2.6.5, Data Construct): one list for all hosts, the latest
-- first.
use Rattle.std.specs.Prelude.{ℕ, Bool, true, false, List, [], ◌∷◌, filter, Option, Some, None, ◌==◌, if◌then◌else◌}
use Rattle.acc_place.specs.Directives.{Directive}
use Rattle.acc_place.specs.declared.directive.DataItem.{DataItem}
use Rattle.acc_place.specs.declared.directive.Kind.{Kind}
use Rattle.acc_place.specs.declared.directive.Kind.TheVariants as kind
use Rattle.acc_place.specs.declared.directive.Region.{Region}

-- those of one host, the innermost first
abbrev pub regions_of : ℕ → List Region → List Region
regions_of host rs = filter (λ r. r.host == host) rs

abbrev pub first_region : List Region → Option Region
first_region [] = None
first_region (r ∷ rs) = Some r

-- those on a device
abbrev pub regions_on : ℕ → List Region → List Region
regions_on device rs = filter (λ r. r.device == device) rs

-- the one that the host is inside, the innermost
abbrev pub open_region : ℕ → List Region → Option Region
open_region host rs = first_region (regions_of host rs)

-- the host leaves it
abbrev pub without_open : ℕ → List Region → List Region
without_open host [] = []
without_open host (r ∷ rs) = if r.host == host then rs else r ∷ without_open host rs

-- the directive is the end of a data construct
abbrev pub ends_region : Kind → Bool
ends_region kind.EndData = true
ends_region k = false

-- it has the items that its entry counted
abbrev pub region_of : ℕ → Directive → List DataItem → Region
region_of host d counted = record { host = host; device = d.device; items = counted }

abbrev pub regions_after : ℕ → Directive → Kind → List DataItem → List Region → List Region
regions_after host d kind.Data counted rs = region_of host d counted ∷ rs
regions_after host d kind.EndData counted rs = without_open host rs
regions_after host d k counted rs = rs
