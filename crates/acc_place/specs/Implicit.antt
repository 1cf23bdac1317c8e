-- The implicit items of a loop: one for each array that it refers to and that none of its clauses names (OpenACC API 3.0,
-- 2.6.2, Variables with Implicitly Determined Data Attributes).
use Rattle.std.specs.Prelude.{ℕ, Bool, not, List, map, filter, find, slice_get, is_some, Option, Some, None, ◌==◌}
use Rattle.std.specs.List.{flat_map}
use Rattle.acc_base.specs.declared.range.Range.{Range}
use Rattle.acc_kernel.specs.Kernels.{Loop, arrays_of}
use Rattle.acc_place.specs.declared.directive.Clause.TheVariants.{Copy, Present}
use Rattle.acc_place.specs.Directives.{Directive}
use Rattle.acc_place.specs.declared.directive.DataItem.{DataItem}
use Rattle.acc_place.specs.declared.directive.Region.{Region}
use Rattle.acc_place.specs.Regions.{regions_of}

-- the first item of an array
abbrev pub item_of : ℕ → List DataItem → Option DataItem
item_of array items = find (λ i. i.range.array == array) items

abbrev pub is_named : List DataItem → ℕ → Bool
is_named items array = is_some (item_of array items)

-- the items of the data constructs on a device that a host is inside, those of the innermost first
abbrev pub items_around : ℕ → ℕ → List Region → List DataItem
items_around host device rs = flat_map (λ (r : Region). r.items) (filter (λ r. r.device == device) (regions_of host rs))

abbrev pub or_none : Option ℕ → ℕ
or_none None = 0
or_none (Some n) = n

-- all cells of an array, where arrays have these lengths
abbrev pub whole_array : List ℕ → ℕ → Range
whole_array lengths array = record { array = array; lo = 0; len = or_none (slice_get lengths array) }

-- An array that a data construct names is as if in `present` with that range, any other as if in `copy` with all its
-- cells.
abbrev pub implicit_item : List ℕ → ℕ → Option DataItem → DataItem
implicit_item lengths array (Some i) = record { clause = Present; range = i.range }
implicit_item lengths array None = record { clause = Copy; range = whole_array lengths array }

-- the implicit items of these arrays, without those that a clause names
abbrev pub implicit_among : List ℕ → List Region → ℕ → Directive → List ℕ → List DataItem
implicit_among lengths rs host d arrays =
    map (λ array. implicit_item lengths array (item_of array (items_around host d.device rs)))
    (filter (λ array. not (is_named d.items array)) arrays)

-- They come by the first reference to their arrays in the text.
abbrev pub implicit_items : List ℕ → List Region → ℕ → Directive → Loop → List DataItem
implicit_items lengths rs host d k = implicit_among lengths rs host d (arrays_of k)
