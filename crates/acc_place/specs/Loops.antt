-- A loop as it is judged: where its implicit items come from, that it stays in the ranges of its items, and what it uses of
-- what is present.
use Rattle.std.specs.Prelude.{◌≡◌, ◌↔◌, false, ℕ, ◌+◌, ℤ, ◌≤ℤ◌, ◌<ℤ◌, pos, ◌&&◌, ◌==◌, if◌then◌else◌, List, [], map, Option, Some, None}
use Rattle.std.specs.List.{flat_map}
use Rattle.acc_kernel.specs.Jobs.{Use}
use Rattle.acc_kernel.specs.Kernels.{Loop, Reaches, arrays_of}
use Rattle.acc_present.specs.Presences.{Presence, holder}
use Rattle.acc_place.specs.declared.directive.DataItem.{DataItem}
use Rattle.acc_place.specs.declared.directive.Region.{Region}
use Rattle.acc_place.specs.Accepting.{is_past}
use Rattle.acc_place.specs.Batches.{found_block}
use Rattle.acc_place.specs.Implicit.{item_of}

-- the first item of an array in a data construct, if this is on the device and the host is inside it
abbrev pub item_inside : ℕ → ℕ → ℕ → Region → Option DataItem
item_inside array host device r = if (r.host == host) && (r.device == device) then item_of array r.items else None

-- the cell is one of the item's range
abbrev pub IsInside : Option DataItem → ℤ → Type 0
IsInside None cell = ⊥
IsInside (Some i) cell = (pos i.range.lo ≤ℤ cell) × (cell <ℤ pos (i.range.lo + i.range.len))

-- each cell of an array that the loop reaches is in the range of the array's first item
abbrev pub StaysInsideOf : Loop → List DataItem → ℕ → Type 0
StaysInsideOf k items array = (cell : ℤ) → Reaches k array cell → IsInside (item_of array items) cell

abbrev pub StaysInside : Loop → List DataItem → Type 0
StaysInside k items = (array : ℕ) → StaysInsideOf k items array

-- A loop isn't refused for its reach exactly if each cell that it reaches is in the range of the first item of its array.
abbrev pub ReachIsJudged : Type 0
ReachIsJudged = (k : Loop) (items : List DataItem) → (is_past (Some k) items ≡ false) ↔ StaysInside k items

-- the use of an item, if it is one and is present
abbrev pub use_in : List Presence → Option DataItem → List Use
use_in ps None = []
use_in ps (Some i) = map (λ b. (b, i.range)) (found_block (holder ps i.range))

-- what a loop would use of these arrays
abbrev pub uses_among : List DataItem → List Presence → List ℕ → List Use
uses_among items ps arrays = flat_map (λ array. use_in ps (item_of array items)) arrays

-- what it uses of its own: the words of a directive's batch, over what is present in place of the marks before it
abbrev pub uses_in : Loop → List DataItem → List Presence → List Use
uses_in k items ps = uses_among items ps (arrays_of k)
