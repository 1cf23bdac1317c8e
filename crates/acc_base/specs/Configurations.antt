-- What a configuration holds, its limits, and the first fault of one that passes them.
use Rattle.std.specs.Prelude.{◌≡◌, ℕ, ℤ, ◌+◌, ◌≤◌, Bool, false, ◌&&◌, ◌||◌, ◌==◌, nat_lt, nat_le, List, length, map, slice_get, All, Option, Some, None, if◌then◌else◌, Vec}
use Rattle.std.specs.List.{list_any}
use Rattle.acc_base.specs.declared.range.Range.{Range}
use Rattle.acc_base.specs.declared.fault.Fault.{Fault}
use Rattle.acc_base.specs.declared.fault.Fault.TheVariants.{BadDevice, BadRange, Memory, TooMany}
use Rattle.acc_base.specs.declared.config.TheConstants.{MAX_DEVICES, MAX_HOSTS, MAX_ARRAYS, MAX_CELLS, MAX_CAPACITY, MAX_ROOM}

pub record Configuration : Type 0 where
  pub devices : ℕ
  pub hosts : ℕ
  pub arrays : List (List ℤ)
  pub capacity : ℕ
  pub room : ℕ

abbrev pub configuration : ℕ → ℕ → List (List ℤ) → ℕ → ℕ → Configuration
configuration devices hosts arrays capacity room =
    record { devices = devices; hosts = hosts; arrays = arrays; capacity = capacity; room = room }

-- an array of the program as the list of its cells
abbrev pub rows : {Z : Type 0} → List (Vec ℤ Z) → List (List ℤ)
rows arrays = map (λ v. v.items) arrays

pub record IsWithinLimits (c : Configuration) : Type 0 where
  pub devices : (1 ≤ c.devices) × (c.devices ≤ MAX_DEVICES)
  pub hosts : c.hosts ≤ MAX_HOSTS
  pub arrays : length c.arrays ≤ MAX_ARRAYS
  pub cells : All (λ cells. (1 ≤ length cells) × (length cells ≤ MAX_CELLS)) c.arrays
  pub capacity : (1 ≤ c.capacity) × (c.capacity ≤ MAX_CAPACITY)
  pub room : (1 ≤ c.room) × (c.room ≤ MAX_ROOM)

abbrev pub ends_within : Option (List ℤ) → ℕ → Bool
ends_within None end = false
ends_within (Some cells) end = nat_le end (length cells)

-- a range has a cell, and lies in its array
abbrev pub has_range : List (List ℤ) → Range → Bool
has_range arrays r = nat_lt 0 r.len && ends_within (slice_get arrays r.array) (r.lo + r.len)

-- a number is not one of 1 to the limit
abbrev pub is_outside : ℕ → ℕ → Bool
is_outside limit n = (n == 0) || nat_lt limit n

abbrev pub has_long_array : List (List ℤ) → Bool
has_long_array arrays = list_any (λ cells. nat_lt MAX_CELLS (length cells)) arrays

abbrev pub has_empty_array : List (List ℤ) → Bool
has_empty_array arrays = list_any (λ cells. length cells == 0) arrays

-- how many cells each array has
abbrev pub lengths_of : List (List ℤ) → List ℕ
lengths_of arrays = map (λ cells. length cells) arrays

-- a count other than that of the devices passes its limit
abbrev pub passes_a_limit : ℕ → List (List ℤ) → ℕ → ℕ → Bool
passes_a_limit hosts arrays capacity room =
    nat_lt MAX_HOSTS hosts || ((nat_lt MAX_ARRAYS (length arrays) || has_long_array arrays)
    || (is_outside MAX_CAPACITY capacity || is_outside MAX_ROOM room))

-- the first fault, or none within the limits
abbrev pub fault_of : Configuration → Option Fault
fault_of c =
    if is_outside MAX_DEVICES c.devices then Some BadDevice
    else (if passes_a_limit c.hosts c.arrays c.capacity c.room then Some TooMany
    else (if has_empty_array c.arrays then Some BadRange else None))

-- it is refused so: with its first fault, and where it has none for want of memory
abbrev pub IsRefusal : Option Fault → Fault → Type 0
IsRefusal (Some fault) f = f ≡ fault
IsRefusal None f = f ≡ Memory
