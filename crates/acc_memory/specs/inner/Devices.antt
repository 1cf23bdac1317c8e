-- What contracts see of devices and arrays. Only private contracts and proofs cite it.
use Rattle.std.specs.Prelude.{◌≡◌, ℕ, ℤ, false, List, [], map}
use Rattle.acc_memory.specs.declared.device.Device.{Device}
use Rattle.acc_memory.specs.Memories.{DeviceView, MemoryView, is_made}

abbrev pub view_of : Device → DeviceView
view_of device = record { rows = device.blocks; makes = device.makes }

-- the memory with these devices
abbrev pub memory_of : List (List ℤ) → List Device → MemoryView
memory_of arrays devices = record { arrays = arrays; devices = map view_of devices }

-- no block is there, and none was ever made
pub record IsFresh (device : Device) : Type 0 where
  pub rows : device.blocks ≡ []
  pub made : (block : ℕ) → is_made device.makes block ≡ false
