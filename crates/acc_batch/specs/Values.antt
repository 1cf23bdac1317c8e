-- Values in as few bytes as they need.
use Rattle.std.specs.Prelude.{◌≡◌, ◌/◌, ◌≤◌, ℕ, ℤ, List, length, map, take, All, FitsSigned}
use Rattle.std.specs.Int.{Width as Integer, w8, w16, w32, w64, byte_len, cast_signed, cast_unsigned, from_le_bytes, to_le_bytes}
use Rattle.std.specs.List.{flat_map}
use Rattle.std.specs.Simd.{first_chunks}
use Rattle.acc_batch.specs.declared.values.Form.{Form}
use Rattle.acc_batch.specs.declared.values.Form.TheVariants.{Few, Many}
use Rattle.acc_batch.specs.declared.values.TheConstants.{FEW}
use Rattle.acc_batch.specs.declared.values.Width.{Width}
use Rattle.acc_batch.specs.declared.values.Width.TheVariants.{One, Two, Four, Eight}

-- the integers of that many bytes
abbrev pub integer : Width → Integer
integer One = w8
integer Two = w16
integer Four = w32
integer Eight = w64

abbrev pub byte_count : Width → ℕ
byte_count width = byte_len (integer width)

-- the value is an integer of that many bytes
abbrev pub FitsIn : Width → ℤ → Type 0
FitsIn width value = FitsSigned (integer width) value

-- a value's bytes, the lowest one first, and the value of such bytes
abbrev pub bytes_of : Width → ℤ → List ℕ
bytes_of width value = to_le_bytes (integer width) (cast_unsigned (integer width) value)

abbrev pub value_in_bytes : Width → List ℕ → ℤ
value_in_bytes width bytes = cast_signed (integer width) (from_le_bytes (integer width) bytes)

-- the values that bytes hold, one behind the other
abbrev pub values_in : Width → List ℕ → List ℤ
values_in width bytes = map (value_in_bytes width) (first_chunks (byte_count width) (length bytes / byte_count width) bytes)

-- Each value is an integer of that many bytes, and not each is one of fewer.
pub record IsLeastFor (width : Width) (values : List ℤ) : Type 0 where
  pub fit : All (FitsIn width) values
  pub least : (other : Width) → All (FitsIn other) values → byte_count width ≤ byte_count other

-- The bytes hold these values and no more, in the least width.
pub record IsPacked (width : Width) (bytes : List ℕ) (values : List ℤ) : Type 0 where
  pub least : IsLeastFor width values
  pub whole : bytes ≡ flat_map (bytes_of width) values

-- the values that are kept so
abbrev pub values_kept : Form → List ℤ
values_kept (Few width count bytes) = values_in width (take count bytes)
values_kept (Many width bytes) = values_in width bytes.items

-- A few have all their bytes in place.
abbrev pub HasItsBytes : Form → Type 0
HasItsBytes (Few width count bytes) = IsPacked width (take count bytes) (values_in width (take count bytes)) × (count ≤ FEW)
HasItsBytes (Many width bytes) = IsPacked width bytes.items (values_in width bytes.items)
