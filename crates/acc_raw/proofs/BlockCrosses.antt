-- Whoever has a block may take it to another thread: cells are numbers, and the heap takes memory back from any thread.
use Rattle.std.specs.Prelude.{ℕ, ℤ, ◌+◌, List, [], ◌∷◌}
use base.Fraction.{full_share}
use base.Shift.{Keyless}
use types.SemTy.{cells}
use denote.Builtin.{i64}
use denote.Memory.{mem}
use denote.RawPtr.{Ptr, block_ptr, null_ptr}
use denote.Slice.{elements_shared}
use denote.Struct.Struct.{exits_of}
use denote.Struct.Owning.{shape, fields, to}
use denote.Param.Send.{IsSend, IsSync, Common, AllSend, part_keyless, owning_send, struct_send, struct_sync, sendable}
use Rattle.std.proofs.Crossing as anywhere
use Rattle.std_alloc.proofs.SendSync.{quiet}
use Rattle.acc_raw.specs.Blocks.{room_for, block_owns, block_lends}
use Rattle.acc_raw.specs.inner.Ownership.{heap}
use Rattle.acc_raw.specs.contracts.block.Block.{the_type, the_row}

number-send : IsSend i64
number-send = search sendable

number-sync : IsSync i64
number-sync = search sendable

-- what a block owns is bound to no thread
cells-Keyless : (xs : List ℤ) (b o : ℕ) → Keyless (cells (mem i64) xs b o)
cells-Keyless [] b o = tt
cells-Keyless (x ∷ xs) b o = (part_keyless i64 number-send full_share x b o, cells-Keyless xs b (o + 8))

owned-Keyless : (p : Ptr) (n : ℕ) (xs : List ℤ) → Keyless (block_owns p n xs)
owned-Keyless (block_ptr b o) n xs = ((tt, anywhere.frees.frees heap (room_for n) (block_ptr b o)), (cells-Keyless xs b o, tt))
owned-Keyless null_ptr n xs = tt

-- nor is what a `&` to it has
read-Common : (xs : List ℤ) (b o : ℕ) → Common (elements_shared i64 xs b o)
read-Common [] b o κ = tt
read-Common (x ∷ xs) b o κ = (number-sync.shared x b o κ, read-Common xs b (o + 8) κ)

lent-Common : (p : Ptr) (n : ℕ) (xs : List ℤ) → Common (block_lends p n xs)
lent-Common (block_ptr b o) n xs κ = (tt, read-Common xs b o κ)
lent-Common null_ptr n xs κ = tt

no_fields : AllSend (fields the_type)
no_fields = tt

pub Block-send : IsSend the_row
Block-send = owning_send the_type no_fields (λ block. owned-Keyless block.at block.len block.cells) (λ k. quiet (to the_type) (exits_of k (fields the_type)) ((struct_send (shape the_type) no_fields).leaving k))

pub Block-sync : IsSync the_row
Block-sync = record { shared = λ block b o κ. ((struct_sync (shape the_type) tt).shared (to the_type block) b o κ, lent-Common block.at block.len block.cells κ) }
