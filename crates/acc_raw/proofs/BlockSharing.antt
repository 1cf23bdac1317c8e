-- A `&` to a block reaches each cell. Assumes `Logic`.
use Rattle.std.specs.Prelude.{ℕ, ℤ, ◌+◌, ◌-◌, ◌*◌, ◌^◌, List, [], ◌∷◌, length}
use seplogic.Ra.Ura.{Ura}
use base.Fraction.{full_share}
use base.Fml.{Fml, ftrue, fsep, ffalse, flt, froom}
use types.Logic.{Logic}
use types.SemTy.{cells}
use denote.Builtin.{i64}
use denote.Memory.{mem, part_at, shared_of}
use denote.Param.Shared.{copy_shared}
use denote.RawPtr.{Ptr, block_ptr, null_ptr}
use denote.Sharing.{ShrLaws, said}
use denote.SharingLaws.{beside_shr_laws, said_shr_laws}
use denote.Slice.{elements_shared, elements_shr_laws}
use denote.Struct.Field.{i64-field}
use denote.Struct.Laws.{i64-copy}
use denote.Struct.Lending.{Lends, Lends-both, Lends-first, Lends-nothing, Lends-said, Lends-false}
use Rattle.acc_raw.specs.Blocks.{room_for, block_owns, block_lends}
use Rattle.acc_raw.specs.inner.Ownership.{frees}

pub block_laws : (p : Ptr) (n : ℕ) (xs : List ℤ) → ShrLaws (block_lends p n xs)
block_laws (block_ptr b o) n xs = beside_shr_laws (said (flt (n * 8) (2 ^ 63))) (elements_shared i64 xs b o) (said_shr_laws (flt (n * 8) (2 ^ 63)) tt) (elements_shr_laws i64 i64-copy.shr_laws xs b o)
block_laws null_ptr n xs = said_shr_laws ffalse tt

module _ {M : Type 1} {𝓤 : Ura M} (𝓛 : Logic 𝓤) where
  Lends-cells : (xs : List ℤ) (b o : ℕ) → Lends 𝓛 (cells (mem i64) xs b o) (elements_shared i64 xs b o) []
  Lends-cells [] b o = Lends-nothing 𝓛 ftrue []
  Lends-cells (x ∷ xs) b o = Lends-both 𝓛 (part_at i64 full_share x b o) (cells (mem i64) xs b (o + 8)) (shared_of i64 x b o) (elements_shared i64 xs b (o + 8)) []
      (λ κ ts. (copy_shared i64-field i64-copy).shares M 𝓤 𝓛 x κ ts b o) (Lends-cells xs b (o + 8))

  pub Lends-block : (p : Ptr) (n : ℕ) (xs : List ℤ) → Lends 𝓛 (block_owns p n xs) (block_lends p n xs) []
  Lends-block (block_ptr b o) n xs =
      let small : Fml = flt (n * 8) (2 ^ 63) in
      let right : Fml = frees (room_for n) (block_ptr b o) in
      let room : Fml = froom (room_for (n - length xs)) b (length xs * 8 + o) in
      let row : Fml = cells (mem i64) xs b o in
      Lends-both 𝓛 (fsep small right) (fsep row room) (said small) (elements_shared i64 xs b o) []
      (Lends-first 𝓛 small right (said small) [] (Lends-said 𝓛 small tt [])) (Lends-first 𝓛 row room (elements_shared i64 xs b o) [] (Lends-cells xs b o))
  Lends-block null_ptr n xs = Lends-false 𝓛 (said ffalse) []
