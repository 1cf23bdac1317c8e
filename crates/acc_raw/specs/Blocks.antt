-- What a row's memory is to its owner, and to those who hold a `&` to it. A cell takes 8 bytes.
use Rattle.std.specs.Prelude.{ℕ, ℤ, ◌+◌, ◌-◌, ◌*◌, ◌^◌, List, length}
use base.Fml.{Lft, Fml, ffalse, fsep, flt, froom}
use mir.Raw.{raw}
use mir.Syntax.{Ty, ty_array}
use types.SemTy.{cells}
use denote.Builtin.{i64}
use denote.Memory.{lone, mem}
use denote.RawPtr.{Ptr, block_ptr, null_ptr}
use denote.Sharing.{said, beside}
use denote.Slice.{elements_shared}
use Rattle.acc_raw.specs.inner.Ownership.{frees}

-- the type that memory for n cells is taken for
abbrev pub room_for : ℕ → Ty
room_for n = raw (ty_array (lone i64.mir) n)

-- the cells, behind them room for those of n that aren't written, and the right to give all of it back
abbrev pub block_owns : Ptr → ℕ → List ℤ → Fml
block_owns (block_ptr b o) n xs = fsep (fsep (flt (n * 8) (2 ^ 63)) (frees (room_for n) (block_ptr b o))) (fsep (cells (mem i64) xs b o) (froom (room_for (n - length xs)) b (length xs * 8 + o)))
block_owns null_ptr n xs = ffalse

-- the cells, to be read
abbrev pub block_lends : Ptr → ℕ → List ℤ → Lft → Fml
block_lends (block_ptr b o) n xs = beside (said (flt (n * 8) (2 ^ 63))) (elements_shared i64 xs b o)
block_lends null_ptr n xs = said ffalse
