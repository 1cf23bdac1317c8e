-- Operations in a queue, with the memory that performing them needs.
use Rattle.std.specs.Prelude.{◌≡◌, List, [], ◌∷◌, map, replicate, pos, Option, Some, None}
use Rattle.std.specs.Option.{option_or}
use Rattle.acc_batch.specs.declared.label.OpLabel.{OpLabel}
use Rattle.acc_batch.specs.declared.label.OpLabel.TheVariants as label
use Rattle.acc_batch.specs.declared.op.Op.{Op}
use Rattle.acc_batch.specs.declared.op.Op.TheVariants as op
use Rattle.acc_kernel.specs.Jobs.{Use, AreDistinct, HoldReached}
use Rattle.acc_kernel.specs.Kernels.{Loop}

-- what a loop uses names each array at most once, and has all cells that the loop reaches
abbrev pub HasItsCells : OpLabel → Type 0
HasItsCells (label.Make r b) = Unit {0}
HasItsCells (label.CopyIn r b) = Unit {0}
HasItsCells (label.CopyOut r b) = Unit {0}
HasItsCells (label.Release b) = Unit {0}
HasItsCells (label.Run k uses) = AreDistinct uses × HoldReached k uses
HasItsCells (label.Await q n) = Unit {0}
HasItsCells label.Close = Unit {0}

-- the label of an operation
abbrev pub op_label : Op → OpLabel
op_label (op.Make b m) = label.Make b.range b.block
op_label (op.CopyIn r b) = label.CopyIn r b
op_label (op.CopyOut r b) = label.CopyOut r b
op_label (op.Release b) = label.Release b
op_label (op.Run k uses) = label.Run k uses
op_label (op.Await q n) = label.Await q n
op_label op.Close = label.Close

abbrev pub op_labels : List Op → List OpLabel
op_labels ops = map op_label ops

-- a block that is made has the cells of its range, all zero, and its mark, and a loop has its cells
abbrev pub IsReady : Op → Type 0
IsReady (op.Make b m) = (b.cells ≡ replicate b.range.len (pos 0)) × (m.block ≡ b.block)
IsReady (op.CopyIn r b) = Unit {0}
IsReady (op.CopyOut r b) = Unit {0}
IsReady (op.Release b) = Unit {0}
IsReady (op.Run k uses) = HasItsCells (label.Run k uses)
IsReady (op.Await q n) = Unit {0}
IsReady op.Close = Unit {0}

abbrev pub AllReady : List Op → Type 0
AllReady [] = Unit {0}
AllReady (t ∷ ts) = IsReady t × AllReady ts

-- the loop that an operation is, with its uses
abbrev pub loop_of : OpLabel → Option (Loop × List Use)
loop_of (label.Make r b) = None
loop_of (label.CopyIn r b) = None
loop_of (label.CopyOut r b) = None
loop_of (label.Release b) = None
loop_of (label.Run k uses) = Some (k, uses)
loop_of (label.Await q n) = None
loop_of label.Close = None

-- the first loop among some operations
abbrev pub first_loop : List OpLabel → Option (Loop × List Use)
first_loop [] = None
first_loop (op ∷ ops) = option_or (loop_of op) (first_loop ops)
