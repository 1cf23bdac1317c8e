-- The definitions, computed on a loop: `for (i = 1; i < 4; i++) y[i] = x[i + 1] * 2`, where x is array 0 and y array 1.
use Rattle.std.specs.Prelude.{◌≡◌, ℕ, ◌+◌, ◌*◌, ℤ, pos, List, [], ◌∷◌, map}
use Rattle.acc_base.specs.declared.range.Range.{Range}
use Rattle.acc_batch.specs.declared.label.OpLabel.{OpLabel}
use Rattle.acc_batch.specs.declared.label.OpLabel.TheVariants.{Make, CopyIn, CopyOut, Run}
use Rattle.acc_kernel.specs.declared.operator.Operator.TheVariants.{Times}
use Rattle.acc_kernel.specs.worked.Values.{assign, number}
use Rattle.acc_kernel.specs.Jobs.{Use}
use Rattle.acc_kernel.specs.Kernels.{Loop, loop}
use Rattle.acc_kernel.specs.Trees.{Read, Binary}
use Rattle.acc_memory.specs.Values.{Cell, Host_cell, Block_cell, after_op}

abbrev pub doubles : Loop
doubles = loop (pos 1) (pos 4) (assign 1 (Binary Times (Read 0 (pos 1)) (number 2)) ∷ [])

abbrev pub range : ℕ → ℕ → ℕ → Range
range array lo len = record { array = array; lo = lo; len = len }

-- it uses block 3 for x[2] to x[4] and block 5 for y[1] to y[3]
abbrev pub its_uses : List Use
its_uses = (3, range 0 2 3) ∷ (5, range 1 1 3) ∷ []

-- cell c of block n is 100 n + c on device 0, and 1000 more on device 1; cell c of a host array is 10 c
abbrev pub some_values : Cell → ℤ
some_values (Host_cell array cell) = pos (10 * cell)
some_values (Block_cell device block cell) = pos (1000 * device + 100 * block + cell)

-- the values of a block's first cells after the loop ran on device 0
abbrev pub after_run : ℕ → ℕ → List ℤ
after_run device block =
    map (λ cell. after_op 0 (Run doubles its_uses) some_values (Block_cell device block cell)) (0 ∷ 1 ∷ 2 ∷ 3 ∷ 4 ∷ [])

-- y[1] to y[3] are twice x[2] to x[4]; the other cells of y are as before
abbrev pub Doubles : Type 0
Doubles = after_run 0 5 ≡ pos 500 ∷ pos 604 ∷ pos 606 ∷ pos 608 ∷ pos 504 ∷ []

-- so are x, other blocks, those of another device, and the host arrays
abbrev pub LeavesOthers : Type 0
LeavesOthers =
    (after_run 0 3 ≡ pos 300 ∷ pos 301 ∷ pos 302 ∷ pos 303 ∷ pos 304 ∷ [])
    × (after_run 0 4 ≡ pos 400 ∷ pos 401 ∷ pos 402 ∷ pos 403 ∷ pos 404 ∷ [])
    × (after_run 1 5 ≡ pos 1500 ∷ pos 1501 ∷ pos 1502 ∷ pos 1503 ∷ pos 1504 ∷ [])
    × (map (λ cell. after_op 0 (Run doubles its_uses) some_values (Host_cell 1 cell)) (1 ∷ 2 ∷ []) ≡ pos 10 ∷ pos 20 ∷ [])

-- the values after several operations on device 0
abbrev pub after_ops : List OpLabel → (Cell → ℤ) → Cell → ℤ
after_ops [] was = was
after_ops (op ∷ ops) was = after_ops ops (after_op 0 op was)

-- blocks for x[2] to x[5], copied in, and for y[0] to y[5], zero; after the loop y[0] to y[3] are copied out
abbrev pub there_and_back : List OpLabel
there_and_back =
    Make (range 0 2 4) 3 ∷ CopyIn (range 0 2 4) 3 ∷ Make (range 1 0 6) 5 ∷ Run doubles its_uses ∷ CopyOut (range 1 0 4) 5 ∷ []

abbrev pub ThereAndBack : Type 0
ThereAndBack =
    (map (λ cell. after_ops there_and_back some_values (Host_cell 1 cell)) (0 ∷ 1 ∷ 2 ∷ 3 ∷ 4 ∷ 5 ∷ []) ≡ pos 0 ∷ pos 40 ∷ pos 60 ∷ pos 80 ∷ pos 40 ∷ pos 50 ∷ [])
    × (map (λ cell. after_ops there_and_back some_values (Host_cell 0 cell)) (2 ∷ 3 ∷ []) ≡ pos 20 ∷ pos 30 ∷ [])
