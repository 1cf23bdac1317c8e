use Rattle.std.proofs.Common.{◌≡◌, Some, None, sym, ◌∙◌, arith}
use Rattle.std.proofs.lemmas.Bool.{eqb-true}
use Rattle.acc_memory.specs.Memories.{find_row}
use Rattle.acc_memory.proofs.AfterOp.{shows_copy_out}
use Rattle.acc_memory.proofs.BlockCalls.{range_at, holds_found}
use Rattle.acc_memory.proofs.blocks.Blocks.copy_out.Goals as goal

pub overflow_sub-range : goal.overflow_sub-range
overflow_sub-range c =
    (holds_found c.args.self.now c.args.block c.args.range c.in-Some.held.now (range_at c.args.self.now c.args.block c.args.range c.requires.held c.requires.some)
    (sym (rw c.in-Some.is at c.get.ensures))).low

pub copy_cells-requires-clause-source : goal.copy_cells-requires-clause-source
copy_cells-requires-clause-source c =
    let x = c.in-Some.held.now in
    let found : find_row c.args.self.now c.args.block ≡ Some x = sym (rw c.in-Some.is at c.get.ensures) in
    let h = holds_found c.args.self.now c.args.block c.args.range x (range_at c.args.self.now c.args.block c.args.range c.requires.held c.requires.some) found in
    let size = eqb-true _ x.range.len (c.keeps.ensures c.args.block x found) in
    omega (arith, h.low, h.high, size)

pub returns-in-Some-clause-shows : goal.returns-in-Some-clause-shows
returns-in-Some-clause-shows c device was array shows =
    let x = c.in-Some.held.now in
    let found : find_row c.args.self.now c.args.block ≡ Some x = sym (rw c.in-Some.is at c.get.ensures) in
    let h = holds_found c.args.self.now c.args.block c.args.range x (range_at c.args.self.now c.args.block c.args.range c.requires.held c.requires.some) found in
    shows_copy_out device c.args.self.now c.args.block c.args.range x c.args.cells.now c.copy_cells.new.target was h c.copy_cells.ensures array shows

pub returns-in-Some-clause-len : goal.returns-in-Some-clause-len
returns-in-Some-clause-len c = c.copy_cells.ensures.len

pub returns-in-None-clause-shows : goal.returns-in-None-clause-shows
returns-in-None-clause-shows c =
    let h = range_at c.args.self.now c.args.block c.args.range c.requires.held c.requires.some in
    let e : None ≡ Some h.row = rw c.in-None.is at c.get.ensures ∙ h.holds.found in
    let never : ⊥ = cc in absurd never
