use Rattle.std.proofs.Common.{◌≡◌, ◌<◌, length, Some, None, sym, ap, ◌∙◌, arith}
use Rattle.std.proofs.lemmas.Bool.{eqb-true}
use Rattle.acc_memory.proofs.BlockCalls.{range_at, holds_found}
use Rattle.acc_memory.proofs.LoadedJobs.{range_shown}
use Rattle.acc_memory.proofs.blocks.Blocks.values.Goals as goal

pub overflow_sub-first : goal.overflow_sub-first
overflow_sub-first c =
    let some : 0 < c.args.range.len = omega (arith, c.if-range-eq0.false) in
    (holds_found c.args.self.now c.args.block c.args.range c.in-Some.held.now (range_at c.args.self.now c.args.block c.args.range c.requires some) (sym c.in-Some.ensures)).low

pub slice_bounds-result-end-in-Some : goal.slice_bounds-result-end-in-Some
slice_bounds-result-end-in-Some c =
    let x = c.in-Some.held.now in
    let some : 0 < c.args.range.len = omega (arith, c.if-range-eq0.false) in
    let h = holds_found c.args.self.now c.args.block c.args.range x (range_at c.args.self.now c.args.block c.args.range c.requires some) (sym c.in-Some.ensures) in
    let size = eqb-true (length x.cells) x.range.len (c.keeps.ensures c.args.block x (sym c.in-Some.ensures)) in
    omega (arith, h.low, h.high, size, ap length c.as_slice.ensures)

pub returns-in-None-clause-len : goal.returns-in-None-clause-len
returns-in-None-clause-len c =
    let some : 0 < c.args.range.len = omega (arith, c.if-range-eq0.false) in
    let h = range_at c.args.self.now c.args.block c.args.range c.requires some in
    let e : None ≡ Some h.row = c.in-None.ensures ∙ h.holds.found in
    let never : ⊥ = cc in absurd never

pub returns-in-None-clause-cells : goal.returns-in-None-clause-cells
returns-in-None-clause-cells c device was shows =
    let some : 0 < c.args.range.len = omega (arith, c.if-range-eq0.false) in
    let h = range_at c.args.self.now c.args.block c.args.range c.requires some in
    let e : None ≡ Some h.row = c.in-None.ensures ∙ h.holds.found in
    let never : ⊥ = cc in absurd never

pub returns-in-Some-clause-cells : goal.returns-in-Some-clause-cells
returns-in-Some-clause-cells c device was shows =
    let x = c.in-Some.held.now in
    let some : 0 < c.args.range.len = omega (arith, c.if-range-eq0.false) in
    let h = holds_found c.args.self.now c.args.block c.args.range x (range_at c.args.self.now c.args.block c.args.range c.requires some) (sym c.in-Some.ensures) in
    let size = eqb-true (length x.cells) x.range.len (c.keeps.ensures c.args.block x (sym c.in-Some.ensures)) in
    rw c.as_slice.ensures (range_shown device c.args.self.now c.args.block c.args.range x was h size shows)
