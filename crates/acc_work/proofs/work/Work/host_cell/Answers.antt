use Rattle.std.proofs.Common.{sym, ◌∙◌}
use Rattle.acc_base.specs.declared.range.Range.{Range}
use Rattle.acc_work.proofs.RemembersWork.{range_same}
use Rattle.acc_work.proofs.work.Work.host_cell.Goals as goal

pub returns-then-has_range-clause-there : goal.returns-then-has_range-clause-there
returns-then-has_range-clause-there c =
    let i = c.self.inside in
    let cell : Range = record { array = c.args.array; lo = c.args.cell; len = 1 } in
    rw (← c.self.view_is) (sym c.if-has_range.true ∙ c.has_range.ensures ∙ range_same i.memory.arrays i.opening.value.arrays cell c.self.invariant.memory.lengths)

pub returns-else-has_range-clause-there : goal.returns-else-has_range-clause-there
returns-else-has_range-clause-there c =
    let i = c.self.inside in
    let cell : Range = record { array = c.args.array; lo = c.args.cell; len = 1 } in
    rw (← c.self.view_is) (sym c.if-has_range.false ∙ c.has_range.ensures ∙ range_same i.memory.arrays i.opening.value.arrays cell c.self.invariant.memory.lengths)
