use Rattle.std.proofs.Common.{◌∙◌}
use Rattle.acc_base.specs.declared.range.Range.{Range}
use Rattle.acc_work.proofs.RemembersWork.{range_same}
use Rattle.acc_work.proofs.work.Work.has_cells.Goals as goal

pub returns-in-Write : goal.returns-in-Write
returns-in-Write c =
    let i = c.self.inside in
    let cell : Range = record { array = c.in-Write.array; lo = c.in-Write.cell; len = 1 } in
    rw (← c.self.view_is, c.in-Write.is) (c.has_range.ensures ∙ range_same i.memory.arrays i.opening.value.arrays cell c.self.invariant.memory.lengths)

pub returns-in-Print : goal.returns-in-Print
returns-in-Print c =
    let i = c.self.inside in
    rw (← c.self.view_is, c.in-Print.is) (c.has_range-in-Print.ensures ∙ range_same i.memory.arrays i.opening.value.arrays c.in-Print.range c.self.invariant.memory.lengths)
