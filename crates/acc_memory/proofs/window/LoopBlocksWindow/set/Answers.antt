use Rattle.std.proofs.Common.{◌∙◌}
use Rattle.std.proofs.lemmas.Int.{to_z-of_z}
use mir.Syntax.{w64}
use Rattle.acc_memory.specs.inner.Windows.{window_cells}
use Rattle.acc_memory.proofs.WindowCell.{one_cell}
use Rattle.acc_memory.proofs.window.LoopBlocksWindow.set.Goals as goal

pub returns-clause-cells : goal.returns-clause-cells
returns-clause-cells c =
    rw (to_z-of_z w64 c.args.value c.ranges.value, to_z-of_z w64 c.args.cell c.ranges.cell) at c.write.ensures.cells
    ∙ one_cell (window_cells c.args.self.now.blocks.now c.args.self.now.uses.now) c.args.array c.args.cell c.args.value
