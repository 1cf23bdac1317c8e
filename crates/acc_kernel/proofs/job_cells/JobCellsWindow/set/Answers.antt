use Rattle.std.proofs.Common.{◌∙◌, sym}
use Rattle.std.proofs.lemmas.Int.{to_z-of_z}
use mir.Syntax.{w64}
use Rattle.acc_kernel.specs.Cells.{with_cell}
use Rattle.acc_kernel.proofs.EitherRow.{one_is_write, outputs_written, inputs_written, keeps_hidden}
use Rattle.acc_kernel.proofs.job_cells.JobCellsWindow.set.Goals as goal

pub returns-then-has_array-clause-cells : goal.returns-then-has_array-clause-cells
returns-then-has_array-clause-cells c =
    outputs_written c.args.array (λ f. with_cell f c.args.array c.args.cell c.args.value) (one_is_write c.args.array c.args.cell c.args.value) c.args.self.now.inputs c.args.self.now.outputs c.set.new.self
    c.set.ensures.keeps (rw (to_z-of_z w64 c.args.cell c.ranges.cell, to_z-of_z w64 c.args.value c.ranges.value) at c.set.ensures.cells) (sym c.has_array.ensures ∙ c.if-has_array.true)

pub returns-else-has_array-clause-cells : goal.returns-else-has_array-clause-cells
returns-else-has_array-clause-cells c =
    inputs_written c.args.array (λ f. with_cell f c.args.array c.args.cell c.args.value) (one_is_write c.args.array c.args.cell c.args.value) c.args.self.now.inputs c.args.self.now.outputs c.set-else-has_array.new.self
    (rw (to_z-of_z w64 c.args.cell c.ranges.cell, to_z-of_z w64 c.args.value c.ranges.value) at c.set-else-has_array.ensures.cells) (sym c.has_array.ensures ∙ c.if-has_array.false)

pub returns-else-has_array-clause-keeps : goal.returns-else-has_array-clause-keeps
returns-else-has_array-clause-keeps c =
    keeps_hidden c.args.array (λ f. with_cell f c.args.array c.args.cell c.args.value) (one_is_write c.args.array c.args.cell c.args.value) c.args.self.now.inputs c.args.self.now.outputs c.set-else-has_array.new.self
    c.set-else-has_array.ensures.keeps (rw (to_z-of_z w64 c.args.cell c.ranges.cell, to_z-of_z w64 c.args.value c.ranges.value) at c.set-else-has_array.ensures.cells) (sym c.has_array.ensures ∙ c.if-has_array.false)
    c.keeps.ensures.distinct c.keeps.ensures.shape c.keeps-else-has_array.ensures.shape
