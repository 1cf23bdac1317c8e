use Rattle.std.proofs.Common.{◌∙◌, sym, length}
use Rattle.std.proofs.lemmas.Int.{to_z-of_z}
use mir.Syntax.{w64}
use Rattle.acc_kernel.specs.Cells.{with_cells}
use Rattle.acc_kernel.proofs.EitherRow.{all_is_write, outputs_written, inputs_written, keeps_hidden}
use Rattle.acc_kernel.proofs.job_cells.JobCellsWindow.write.Goals as goal

pub returns-then-has_array-clause-cells : goal.returns-then-has_array-clause-cells
returns-then-has_array-clause-cells c =
    outputs_written c.args.array (λ f. with_cells f c.args.array c.args.first (length c.args.values.now) c.args.values.now) (all_is_write c.args.array c.args.first (length c.args.values.now) c.args.values.now) c.args.self.now.inputs c.args.self.now.outputs c.write.new.self
    c.write.ensures.keeps (rw (to_z-of_z w64 c.args.first c.ranges.first) at c.write.ensures.cells) (sym c.has_array.ensures ∙ c.if-has_array.true)

pub returns-else-has_array-clause-cells : goal.returns-else-has_array-clause-cells
returns-else-has_array-clause-cells c =
    inputs_written c.args.array (λ f. with_cells f c.args.array c.args.first (length c.args.values.now) c.args.values.now) (all_is_write c.args.array c.args.first (length c.args.values.now) c.args.values.now) c.args.self.now.inputs c.args.self.now.outputs c.write-else-has_array.new.self
    (rw (to_z-of_z w64 c.args.first c.ranges.first) at c.write-else-has_array.ensures.cells) (sym c.has_array.ensures ∙ c.if-has_array.false)

pub returns-else-has_array-clause-keeps : goal.returns-else-has_array-clause-keeps
returns-else-has_array-clause-keeps c =
    keeps_hidden c.args.array (λ f. with_cells f c.args.array c.args.first (length c.args.values.now) c.args.values.now) (all_is_write c.args.array c.args.first (length c.args.values.now) c.args.values.now) c.args.self.now.inputs c.args.self.now.outputs c.write-else-has_array.new.self
    c.write-else-has_array.ensures.keeps (rw (to_z-of_z w64 c.args.first c.ranges.first) at c.write-else-has_array.ensures.cells) (sym c.has_array.ensures ∙ c.if-has_array.false)
    c.keeps.ensures.distinct c.keeps.ensures.shape c.keeps-else-has_array.ensures.shape
