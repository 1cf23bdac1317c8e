use Rattle.std.proofs.Common.{List, subst}
use Rattle.acc_kernel.specs.Jobs.{Use, AreRows, IsJob}
use Rattle.acc_kernel.proofs.job.Job.keeps.Goals as goal

pub returns : goal.returns
returns c =
    subst IsJob c.self.view_is
    (record {
      distinct = c.self.invariant.0;
      reached = c.self.invariant.1;
      inputs = subst (λ (uses : List Use). AreRows uses c.self.inside.cells.inputs.rows) c.self.invariant.2 c.keeps.ensures.shape;
      outputs = subst (λ (uses : List Use). AreRows uses c.self.inside.cells.outputs.rows) c.self.invariant.3 c.keeps-2.ensures.shape;
    })
