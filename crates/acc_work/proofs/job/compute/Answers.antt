use Rattle.std.proofs.Common.{sym, ap, ◌∙◌}
use Rattle.acc_kernel.specs.Jobs.{Computation, computed}
use Rattle.acc_work.proofs.job.compute.Goals as goal

pub returns-in-Some-clause-outputs : goal.returns-in-Some-clause-outputs
returns-in-Some-clause-outputs c = ap (λ (j : Computation). j.outputs) c.compute.ensures ∙ ap computed (sym c.compute.ensures)
