use Rattle.std.proofs.Common.{◌≡◌, List, ◌∙◌, ap, sym, subst}
use Rattle.std.specs.Prelude.{ℤ}
use Rattle.acc_kernel.specs.Jobs.{Use, Computation, AreRows, computed}
use Rattle.acc_kernel.proofs.JobValues.{computes}
use Rattle.acc_kernel.proofs.ReadAndWritten.{begun_has, either_has}
use Rattle.acc_kernel.proofs.job.Job.compute.Goals as goal

pub start-requires : goal.start-requires
start-requires c =
    let k = c.self.inside.kernel in
    let uses = c.self.inside.uses in
    rw (c.self.invariant.2, c.self.invariant.3) (record { has = λ place lt known n below. begun_has k uses place n c.self.invariant.0 lt known below })

pub run-requires : goal.run-requires
run-requires c =
    let k = c.self.inside.kernel in
    let uses = c.self.inside.uses in
    rw (c.get-2.ensures, c.start.ensures.inputs, c.start.ensures.uses, c.self.invariant.2, c.self.invariant.3)
    (record { has = either_has k uses c.self.invariant.0 c.self.invariant.1 })

pub returns : goal.returns
returns c =
    let k = c.self.inside.kernel in
    let uses = c.self.inside.uses in
    let cells = c.self.inside.cells in
    let shape : AreRows cells.inputs.uses cells.inputs.rows = subst (λ (us : List Use). AreRows us cells.inputs.rows) (sym c.self.invariant.2) (rw (← c.self.view_is) at c.keeps.ensures.inputs) in
    let done =
    computes k uses (rw c.get.ensures at c.keeps-2.ensures.limits) c.self.invariant.0 c.self.invariant.1 cells.inputs cells.outputs c.start.new.self.inputs c.start.new.self.outputs
    c.run.new.window.inputs c.run.new.window.outputs c.self.invariant.2 c.self.invariant.3 c.start.ensures.inputs c.start.ensures.uses c.start.ensures.outputs c.run.ensures.keeps
    shape c.keeps-3.ensures.inputs c.keeps-3.ensures.outputs (rw c.get-2.ensures at c.run.ensures.cells) in
    let made : List (List ℤ) → List (List ℤ) → Computation = λ ins outs. record { kernel = k; uses = uses; inputs = ins; outputs = outs } in
    subst (λ (w : Computation). made c.run.new.window.inputs.rows c.run.new.window.outputs.rows ≡ record w { outputs = computed w }) c.self.view_is
    (ap (λ (ins : List (List ℤ)). made ins c.run.new.window.outputs.rows) done.0 ∙ ap (made cells.inputs.rows) done.1)
