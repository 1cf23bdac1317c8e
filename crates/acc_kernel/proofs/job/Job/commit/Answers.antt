use Rattle.std.proofs.Common.{ap, ◌∙◌, subst}
use Rattle.acc_kernel.specs.Jobs.{stored, written_uses}
use Rattle.acc_kernel.specs.Kernels.{Loop, Reaches}
use Rattle.acc_kernel.proofs.JobValues.{commits}
use Rattle.acc_kernel.proofs.job.Job.commit.Goals as goal

pub run-requires : goal.run-requires
run-requires g c = record {
  has = λ array cell reached.
      let here = subst (λ (k : Loop). Reaches k array cell) (c.get-else-same.ensures ∙ ap (λ j. j.kernel) c.self.view_is) reached in
      c.requires.has array cell (c.keeps.ensures.reached array cell here);
}

pub returns-then-same-clause-cells : goal.returns-then-same-clause-cells
returns-then-same-clause-cells g c =
    let job = c.args.self.now in
    let cells = g.W.Window.cells c.args.window.now in
    c.store.ensures.cells
    ∙ (ap (λ rows. stored (written_uses job.kernel job.uses) rows cells) c.requires.computed
    ∙ commits job.kernel job.uses job.inputs cells (rw (c.get.ensures ∙ ap (λ j. j.kernel) c.self.view_is) at c.keeps-2.ensures.limits) c.keeps.ensures.distinct c.keeps.ensures.reached (c.same.ensures.0 c.if-same.true))
