use Rattle.std.proofs.Common.{refl, sym, ap, subst, ◌∙◌}
use Rattle.acc_kernel.specs.Jobs.{Computation, read_uses, shown}
use Rattle.acc_memory.specs.Memories.{cell_of}
use Rattle.acc_memory.specs.Values.{cells_by}
use Rattle.acc_work.specs.Lanes.{IsLoopNext}
use Rattle.acc_work.proofs.job.take_loaded.Goals as goal

pub returns-clause-next : goal.returns-clause-next
returns-clause-next c =
    let same = c.load.ensures (cell_of c.args.memory.now) (λ cell held. refl) in
    let next = rw (c.take_out.ensures, c.deref.ensures) at (c.is_next.ensures.0 c.if-not-is_next.false) in
    subst (λ (j : Computation). IsLoopNext j.kernel j.uses c.args.lane.now.left) (sym same)
    (rw c.deref_mut.ensures.value next)

pub returns-clause-loaded : goal.returns-clause-loaded
returns-clause-loaded c was shows =
    let same = c.load.ensures was shows in
    ap (λ (j : Computation). j.inputs) same
    ∙ ap (λ (j : Computation). shown (read_uses j.kernel j.uses) (cells_by j.uses c.args.device was)) (sym same)
