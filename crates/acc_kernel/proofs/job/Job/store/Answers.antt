use Rattle.std.proofs.Common.{◌≡◌, List, true, subst}
use Rattle.acc_kernel.specs.Faults.{is_assigned}
use Rattle.acc_kernel.specs.Jobs.{Use, uses_have}
use Rattle.acc_kernel.proofs.ReadAndWritten.{has_if_reached}
use Rattle.acc_kernel.proofs.job.Job.store.Goals as goal

pub store-requires : goal.store-requires
store-requires g c =
    let k = c.self.inside.kernel in
    let uses = c.self.inside.uses in
    record {
      has = λ array cell has.
          (rw (← c.self.view_is) at c.requires) array cell (has_if_reached (is_assigned k.statements) k uses c.self.invariant.1 array cell (subst (λ (us : List Use). uses_have us array cell ≡ true) c.self.invariant.3 has));
    }
