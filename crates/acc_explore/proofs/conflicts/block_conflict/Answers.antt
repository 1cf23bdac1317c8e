use Rattle.std.proofs.Common.{sym}
use Rattle.std.specs.List.{list_any}
use Rattle.acc_explore.specs.declared.conflicts.Access.{Access}
use Rattle.acc_explore.specs.ApartOperations.{block_accesses, conflict}
use Rattle.acc_explore.specs.inner.Apart.{use_access}
use Rattle.acc_explore.proofs.AnyOf.{any_map}
use Rattle.acc_explore.proofs.conflicts.block_conflict.Goals as goal

pub returns-in-Run : goal.returns-in-Run
returns-in-Run c =
    rw (c.in-Run.is, c.uses_conflict.ensures, c.as_slice.ensures, c.get-in-Run.ensures, c.get.ensures)
    (sym (any_map (λ (x : Access). list_any (conflict x) (block_accesses c.args.other.now)) (use_access c.in-Run.kernel) c.in-Run.uses))
