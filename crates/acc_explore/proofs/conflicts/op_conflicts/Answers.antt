use Rattle.std.proofs.Common.{sym}
use Rattle.acc_explore.specs.ApartOperations.{conflict, in_block}
use Rattle.acc_explore.specs.inner.Apart.{use_access}
use Rattle.acc_explore.proofs.AnyOf.{any_map}
use Rattle.acc_explore.proofs.conflicts.op_conflicts.Goals as goal

pub returns-in-Run : goal.returns-in-Run
returns-in-Run c =
    rw (c.in-Run.is, c.loop_conflicts.ensures, c.as_slice.ensures, c.get-in-Run.ensures, c.get.ensures)
    (sym (any_map (conflict (record { cells = in_block c.args.block c.args.range.now; writes = c.args.writes })) (use_access c.in-Run.kernel) c.in-Run.uses))
