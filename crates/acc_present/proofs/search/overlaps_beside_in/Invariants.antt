use Rattle.std.proofs.Common.{map}
use Rattle.acc_present.specs.Tables.{held_presence}
use Rattle.acc_present.proofs.OverlapsBeside.{GoesOn}
use Rattle.acc_present.proofs.search.overlaps_beside_in.Given as goal

abbrev pub invariant-loop-entry : goal.invariant-loop-entry
invariant-loop-entry l =
    (goal.iterator-loop-entry).can_next l.entry-iterator ×
    (goal.iterator-loop-entry).is_finite l.entry-iterator ×
    GoesOn (map held_presence l.fn.changed) l.fn.entries l.entry-iterator l.fn.range
