use Rattle.std.proofs.Common.{◌≡◌, map}
use Rattle.acc_core.specs.Machine.{standing_of}
use Rattle.acc_present.specs.Presences.{presences, overlaps_any}
use Rattle.acc_present.specs.Tables.{entry_presence}
use Rattle.acc_steps.proofs.found.overlaps_any.Given as goal

-- one of those that are left overlaps it, if any does
abbrev pub invariant-loop-entry : goal.invariant-loop-entry
invariant-loop-entry l =
    (goal.iterator-loop-entry).can_next l.entry-iterator ×
    (goal.iterator-loop-entry).is_finite l.entry-iterator ×
    (overlaps_any (presences ((standing_of l.world).marks l.fn.device)) l.range ≡ overlaps_any (map entry_presence l.entry-iterator) l.range)
