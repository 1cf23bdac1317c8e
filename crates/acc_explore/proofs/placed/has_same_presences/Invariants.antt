use Rattle.std.proofs.Common.{◌≡◌, map}
use Rattle.acc_place.specs.Plans.{standing_in}
use Rattle.acc_present.specs.Presences.{presences}
use Rattle.acc_present.specs.Tables.{entry_presence}
use Rattle.acc_explore.proofs.placed.has_same_presences.Given as goal

-- if the same is left of both, both have the same
abbrev pub invariant-loop-entry : goal.invariant-loop-entry
invariant-loop-entry l =
    (goal.iterator-loop-entry).can_next l.entry-iterator ×
    (goal.iterator-loop-entry).is_finite l.entry-iterator ×
    (map entry_presence l.entry-iterator ≡ map entry_presence l.others → presences ((standing_in l.old).marks l.fn.device) ≡ presences ((standing_in l.new).marks l.fn.device))
