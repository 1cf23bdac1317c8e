-- The test of an operation that stands apart, computed on worked programs.
use Rattle.std.specs.Prelude.{◌≡◌, Bool, true, false, List, [], ◌∷◌, ◌++◌, pos}
use Rattle.acc_core.specs.worked.Closes.{enters_and_updates}
use Rattle.acc_core.specs.worked.Programs.{host, world}
use Rattle.acc_core.specs.worked.Queues.{both, first, five_and_six, place_async, second, wait_for}
use Rattle.acc_explore.specs.ApartOperations.{is_at_apart}
use Rattle.acc_explore.specs.Runs.{after}
use Rattle.acc_host.specs.declared.event.Event.{Event}
use Rattle.acc_host.specs.declared.event.Event.TheVariants as event
use Rattle.acc_host.specs.declared.program.Act.{Act}
use Rattle.acc_host.specs.declared.program.Act.TheVariants as act
use Rattle.acc_place.specs.declared.directive.Clause.TheVariants.{UpdateSelf}
use Rattle.acc_place.specs.declared.directive.Kind.TheVariants as kind

-- A range was entered on the first queue, and its copy out on the same queue comes next, once a host with these statements behind that has
-- come so far.
abbrev pub copies_apart : List Act → List Event → Bool
copies_apart more events =
    is_at_apart first
    (after (world five_and_six (enters_and_updates ++ more)) (host ∷ host ∷ event.Take first ∷ event.Perform first ∷ event.Take first ∷ events))

-- It conflicts with a print of the range, but not where the host waits for it before.
abbrev pub PrintsAreSeen : Type 0
PrintsAreSeen =
    (copies_apart (act.Print both ∷ []) [] ≡ false) × (copies_apart (wait_for (pos 1) ∷ act.Print both ∷ []) (host ∷ []) ≡ true)

-- It conflicts with another copy out, which was only placed on the second queue, but not once that is performed.
abbrev pub PlacedIsSeen : Type 0
PlacedIsSeen =
    (copies_apart (place_async (pos 2) (kind.Update false) UpdateSelf ∷ []) (host ∷ []) ≡ false)
    × (copies_apart (place_async (pos 2) (kind.Update false) UpdateSelf ∷ []) (host ∷ event.Take second ∷ event.Perform second ∷ event.Perform second ∷ []) ≡ true)

-- It conflicts with that copy out before it is placed, which names the range, but not with a wait, which names none.
abbrev pub NamingIsSeen : Type 0
NamingIsSeen =
    (copies_apart (place_async (pos 2) (kind.Update false) UpdateSelf ∷ []) [] ≡ false) × (copies_apart (wait_for (pos 1) ∷ []) [] ≡ true)
