-- The test of an unseen operation, computed on worked programs.
use Rattle.std.specs.Prelude.{◌≡◌, Bool, true, false, List, [], ◌∷◌, ◌++◌, negsuc, pos}
use Rattle.acc_core.specs.worked.Programs.{cells, host, perform, place, sync, take_batch, world}
use Rattle.acc_explore.specs.Runs.{after}
use Rattle.acc_explore.specs.UnseenOperations.{is_at_unseen}
use Rattle.acc_host.specs.declared.event.Event.{Event}
use Rattle.acc_host.specs.declared.program.Act.{Act}
use Rattle.acc_host.specs.declared.program.Act.TheVariants as act
use Rattle.acc_place.specs.declared.directive.Clause.TheVariants.{Copyin, Delete}
use Rattle.acc_place.specs.declared.directive.Kind.TheVariants as kind
use Rattle.acc_place.specs.declared.directive.Target.TheVariants.{Plain}
use Rattle.acc_place.specs.declared.directive.Waits.TheVariants.{All}

-- queue sync stands at an unseen operation, once a host with these statements, over an array of two, and its queue have come so far
abbrev pub is_at : List Act → List Event → Bool
is_at acts events = is_at_unseen sync (after (world ((pos 1 ∷ pos 2 ∷ []) ∷ []) acts) events)

-- the array enters, and leaves without a copy; `acc_async_test_all`
abbrev pub enters_and_leaves : List Act
enters_and_leaves = place kind.EnterData Copyin (cells 0 2) ∷ place (kind.ExitData false) Delete (cells 0 2) ∷ []

abbrev pub asks : Act
asks = act.Place (record { device = 0; default = negsuc 0; target = Plain; waits = All; kind = kind.AsyncTest; items = [] })

abbrev pub entered : List Event
entered = host ∷ take_batch ∷ []

abbrev pub left : List Event
left = entered ++ perform ∷ perform ∷ host ∷ host ∷ take_batch ∷ []

-- The block is made unseen, and more of its batch is behind it; its copy is seen; and before the batch is taken nothing is there to be seen.
abbrev pub MakingIsUnseen : Type 0
MakingIsUnseen =
    (is_at (enters_and_leaves ++ asks ∷ []) (host ∷ []) ≡ false)
    × (is_at (enters_and_leaves ++ asks ∷ []) entered ≡ true)
    × (is_at (enters_and_leaves ++ asks ∷ []) (entered ++ perform ∷ []) ≡ false)

-- The block's release ends its batch: it is unseen where nobody asks.
abbrev pub ReleaseIsUnseenUnlessAsked : Type 0
ReleaseIsUnseenUnlessAsked = (is_at enters_and_leaves left ≡ true) × (is_at (enters_and_leaves ++ asks ∷ []) left ≡ false)
