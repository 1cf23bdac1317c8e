-- What is left of queues, as it is listed. Only private contracts and proofs cite it.
use Rattle.std.specs.Prelude.{ℕ, zero, suc, List, [], ◌++◌, map}
use Rattle.acc_base.specs.declared.ids.QueueAt.{QueueAt}
use Rattle.acc_base.specs.Queues.{at_seat}
use Rattle.acc_batch.specs.declared.label.OpLabel.{OpLabel}
use Rattle.acc_host.specs.declared.outcome.Discarded.{Discarded}
use Rattle.acc_run.specs.Finishing.{left_on}
use Rattle.acc_run.specs.PlaceSides.{PlaceSideView}
use Rattle.acc_run.specs.WorkSides.{WorkSideView}

abbrev pub discarded : QueueAt → OpLabel → Discarded
discarded at op = record { at = at; what = op }

-- what is left of the first n queues, by device, then in queue order
abbrev pub discards : PlaceSideView → WorkSideView → ℕ → List Discarded
discards p w zero = []
discards p w (suc n) = discards p w n ++ map (discarded (at_seat n)) (left_on p w (at_seat n))
