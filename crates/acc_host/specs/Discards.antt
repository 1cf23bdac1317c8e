-- Operations that were placed, and that no queue performs.
use Rattle.std.specs.Prelude.{List, [], ◌∷◌, if◌then◌else◌}
use Rattle.std.specs.List.{flat_map}
use Rattle.acc_base.specs.declared.ids.QueueAt.{QueueAt}
use Rattle.acc_base.specs.Queues.{same_queue}
use Rattle.acc_batch.specs.declared.label.OpLabel.{OpLabel}
use Rattle.acc_host.specs.declared.outcome.Discarded.{Discarded}

-- those of one queue, in their order
abbrev pub discarded_on : QueueAt → List Discarded → List OpLabel
discarded_on at list = flat_map (λ (d : Discarded). if same_queue d.at at then d.what ∷ [] else []) list
