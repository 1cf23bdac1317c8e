use Rattle.std.proofs.Common.{◌≡◌, ◌++◌, take}
use Rattle.std.specs.List.{flat_map}
use Rattle.acc_place.specs.inner.Judging.{group_ops}
use Rattle.acc_place.proofs.ops.add_group.Given as goal

abbrev pub invariant-loop-step : goal.invariant-loop-step
invariant-loop-step l = l.ops ≡ l.initial.ops ++ flat_map (group_ops l.group) (take l.step-index l.steps)
