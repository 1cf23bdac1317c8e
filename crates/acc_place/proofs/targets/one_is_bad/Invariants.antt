use Rattle.std.proofs.Common.{◌≡◌, drop, map}
use Rattle.std.specs.List.{list_any}
use Rattle.acc_place.specs.Targets.{is_bad, queue_meant}
use Rattle.acc_place.proofs.targets.one_is_bad.Given as goal

-- the values that are left tell what all of them do
abbrev pub invariant-loop-value : goal.invariant-loop-value
invariant-loop-value l =
    list_any is_bad (map (queue_meant l.default) (drop l.value-index l.values)) ≡ list_any is_bad (map (queue_meant l.default) l.values)
