use Rattle.std.proofs.Common.{◌≡◌, take}
use Rattle.acc_place.specs.inner.Judging.{counted_steps}
use Rattle.acc_place.proofs.regions.counted_steps.Given as goal

abbrev pub invariant-loop-step : goal.invariant-loop-step
invariant-loop-step l = l.items ≡ counted_steps (take l.step-index l.steps)
