use Rattle.std.proofs.Common.{◌≡◌, take}
use Rattle.acc_explore.specs.Runs.{after}
use Rattle.acc_explore.proofs.replay.go_on.Given as goal

abbrev pub invariant-loop-event : goal.invariant-loop-event
invariant-loop-event l = l.world ≡ after l.initial.world (take l.event-index l.events)
