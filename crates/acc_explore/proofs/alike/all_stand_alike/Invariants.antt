use Rattle.std.proofs.Common.{◌<◌, ℕ}
use Rattle.std.specs.Prelude.{slice_get}
use Rattle.acc_explore.specs.inner.Comparing.{StandAlike}
use Rattle.acc_explore.proofs.alike.all_stand_alike.Given as goal

abbrev pub invariant-loop-host : goal.invariant-loop-host
invariant-loop-host l = (h : ℕ) → h < l.host → StandAlike (slice_get l.old.hosts h) (slice_get l.new.hosts h)
