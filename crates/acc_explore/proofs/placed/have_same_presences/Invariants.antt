use Rattle.std.proofs.Common.{◌<◌, ℕ}
use Rattle.acc_explore.specs.inner.Comparing.{HasSamePresences}
use Rattle.acc_place.specs.Plans.{standing_in}
use Rattle.acc_explore.proofs.placed.have_same_presences.Given as goal

abbrev pub invariant-loop-device : goal.invariant-loop-device
invariant-loop-device l = (device : ℕ) → device < l.device → HasSamePresences (standing_in l.old) (standing_in l.new) device
