use Rattle.acc_explore.specs.inner.Comparing.{HaveSameBatches}
use Rattle.acc_place.specs.Plans.{standing_in}
use Rattle.acc_explore.proofs.placed.have_same_batches.Given as goal

abbrev pub invariant-loop-seat : goal.invariant-loop-seat
invariant-loop-seat l = HaveSameBatches l.seat (standing_in l.old) (standing_in l.new)
