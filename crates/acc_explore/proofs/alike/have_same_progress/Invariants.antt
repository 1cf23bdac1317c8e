use Rattle.std.proofs.Common.{◌<◌, ℕ}
use Rattle.acc_base.specs.Queues.{at_seat}
use Rattle.acc_explore.specs.inner.Comparing.{HasSameProgress}
use Rattle.acc_explore.proofs.alike.have_same_progress.Given as goal

abbrev pub invariant-loop-seat : goal.invariant-loop-seat
invariant-loop-seat l = (n : ℕ) → n < l.seat → HasSameProgress l.old l.new (at_seat n)
