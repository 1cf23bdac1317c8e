use Rattle.std.proofs.Common.{◌≡◌, ◌<◌, ℕ, true}
use Rattle.acc_base.specs.Queues.{at_seat}
use Rattle.acc_core.specs.Machine.{standing_of}
use Rattle.acc_place.specs.Histories.{is_closed}
use Rattle.acc_explore.proofs.going_first.is_all_closed.Given as goal

abbrev pub invariant-loop-seat : goal.invariant-loop-seat
invariant-loop-seat l = (n : ℕ) → n < l.seat → is_closed (standing_of l.world) (at_seat n) ≡ true
