use Rattle.std.proofs.Common.{◌<◌, ℕ}
use Rattle.std.specs.Prelude.{IsTrue}
use Rattle.acc_base.specs.Queues.{at_seat}
use Rattle.acc_explore.specs.Takes.{never_fills}
use Rattle.acc_explore.proofs.placing.all_have_room.Given as goal

abbrev pub invariant-loop-seat : goal.invariant-loop-seat
invariant-loop-seat l = (n : ℕ) → n < l.seat → IsTrue (never_fills l.world (at_seat n))
