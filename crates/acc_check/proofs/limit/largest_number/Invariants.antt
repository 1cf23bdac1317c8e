use Rattle.std.proofs.Common.{◌≡◌, ◌-◌, ◌<◌, true, false, decimal}
use Rattle.acc_check.specs.Places.{stands}
use Rattle.acc_check.proofs.limit.largest_number.Given as goal

abbrev pub invariant-loop-high : goal.invariant-loop-high
invariant-loop-high l = record {
  ordered : l.low < l.high;
  fits : stands l.language l.before (decimal l.low) ≡ true;
  past : stands l.language l.before (decimal l.high) ≡ false;
}

abbrev pub decreases-loop-high : goal.decreases-loop-high
decreases-loop-high l = l.high - l.low
