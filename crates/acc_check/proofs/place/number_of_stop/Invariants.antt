use Rattle.std.proofs.Common.{◌≡◌, ◌-◌, ◌<◌, ◌≤◌, true, false, length, take}
use Rattle.acc_check.specs.Languages.{may_go_on}
use Rattle.acc_check.specs.Places.{end_of, piece_start}
use Rattle.acc_check.proofs.place.number_of_stop.Given as goal

abbrev pub invariant-loop-low : goal.invariant-loop-low
invariant-loop-low l = record {
  ordered : l.low ≤ l.high;
  there : l.high < length l.fn.ends;
  before : may_go_on l.fn.language (take (piece_start l.fn.ends l.low) l.fn.text) ≡ true;
  behind : may_go_on l.fn.language (take (end_of l.fn.ends l.high) l.fn.text) ≡ false;
}

abbrev pub decreases-loop-low : goal.decreases-loop-low
decreases-loop-low l = l.high - l.low
