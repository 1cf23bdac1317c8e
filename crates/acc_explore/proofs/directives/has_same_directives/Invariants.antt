use Rattle.std.proofs.Common.{◌≡◌, length}
use Rattle.acc_explore.specs.inner.Comparing.{own_in}
use Rattle.acc_explore.proofs.directives.has_same_directives.Given as goal

abbrev pub invariant-loop-own : goal.invariant-loop-own
invariant-loop-own l = l.owns ≡ l.others → own_in l.old l.fn.host ≡ own_in l.new l.fn.host

abbrev pub decreases-loop-own : goal.decreases-loop-own
decreases-loop-own l = length l.owns
