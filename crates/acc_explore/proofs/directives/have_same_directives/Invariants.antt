use Rattle.std.proofs.Common.{◌≡◌, ◌<◌, ℕ}
use Rattle.acc_explore.specs.inner.Comparing.{own_in}
use Rattle.acc_explore.proofs.directives.have_same_directives.Given as goal

abbrev pub invariant-loop-host : goal.invariant-loop-host
invariant-loop-host l = (host : ℕ) → host < l.host → own_in l.old host ≡ own_in l.new host
