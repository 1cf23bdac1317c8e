use Rattle.std.proofs.Common.{◌≡◌}
use Rattle.test_data.proofs.table.Mixed.enter_all.Given as goal

abbrev pub invariant-loop-turn : goal.invariant-loop-turn
invariant-loop-turn g l = l.table.capacity ≡ 1000000
