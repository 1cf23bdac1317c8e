use Rattle.std.specs.Prelude.{◌↔◌}
use Rattle.acc_work.proofs.FirstTaken.{BeginsWith}
use Rattle.acc_work.proofs.lane.Lane.took_first.Given as goal

-- all that was taken stands first among the labels where what is left of it does among those that are left
abbrev pub invariant-loop-taken : goal.invariant-loop-taken
invariant-loop-taken l = BeginsWith l.self.taken l.labels ↔ BeginsWith l.taken-iterator l.behind
