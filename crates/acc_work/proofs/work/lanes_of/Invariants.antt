use Rattle.std.proofs.Common.{◌≡◌, length}
use Rattle.std.specs.Prelude.{All}
use Rattle.acc_work.specs.Lanes.{IsFresh}
use Rattle.acc_work.proofs.work.lanes_of.Given as goal

abbrev pub invariant-loop : goal.invariant-loop
invariant-loop l = record {
  count : length l.lanes.items ≡ l.counter;
  fresh : All IsFresh l.lanes.items;
}
