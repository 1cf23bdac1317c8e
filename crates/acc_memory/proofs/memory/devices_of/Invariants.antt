use Rattle.std.proofs.Common.{◌≡◌, length}
use Rattle.std.specs.Prelude.{All}
use Rattle.acc_memory.specs.inner.Devices.{IsFresh}
use Rattle.acc_memory.proofs.memory.devices_of.Given as goal

abbrev pub invariant-loop : goal.invariant-loop
invariant-loop l = record {
  count : length l.devices.items ≡ l.counter;
  fresh : All IsFresh l.devices.items;
}
