use Rattle.std.proofs.Common.{◌≡◌, length}
use Rattle.std.specs.Prelude.{All}
use Rattle.acc_place.specs.inner.Devices.{IsEmpty}
use Rattle.acc_place.proofs.device.devices_of.Given as goal

abbrev pub invariant-loop : goal.invariant-loop
invariant-loop l = record {
  count : length l.devices.items ≡ l.counter;
  empty : All (IsEmpty l.config) l.devices.items;
}
