use Rattle.std.proofs.Common.{◌≡◌, true}
use Rattle.acc_place.specs.Closing.{left_open}
use Rattle.acc_core.specs.inner.Closing.{closes_all}
use Rattle.acc_core.specs.Machine.{standing_of}
use Rattle.acc_core.proofs.accelerator.Accelerator.close.Given as goal

abbrev pub invariant-loop-index : goal.invariant-loop-index
invariant-loop-index l = record {
  state : l.self ≡ closes_all l.initial.self l.index;
  closing : (standing_of l.self).closing ≡ true;
  remaining : l.remaining ≡ left_open (standing_of l.self) l.index;
}
