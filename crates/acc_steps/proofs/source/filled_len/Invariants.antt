use Rattle.std.proofs.Common.{◌≡◌, ◌≤◌, take}
use Rattle.acc_steps.specs.Lines.{filled_len}
use Rattle.acc_steps.proofs.source.filled_len.Given as goal

abbrev pub invariant-loop-byte : goal.invariant-loop-byte
invariant-loop-byte l = record {
  number : l.len ≡ l.byte-index;
  within : l.filled ≤ l.len;
  value : l.filled ≡ filled_len (take l.byte-index l.line);
}
