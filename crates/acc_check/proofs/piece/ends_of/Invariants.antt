use Rattle.std.proofs.Common.{◌≡◌, ◌++◌, ◌+◌, ◌-◌, ◌<◌, ◌≤◌, All, length, slice_index_or}
use Rattle.acc_check.specs.Places.{ends_from, ends_of}
use Rattle.acc_check.proofs.piece.ends_of.Given as goal

abbrev pub invariant-loop : goal.invariant-loop
invariant-loop l = record {
  same : l.ends.items ++ ends_from (length l.text - l.counter) (length l.text - length l.rest) l.rest ≡ ends_of l.text;
  some : length l.rest < length l.text → 0 < length l.ends.items;
  last : 0 < length l.ends.items → slice_index_or l.ends.items (length l.ends.items - 1) 0 ≡ length l.text - length l.rest;
  within : All (λ e. e ≤ length l.text) l.ends.items;
  left : length l.rest + l.counter ≤ length l.text;
}
