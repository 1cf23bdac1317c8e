use Rattle.std.proofs.Common.{◌≤◌, ◌-◌, ◌+◌, length}
use Rattle.std.specs.Prelude.{vec_capacity}
use Rattle.acc_memory.specs.inner.Buckets.{HaveSame}
use Rattle.acc_memory.proofs.buckets.reach.Given as goal

abbrev pub invariant-loop-alloc : goal.invariant-loop-alloc
invariant-loop-alloc g l = record {
  few : length l.chains.items ≤ l.last + 1;
  room : l.last + 1 ≤ vec_capacity l.chains;
  same : HaveSame l.initial.chains.items l.chains.items;
}

abbrev pub decreases-loop-alloc : goal.decreases-loop-alloc
decreases-loop-alloc g l = l.bucket + 1 - length l.chains.items
