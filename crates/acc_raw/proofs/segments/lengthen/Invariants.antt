use Rattle.std.proofs.Common.{◌≡◌, ◌+◌, ◌-◌, ◌≤◌, vec_len, vec_capacity}
use Rattle.std.specs.Prelude.{All}
use Rattle.acc_raw.specs.inner.Segments.{IsEmpty}
use Rattle.acc_raw.proofs.segments.lengthen.Given as goal

abbrev pub invariant-loop-alloc : goal.invariant-loop-alloc
invariant-loop-alloc l = record {
  empty : All IsEmpty l.empty.items;
  more : vec_len l.fn.empty ≤ vec_len l.empty;
  most : vec_len l.empty ≤ vec_len l.fn.empty + (l.count - vec_len l.fn.empty);
  capacity : vec_capacity l.empty ≡ vec_capacity l.fn.empty;
}

abbrev pub decreases-loop-alloc : goal.decreases-loop-alloc
decreases-loop-alloc l = l.count - vec_len l.empty
