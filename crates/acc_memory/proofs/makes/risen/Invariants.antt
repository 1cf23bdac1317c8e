use Rattle.std.proofs.Common.{◌≡◌, ◌-◌, ◌^◌, ℕ}
use Rattle.acc_memory.specs.Memories.{is_made}
use Rattle.acc_memory.specs.inner.Marks.{makes_with}
use Rattle.acc_memory.proofs.makes.risen.Given as goal

abbrev pub invariant-loop-next : goal.invariant-loop-next
invariant-loop-next l = (block : ℕ) → is_made (makes_with l.all_to l.marks) block ≡ is_made (makes_with l.fn.all_to l.fn.marks) block

abbrev pub decreases-loop-next : goal.decreases-loop-next
decreases-loop-next l = 2 ^ 64 - l.all_to
