use Rattle.std.proofs.Common.{◌≡◌, ℕ, true, length, sym, subst}
use Rattle.std.specs.Prelude.{ℤ}
use Rattle.std.proofs.lemmas.List.{length-set}
use Rattle.acc_kernel.specs.Jobs.{HoldReached, uses_have}
use Rattle.acc_kernel.specs.Kernels.{Reaches}
use Rattle.test_kernel.specs.Lines.{uses_to}
use Rattle.test_kernel.proofs.window.after.Goals as goal

pub run_at-requires-clause-has : goal.run_at-requires-clause-has
run_at-requires-clause-has c =
    let k = c.in-Ok.kernel in
    let long : length c.set.new.self ≡ 1 = rw (c.set.ensures, length-set) c.in_ok-line.ensures in
    let held : HoldReached k (uses_to 1) = subst (HoldReached k) c.uses_of.ensures (c.is_held_by.ensures.0 c.if-not-is_held_by.false) in
    subst (λ (n : ℕ). (array : ℕ) (cell : ℤ) → Reaches k array cell → uses_have (uses_to n) array cell ≡ true) (sym long) held
