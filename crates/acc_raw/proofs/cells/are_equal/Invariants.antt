use Rattle.std.proofs.Common.{◌≡◌, ℕ, ◌<◌, true, get_or}
use Rattle.std.specs.Prelude.{pos}
use Rattle.acc_raw.proofs.cells.are_equal.Given as goal

abbrev pub invariant-loop-k : goal.invariant-loop-k
invariant-loop-k l =
    (l.same ≡ true → (j : ℕ) → j < l.k → get_or l.left j (pos 0) ≡ get_or l.right j (pos 0)) × (l.left ≡ l.right → l.same ≡ true)
