use Rattle.std.proofs.Common.{◌≡◌, ℕ, length, get_or, sym, ap, ◌∙◌, arith, rules}
use Rattle.std.specs.Prelude.{List, ℤ, pos, ◌+ℤ◌}
use mir.Syntax.{w64}
use mir.Val.{to_z, of_z}
use Rattle.acc_kernel.proofs.ShownRows.{are_values, value_shown}
use Rattle.acc_kernel.proofs.rows.is_shown.Goals as goal

pub returns-else-range-eq0 : goal.returns-else-range-eq0
returns-else-range-eq0 g c =
    let cells = g.W.Window.cells c.args.window.now in
    let first : to_z w64 (of_z w64 c.from.result) ≡ pos c.args.range.lo = search rules in
    let alike : (k : ℕ) → cells c.args.range.array (to_z w64 (of_z w64 c.from.result) +ℤ pos k) ≡ cells c.args.range.array (pos c.args.range.lo +ℤ pos k) =
    λ k. ap (λ (z : ℤ). cells c.args.range.array (z +ℤ pos k)) first in (
      λ yes. are_values cells c.args.range c.args.values.now c.requires.long (λ k lt. c.has_values.ensures.0 yes k lt ∙ alike k),
      λ same. c.has_values.ensures.1
          (λ k lt. ap (λ (l : List ℤ). get_or l k (pos 0)) same ∙ (value_shown cells c.args.range k (omega (arith, lt, c.requires.long)) ∙ sym (alike k))),
    )
