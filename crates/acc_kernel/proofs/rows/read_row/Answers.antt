use Rattle.std.proofs.Common.{◌≡◌, length, ap, ◌∙◌, arith, rules}
use Rattle.std.specs.Prelude.{ℤ, pos, ◌+ℤ◌}
use mir.Syntax.{w64}
use mir.Val.{to_z, of_z}
use Rattle.acc_kernel.proofs.ShownRows.{are_values, refilled}
use Rattle.acc_kernel.proofs.rows.read_row.Goals as goal

pub returns-then-range-gt0 : goal.returns-then-range-gt0
returns-then-range-gt0 g c =
    let cells = g.W.Window.cells c.args.window.now in
    let first : to_z w64 (of_z w64 c.from.result) ≡ pos c.args.range.lo = search rules in
    let same : length c.as_mut_slice.result.now ≡ length c.args.row.now = ap length c.as_mut_slice.ensures.value in
    let long : length c.read.new.into ≡ length c.args.row.now = c.read.auto.into ∙ same in
    refilled c.args.row.now c.read.new.into long
    ∙ are_values cells c.args.range c.read.new.into (long ∙ c.requires.long)
    (λ k lt. c.read.ensures k (omega (arith, lt, c.read.auto.into)) ∙ ap (λ (z : ℤ). cells c.args.range.array (z +ℤ pos k)) first)
