use Rattle.std.proofs.Common.{◌≡◌, ◌∙◌, Bool, true, sym, ap, rules}
use Rattle.std.specs.Prelude.{◌+ℤ◌, not, ◌&&◌}
use Rattle.std.proofs.lemmas.Int.{to_z-of_z}
use mir.Syntax.{w64, w128}
use Rattle.acc_kernel.specs.Jobs.{uses_have}
use Rattle.acc_kernel.proofs.HeldBy.{wide, wide_sum}
use Rattle.acc_kernel.proofs.uses.is_lacking.Goals as goal

pub returns : goal.returns
returns c =
    let last = rw (
      c.from-3.ensures,
      c.from-4.ensures,
      to_z-of_z w64 c.args.last c.ranges.last,
      to_z-of_z w64 c.args.offset c.ranges.offset,
      to_z-of_z w128 c.args.last (wide c.args.last c.ranges.last),
      to_z-of_z w128 c.args.offset (wide c.args.offset c.ranges.offset),
      to_z-of_z w128 (c.args.last +ℤ c.args.offset) (wide_sum c.args.last c.args.offset c.ranges.last c.ranges.offset),
    ) at c.has_cell-2.ensures in
    let first = rw (
      c.from.ensures,
      c.from-2.ensures,
      to_z-of_z w64 c.args.first c.ranges.first,
      to_z-of_z w64 c.args.offset c.ranges.offset,
      to_z-of_z w128 c.args.first (wide c.args.first c.ranges.first),
      to_z-of_z w128 c.args.offset (wide c.args.offset c.ranges.offset),
      to_z-of_z w128 (c.args.first +ℤ c.args.offset) (wide_sum c.args.first c.args.offset c.ranges.first c.ranges.offset),
    ) at c.has_cell.ensures in
    let yes : c.has_cell.result ≡ true = let h = c.if-not-has_cell.false in search rules in
    let there : uses_have c.args.uses.now c.args.array (c.args.first +ℤ c.args.offset) ≡ true = sym first ∙ yes in
    ap not (last ∙ sym (ap (λ (b : Bool). b && uses_have c.args.uses.now c.args.array (c.args.last +ℤ c.args.offset)) there))
