use Rattle.std.proofs.Common.{rules, ◌≡◌, sym, ap, subst, ◌∙◌, take, arith, get_or, ◌+◌, ◌<◌, ◌^◌, pos, FitsSigned, w64}
use Rattle.std.specs.Prelude.{bit_or}
use Rattle.std.specs.Int.Signed.{mag}
use Rattle.std.proofs.lemmas.Int.{to_z-of_z}
use Rattle.std.proofs.lemmas.Nat.{or_lt}
use Rattle.acc_batch.specs.declared.values.Width.TheVariants.{One, Two, Four, Eight}
use Rattle.acc_batch.proofs.PackedValues.{AreBitsOf, bits_more, least_width}
use Rattle.acc_batch.proofs.values.width_of.Goals as goal

pub loop-cell-preserved : goal.loop-cell-preserved
loop-cell-preserved c =
    let i = c.loop-cell.cell-index in let cells = c.args.cells.now in let bits = c.loop-cell.all in let cell = get_or cells i (pos 0) in
    let fits : FitsSigned w64 cell = search rules in
    let is : c.magnitude-all.result ≡ mag cell = c.magnitude-all.ensures ∙ ap mag (to_z-of_z w64 cell fits) in
    subst (λ m. AreBitsOf (bit_or bits m) (take (i + 1) cells) × (bit_or bits m < 2 ^ 63)) (sym is)
    (bits_more bits i cells c.loop-cell-test.true c.loop-cell.invariant.0, or_lt 63 bits (mag cell) c.loop-cell.invariant.1 fits.sfits)

pub returns-then-all-lt128 : goal.returns-then-all-lt128
returns-then-all-lt128 c = least_width One _ _ _ c.loop-cell-test.false c.loop-cell.invariant.0 (omega arith) tt

pub returns-then-all-lt32768 : goal.returns-then-all-lt32768
returns-then-all-lt32768 c = least_width Two _ _ _ c.loop-cell-test.false c.loop-cell.invariant.0 (omega arith) (omega arith)

pub returns-then-all-lt2147483648 : goal.returns-then-all-lt2147483648
returns-then-all-lt2147483648 c = least_width Four _ _ _ c.loop-cell-test.false c.loop-cell.invariant.0 (omega arith) (omega arith)

pub returns-else-all-lt2147483648 : goal.returns-else-all-lt2147483648
returns-else-all-lt2147483648 c =
    least_width Eight _ _ _ c.loop-cell-test.false c.loop-cell.invariant.0 c.loop-cell.invariant.1 (omega arith)
