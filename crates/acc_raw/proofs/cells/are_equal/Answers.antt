use Rattle.std.proofs.Common.{arith}
use Rattle.std.specs.Prelude.{pos}
use Rattle.std.proofs.lemmas.List.{ext_get_or}
use Rattle.acc_raw.proofs.cells.are_equal.Goals as goal

pub returns : goal.returns
returns c = (
  λ yes. ext_get_or (pos 0) c.args.left.now c.args.right.now c.requires (λ j lt. c.loop-k.invariant.0 yes j (omega (arith, lt, c.loop-k-test.false, c.loop-k.auto.k-end))),
  c.loop-k.invariant.1,
)
