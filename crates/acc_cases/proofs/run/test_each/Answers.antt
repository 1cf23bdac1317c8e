use Rattle.std.proofs.Common.{◌≡◌, ap, ◌∙◌, arith}
use Rattle.acc_cases.specs.Runs.{passes, with_case}
use Rattle.acc_cases.proofs.TestedCases.{next_tested}
use Rattle.acc_cases.proofs.run.test_each.Goals as goal

pub loop-name-preserved : goal.loop-name-preserved
loop-name-preserved g c = record {
  tested =
      let outcome = c.test_case-outcome.result in
      let tally = c.loop-name.tally in
      let h = next_tested _ _ _ c.args.common c.args.bless c.args.names.now c.loop-name.name-index _ tally outcome c.loop-name-test.true c.loop-name.invariant.tested c.test_case-outcome.ensures in
      let counted : c.with-tally.result ≡ with_case tally (passes outcome) = c.with-tally.ensures.value ∙ ap (with_case tally) c.passes.ensures in
      (h.0, h.1, counted ∙ h.2);
  counted = omega (arith, c.with-tally.ensures.more, c.loop-name.invariant.counted);
}
