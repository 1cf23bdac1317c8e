use Rattle.std.proofs.Common.{◌++◌, take, w64, ap, ◌∙◌}
use Rattle.std.proofs.lemmas.Int.{to_z-of_z}
use Rattle.acc_report.proofs.OneDigit.{one_digit}
use Rattle.acc_report.proofs.page.add_decimal.Goals as goal

pub returns-then-number-lt10-clause-text : goal.returns-then-number-lt10-clause-text
returns-then-number-lt10-clause-text c =
    let same = to_z-of_z w64 c.args.number c.ranges.number in
    c.add_byte.ensures.text
    ∙ ap (λ t. take c.args.waiting c.args.page.now ++ t) (rw same (one_digit c.args.number (rw same at c.if-number-ge0.true) (rw same at c.if-number-lt10.true)))
