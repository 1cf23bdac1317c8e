use Rattle.std.proofs.Common.{true≢false, arith}
use Rattle.acc_check.proofs.LongTexts.{long_is_faulty}
use Rattle.acc_check.proofs.check.told_of.Goals as goal

pub returns-then-text-gt-MAX_TEXT-clause-whole : goal.returns-then-text-gt-MAX_TEXT-clause-whole
returns-then-text-gt-MAX_TEXT-clause-whole c =
    (λ is. absurd (true≢false is), λ none. absurd (long_is_faulty c.args.language c.args.text.now c.if-text-gt-MAX_TEXT.true none))

pub returns-then-text-gt-MAX_TEXT-clause-told : goal.returns-then-text-gt-MAX_TEXT-clause-told
returns-then-text-gt-MAX_TEXT-clause-told c =
    record { long = λ is. c.in_ok-told.ensures.text; within = λ short. absurd (omega (arith, short, c.if-text-gt-MAX_TEXT.true)) }

pub returns-clause-told : goal.returns-clause-told
returns-clause-told c =
    let tells = rw (c.in-Some.is, c.words_of.ensures) at c.in_ok-finding.ensures.told in
    record {
      long = λ is. absurd (omega (arith, is, c.if-text-gt-MAX_TEXT.false));
      within = λ short. record { finding = c.in-Some.finding; tells = tells; told = c.in_ok-told-2.ensures.text };
    }
