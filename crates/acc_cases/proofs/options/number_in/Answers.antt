use Rattle.std.proofs.Common.{rules}
use Rattle.acc_cases.proofs.NumberWords.{digits_are_text}
use Rattle.acc_cases.proofs.options.number_in.Goals as goal

pub returns-in-Err-clause-value : goal.returns-in-Err-clause-value
returns-in-Err-clause-value c = absurd (c.in-Err.ensures.cases.0 (digits_are_text c.args.word.now (search rules)))
