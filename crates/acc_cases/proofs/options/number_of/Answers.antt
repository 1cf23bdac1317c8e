use Rattle.std.proofs.Common.{rules, sym}
use Rattle.acc_cases.proofs.NumberWords.{not_a_number}
use Rattle.acc_cases.proofs.options.number_of.Goals as goal

pub returns-in-Err-clause-value : goal.returns-in-Err-clause-value
returns-in-Err-clause-value c = sym (not_a_number c.args.most c.args.text.now c.in-Err.field-0 (search rules) (search rules) c.in-Err.ensures.value.0)
