use Rattle.std.proofs.Common.{refl}
use Rattle.test_grammar.proofs.WorkedLoops as loops
use Rattle.test_grammar.proofs.worked.worked_loop_texts.Goals as goal

pub returns-clause-expressions : goal.returns-clause-expressions
returns-clause-expressions c = loops.loop_texts

pub returns-clause-forms : goal.returns-clause-forms
returns-clause-forms c = loops.loop_forms

pub returns-clause-faults : goal.returns-clause-faults
returns-clause-faults c = loops.loop_faults

pub returns-clause-limits : goal.returns-clause-limits
returns-clause-limits c = record { nesting = refl }
