use Rattle.acc_place.proofs.DirectivesCounted.{accepted_counted, entered_left}
use Rattle.acc_place.proofs.laws.accepted_directives_are_counted.Goals as goal

pub returns-clause-counted : goal.returns-clause-counted
returns-clause-counted c = accepted_counted

pub returns-clause-left : goal.returns-clause-left
returns-clause-left c = entered_left
