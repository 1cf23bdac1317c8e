use Rattle.acc_cases.specs.declared.fault.Kind.TheVariants.{Script, Schedule, Line, Report}
use Rattle.acc_cases.proofs.CaseNames.{own_case}
use Rattle.acc_cases.proofs.names.case_of.Goals as goal

pub returns-in-Some : goal.returns-in-Some
returns-in-Some c = own_case c.args.file.now c.in-Some.name.now Script c.in-Some.ensures.found

pub returns-in-Some-without_ending : goal.returns-in-Some-without_ending
returns-in-Some-without_ending c = own_case c.args.file.now c.in-Some-without_ending.name.now Schedule c.in-Some-without_ending.ensures.found

pub returns-in-Some-without_ending-2 : goal.returns-in-Some-without_ending-2
returns-in-Some-without_ending-2 c = own_case c.args.file.now c.in-Some-without_ending-2.name.now Line c.in-Some-without_ending-2.ensures.found

pub returns-in-Some-without_ending-3 : goal.returns-in-Some-without_ending-3
returns-in-Some-without_ending-3 c = own_case c.args.file.now c.in-Some-without_ending-3.name.now Report c.in-Some-without_ending-3.ensures.found
