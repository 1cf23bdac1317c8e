use Rattle.acc_cases.proofs.GivenWords.{given_turn}
use Rattle.acc_cases.proofs.options.given_first.Goals as goal

pub returns-in-Some-clause-given : goal.returns-in-Some-clause-given
returns-in-Some-clause-given c = given_turn c.args.given c.in-Some.more c.args.words.now _ c.requires.two c.in-Some.ensures.value
