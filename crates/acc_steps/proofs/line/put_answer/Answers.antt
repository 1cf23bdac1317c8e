use Rattle.acc_steps.proofs.line.put_answer.Goals as goal

pub returns-then-answer : goal.returns-then-answer
returns-then-answer g c = rw c.if-answer.true c.put.ensures

pub returns-else-answer : goal.returns-else-answer
returns-else-answer g c = rw c.if-answer.false c.put-else-answer.ensures
