use Rattle.acc_steps.specs.Lines.{nothing_text}
use Rattle.acc_steps.proofs.line.put_nothing.Goals as goal

pub returns-in-Host : goal.returns-in-Host
unfolding nothing_text
returns-in-Host g c = rw c.in-Host.is c.put.ensures

pub returns-in-Take : goal.returns-in-Take
unfolding nothing_text
returns-in-Take g c = rw c.in-Take.is c.put-in-Take.ensures
