use Rattle.acc_driver.specs.declared.steps.StepsAs.TheVariants.{AllLines, Lines}
use Rattle.acc_driver.proofs.steps.show_world.Goals as goal

pub returns-in-Lines : goal.returns-in-Lines
returns-in-Lines g c = rw c.in-Lines.is (c.tell_world.ensures Lines tt)

pub returns-in-AllLines : goal.returns-in-AllLines
returns-in-AllLines g c = rw c.in-AllLines.is (c.tell_world-in-AllLines.ensures AllLines tt)
