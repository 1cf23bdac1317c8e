use Rattle.acc_driver.proofs.ExploredParts.{are_parts}
use Rattle.acc_driver.proofs.laws.prefixes_are_parts.Goals as goal

pub returns : goal.returns
returns c = are_parts c.prefixes_miss_none_together.ensures.together
