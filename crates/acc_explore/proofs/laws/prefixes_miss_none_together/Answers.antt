use Rattle.acc_explore.proofs.SaidEndings.{prefixes_said}
use Rattle.acc_explore.proofs.ToldPrefixes.{together}
use Rattle.acc_explore.proofs.laws.prefixes_miss_none_together.Goals as goal

pub returns-clause-together : goal.returns-clause-together
returns-clause-together c = together

pub returns-clause-said : goal.returns-clause-said
returns-clause-said c = prefixes_said
