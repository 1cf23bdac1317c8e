use Rattle.acc_run.proofs.KnownEntries.{tokens_follow}
use Rattle.acc_run.proofs.laws.tokens_follow.Goals as goal

pub returns : goal.returns
returns c = tokens_follow
