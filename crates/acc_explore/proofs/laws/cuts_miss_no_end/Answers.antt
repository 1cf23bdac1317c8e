use Rattle.acc_explore.proofs.Reduced.{cut_misses_none}
use Rattle.acc_explore.proofs.laws.cuts_miss_no_end.Goals as goal

pub returns : goal.returns
returns c = cut_misses_none
