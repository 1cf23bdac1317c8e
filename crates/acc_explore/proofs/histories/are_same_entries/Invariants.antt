use Rattle.std.proofs.Common.{◌≡◌, take}
use Rattle.acc_explore.proofs.histories.are_same_entries.Given as goal

abbrev pub invariant-loop-index : goal.invariant-loop-index
invariant-loop-index l = take l.index l.entries ≡ take l.index l.others
