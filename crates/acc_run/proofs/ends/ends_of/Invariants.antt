use Rattle.acc_run.proofs.FirstEnds.{EndsTo}
use Rattle.acc_run.proofs.ends.ends_of.Given as goal

abbrev pub invariant-loop-index : goal.invariant-loop-index
invariant-loop-index l = record {
  senders : EndsTo l.index l.config.room l.senders.items;
  takers : EndsTo l.index l.config.room l.takers.items;
}
