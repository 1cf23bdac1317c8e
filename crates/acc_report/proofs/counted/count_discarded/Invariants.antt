use Rattle.std.proofs.Common.{take}
use Rattle.acc_host.specs.Discards.{discarded_on}
use Rattle.acc_report.specs.inner.Counting.{AreCounted}
use Rattle.acc_report.proofs.counted.count_discarded.Given as goal

abbrev pub invariant-loop-entry : goal.invariant-loop-entry
invariant-loop-entry l = AreCounted l.config.devices (λ at. discarded_on at (take l.entry-index l.list)) l.counts.items
