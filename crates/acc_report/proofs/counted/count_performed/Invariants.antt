use Rattle.std.proofs.Common.{◌≡◌, ◌++◌, map, reverse}
use Rattle.acc_batch.specs.declared.entry.WorkEntry.{WorkEntry}
use Rattle.acc_work.specs.Logs.{performed}
use Rattle.acc_report.specs.inner.Counting.{AreCounted}
use Rattle.acc_report.proofs.counted.count_performed.Given as goal

abbrev pub invariant-loop-entry : goal.invariant-loop-entry
invariant-loop-entry l =
    let read = map (λ e. e.now) l.yielded in
    record {
      all : l.works.items ≡ read ++ l.entry-iterator;
      counted : AreCounted l.config.devices (λ at. performed at (reverse read)) l.counts.items;
    }
