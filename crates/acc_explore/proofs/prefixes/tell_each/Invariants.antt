use Rattle.std.proofs.Common.{◌≡◌, map, reverse, take}
use Rattle.acc_report.specs.Puts.{Puts, sink}
use Rattle.acc_explore.specs.Arrivals.{events_to}
use Rattle.acc_explore.specs.Prefixes.{prefixes_text}
use Rattle.acc_explore.proofs.prefixes.tell_each.Given as goal

abbrev pub invariant-loop-number : goal.invariant-loop-number
invariant-loop-number g l = record {
  count : l.count ≡ l.number-index;
  told : Puts (sink (g.W.Write.contents l.fn.out) l.fn.failed) (sink (g.W.Write.contents l.out) l.failed)
      (prefixes_text l.schedule 1 (map (events_to (reverse l.arrivals)) (take l.number-index l.numbers)));
}
