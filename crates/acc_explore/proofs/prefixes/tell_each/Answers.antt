use Rattle.std.proofs.Common.{reverse, refl, arith}
use Rattle.acc_report.proofs.JoinedPuts.{puts_then}
use Rattle.acc_explore.proofs.ToldPrefixes.{one_more}
use Rattle.acc_explore.proofs.prefixes.tell_each.Goals as goal

pub loop-number-preserved : goal.loop-number-preserved
loop-number-preserved g c =
    let i = c.loop-number.invariant in
    record {
      count = omega (arith, i.count);
      told = rw (one_more c.args.schedule.now (reverse c.args.arrivals.now) c.args.numbers.now c.loop-number.number-index _ (omega (arith, c.loop-number-test.true)) refl)
          (puts_then i.told (rw (c.as_slice.ensures.value, c.in-Ok.ensures.events, i.count) at c.put_prefix.ensures));
    }
