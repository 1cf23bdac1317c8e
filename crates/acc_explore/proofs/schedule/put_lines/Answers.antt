use Rattle.std.proofs.Common.{◌≡◌, ◌∙◌, sym, true, false, arith}
use Rattle.acc_report.specs.Puts.{sink}
use Rattle.acc_explore.specs.Spellings.{joins, lines_from}
use Rattle.acc_explore.proofs.SpelledPuts.{few_joined, last_line, line_ends, line_goes_on}
use Rattle.acc_explore.proofs.schedule.put_lines.Goals as goal
use Rattle.acc_explore.proofs.schedule.put_lines.Goals.{then-joins, else-joins}

pub loop-next-preserved : goal.loop-next-preserved
loop-next-preserved g c =
    let l = c.loop-next in
    let others = c.args.others.now in
    let x = c.next-item.result in
    let text = lines_from c.args.first.now 1 others in
    elim c.if-joins.branch [
      | then-joins w ↦ (
          let joined : joins l.event l.times x ≡ true = sym c.joins.ensures ∙ w.if-joins.true in
          rw (w.out-is, w.failed-is, w.event-is, w.times-is) (record {
            few = few_joined l.event x l.times joined;
            puts = line_goes_on text l.event x l.times l.next-index others c.loop-next-test.true c.next-item.is l.invariant.puts joined;
          })
          )
      | else-joins w ↦ (
          let apart : joins l.event l.times x ≡ false = sym c.joins.ensures ∙ w.if-joins.false in
          rw (w.out-is, w.failed-is, w.event-is, w.times-is) (record {
            few = omega arith;
            puts = line_ends text l.event x l.times l.next-index others c.loop-next-test.true c.next-item.is l.invariant.puts {c = sink (g.W.Write.contents w.put_line.new.out) w.put_line.new.failed} apart w.put_line.ensures;
          })
          )
    ]

pub returns : goal.returns
returns g c =
    let l = c.loop-next in
    last_line (lines_from c.args.first.now 1 c.args.others.now) l.event l.times l.next-index c.args.others.now c.loop-next-test.false l.invariant.puts c.put_line-2.ensures
