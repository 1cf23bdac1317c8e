use Rattle.std.proofs.Common.{codes, ◌++◌}
use Rattle.acc_report.proofs.JoinedPuts.{puts_then}
use Rattle.acc_steps.specs.Lines.{op_word}
use Rattle.acc_steps.proofs.PutSteps.{puts_behind}
use Rattle.acc_steps.proofs.words.put_op_words.Goals as goal

pub loop-op-preserved : goal.loop-op-preserved
loop-op-preserved g c =
    let first = c.loop-op.invariant.0 in
    let word = rw (c.op_word-in-loop-op.ensures, c.op-item.is) at c.put-in-loop-op-2.ensures in (
      first,
      c.loop-op.invariant.1,
      puts_behind (op_word first) (λ p. codes ", " ++ op_word p) c.in-Some.others.now c.loop-op.op-index _ c.loop-op-test.true c.loop-op.invariant.2 (puts_then c.put-in-loop-op.ensures word),
    )
