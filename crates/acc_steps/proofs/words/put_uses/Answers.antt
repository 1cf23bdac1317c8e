use Rattle.std.proofs.Common.{◌<◌, length, arith}
use Rattle.acc_script.specs.Arrays.{texts}
use Rattle.acc_steps.specs.Lines.{use_text}
use Rattle.acc_steps.proofs.PutSteps.{puts_more}
use Rattle.acc_steps.proofs.words.put_uses.Goals as goal

pub loop-used-preserved : goal.loop-used-preserved
loop-used-preserved g c =
    let below : c.loop-used.used-index < length c.args.uses.now = omega (arith, c.loop-used-test.true) in
    puts_more (use_text (texts c.args.names.now)) c.args.uses.now c.loop-used.used-index _ below c.loop-used.invariant (rw c.used-item.is at c.put_use.ensures)
