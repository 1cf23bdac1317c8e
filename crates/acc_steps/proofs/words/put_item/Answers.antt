use Rattle.acc_steps.specs.Lines.{held_on, item_text}
use Rattle.acc_report.proofs.JoinedPuts.{puts_then}
use Rattle.acc_steps.proofs.words.put_item.Goals as goal

pub returns : goal.returns
unfolding item_text
returns g c =
    let counters = c.put_counters.ensures (held_on c.args.world.now c.args.device c.args.item.now.range) c.held_on.ensures in
    puts_then c.put.ensures (puts_then c.put_range.ensures counters)
