use Rattle.acc_report.proofs.JoinedPuts.{puts_then}
use Rattle.acc_steps.specs.Lines.{room_text}
use Rattle.acc_steps.proofs.refusal.put_room.Goals as goal

pub returns : goal.returns
unfolding room_text
returns g c =
    let room = rw (c.room.ensures, c.config.ensures, c.place.ensures.config) at c.put_number.ensures in
    puts_then c.put.ensures (puts_then c.put_queue.ensures (puts_then c.put-2.ensures (puts_then room c.put-3.ensures)))
