use Rattle.std.proofs.Common.{rules}
use Rattle.acc_queue.proofs.ForQueue.{pushes}
use Rattle.acc_queue.proofs.activity.Sender.push.Goals as goal

pub send_last-requires-clause-pushes : goal.send_last-requires-clause-pushes
send_last-requires-clause-pushes g c =
    let v = c.self.inside.pass.me.0.client in
    pushes v c.args.batch _ c.self.inside.pass.id (search rules) (search rules) (rw (← c.self.view_is) at c.requires)
