use denote.Param.Send.{sendable}
use Rattle.std.proofs.Crossing.{crosses}
use Rattle.acc_run.proofs.Crossing.{host_sends, marks_shares, runtime_shares, token_sends}
use Rattle.acc_run.proofs.hosts.start_host.Goals as goal

pub spawn_with-requires-send-F : goal.spawn_with-requires-send-F
spawn_with-requires-send-F g c κs within = search (sendable, crosses, runtime_shares, marks_shares, host_sends, token_sends, c.type_bounds.sync-R, c.type_bounds.sync-G) depth 60 fits 9000
