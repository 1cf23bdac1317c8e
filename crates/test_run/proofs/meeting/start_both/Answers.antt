use denote.Param.Send.{sendable}
use Rattle.std.proofs.Crossing.{crosses}
use Rattle.acc_run.proofs.Crossing.{runtime_syncs}
use Rattle.test_run.proofs.meeting.start_both.Goals as goal

pub spawn-first-requires-send-F : goal.spawn-first-requires-send-F
spawn-first-requires-send-F g c κs within = search (sendable, crosses, runtime_syncs) depth 60 fits 9000

pub spawn-second-requires-send-F : goal.spawn-second-requires-send-F
spawn-second-requires-send-F g c κs within = search (sendable, crosses, runtime_syncs) depth 60 fits 9000
