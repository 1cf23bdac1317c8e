use denote.Param.Send.{sendable}
use Rattle.std.proofs.Crossing.{crosses}
use Rattle.acc_run.proofs.Crossing.{runtime_syncs}
use Rattle.test_run.proofs.jobs.start.Goals as goal

pub spawn-requires-send-F : goal.spawn-requires-send-F
spawn-requires-send-F g c κs within = search (sendable, crosses, runtime_syncs) depth 60 fits 9000
