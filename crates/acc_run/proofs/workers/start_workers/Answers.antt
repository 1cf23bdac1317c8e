use denote.Param.Send.{sendable}
use Rattle.acc_run.proofs.Crossing.{crew_shares, runtime_shares}
use Rattle.acc_run.proofs.workers.start_workers.Goals as goal

pub spawn-requires-send-F : goal.spawn-requires-send-F
spawn-requires-send-F g c κs within = search (sendable, runtime_shares, crew_shares) depth 60 fits 9000
