use denote.Param.Send.{sendable}
use Rattle.std.proofs.Crossing.{crosses}
use Rattle.acc_run.proofs.Crossing.{reader_sends}
use Rattle.test_run.proofs.readers.start_watch.Goals as goal

pub spawn-requires-send-F : goal.spawn-requires-send-F
spawn-requires-send-F g c κs within = search (sendable, crosses, reader_sends) depth 60 fits 9000
