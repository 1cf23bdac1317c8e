use Rattle.std.proofs.Common.{length}
use Rattle.acc_place.proofs.device.Device.+note_all.Given as goal

-- the slice gets shorter
abbrev pub decreases-note_all : goal.decreases-note_all
decreases-note_all l = length l.ops.now
