use Rattle.std.proofs.Common.{length}
use Rattle.acc_place.proofs.device.Device.+note_uses.Given as goal

-- the slice gets shorter
abbrev pub decreases-note_uses : goal.decreases-note_uses
decreases-note_uses l = length l.uses.now
