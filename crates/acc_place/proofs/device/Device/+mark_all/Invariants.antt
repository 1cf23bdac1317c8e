use Rattle.std.proofs.Common.{length}
use Rattle.acc_place.proofs.device.Device.+mark_all.Given as goal

abbrev pub decreases-mark_all : goal.decreases-mark_all
decreases-mark_all l = length l.items.now
