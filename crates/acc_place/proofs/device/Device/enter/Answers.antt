use Rattle.std.proofs.Common.{arith}
use Rattle.acc_place.proofs.device.Device.enter.Goals as goal

pub returns-in-Counted-clause-notes : goal.returns-in-Counted-clause-notes
returns-in-Counted-clause-notes c = λ notes fresh h. c.enter.ensures.notes notes h (λ none. fresh c.args.range c.new.result (omega (arith, c.new.ensures)))

pub returns-in-Opened-clause-notes : goal.returns-in-Opened-clause-notes
returns-in-Opened-clause-notes c = λ notes fresh h. c.enter.ensures.notes notes h (λ none. fresh c.args.range c.new.result (omega (arith, c.new.ensures)))
