use Rattle.std.proofs.Common.{sym}
use Rattle.acc_steps.specs.Lines.{present_on}
use Rattle.acc_steps.proofs.FoundRanges.{not_partly}
use Rattle.acc_steps.proofs.found.is_partly_present.Goals as goal

pub returns-then-range-eq0 : goal.returns-then-range-eq0
returns-then-range-eq0 c = sym (not_partly (present_on c.args.world.now c.args.device) c.args.range c.if-range-eq0.true)
