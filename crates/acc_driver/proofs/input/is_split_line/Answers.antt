use Rattle.acc_driver.proofs.SplitText.{too_short}
use Rattle.acc_driver.proofs.input.is_split_line.Goals as goal

pub returns-in_default : goal.returns-in_default
returns-in_default c = too_short c.args.bytes.now c.in_default.len_below
