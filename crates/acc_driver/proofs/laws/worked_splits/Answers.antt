use Rattle.acc_driver.proofs.WorkedSplits as splits
use Rattle.acc_driver.proofs.laws.worked_splits.Goals as goal

pub returns : goal.returns
returns c = splits.split_texts
