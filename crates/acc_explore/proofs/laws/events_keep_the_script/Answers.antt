use Rattle.acc_explore.proofs.OneScript.{script_kept}
use Rattle.acc_explore.proofs.laws.events_keep_the_script.Goals as goal

pub returns : goal.returns
returns c = script_kept
