use Rattle.acc_present.proofs.LegalMarks.{legal, can_count-balanced, can_count-dynamic}
use Rattle.acc_present.proofs.Presences.{presences-more}
use Rattle.acc_present.proofs.laws.one_more_mark.Goals as goal

pub returns-clause-legal : goal.returns-clause-legal
returns-clause-legal c = λ m before all_legal. presences-more m before (can_count-balanced m.change before (legal before all_legal).balanced)

pub returns-clause-dynamic : goal.returns-clause-dynamic
returns-clause-dynamic c = λ m before is_dynamic. presences-more m before (can_count-dynamic m.change before is_dynamic)
