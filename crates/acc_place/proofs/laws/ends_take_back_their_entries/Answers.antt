use Rattle.acc_place.proofs.EntriesAndEnds.{ends_take_back, entries_add, others_kept}
use Rattle.acc_place.proofs.laws.ends_take_back_their_entries.Goals as goal

pub returns-clause-entries : goal.returns-clause-entries
returns-clause-entries c = entries_add

pub returns-clause-ends : goal.returns-clause-ends
returns-clause-ends c = ends_take_back

pub returns-clause-others : goal.returns-clause-others
returns-clause-others c = others_kept
