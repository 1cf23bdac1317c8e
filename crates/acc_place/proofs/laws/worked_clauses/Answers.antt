use Rattle.std.proofs.Common.{refl}
use Rattle.acc_place.proofs.laws.worked_clauses.Goals as goal

abbrev pub returns-clause-data : goal.returns-clause-data
returns-clause-data c = (refl, refl, refl, refl, refl, refl, refl, refl, refl, refl)

abbrev pub returns-clause-counts : goal.returns-clause-counts
returns-clause-counts c = (refl, refl, refl, refl, refl, refl, refl)

abbrev pub returns-clause-targets : goal.returns-clause-targets
returns-clause-targets c = (refl, refl, refl, refl, refl, refl)

abbrev pub returns-clause-waits : goal.returns-clause-waits
returns-clause-waits c = (refl, refl, refl, refl, refl, refl, refl, refl)
