use Rattle.std.proofs.Common.{refl}
use Rattle.acc_base.specs.Ranges.{range_contains, range_overlaps}
use Rattle.acc_present.specs.Lifetimes.{is_before, live_lifetimes, opened_lifetimes}
use Rattle.acc_present.specs.Presences.{presences}
use Rattle.acc_place.specs.Accepting.{refusal}
use Rattle.acc_place.specs.Batches.{answer_of, batch_of}
use Rattle.acc_place.specs.Histories.{standing}
use Rattle.acc_place.specs.Standings.{walk_of}
use Rattle.acc_explore.proofs.ApartFirst.{apart_commute}
use Rattle.acc_explore.proofs.laws.apart_operations_commute.Goals as goal

pub returns-clause-commute : goal.returns-clause-commute
returns-clause-commute c = apart_commute

pub returns-clause-prints : goal.returns-clause-prints
unfolding standing walk_of batch_of answer_of refusal presences live_lifetimes opened_lifetimes is_before range_contains range_overlaps
returns-clause-prints c = (refl, refl)

pub returns-clause-placed : goal.returns-clause-placed
unfolding standing walk_of batch_of answer_of refusal presences live_lifetimes opened_lifetimes is_before range_contains range_overlaps
returns-clause-placed c = (refl, refl)

pub returns-clause-named : goal.returns-clause-named
unfolding standing walk_of batch_of answer_of refusal presences live_lifetimes opened_lifetimes is_before range_contains range_overlaps
returns-clause-named c = (refl, refl)
