use Rattle.std.proofs.Common.{refl}
use Rattle.acc_base.specs.Ranges.{range_contains, range_overlaps}
use Rattle.acc_present.specs.Lifetimes.{is_before, live_lifetimes, opened_lifetimes}
use Rattle.acc_present.specs.Presences.{presences}
use Rattle.acc_place.specs.Accepting.{refusal}
use Rattle.acc_place.specs.Batches.{answer_of, batch_of}
use Rattle.acc_place.specs.Histories.{standing}
use Rattle.acc_place.specs.Standings.{walk_of}
use Rattle.acc_explore.proofs.UnseenFirst.{unseen_commute}
use Rattle.acc_explore.proofs.UnseenTests.{ends_none, nobody_later}
use Rattle.acc_explore.proofs.laws.unseen_operations_commute.Goals as goal

pub returns-clause-commute : goal.returns-clause-commute
returns-clause-commute c = unseen_commute

pub returns-clause-ends_none : goal.returns-clause-ends_none
returns-clause-ends_none c = ends_none

pub returns-clause-later : goal.returns-clause-later
returns-clause-later c = nobody_later

pub returns-clause-making : goal.returns-clause-making
unfolding standing walk_of batch_of answer_of refusal presences live_lifetimes opened_lifetimes is_before range_contains range_overlaps
returns-clause-making c = (refl, refl, refl)

pub returns-clause-releasing : goal.returns-clause-releasing
unfolding standing walk_of batch_of answer_of refusal presences live_lifetimes opened_lifetimes is_before range_contains range_overlaps
returns-clause-releasing c = (refl, refl)
