use Rattle.std.proofs.Common.{refl}
use Rattle.acc_base.specs.Ranges.{range_contains, range_overlaps}
use Rattle.acc_present.specs.Lifetimes.{is_before, opened_lifetimes, live_lifetimes}
use Rattle.acc_present.specs.Presences.{presences}
use Rattle.acc_place.specs.Accepting.{refusal}
use Rattle.acc_place.specs.Batches.{batch_of, answer_of}
use Rattle.acc_place.specs.Histories.{standing}
use Rattle.acc_place.specs.Standings.{walk_of}
use Rattle.acc_place.proofs.laws.worked_regions.Goals as goal

pub returns-clause-absent : goal.returns-clause-absent
unfolding standing walk_of batch_of answer_of refusal presences live_lifetimes opened_lifetimes is_before range_contains range_overlaps
returns-clause-absent c = (refl, refl, refl, refl, refl, refl)

pub returns-clause-present : goal.returns-clause-present
unfolding standing walk_of batch_of answer_of refusal presences live_lifetimes opened_lifetimes is_before range_contains range_overlaps
returns-clause-present c = (refl, refl)

pub returns-clause-last : goal.returns-clause-last
unfolding standing walk_of batch_of answer_of refusal presences live_lifetimes opened_lifetimes is_before range_contains range_overlaps
returns-clause-last c = (refl, refl, refl, refl, refl, refl)

pub returns-clause-counted : goal.returns-clause-counted
unfolding standing walk_of batch_of answer_of refusal presences live_lifetimes opened_lifetimes is_before range_contains range_overlaps
returns-clause-counted c = (refl, refl)

pub returns-clause-nested : goal.returns-clause-nested
unfolding standing walk_of batch_of answer_of refusal presences live_lifetimes opened_lifetimes is_before range_contains range_overlaps
returns-clause-nested c = (refl, refl, refl)

pub returns-clause-own : goal.returns-clause-own
unfolding standing walk_of batch_of answer_of refusal presences live_lifetimes opened_lifetimes is_before range_contains range_overlaps
returns-clause-own c = (refl, refl, refl)

pub returns-clause-depth : goal.returns-clause-depth
unfolding standing walk_of batch_of answer_of refusal presences live_lifetimes opened_lifetimes is_before range_contains range_overlaps
returns-clause-depth c = (refl, refl, refl, refl, refl, refl)
