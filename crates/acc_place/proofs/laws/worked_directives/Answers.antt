use Rattle.std.proofs.Common.{refl}
use Rattle.acc_base.specs.Ranges.{range_contains, range_overlaps}
use Rattle.acc_present.specs.Lifetimes.{is_before, opened_lifetimes, live_lifetimes}
use Rattle.acc_present.specs.Presences.{presences}
use Rattle.acc_place.specs.Accepting.{refusal}
use Rattle.acc_place.specs.Batches.{batch_of, answer_of}
use Rattle.acc_place.specs.Histories.{standing}
use Rattle.acc_place.specs.Standings.{walk_of}
use Rattle.acc_place.proofs.laws.worked_directives.Goals as goal

pub returns-clause-entries : goal.returns-clause-entries
unfolding standing walk_of batch_of answer_of refusal presences live_lifetimes opened_lifetimes is_before range_contains range_overlaps
returns-clause-entries c = (refl, refl, refl, refl, refl, refl)

pub returns-clause-inside : goal.returns-clause-inside
unfolding standing walk_of batch_of answer_of refusal presences live_lifetimes opened_lifetimes is_before range_contains range_overlaps
returns-clause-inside c = (refl, refl, refl, refl)

pub returns-clause-updates : goal.returns-clause-updates
unfolding standing walk_of batch_of answer_of refusal presences live_lifetimes opened_lifetimes is_before range_contains range_overlaps
returns-clause-updates c = (refl, refl, refl, refl, refl, refl, refl)

pub returns-clause-questions : goal.returns-clause-questions
unfolding standing walk_of batch_of answer_of refusal presences live_lifetimes opened_lifetimes is_before range_contains range_overlaps
returns-clause-questions c = (refl, refl, refl, refl, refl, refl)

pub returns-clause-items : goal.returns-clause-items
unfolding standing walk_of batch_of answer_of refusal presences live_lifetimes opened_lifetimes is_before range_contains range_overlaps
returns-clause-items c = (refl, refl, refl, refl, refl, refl)
