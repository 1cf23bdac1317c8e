use Rattle.std.proofs.Common.{refl}
use Rattle.acc_base.specs.Ranges.{range_contains, range_overlaps}
use Rattle.acc_present.specs.Lifetimes.{is_before, opened_lifetimes, live_lifetimes}
use Rattle.acc_present.specs.Presences.{presences}
use Rattle.acc_place.specs.Accepting.{refusal}
use Rattle.acc_place.specs.Batches.{batch_of, answer_of}
use Rattle.acc_place.specs.Histories.{standing}
use Rattle.acc_place.specs.Standings.{walk_of}
use Rattle.acc_place.proofs.laws.worked_loops.Goals as goal

pub returns-clause-present : goal.returns-clause-present
unfolding standing walk_of batch_of answer_of refusal presences live_lifetimes opened_lifetimes is_before range_contains range_overlaps
returns-clause-present c = (refl, refl)

pub returns-clause-implicit : goal.returns-clause-implicit
unfolding standing walk_of batch_of answer_of refusal presences live_lifetimes opened_lifetimes is_before range_contains range_overlaps
returns-clause-implicit c = (refl, refl, refl)

pub returns-clause-clauses : goal.returns-clause-clauses
unfolding standing walk_of batch_of answer_of refusal presences live_lifetimes opened_lifetimes is_before range_contains range_overlaps
returns-clause-clauses c = (refl, refl)

pub returns-clause-constructs : goal.returns-clause-constructs
unfolding standing walk_of batch_of answer_of refusal presences live_lifetimes opened_lifetimes is_before range_contains range_overlaps
returns-clause-constructs c = (refl, refl, refl)

pub returns-clause-own : goal.returns-clause-own
unfolding standing walk_of batch_of answer_of refusal presences live_lifetimes opened_lifetimes is_before range_contains range_overlaps
returns-clause-own c = (refl, refl, refl, refl)

pub returns-clause-range : goal.returns-clause-range
unfolding standing walk_of batch_of answer_of refusal presences live_lifetimes opened_lifetimes is_before range_contains range_overlaps
returns-clause-range c = (refl, refl, refl, refl, refl)

pub returns-clause-turns : goal.returns-clause-turns
unfolding standing walk_of batch_of answer_of refusal presences live_lifetimes opened_lifetimes is_before range_contains range_overlaps
returns-clause-turns c = refl

pub returns-clause-limit : goal.returns-clause-limit
unfolding standing walk_of batch_of answer_of refusal presences live_lifetimes opened_lifetimes is_before range_contains range_overlaps
returns-clause-limit c = (refl, refl, refl, refl, refl)

pub returns-clause-items : goal.returns-clause-items
unfolding standing walk_of batch_of answer_of refusal presences live_lifetimes opened_lifetimes is_before range_contains range_overlaps
returns-clause-items c = (refl, refl, refl, refl)
