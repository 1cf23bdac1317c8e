use Rattle.std.proofs.Common.{refl}
use Rattle.acc_base.specs.Ranges.{range_contains, range_overlaps}
use Rattle.acc_present.specs.Lifetimes.{is_before, opened_lifetimes, live_lifetimes}
use Rattle.acc_present.specs.Presences.{presences}
use Rattle.acc_place.specs.Accepting.{refusal}
use Rattle.acc_place.specs.Batches.{batch_of}
use Rattle.acc_place.specs.Histories.{standing}
use Rattle.acc_place.specs.Standings.{walk_of}
use Rattle.acc_place.proofs.laws.worked_refusals.Goals as goal

pub returns-clause-items : goal.returns-clause-items
unfolding standing walk_of batch_of refusal presences live_lifetimes opened_lifetimes is_before range_contains range_overlaps
returns-clause-items c = (refl, refl, refl)

pub returns-clause-before : goal.returns-clause-before
unfolding standing walk_of batch_of refusal presences live_lifetimes opened_lifetimes is_before range_contains range_overlaps
returns-clause-before c = (refl, refl, refl)

pub returns-clause-limits : goal.returns-clause-limits
unfolding standing walk_of batch_of refusal presences live_lifetimes opened_lifetimes is_before range_contains range_overlaps
returns-clause-limits c = (refl, refl, refl)

pub returns-clause-last : goal.returns-clause-last
unfolding standing walk_of batch_of refusal presences live_lifetimes opened_lifetimes is_before range_contains range_overlaps
returns-clause-last c = (refl, refl)

pub returns-clause-ranges : goal.returns-clause-ranges
unfolding standing walk_of batch_of refusal presences live_lifetimes opened_lifetimes is_before range_contains range_overlaps
returns-clause-ranges c = (refl, refl, refl, refl, refl)

pub returns-clause-capacity : goal.returns-clause-capacity
unfolding standing walk_of batch_of refusal presences live_lifetimes opened_lifetimes is_before range_contains range_overlaps
returns-clause-capacity c = (refl, refl, refl, refl, refl)
