use Rattle.std.proofs.Common.{refl}
use Rattle.std.specs.Int.{int_wrap}
use Rattle.acc_base.specs.Ranges.{range_contains, range_overlaps}
use Rattle.acc_present.specs.Lifetimes.{is_before, opened_lifetimes, live_lifetimes}
use Rattle.acc_present.specs.Presences.{presences}
use Rattle.acc_place.specs.Accepting.{refusal}
use Rattle.acc_place.specs.Batches.{batch_of, answer_of}
use Rattle.acc_place.specs.Histories.{standing}
use Rattle.acc_place.specs.Standings.{walk_of}
use Rattle.acc_core.proofs.laws.worked_queues.Goals as goal

pub returns-clause-use_awaits : goal.returns-clause-use_awaits
unfolding int_wrap standing walk_of batch_of answer_of refusal presences live_lifetimes opened_lifetimes is_before range_contains range_overlaps
returns-clause-use_awaits c = refl

pub returns-clause-release_awaits : goal.returns-clause-release_awaits
unfolding int_wrap standing walk_of batch_of answer_of refusal presences live_lifetimes opened_lifetimes is_before range_contains range_overlaps
returns-clause-release_awaits c = refl

pub returns-clause-values : goal.returns-clause-values
unfolding int_wrap standing walk_of batch_of answer_of refusal presences live_lifetimes opened_lifetimes is_before range_contains range_overlaps
returns-clause-values c = refl

pub returns-clause-in_order : goal.returns-clause-in_order
unfolding int_wrap standing walk_of batch_of answer_of refusal presences live_lifetimes opened_lifetimes is_before range_contains range_overlaps
returns-clause-in_order c = refl

pub returns-clause-waits : goal.returns-clause-waits
unfolding int_wrap standing walk_of batch_of answer_of refusal presences live_lifetimes opened_lifetimes is_before range_contains range_overlaps
returns-clause-waits c = refl

pub returns-clause-capacity : goal.returns-clause-capacity
unfolding int_wrap standing walk_of batch_of answer_of refusal presences live_lifetimes opened_lifetimes is_before range_contains range_overlaps
returns-clause-capacity c = refl
