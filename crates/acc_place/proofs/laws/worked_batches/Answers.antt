use Rattle.std.proofs.Common.{refl}
use Rattle.acc_base.specs.Ranges.{range_contains, range_overlaps}
use Rattle.acc_present.specs.Lifetimes.{is_before, opened_lifetimes, live_lifetimes}
use Rattle.acc_present.specs.Presences.{presences}
use Rattle.acc_place.specs.Batches.{batch_of, answer_of}
use Rattle.acc_place.specs.Histories.{standing}
use Rattle.acc_place.specs.Standings.{walk_of}
use Rattle.acc_place.proofs.laws.worked_batches.Goals as goal

pub returns-clause-groups : goal.returns-clause-groups
unfolding standing walk_of batch_of answer_of presences live_lifetimes opened_lifetimes is_before range_contains range_overlaps
returns-clause-groups c = refl

pub returns-clause-part : goal.returns-clause-part
unfolding standing walk_of batch_of answer_of presences live_lifetimes opened_lifetimes is_before range_contains range_overlaps
returns-clause-part c = refl

pub returns-clause-leaves : goal.returns-clause-leaves
unfolding standing walk_of batch_of answer_of presences live_lifetimes opened_lifetimes is_before range_contains range_overlaps
returns-clause-leaves c = refl

pub returns-clause-enters : goal.returns-clause-enters
unfolding standing walk_of batch_of answer_of presences live_lifetimes opened_lifetimes is_before range_contains range_overlaps
returns-clause-enters c = refl

pub returns-clause-empty : goal.returns-clause-empty
unfolding standing walk_of batch_of answer_of presences live_lifetimes opened_lifetimes is_before range_contains range_overlaps
returns-clause-empty c = (refl, refl)
