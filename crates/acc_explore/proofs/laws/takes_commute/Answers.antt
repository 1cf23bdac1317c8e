use Rattle.std.proofs.Common.{refl}
use Rattle.std.specs.Int.{int_wrap}
use Rattle.acc_base.specs.Ranges.{range_contains, range_overlaps}
use Rattle.acc_present.specs.Lifetimes.{is_before, opened_lifetimes, live_lifetimes}
use Rattle.acc_present.specs.Presences.{presences}
use Rattle.acc_place.specs.Accepting.{refusal}
use Rattle.acc_place.specs.Batches.{batch_of, answer_of}
use Rattle.acc_place.specs.Histories.{standing}
use Rattle.acc_place.specs.Standings.{walk_of}
use Rattle.acc_explore.proofs.TakesFirst.{takes_commute}
use Rattle.acc_explore.proofs.laws.takes_commute.Goals as goal

pub returns-clause-commute : goal.returns-clause-commute
returns-clause-commute c = takes_commute

pub returns-clause-room : goal.returns-clause-room
unfolding int_wrap standing walk_of batch_of answer_of refusal presences live_lifetimes opened_lifetimes is_before range_contains range_overlaps
returns-clause-room c = refl

pub returns-clause-seen : goal.returns-clause-seen
unfolding int_wrap standing walk_of batch_of answer_of refusal presences live_lifetimes opened_lifetimes is_before range_contains range_overlaps
returns-clause-seen c = (refl, refl, refl)
