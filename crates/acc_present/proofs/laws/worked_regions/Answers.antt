use Rattle.std.proofs.Common.{refl, arith}
use Rattle.acc_base.specs.Ranges.{range_contains, range_overlaps}
use Rattle.acc_present.specs.Lifetimes.{is_before, opened_lifetimes, live_lifetimes}
use Rattle.acc_present.specs.Presences.{presences}
use Rattle.acc_present.proofs.laws.worked_regions.Goals as goal

pub returns-clause-twice : goal.returns-clause-twice
unfolding presences live_lifetimes opened_lifetimes is_before range_contains
returns-clause-twice c = refl

pub returns-clause-ends : goal.returns-clause-ends
unfolding presences live_lifetimes opened_lifetimes is_before range_contains
returns-clause-ends c = refl

pub returns-clause-part : goal.returns-clause-part
unfolding presences live_lifetimes opened_lifetimes is_before range_contains
returns-clause-part c = refl

pub returns-clause-entered_inside : goal.returns-clause-entered_inside
unfolding presences live_lifetimes opened_lifetimes is_before range_contains
returns-clause-entered_inside c = refl

pub returns-clause-entered_outside : goal.returns-clause-entered_outside
unfolding presences live_lifetimes opened_lifetimes is_before range_contains
returns-clause-entered_outside c = refl

pub returns-clause-left_inside : goal.returns-clause-left_inside
unfolding presences live_lifetimes opened_lifetimes is_before range_contains
returns-clause-left_inside c = refl

pub returns-clause-at_zero : goal.returns-clause-at_zero
unfolding presences live_lifetimes opened_lifetimes is_before range_contains
returns-clause-at_zero c = refl

pub returns-clause-finalize : goal.returns-clause-finalize
unfolding presences live_lifetimes opened_lifetimes is_before range_contains
returns-clause-finalize c = refl

pub returns-clause-end : goal.returns-clause-end
unfolding presences live_lifetimes opened_lifetimes is_before range_contains
returns-clause-end c = refl

pub returns-clause-again : goal.returns-clause-again
unfolding presences live_lifetimes opened_lifetimes is_before range_contains
returns-clause-again c = refl

pub returns-clause-legal : goal.returns-clause-legal
unfolding presences live_lifetimes opened_lifetimes is_before range_contains range_overlaps
returns-clause-legal c =
    ((omega arith, omega arith), ((omega arith, tt), ((omega arith, tt), ((omega arith, refl), ((omega arith, refl), ((omega arith, refl), tt))))))
