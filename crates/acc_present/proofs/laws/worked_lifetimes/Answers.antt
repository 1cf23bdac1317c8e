use Rattle.std.proofs.Common.{refl}
use Rattle.acc_base.specs.Ranges.{range_contains}
use Rattle.acc_present.specs.Lifetimes.{is_before, opened_lifetimes, live_lifetimes}
use Rattle.acc_present.specs.Presences.{presences}
use Rattle.acc_present.proofs.laws.worked_lifetimes.Goals as goal

pub returns-clause-twice : goal.returns-clause-twice
unfolding presences live_lifetimes opened_lifetimes is_before range_contains
returns-clause-twice c = refl

pub returns-clause-again : goal.returns-clause-again
unfolding presences live_lifetimes opened_lifetimes is_before range_contains
returns-clause-again c = refl

pub returns-clause-beside : goal.returns-clause-beside
unfolding presences live_lifetimes opened_lifetimes is_before range_contains
returns-clause-beside c = refl

pub returns-clause-part : goal.returns-clause-part
unfolding presences live_lifetimes opened_lifetimes is_before range_contains
returns-clause-part c = refl

pub returns-clause-part_ends : goal.returns-clause-part_ends
unfolding presences live_lifetimes opened_lifetimes is_before range_contains
returns-clause-part_ends c = refl

pub returns-clause-absent : goal.returns-clause-absent
unfolding presences live_lifetimes opened_lifetimes is_before range_contains
returns-clause-absent c = refl

pub returns-clause-finalize : goal.returns-clause-finalize
unfolding presences live_lifetimes opened_lifetimes is_before range_contains
returns-clause-finalize c = refl
