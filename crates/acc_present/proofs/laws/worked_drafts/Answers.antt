-- Each side computes to the same list, once the definitions that don't unfold by themselves are open.
use Rattle.std.proofs.Common.{refl}
use Rattle.acc_base.specs.Ranges.{range_contains, range_overlaps}
use Rattle.acc_present.specs.Lifetimes.{is_before}
use Rattle.acc_present.specs.Drafts.{with_changed}
use Rattle.acc_present.proofs.laws.worked_drafts.Goals as goal

pub returns-clause-between : goal.returns-clause-between
unfolding range_contains range_overlaps is_before with_changed
returns-clause-between c = refl

pub returns-clause-halves : goal.returns-clause-halves
unfolding range_overlaps with_changed
returns-clause-halves c = refl

pub returns-clause-half : goal.returns-clause-half
unfolding range_contains range_overlaps is_before with_changed
returns-clause-half c = refl

pub returns-clause-once : goal.returns-clause-once
unfolding range_overlaps is_before with_changed
returns-clause-once c = refl

pub returns-clause-twice : goal.returns-clause-twice
unfolding range_overlaps with_changed
returns-clause-twice c = refl

pub returns-clause-whole : goal.returns-clause-whole
unfolding range_overlaps is_before with_changed
returns-clause-whole c = refl

pub returns-clause-finalized : goal.returns-clause-finalized
unfolding range_contains range_overlaps is_before with_changed
returns-clause-finalized c = refl

pub returns-clause-region : goal.returns-clause-region
unfolding range_contains range_overlaps with_changed
returns-clause-region c = refl
