use Rattle.std.proofs.Common.{◌∙◌, sym}
use Rattle.acc_place.proofs.LoopReach.{stays_nowhere, stays_within}
use Rattle.acc_place.proofs.loops.reaches_past.Goals as goal

pub returns-in-None-clause-held : goal.returns-in-None-clause-held
returns-in-None-clause-held c = λ inside. stays_nowhere c.args.kernel.now c.args.items.now c.args.array c.in-None.ensures.nothing

pub returns-in-Some-item_of-clause-held : goal.returns-in-Some-item_of-clause-held
returns-in-Some-item_of-clause-held c =
    λ inside.
    stays_within c.args.kernel.now c.args.items.now c.args.array c.in-Some.reach c.in-Some-item_of.item.now c.in-Some.ensures.reached c.in-Some-item_of.ensures
    (sym c.reaches_past_item.ensures ∙ inside)
