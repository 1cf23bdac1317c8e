use Rattle.std.proofs.Common.{◌∙◌, false, sym, subst}
use Rattle.acc_explore.specs.Reductions.{MayGoFirst}
use Rattle.acc_explore.proofs.GoingFirst.{apart_first, place_first, take_first}
use Rattle.acc_explore.proofs.going_first.may_go_unclosed.Goals as goal

pub returns-in-Host : goal.returns-in-Host
returns-in-Host c = λ may.
    subst (MayGoFirst false c.args.world.now) (sym c.in-Host.is) (place_first c.args.world.now c.in-Host.host c.keeps.ensures.legal (sym c.may_place.ensures ∙ may))

pub returns-in-Take : goal.returns-in-Take
returns-in-Take c = λ may.
    subst (MayGoFirst false c.args.world.now) (sym c.in-Take.is) (take_first c.args.world.now c.in-Take.at c.keeps.ensures.legal (sym c.may_take.ensures ∙ may))

pub returns-in-Perform : goal.returns-in-Perform
returns-in-Perform c = λ apart.
    subst (MayGoFirst false c.args.world.now) (sym c.in-Perform.is) (apart_first c.args.world.now c.in-Perform.at c.keeps.ensures.legal (c.stands_apart.ensures apart))
