use Rattle.std.proofs.Common.{sym, subst}
use Rattle.acc_explore.specs.Reductions.{MayGoFirst}
use Rattle.acc_explore.proofs.GoingFirst.{own_first, reached_first, unseen_first}
use Rattle.acc_explore.proofs.going_first.may_go_freely.Goals as goal

pub returns-then-stands_at_own : goal.returns-then-stands_at_own
returns-then-stands_at_own c = λ yes closing.
    subst (MayGoFirst closing c.args.world.now) (sym c.in-Host.is)
    (own_first c.args.world.now c.in-Host.host c.keeps.ensures.legal (c.stands_at_own.ensures c.if-stands_at_own.true) closing)

pub returns-else-stands_at_own : goal.returns-else-stands_at_own
returns-else-stands_at_own c = λ reached closing.
    subst (MayGoFirst closing c.args.world.now) (sym c.in-Host.is)
    (reached_first c.args.world.now c.in-Host.host c.keeps.ensures.legal (c.is_at_reached.ensures reached) closing)

pub returns-in-Perform : goal.returns-in-Perform
returns-in-Perform c = λ unseen closing.
    subst (MayGoFirst closing c.args.world.now) (sym c.in-Perform.is)
    (unseen_first c.args.world.now c.in-Perform.at c.keeps.ensures.legal (c.stands_unseen.ensures unseen) closing)
