use Rattle.std.proofs.Common.{subst, sym}
use Rattle.acc_explore.specs.Reductions.{MayGoFirst}
use Rattle.acc_explore.proofs.ClosedQueues.{either_closing, first_of}
use Rattle.acc_explore.proofs.going_first.goes_first.Goals as goal
use Rattle.acc_explore.proofs.going_first.goes_first.Goals.{then-closing+else-not-is_all_closed, else-closing}

pub returns-in-None-2-clause-first : goal.returns-in-None-2-clause-first
returns-in-None-2-clause-first c =
    let w = c.args.world.now in
    first_of c.args.closing w c.goes_unclosed.result
    (elim c.if-closing.branch [
      | then-closing+else-not-is_all_closed b ↦ λ e first. either_closing c.args.closing w e (b.is_all_closed.ensures b.if-not-is_all_closed.false) first
      | else-closing b ↦ λ e first. subst (λ closing. MayGoFirst closing w e) (sym b.if-closing.false) first
    ])
    c.goes_unclosed.ensures.first
