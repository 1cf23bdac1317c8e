use Rattle.std.proofs.Common.{◌∙◌, arith, replicate, sym}
use Rattle.acc_explore.proofs.UnseenTests.{not_yet_at, performed_at}
use Rattle.acc_explore.proofs.unseen.has_performed.Goals as goal

pub returns-clause-performed : goal.returns-clause-performed
returns-clause-performed c = λ done.
    performed_at c.args.world.now c.args.at c.args.count (replicate 16 0) c.from-queue.result (omega arith) (omega arith) (sym c.reached.ensures ∙ done)

pub returns-clause-not_yet : goal.returns-clause-not_yet
returns-clause-not_yet c = λ none low.
    not_yet_at c.args.world.now c.args.at c.args.count c.from-queue.result (omega arith) (omega arith) (sym c.reached.ensures ∙ none)
