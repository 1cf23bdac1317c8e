use Rattle.std.proofs.Common.{◌∙◌, sym}
use Rattle.acc_explore.proofs.ApartTold.{asking_clear, ready_clear, refused_clear, waiting_clear}
use Rattle.acc_explore.proofs.apart.keeps_clear.Goals as goal

pub returns-in-Ready : goal.returns-in-Ready
returns-in-Ready c = λ all.
    ready_clear c.args.op.now c.args.host.now c.remaining-left.result.now c.remaining-left.ensures (sym c.phase.ensures ∙ c.in-Ready.is) (sym c.statements_are_clear.ensures ∙ all)

pub returns-in-Waits : goal.returns-in-Waits
returns-in-Waits c = λ all.
    waiting_clear c.args.op.now c.args.host.now c.remaining-left.result.now c.remaining-left.ensures c.in-Waits.device c.in-Waits.counts (sym c.phase.ensures ∙ c.in-Waits.is) (c.behind_are_clear.ensures all)

pub returns-in-Asks : goal.returns-in-Asks
returns-in-Asks c = λ all.
    asking_clear c.args.op.now c.args.host.now c.remaining-left.result.now c.remaining-left.ensures c.in-Asks.device c.in-Asks.counts (sym c.phase.ensures ∙ c.in-Asks.is) (c.behind_are_clear-in-Asks.ensures all)

pub returns-in-Refused : goal.returns-in-Refused
returns-in-Refused c = λ yes. refused_clear c.args.op.now c.args.host.now c.remaining-left.result.now c.remaining-left.ensures c.in-Refused.fault (sym c.phase.ensures ∙ c.in-Refused.is)
