use Rattle.std.proofs.Common.{sym, ◌∙◌}
use Rattle.acc_report.proofs.JoinedPuts.{puts_then}
use Rattle.acc_steps.proofs.PutSteps.{none_holds, one_holds}
use Rattle.acc_steps.proofs.words.put_counters.Goals as goal

pub returns-in-None : goal.returns-in-None
returns-in-None g c =
    λ p is. rw (none_holds p (sym c.in-None.is ∙ is)) c.put.ensures

pub returns-in-Some : goal.returns-in-Some
returns-in-Some g c =
    λ p is. rw (one_holds p c.in-Some.structured c.in-Some.dynamic (sym c.in-Some.is ∙ is))
    (puts_then c.put-in-Some.ensures (puts_then c.put_number.ensures (puts_then c.put-in-Some-2.ensures c.put_number-in-Some.ensures)))
