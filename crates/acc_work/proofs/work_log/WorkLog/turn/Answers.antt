use Rattle.std.proofs.lemmas.List.Elements.{All-tail}
use Rattle.acc_work.specs.inner.Records.{IsBlank}
use Rattle.acc_work.proofs.work_log.WorkLog.turn.Goals as goal

pub returns-in-Some-clause-blank : goal.returns-in-Some-clause-blank
returns-in-Some-clause-blank c = All-tail IsBlank c.in-Some.page c.pop_front.new.self (rw c.in-Some.ensures.some at c.requires.blank)
