use Rattle.std.proofs.Common.{sym, subst}
use Rattle.std.specs.Prelude.{Contains}
use Rattle.std.proofs.lemmas.List.Elements.{All-contains_itself}
use Rattle.acc_explore.proofs.going_first.goes_freely.Goals as goal

pub returns-then-may_go_freely-clause-listed : goal.returns-then-may_go_freely-clause-listed
returns-then-may_go_freely-clause-listed c =
    subst (Contains c.args.events.now) (sym c.event-item.is) (All-contains_itself c.args.events.now c.loop-event.event-index c.event-item.result c.loop-event-test.true)

pub returns-then-may_go_freely-clause-first : goal.returns-then-may_go_freely-clause-first
returns-then-may_go_freely-clause-first c = c.may_go_freely.ensures c.if-may_go_freely.true
