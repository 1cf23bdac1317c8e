use Rattle.std.proofs.Common.{sym, ◌∙◌, refl}
use Rattle.acc_core.specs.inner.Ties.{state_of_parts}
use Rattle.acc_host.proofs.NotesNothing.{notes_nothing}
use Rattle.acc_core.proofs.ItemAnswer.{item_answered}
use Rattle.acc_core.proofs.PerformOp.{KeepsWork}
use Rattle.acc_core.proofs.accelerator.Accelerator.record.Goals as goal

pub tell-requires-clause-reached : goal.tell-requires-clause-reached
tell-requires-clause-reached c = notes_nothing c.self.inside.work c.args.item c.requires.item

pub invariant_of-self : goal.invariant_of-self
invariant_of-self c =
    let i = c.self.inside in
    let k : KeepsWork i.work = record { order = c.keeps.ensures.order; kept = c.keeps.ensures.kept; memory = c.keeps.ensures.memory } in
    let t = c.tell.ensures in
    let a = item_answered (state_of_parts i.place i.work) i.work c.tell.new.self i.queues.items c.args.host c.args.item c.tell.result c.self.invariant.0 k refl c.requires.item t.recorded t.may t.fault t.kept in
    rw a.taken (a.keeps, c.self.invariant.1, c.self.invariant.2 ∙ sym a.left, c.self.invariant.3)

pub returns-clause-makes : goal.returns-clause-makes
returns-clause-makes c =
    let i = c.self.inside in
    let k : KeepsWork i.work = record { order = c.keeps.ensures.order; kept = c.keeps.ensures.kept; memory = c.keeps.ensures.memory } in
    let t = c.tell.ensures in
    let a = item_answered (state_of_parts i.place i.work) i.work c.tell.new.self i.queues.items c.args.host c.args.item c.tell.result c.self.invariant.0 k refl c.requires.item t.recorded t.may t.fault t.kept in
    rw (← c.self.view_is, a.taken) a.makes
