use Rattle.std.proofs.Common.{sym, ◌∙◌, refl}
use Rattle.acc_core.specs.inner.Ties.{state_of_parts}
use Rattle.acc_core.proofs.ItemAnswer.{wait_answered}
use Rattle.acc_core.proofs.PerformOp.{KeepsWork}
use Rattle.acc_core.proofs.accelerator.Accelerator.see.Goals as goal

pub invariant_of-self : goal.invariant_of-self
invariant_of-self c =
    let i = c.self.inside in
    let k : KeepsWork i.work = record { order = c.keeps.ensures.order; kept = c.keeps.ensures.kept; memory = c.keeps.ensures.memory } in
    let s = c.see.ensures in
    let a = wait_answered (state_of_parts i.place i.work) i.work c.see.new.self i.queues.items c.args.host c.args.device c.args.counts c.see.result c.self.invariant.0 k refl s.answer s.seen s.may s.not_yet s.reached s.fault s.kept in
    rw a.taken (a.keeps, c.self.invariant.1, c.self.invariant.2 ∙ sym a.left, c.self.invariant.3)

pub returns-clause-makes : goal.returns-clause-makes
returns-clause-makes c =
    let i = c.self.inside in
    let k : KeepsWork i.work = record { order = c.keeps.ensures.order; kept = c.keeps.ensures.kept; memory = c.keeps.ensures.memory } in
    let s = c.see.ensures in
    let a = wait_answered (state_of_parts i.place i.work) i.work c.see.new.self i.queues.items c.args.host c.args.device c.args.counts c.see.result c.self.invariant.0 k refl s.answer s.seen s.may s.not_yet s.reached s.fault s.kept in
    rw (← c.self.view_is, a.taken) a.makes
