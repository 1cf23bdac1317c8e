use Rattle.std.proofs.Common.{◌≡◌, true, refl, sym, ◌∙◌, arith}
use Rattle.acc_core.specs.inner.Ties.{state_of_parts}
use Rattle.acc_work.proofs.KeptSteps.{has_advanced, has_waited}
use Rattle.acc_core.proofs.BatchesLeft.{last_performed, none_goes, other_performed}
use Rattle.acc_core.proofs.PerformOp.{KeepsWork, keeps_performed, lane_there, performs_did, performs_idle}
use Rattle.acc_core.proofs.accelerator.Accelerator.perform.Goals as goal

-- while nothing is left
pub returns-then-self-eq0 : goal.returns-then-self-eq0
returns-then-self-eq0 c =
    let i = c.self.inside in
    let w = state_of_parts i.place i.work in
    rw (← c.self.view_is) (none_goes w i.work i.queues.items c.args.at c.self.invariant.0.parts c.keeps.ensures.order refl (sym c.self.invariant.2 ∙ c.if-self-eq0.true)).1

-- nothing was performed
pub invariant_of-self : goal.invariant_of-self
invariant_of-self c =
    let i = c.self.inside in
    let w = state_of_parts i.place i.work in
    let k : KeepsWork i.work = record { order = c.keeps.ensures.order; kept = c.keeps.ensures.kept; memory = c.keeps.ensures.memory } in
    let none = has_waited i.work c.perform.new.self c.args.at (rw c.in-Idle.is at c.perform.ensures) in (
      keeps_performed w i.work c.perform.new.self i.queues.items c.args.at c.perform.result c.self.invariant.0 k refl c.perform.ensures,
      c.self.invariant.1,
      rw none.same c.self.invariant.2,
      c.self.invariant.3,
    )

pub returns-in-Idle : goal.returns-in-Idle
returns-in-Idle c =
    let i = c.self.inside in
    let w = state_of_parts i.place i.work in
    let k : KeepsWork i.work = record { order = c.keeps.ensures.order; kept = c.keeps.ensures.kept; memory = c.keeps.ensures.memory } in
    let none = has_waited i.work c.perform.new.self c.args.at (rw c.in-Idle.is at c.perform.ensures) in
    rw (← c.self.view_is, none.same) (performs_idle w i.work c.perform.new.self i.queues.items c.args.at c.self.invariant.0 k refl none)

-- the last operation of a batch was performed
pub invariant_of-self-then-lane_empty : goal.invariant_of-self-then-lane_empty
invariant_of-self-then-lane_empty c =
    let i = c.self.inside in
    let w = state_of_parts i.place i.work in
    let at = c.args.at in
    let k : KeepsWork i.work = record { order = c.keeps.ensures.order; kept = c.keeps.ensures.kept; memory = c.keeps.ensures.memory } in
    let d = has_advanced i.work c.perform.new.self at (rw c.in-Op.is at c.perform.ensures) in
    let s = (lane_there w i.work i.queues.items at d.op d.ops c.self.invariant.0.parts c.keeps.ensures.order d.left).0 in
    let last = last_performed w.config.devices i.work c.perform.new.self i.queues.items at s d (sym c.lane_empty.ensures ∙ c.if-lane_empty.true) in (
      keeps_performed w i.work c.perform.new.self i.queues.items at c.perform.result c.self.invariant.0 k refl c.perform.ensures,
      c.self.invariant.1,
      omega (arith, last, c.self.invariant.2),
      c.self.invariant.3,
    )

pub returns-then-lane_empty : goal.returns-then-lane_empty
returns-then-lane_empty c =
    let i = c.self.inside in
    let w = state_of_parts i.place i.work in
    let at = c.args.at in
    let k : KeepsWork i.work = record { order = c.keeps.ensures.order; kept = c.keeps.ensures.kept; memory = c.keeps.ensures.memory } in
    rw (← c.self.view_is) (performs_did w i.work c.perform.new.self i.queues.items at c.self.invariant.0 k refl (has_advanced i.work c.perform.new.self at (rw c.in-Op.is at c.perform.ensures)))

-- another operation was
pub invariant_of-self-else-lane_empty : goal.invariant_of-self-else-lane_empty
invariant_of-self-else-lane_empty c =
    let i = c.self.inside in
    let w = state_of_parts i.place i.work in
    let at = c.args.at in
    let k : KeepsWork i.work = record { order = c.keeps.ensures.order; kept = c.keeps.ensures.kept; memory = c.keeps.ensures.memory } in
    let d = has_advanced i.work c.perform.new.self at (rw c.in-Op.is at c.perform.ensures) in
    let s = (lane_there w i.work i.queues.items at d.op d.ops c.self.invariant.0.parts c.keeps.ensures.order d.left).0 in
    let other = other_performed w.config.devices i.work c.perform.new.self i.queues.items at s d (sym c.lane_empty.ensures ∙ c.if-lane_empty.false) in (
      keeps_performed w i.work c.perform.new.self i.queues.items at c.perform.result c.self.invariant.0 k refl c.perform.ensures,
      c.self.invariant.1,
      c.self.invariant.2 ∙ sym other,
      c.self.invariant.3,
    )

pub returns-else-lane_empty : goal.returns-else-lane_empty
returns-else-lane_empty c =
    let i = c.self.inside in
    let w = state_of_parts i.place i.work in
    let at = c.args.at in
    let k : KeepsWork i.work = record { order = c.keeps.ensures.order; kept = c.keeps.ensures.kept; memory = c.keeps.ensures.memory } in
    rw (← c.self.view_is) (performs_did w i.work c.perform.new.self i.queues.items at c.self.invariant.0 k refl (has_advanced i.work c.perform.new.self at (rw c.in-Op.is at c.perform.ensures)))
