use Rattle.std.proofs.Common.{◌≡◌, ℕ, false, length, refl, sym, ◌∙◌, arith}
use Rattle.std.specs.Prelude.{pos}
use Rattle.std.proofs.lemmas.List.{length-map}
use Rattle.acc_base.specs.Configurations.{has_range}
use Rattle.acc_core.specs.inner.Queues.{queue_in}
use Rattle.acc_core.specs.inner.Ties.{state_of_parts}
use Rattle.acc_core.specs.Worlds.{OutsideIsZero}
use Rattle.acc_memory.specs.Values.{Host_cell}
use Rattle.acc_work.specs.Lanes.{LaneView}
use Rattle.acc_work.specs.Logs.{value}
use Rattle.acc_work.proofs.RemembersWork.{range_same}
use Rattle.acc_core.proofs.Seats.{seated_there}
use Rattle.acc_core.proofs.TakeBatch.{lane_is_rest, taken_in_order}
use Rattle.acc_core.proofs.OutsideCells.{one_cell, outside_zero}
use Rattle.acc_core.proofs.accelerator.Accelerator.keeps_counts.Goals as goal

pub returns-clause-taken : goal.returns-clause-taken
returns-clause-taken c =
    let i = c.self.inside in
    let q = c.self.invariant.0.parts in
    let k = c.keeps.ensures.order in
    rw (← c.self.view_is) (omega (arith, length-map i.work.lanes (λ (l : LaneView). length l.taken), k.count, q.devices))

pub returns-clause-outside : goal.returns-clause-outside
returns-clause-outside c =
    let i = c.self.inside in
    let m = c.keeps.ensures.memory in
    let opening = c.self.invariant.0.opening in
    rw (← c.self.view_is, ← opening)
    (λ array cell outside.
    sym (m.shows (Host_cell array cell) refl)
    ∙ outside_zero i.work.memory.arrays array cell (range_same i.work.memory.arrays i.work.arrays (one_cell array cell) m.lengths ∙ outside))

pub returns-clause-in_order : goal.returns-clause-in_order
returns-clause-in_order c =
    let i = c.self.inside in
    let w = state_of_parts i.place i.work in
    let q = c.self.invariant.0.parts in
    let k = c.keeps.ensures.order in
    rw (← c.self.view_is)
    (λ at there.
    let s = seated_there w i.work i.queues.items at q k there in
    let rest = lane_is_rest w i.work i.queues.items at (queue_in i.queues.items at) s (q.each at) k refl in
    rw (there, rest) (taken_in_order w i.work i.queues.items at (queue_in i.queues.items at) s (q.each at) k refl))
