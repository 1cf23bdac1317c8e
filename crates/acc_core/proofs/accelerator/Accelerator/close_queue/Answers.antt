use Rattle.std.proofs.Common.{◌≡◌, ◌+◌, ◌<◌, length, sym, ap, ◌∙◌, arith}
use Rattle.acc_base.specs.Configurations.{IsWithinLimits}
use Rattle.acc_batch.proofs.Seats.{seat_found}
use Rattle.acc_place.specs.Closing.{handed_back, handed_out, IsCloseOut}
use Rattle.acc_place.specs.Histories.{CanClose, IsQueue}
use Rattle.acc_core.specs.Machine.{standing_of}
use Rattle.acc_core.specs.inner.Queues.{QueueView, held_with, no_queue, queue_in}
use Rattle.acc_core.specs.inner.Ties.{state_of_parts}
use Rattle.acc_core.proofs.BatchesLeft.{few_left, one_placed}
use Rattle.acc_core.proofs.ClosesOne.{closes_did, closes_idle, is_closed_then}
use Rattle.acc_core.proofs.CloseQueue.{can_now, cannot_now, handed_both, has_closed, has_place_beside, keeps_closed}
use Rattle.acc_place.proofs.CloseOut.{close_some}
use Rattle.acc_core.proofs.Seats.{seated}
use Rattle.acc_core.proofs.accelerator.Accelerator.close_queue.Goals as goal

pub invariant_of-self-in-Some : goal.invariant_of-self-in-Some
invariant_of-self-in-Some c =
    let i = c.self.inside in
    let w = state_of_parts i.place i.work in
    let at = c.args.at in
    let there : IsQueue w.config at = rw (← c.self.view_is) at c.requires.there in
    let k = c.keeps.ensures.order in
    let q = c.self.invariant.0.parts in
    let s = seated w i.work i.queues.items at q k there.0 there.1 in
    let out : IsCloseOut (handed_out i.place at) at = rw c.close_batch.ensures.place at c.in-Some.ensures.out in
    let b = c.in-Some.batch in
    let given = close_some i.place at b (sym c.in-Some.is ∙ c.close_batch.ensures.batch) in
    let queue = seat_found no_queue i.queues.items at c.index.result.now s.queue s.held (rw c.seat-seat.ensures at c.index.ensures) in
    let held : c.len.result ≡ length (queue_in i.queues.items at).held = c.len.ensures ∙ ap (λ (x : QueueView). length x.held) queue in
    let room : c.room.result ≡ w.config.room = c.room.ensures ∙ (ap (λ x. x.room) c.config-config.ensures ∙ ap (λ x. x.config.room) c.close_batch.ensures.place) in
    let fits : length (queue_in i.queues.items at).held < w.config.room = omega (arith, held, room, c.if-room-len.false) in
    let entry = seat_found no_queue i.queues.items at c.index_mut.result.now s.queue s.held (rw c.seat-seat.ensures at c.index_mut.ensures.value) in
    let can : CanClose w.config (standing_of w) at = record { there = there; begun = rw (← c.self.view_is) at c.requires.begun; unplaced = out.unplaced } in
    let new = c.push_last.ensures ∙ ap (λ (x : QueueView). held_with x b) entry in
    rw (c.close_done.ensures, c.close_batch.ensures.place, c.seat-seat.ensures) (
      keeps_closed w i.work i.queues.items at b c.push_last.new.self new c.self.invariant.0 s can given.1 fits,
      has_closed i.place at there given.0 out c.self.invariant.1,
      ap (λ n. n + 1) c.self.invariant.2 ∙ sym (one_placed w.config.devices i.work i.queues.items at b c.push_last.new.self new s),
      has_place_beside i.place i.queues.items at c.push_last.new.self s.queue s.held given.0 out c.self.invariant.3,
    )

pub returns-else-room-len-clause-state : goal.returns-else-room-len-clause-state
returns-else-room-len-clause-state c =
    let i = c.self.inside in
    let w = state_of_parts i.place i.work in
    let at = c.args.at in
    let there : IsQueue w.config at = rw (← c.self.view_is) at c.requires.there in
    let k = c.keeps.ensures.order in
    let q = c.self.invariant.0.parts in
    let s = seated w i.work i.queues.items at q k there.0 there.1 in
    let out : IsCloseOut (handed_out i.place at) at = rw c.close_batch.ensures.place at c.in-Some.ensures.out in
    let b = c.in-Some.batch in
    let given = close_some i.place at b (sym c.in-Some.is ∙ c.close_batch.ensures.batch) in
    let queue = seat_found no_queue i.queues.items at c.index.result.now s.queue s.held (rw c.seat-seat.ensures at c.index.ensures) in
    let held : c.len.result ≡ length (queue_in i.queues.items at).held = c.len.ensures ∙ ap (λ (x : QueueView). length x.held) queue in
    let room : c.room.result ≡ w.config.room = c.room.ensures ∙ (ap (λ x. x.room) c.config-config.ensures ∙ ap (λ x. x.config.room) c.close_batch.ensures.place) in
    let fits : length (queue_in i.queues.items at).held < w.config.room = omega (arith, held, room, c.if-room-len.false) in
    rw (← c.self.view_is, c.close_done.ensures, c.close_batch.ensures.place) (sym (closes_did w at (can_now w i.work i.queues.items at s q out.unplaced fits)))

pub returns-else-room-len-clause-closed : goal.returns-else-room-len-clause-closed
returns-else-room-len-clause-closed c =
    let i = c.self.inside in
    let w = state_of_parts i.place i.work in
    rw (c.close_done.ensures, c.close_batch.ensures.place) (sym (is_closed_then w c.args.at))

-- where the queue is full the close comes back
pub invariant_of-self-then-room-len : goal.invariant_of-self-then-room-len
invariant_of-self-then-room-len c =
    let i = c.self.inside in
    let at = c.args.at in
    let given = close_some i.place at c.in-Some.batch (sym c.in-Some.is ∙ c.close_batch.ensures.batch) in
    let same : c.close_back.new.self ≡ i.place = c.close_back.ensures ∙ (ap (λ p. handed_back p at) c.close_batch.ensures.place ∙ handed_both i.place at given.0) in
    rw same c.self.invariant

pub returns-then-room-len-clause-state : goal.returns-then-room-len-clause-state
returns-then-room-len-clause-state c =
    let i = c.self.inside in
    let w = state_of_parts i.place i.work in
    let at = c.args.at in
    let there : IsQueue w.config at = rw (← c.self.view_is) at c.requires.there in
    let q = c.self.invariant.0.parts in
    let s = seated w i.work i.queues.items at q c.keeps.ensures.order there.0 there.1 in
    let out : IsCloseOut (handed_out i.place at) at = rw c.close_batch.ensures.place at c.in-Some.ensures.out in
    let given = close_some i.place at c.in-Some.batch (sym c.in-Some.is ∙ c.close_batch.ensures.batch) in
    let same : c.close_back.new.self ≡ i.place = c.close_back.ensures ∙ (ap (λ p. handed_back p at) c.close_batch.ensures.place ∙ handed_both i.place at given.0) in
    let queue = seat_found no_queue i.queues.items at c.index.result.now s.queue s.held (rw c.seat-seat.ensures at c.index.ensures) in
    let held : c.len.result ≡ length (queue_in i.queues.items at).held = c.len.ensures ∙ ap (λ (x : QueueView). length x.held) queue in
    let room : c.room.result ≡ w.config.room = c.room.ensures ∙ (ap (λ x. x.room) c.config-config.ensures ∙ ap (λ x. x.config.room) c.close_batch.ensures.place) in
    rw (← c.self.view_is, same) (sym (closes_idle w at (cannot_now w i.work i.queues.items at s q out.unplaced (omega (arith, held, room, c.if-room-len.true)))))

-- there are always few batches
pub overflow_add-self : goal.overflow_add-self
overflow_add-self c =
    let i = c.self.inside in
    let w = state_of_parts i.place i.work in
    let limits : IsWithinLimits w.config = rw (c.config-config.ensures, c.close_batch.ensures.place) at c.keeps-in-Some.ensures.limits in
    omega (arith, c.self.invariant.2, few_left w i.work i.queues.items c.self.invariant.0.parts limits.devices.1 limits.room.1)
