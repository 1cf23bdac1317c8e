use Rattle.std.proofs.Common.{refl, sym, ap, ◌∙◌}
use Rattle.acc_batch.proofs.Seats.{seat_found}
use Rattle.acc_core.specs.inner.Queues.{no_queue}
use Rattle.acc_core.specs.inner.Ties.{state_of_parts}
use Rattle.acc_work.specs.Lanes.{lane_with_batch}
use Rattle.acc_work.specs.Works.{lane_at, taken_counts}
use Rattle.acc_core.proofs.BatchesLeft.{none_goes, one_taken}
use Rattle.acc_core.proofs.CloseQueue.{has_place_with}
use Rattle.acc_core.proofs.LegalSteps.{legal_taken}
use Rattle.acc_core.proofs.Seats.{seated_there}
use Rattle.acc_core.proofs.TakeBatch.{can_take, filled_with, held_there, no_element, taken_more, takes_did, takes_no_batch}
use Rattle.acc_core.proofs.accelerator.Accelerator.take.Goals as goal

pub offer-requires-clause-place : goal.offer-requires-clause-place
offer-requires-clause-place c =
    let i = c.self.inside in
    let w = state_of_parts i.place i.work in
    let there = held_there w i.work i.queues.items c.args.at c.self.invariant.0.parts (sym (rw c.as_slice.ensures.value at c.holds_none.ensures) ∙ c.if-holds_none.false) in
    let s = seated_there w i.work i.queues.items c.args.at c.self.invariant.0.parts c.keeps.ensures.order there in
    let queue = seat_found no_queue i.queues.items c.args.at c.index_mut.result.now s.queue s.held (rw c.seat-seat.ensures at c.index_mut.ensures.value) in
    let next = c.in-Some.ensures.next in
    (can_take w i.work i.queues.items c.args.at c.in-Some.batch next.0 c.self.invariant.0.parts (ap (λ q. q.held) (sym queue) ∙ next.1)).at

pub offer-requires-clause-host : goal.offer-requires-clause-host
offer-requires-clause-host c =
    let i = c.self.inside in
    let w = state_of_parts i.place i.work in
    let there = held_there w i.work i.queues.items c.args.at c.self.invariant.0.parts (sym (rw c.as_slice.ensures.value at c.holds_none.ensures) ∙ c.if-holds_none.false) in
    let s = seated_there w i.work i.queues.items c.args.at c.self.invariant.0.parts c.keeps.ensures.order there in
    let queue = seat_found no_queue i.queues.items c.args.at c.index_mut.result.now s.queue s.held (rw c.seat-seat.ensures at c.index_mut.ensures.value) in
    let next = c.in-Some.ensures.next in
    (can_take w i.work i.queues.items c.args.at c.in-Some.batch next.0 c.self.invariant.0.parts (ap (λ q. q.held) (sym queue) ∙ next.1)).host

pub offer-requires-clause-filled : goal.offer-requires-clause-filled
offer-requires-clause-filled c =
    let i = c.self.inside in
    let w = state_of_parts i.place i.work in
    let there = held_there w i.work i.queues.items c.args.at c.self.invariant.0.parts (sym (rw c.as_slice.ensures.value at c.holds_none.ensures) ∙ c.if-holds_none.false) in
    let s = seated_there w i.work i.queues.items c.args.at c.self.invariant.0.parts c.keeps.ensures.order there in
    let queue = seat_found no_queue i.queues.items c.args.at c.index_mut.result.now s.queue s.held (rw c.seat-seat.ensures at c.index_mut.ensures.value) in
    let next = c.in-Some.ensures.next in
    (can_take w i.work i.queues.items c.args.at c.in-Some.batch next.0 c.self.invariant.0.parts (ap (λ q. q.held) (sym queue) ∙ next.1)).some

pub invariant_of-self-in-Some : goal.invariant_of-self-in-Some
invariant_of-self-in-Some c =
    let i = c.self.inside in
    let a = c.self.invariant.0 in
    let w = state_of_parts i.place i.work in
    let at = c.args.at in
    let there = held_there w i.work i.queues.items at a.parts (sym (rw c.as_slice.ensures.value at c.holds_none.ensures) ∙ c.if-holds_none.false) in
    let s = seated_there w i.work i.queues.items at a.parts c.keeps.ensures.order there in
    let queue = seat_found no_queue i.queues.items at c.index_mut.result.now s.queue s.held (rw c.seat-seat.ensures at c.index_mut.ensures.value) in
    let next = c.in-Some.ensures.next in
    let more = filled_with i.work at c.in-Some.batch in
    let none = no_element (lane_at i.work at).left (sym c.lane_empty.ensures ∙ c.if-not-lane_empty.false) in
    let can = can_take w i.work i.queues.items at c.in-Some.batch next.0 a.parts (ap (λ q. q.held) (sym queue) ∙ next.1) in
    rw (c.offer.ensures, c.seat-seat.ensures, next.2) (
      record {
        legal = legal_taken w (taken_counts more) a.legal;
        few_items = a.few_items;
        parts = taken_more w i.work i.queues.items at c.in-Some.batch next.0 s a.parts (ap (λ q. q.held) (sym queue) ∙ next.1);
        opening = a.opening;
      },
      c.self.invariant.1,
      c.self.invariant.2 ∙ sym (one_taken w.config.devices i.work i.queues.items at (lane_with_batch (lane_at i.work at) c.in-Some.batch) c.in-Some.batch next.0 s none can.some (ap (λ q. q.held) (sym queue) ∙ next.1)),
      has_place_with i.place i.queues.items at _ s.queue s.held refl c.self.invariant.3,
    )

pub returns-in-Some : goal.returns-in-Some
returns-in-Some c =
    let i = c.self.inside in
    let a = c.self.invariant.0 in
    let w = state_of_parts i.place i.work in
    let at = c.args.at in
    let there = held_there w i.work i.queues.items at a.parts (sym (rw c.as_slice.ensures.value at c.holds_none.ensures) ∙ c.if-holds_none.false) in
    let s = seated_there w i.work i.queues.items at a.parts c.keeps.ensures.order there in
    let queue = seat_found no_queue i.queues.items at c.index_mut.result.now s.queue s.held (rw c.seat-seat.ensures at c.index_mut.ensures.value) in
    let next = c.in-Some.ensures.next in
    let none = no_element (lane_at i.work at).left (sym c.lane_empty.ensures ∙ c.if-not-lane_empty.false) in
    rw (← c.self.view_is, c.offer.ensures)
    (takes_did w i.work i.queues.items at c.in-Some.batch next.0 s a.parts c.keeps.ensures.order refl there none (ap (λ q. q.held) (sym queue) ∙ next.1))

-- while nothing is left
pub returns-then-self-eq0 : goal.returns-then-self-eq0
returns-then-self-eq0 c =
    let i = c.self.inside in
    let w = state_of_parts i.place i.work in
    rw (← c.self.view_is) (none_goes w i.work i.queues.items c.args.at c.self.invariant.0.parts c.keeps.ensures.order refl (sym c.self.invariant.2 ∙ c.if-self-eq0.true)).0

-- where the queue holds no batch
pub returns-then-holds_none : goal.returns-then-holds_none
returns-then-holds_none c =
    let i = c.self.inside in
    let w = state_of_parts i.place i.work in
    rw (← c.self.view_is) (takes_no_batch w i.work i.queues.items c.args.at c.self.invariant.0.parts c.keeps.ensures.order refl (sym (rw c.as_slice.ensures.value at c.holds_none.ensures) ∙ c.if-holds_none.true))
