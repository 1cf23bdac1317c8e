use Rattle.std.proofs.Common.{[], length, ap, arith}
use Rattle.std.specs.Prelude.{vec_capacity, ◌-◌}
use Rattle.std.proofs.lemmas.List.{length-map}
use Rattle.acc_place.proofs.SliceSet.{shown_more, shown_new, shown_same}
use Rattle.acc_place.proofs.labels.Labels.spare.Goals as goal

pub returns-in_err-reserve-clause-queues : goal.returns-in_err-reserve-clause-queues
returns-in_err-reserve-clause-queues c =
    rw (← c.self.view_is) (shown_same (λ v. v.items) c.self.inside.queues.items c.seat.result c.index_mut.result.now c.reserve.new.self c.index_mut.ensures.value c.reserve.ensures.items)

pub returns-in_err-reserve-clause-room : goal.returns-in_err-reserve-clause-room
returns-in_err-reserve-clause-room c i =
    let qs = c.self.inside.queues.items in
    let low = rw (← c.self.view_is, length-map qs (λ v. v.items), ← c.seat.ensures) at c.requires in
    rw (← c.self.view_is) (shown_more (λ v. vec_capacity v - 1) qs c.seat.result c.index_mut.result.now c.reserve.new.self i low c.index_mut.ensures.value (omega (arith, c.reserve.ensures.capacity)))

pub returns-clause-queues : goal.returns-clause-queues
returns-clause-queues c =
    rw (← c.self.view_is) (shown_same (λ v. v.items) c.self.inside.queues.items c.seat.result c.index_mut.result.now c.reserve.new.self c.index_mut.ensures.value c.reserve.ensures.items)

pub returns-clause-room : goal.returns-clause-room
returns-clause-room c i =
    let qs = c.self.inside.queues.items in
    let low = rw (← c.self.view_is, length-map qs (λ v. v.items), ← c.seat.ensures) at c.requires in
    rw (← c.self.view_is) (shown_more (λ v. vec_capacity v - 1) qs c.seat.result c.index_mut.result.now c.reserve.new.self i low c.index_mut.ensures.value (omega (arith, c.reserve.ensures.capacity)))

pub returns-clause-ok : goal.returns-clause-ok
returns-clause-ok c =
    let qs = c.self.inside.queues.items in
    let low = rw (← c.self.view_is, length-map qs (λ v. v.items), ← c.seat.ensures) at c.requires in
    let new = c.reserve.new.self in
    let here = shown_new (λ v. v.items) qs c.seat.result new [] low in
    let room = shown_new (λ v. vec_capacity v - 1) qs c.seat.result new 0 low in
    rw (← c.seat.ensures) (omega (arith, ap length here, room, c.in_ok-reserve.ensures.ok))
