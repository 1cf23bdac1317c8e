use Rattle.std.proofs.Common.{◌≡◌, ◌+◌, ◌<◌, length, refl, sym, ap, ◌∙◌, arith}
use Rattle.std.specs.Prelude.{not, slice_set}
use Rattle.std.proofs.lemmas.Result.{err_from_is_err_and}
use Rattle.acc_base.specs.Configurations.{IsWithinLimits}
use Rattle.acc_base.specs.Queues.{seat}
use Rattle.acc_batch.specs.declared.label.Label.{Label}
use Rattle.acc_batch.proofs.Seats.{seat_found}
use Rattle.acc_place.specs.Histories.{IsQueue}
use Rattle.acc_core.specs.contracts.accelerator.Accelerator.{the_view}
use Rattle.acc_core.specs.inner.Queues.{QueueView, held_with, no_queue, queue_in, queues_with}
use Rattle.acc_core.proofs.Accept.{planned, batch_empty, batch_goes, keeps_empty, keeps_batch, places_full, places_batch, places_scarce}
use Rattle.acc_core.proofs.BatchesLeft.{few_left, one_placed}
use Rattle.acc_core.proofs.CloseQueue.{has_accepted, has_planned, has_place_with, has_same_places, open_yet}
use Rattle.acc_core.proofs.Seats.{set_found}
use Rattle.acc_core.proofs.accelerator.Accelerator.accept.Goals as goal

pub invariant_of-self-in-None : goal.invariant_of-self-in-None
invariant_of-self-in-None c =
    let facts = planned c.self.inside.place c.plan.new.self c.in_ok-plan.plan c.args.host c.items_of-items_done.result c.args.directive.now c.in_ok-plan.ensures.config c.in_ok-plan.ensures.history c.in_ok-plan.ensures.counts c.in_ok-plan.ensures.fits.0 c.in_ok-plan.ensures.plan.0 c.in_ok-plan.ensures.plan.1 c.in_ok-plan.ensures.plan.2 in
    let i = c.self.inside in
    let w = the_view i in
    let d = c.args.directive.now in
    let e = c.in_ok-plan.ensures in
    let none = batch_empty w c.args.host c.items_of-items_done.result d (c.in-None.ensures.batch ∙ (e.batch ∙ facts.labelled)) in (
      keeps_empty w _ i.work i.queues.items c.args.host d c.self.invariant.0 facts.accepted none
          (rw (c.accept.ensures.place, c.in-None.ensures.plan, e.config, e.history, e.counts, e.plan.0, e.plan.1, e.plan.2, c.items_of-items_done.ensures) refl),
      rw (c.accept.ensures.place) (has_accepted c.plan.new.self _ _ _ (has_planned i.place c.plan.new.self e.config e.history e.counts e.closes c.self.invariant.1)),
      c.self.invariant.2,
      rw (c.accept.ensures.place) (has_same_places i.place c.plan.new.self i.queues.items e.config e.closes c.self.invariant.3),
    )

pub index-requires : goal.index-requires
index-requires c =
    let facts = planned c.self.inside.place c.plan.new.self c.in_ok-plan.plan c.args.host c.items_of-items_done.result c.args.directive.now c.in_ok-plan.ensures.config c.in_ok-plan.ensures.history c.in_ok-plan.ensures.counts c.in_ok-plan.ensures.fits.0 c.in_ok-plan.ensures.plan.0 c.in_ok-plan.ensures.plan.1 c.in_ok-plan.ensures.plan.2 in
    let g = batch_goes (the_view c.self.inside) c.self.inside.work c.self.inside.queues.items c.args.host c.items_of-items_done.result c.args.directive.now c.in-Some.batch c.self.invariant.0 c.keeps.ensures.order facts.accepted c.items_of-items_done.ensures (c.in-Some.ensures.batch ∙ (c.in_ok-plan.ensures.batch ∙ facts.labelled)) in
    let i = c.self.inside in
    let s = g.seat in
    let seat_is : c.seat-seat.result ≡ seat c.in-Some.batch.at = c.seat-seat.ensures ∙ ap (λ (l : Label). seat l.at) c.label.ensures in
    omega (arith, seat_is, s.held, i.queues.ok.0)

pub returns-then-room-len : goal.returns-then-room-len
returns-then-room-len c =
    let facts = planned c.self.inside.place c.plan.new.self c.in_ok-plan.plan c.args.host c.items_of-items_done.result c.args.directive.now c.in_ok-plan.ensures.config c.in_ok-plan.ensures.history c.in_ok-plan.ensures.counts c.in_ok-plan.ensures.fits.0 c.in_ok-plan.ensures.plan.0 c.in_ok-plan.ensures.plan.1 c.in_ok-plan.ensures.plan.2 in
    let g = batch_goes (the_view c.self.inside) c.self.inside.work c.self.inside.queues.items c.args.host c.items_of-items_done.result c.args.directive.now c.in-Some.batch c.self.invariant.0 c.keeps.ensures.order facts.accepted c.items_of-items_done.ensures (c.in-Some.ensures.batch ∙ (c.in_ok-plan.ensures.batch ∙ facts.labelled)) in
    let seat_was : c.seat-seat.result ≡ seat c.in-Some.batch.at = c.seat-seat.ensures ∙ ap (λ (l : Label). seat l.at) c.label.ensures in
    let held : c.len.result ≡ length (queue_in c.self.inside.queues.items c.in-Some.batch.at).held = c.len.ensures ∙ ap (λ (x : QueueView). length x.held) (seat_found no_queue c.self.inside.queues.items c.in-Some.batch.at c.index.result.now g.seat.queue g.seat.held (rw seat_was at c.index.ensures)) in
    let room : c.room.result ≡ c.self.inside.place.config.room = c.room.ensures ∙ (ap (λ x. x.room) c.config-config.ensures ∙ ap (λ x. x.room) c.in_ok-plan.ensures.config) in
    let i = c.self.inside in
    let w = the_view i in
    let d = c.args.directive.now in
    let e = c.in_ok-plan.ensures in
    let b = c.in-Some.batch in
    let q = c.self.invariant.0.parts in
    let full : length (queue_in i.queues.items b.at).held ≡ w.config.room = (let h = q.each b.at in omega (arith, held, room, c.if-room-len.true, h.held_low)) in
    rw (← c.self.view_is) (places_full w _ i.work i.queues.items c.args.host d b q g.seat facts.accepted g.placed full (rw (e.config, e.history, e.counts) refl))

pub index_mut-requires : goal.index_mut-requires
index_mut-requires c =
    let facts = planned c.self.inside.place c.plan.new.self c.in_ok-plan.plan c.args.host c.items_of-items_done.result c.args.directive.now c.in_ok-plan.ensures.config c.in_ok-plan.ensures.history c.in_ok-plan.ensures.counts c.in_ok-plan.ensures.fits.0 c.in_ok-plan.ensures.plan.0 c.in_ok-plan.ensures.plan.1 c.in_ok-plan.ensures.plan.2 in
    let g = batch_goes (the_view c.self.inside) c.self.inside.work c.self.inside.queues.items c.args.host c.items_of-items_done.result c.args.directive.now c.in-Some.batch c.self.invariant.0 c.keeps.ensures.order facts.accepted c.items_of-items_done.ensures (c.in-Some.ensures.batch ∙ (c.in_ok-plan.ensures.batch ∙ facts.labelled)) in
    let i = c.self.inside in
    let s = g.seat in
    let seat_is : c.seat-seat.result ≡ seat c.in-Some.batch.at = c.seat-seat.ensures ∙ ap (λ (l : Label). seat l.at) c.label.ensures in
    omega (arith, seat_is, s.held, i.queues.ok.0)

pub push-requires : goal.push-requires
push-requires c =
    let facts = planned c.self.inside.place c.plan.new.self c.in_ok-plan.plan c.args.host c.items_of-items_done.result c.args.directive.now c.in_ok-plan.ensures.config c.in_ok-plan.ensures.history c.in_ok-plan.ensures.counts c.in_ok-plan.ensures.fits.0 c.in_ok-plan.ensures.plan.0 c.in_ok-plan.ensures.plan.1 c.in_ok-plan.ensures.plan.2 in
    let g = batch_goes (the_view c.self.inside) c.self.inside.work c.self.inside.queues.items c.args.host c.items_of-items_done.result c.args.directive.now c.in-Some.batch c.self.invariant.0 c.keeps.ensures.order facts.accepted c.items_of-items_done.ensures (c.in-Some.ensures.batch ∙ (c.in_ok-plan.ensures.batch ∙ facts.labelled)) in
    let i = c.self.inside in
    let b = c.in-Some.batch in
    let s = g.seat in
    let seat_is : c.seat-seat.result ≡ seat b.at = c.seat-seat.ensures ∙ ap (λ (l : Label). seat l.at) c.label.ensures in
    let entry = seat_found no_queue i.queues.items b.at c.index_mut.result.now s.queue s.held (rw seat_is at c.index_mut.ensures.value) in
    let there : IsQueue i.place.config b.at = (s.device, s.queue) in
    let hand = c.self.invariant.1 b.at there ∙ ap not (open_yet (the_view i) c.args.host c.args.directive.now b.at c.self.invariant.0.legal facts.accepted) in
    ap (λ (x : QueueView). x.has_place) entry ∙ c.self.invariant.3 b.at there hand

-- where memory is refused the queue is as it was
pub invariant_of-self-in_err-push-in-Some : goal.invariant_of-self-in_err-push-in-Some
invariant_of-self-in_err-push-in-Some c =
    let i = c.self.inside in
    let e = c.in_ok-plan.ensures in
    let same : slice_set i.queues.items c.seat-seat.result c.push.new.self ≡ i.queues.items = ap (slice_set i.queues.items c.seat-seat.result) c.in_err-push-in-Some.ensures.kept ∙ set_found i.queues.items c.seat-seat.result c.index_mut.result.now c.index_mut.ensures.value in
    rw same (
      rw (e.config, e.history, e.counts) c.self.invariant.0,
      has_planned i.place c.plan.new.self e.config e.history e.counts e.closes c.self.invariant.1,
      c.self.invariant.2,
      has_same_places i.place c.plan.new.self i.queues.items e.config e.closes c.self.invariant.3,
    )

pub returns-in_err-push-in-Some : goal.returns-in_err-push-in-Some
returns-in_err-push-in-Some c =
    let facts = planned c.self.inside.place c.plan.new.self c.in_ok-plan.plan c.args.host c.items_of-items_done.result c.args.directive.now c.in_ok-plan.ensures.config c.in_ok-plan.ensures.history c.in_ok-plan.ensures.counts c.in_ok-plan.ensures.fits.0 c.in_ok-plan.ensures.plan.0 c.in_ok-plan.ensures.plan.1 c.in_ok-plan.ensures.plan.2 in
    let i = c.self.inside in
    let e = c.in_ok-plan.ensures in
    let q = err_from_is_err_and c.from_residual-in_err-push-in-Some.result c.from_residual-in_err-push-in-Some.ensures.1 in
    rw (q.1, ← c.self.view_is) (places_scarce (the_view i) _ c.args.host c.args.directive.now q.0 facts.accepted (q.2 ∙ c.in_err-push-in-Some.ensures.fault) (rw (e.config, e.history, e.counts) refl))

pub invariant_of-self-in-Some : goal.invariant_of-self-in-Some
invariant_of-self-in-Some c =
    let facts = planned c.self.inside.place c.plan.new.self c.in_ok-plan.plan c.args.host c.items_of-items_done.result c.args.directive.now c.in_ok-plan.ensures.config c.in_ok-plan.ensures.history c.in_ok-plan.ensures.counts c.in_ok-plan.ensures.fits.0 c.in_ok-plan.ensures.plan.0 c.in_ok-plan.ensures.plan.1 c.in_ok-plan.ensures.plan.2 in
    let g = batch_goes (the_view c.self.inside) c.self.inside.work c.self.inside.queues.items c.args.host c.items_of-items_done.result c.args.directive.now c.in-Some.batch c.self.invariant.0 c.keeps.ensures.order facts.accepted c.items_of-items_done.ensures (c.in-Some.ensures.batch ∙ (c.in_ok-plan.ensures.batch ∙ facts.labelled)) in
    let seat_was : c.seat-seat.result ≡ seat c.in-Some.batch.at = c.seat-seat.ensures ∙ ap (λ (l : Label). seat l.at) c.label.ensures in
    let held : c.len.result ≡ length (queue_in c.self.inside.queues.items c.in-Some.batch.at).held = c.len.ensures ∙ ap (λ (x : QueueView). length x.held) (seat_found no_queue c.self.inside.queues.items c.in-Some.batch.at c.index.result.now g.seat.queue g.seat.held (rw seat_was at c.index.ensures)) in
    let room : c.room.result ≡ c.self.inside.place.config.room = c.room.ensures ∙ (ap (λ x. x.room) c.config-config.ensures ∙ ap (λ x. x.room) c.in_ok-plan.ensures.config) in
    let i = c.self.inside in
    let w = the_view i in
    let d = c.args.directive.now in
    let e = c.in_ok-plan.ensures in
    let b = c.in-Some.batch in
    let s = g.seat in
    let seat_is : c.seat-seat.result ≡ seat b.at = c.seat-seat.ensures ∙ ap (λ (l : Label). seat l.at) c.label.ensures in
    let entry = seat_found no_queue i.queues.items b.at c.index_mut.result.now s.queue s.held (rw seat_is at c.index_mut.ensures.value) in
    let low : length (queue_in i.queues.items b.at).held < w.config.room = omega (arith, held, room, c.if-room-len.false) in
    let pushed = c.in_ok-push-in-Some.ensures.pushed in
    let new = ap (λ (x : QueueView). x.held) pushed ∙ ap (λ (x : QueueView). held_with x b) entry in
    rw (seat_is) (
      keeps_batch w _ i.work i.queues.items b c.push.new.self c.args.host d new c.self.invariant.0 s facts.accepted
          (rw (c.accept-in-Some.ensures.place, c.in-Some.ensures.plan, e.config, e.history, e.counts, e.plan.0, e.plan.1, e.plan.2, c.items_of-items_done.ensures) refl) g.placed c.requires low,
      rw (c.accept-in-Some.ensures.place) (has_accepted c.plan.new.self _ _ _ (has_planned i.place c.plan.new.self e.config e.history e.counts e.closes c.self.invariant.1)),
      ap (λ n. n + 1) c.self.invariant.2 ∙ sym (one_placed w.config.devices i.work i.queues.items b.at b c.push.new.self new s),
      rw (c.accept-in-Some.ensures.place) (has_same_places i.place c.plan.new.self (queues_with i.queues.items b.at c.push.new.self) e.config e.closes (has_place_with i.place i.queues.items b.at c.push.new.self s.queue s.held (ap (λ (x : QueueView). x.has_place) pushed) c.self.invariant.3)),
    )

pub returns-in_ok-push-in-Some : goal.returns-in_ok-push-in-Some
returns-in_ok-push-in-Some c =
    let facts = planned c.self.inside.place c.plan.new.self c.in_ok-plan.plan c.args.host c.items_of-items_done.result c.args.directive.now c.in_ok-plan.ensures.config c.in_ok-plan.ensures.history c.in_ok-plan.ensures.counts c.in_ok-plan.ensures.fits.0 c.in_ok-plan.ensures.plan.0 c.in_ok-plan.ensures.plan.1 c.in_ok-plan.ensures.plan.2 in
    let g = batch_goes (the_view c.self.inside) c.self.inside.work c.self.inside.queues.items c.args.host c.items_of-items_done.result c.args.directive.now c.in-Some.batch c.self.invariant.0 c.keeps.ensures.order facts.accepted c.items_of-items_done.ensures (c.in-Some.ensures.batch ∙ (c.in_ok-plan.ensures.batch ∙ facts.labelled)) in
    let seat_was : c.seat-seat.result ≡ seat c.in-Some.batch.at = c.seat-seat.ensures ∙ ap (λ (l : Label). seat l.at) c.label.ensures in
    let held : c.len.result ≡ length (queue_in c.self.inside.queues.items c.in-Some.batch.at).held = c.len.ensures ∙ ap (λ (x : QueueView). length x.held) (seat_found no_queue c.self.inside.queues.items c.in-Some.batch.at c.index.result.now g.seat.queue g.seat.held (rw seat_was at c.index.ensures)) in
    let room : c.room.result ≡ c.self.inside.place.config.room = c.room.ensures ∙ (ap (λ x. x.room) c.config-config.ensures ∙ ap (λ x. x.room) c.in_ok-plan.ensures.config) in
    let i = c.self.inside in
    let w = the_view i in
    let d = c.args.directive.now in
    let e = c.in_ok-plan.ensures in
    let b = c.in-Some.batch in
    let s = g.seat in
    let low : length (queue_in i.queues.items b.at).held < w.config.room = omega (arith, held, room, c.if-room-len.false) in
    let fits = λ (full : length (queue_in i.queues.items b.at).held ≡ w.config.room). absurd (omega (arith, low, full)) in
    rw (← c.self.view_is)
    (places_batch w _ i.work i.queues.items c.args.host d b c.accept-in-Some.result c.self.invariant.0.parts g.seat facts.accepted g.placed fits
    (rw (c.in-Some.ensures.plan, e.config, e.history, e.counts, e.plan.0, e.plan.2) at c.accept-in-Some.ensures.answer)
    (rw (c.accept-in-Some.ensures.place, c.in-Some.ensures.plan, e.config, e.history, e.counts, e.plan.0, e.plan.1, e.plan.2, c.items_of-items_done.ensures) refl))

-- there are always few batches
pub overflow_add-self : goal.overflow_add-self
overflow_add-self c =
    let i = c.self.inside in
    let w = the_view i in
    let limits : IsWithinLimits w.config = rw (c.config-config.ensures, c.in_ok-plan.ensures.config) at c.keeps-in-Some.ensures.limits in
    omega (arith, c.self.invariant.2, few_left w i.work i.queues.items c.self.invariant.0.parts limits.devices.1 limits.room.1)
