use Rattle.std.proofs.Common.{refl, ◌≡◌, ◌+◌, length, map, ap, sym, ◌∙◌, arith}
use Rattle.std.specs.Prelude.{is_some, reverse, slice_set}
use Rattle.std.proofs.lemmas.List.{length-reverse}
use Rattle.acc_place.specs.declared.directive.Kind.TheVariants.{EndData}
use Rattle.acc_place.specs.declared.plan.Plan.TheInside.{Inside as PlanInside}
use Rattle.acc_place.specs.declared.closes.Close.{Close}
use Rattle.acc_place.specs.declared.device.Device.{Device}
use Rattle.acc_place.specs.inner.Devices.{held_on}
use Rattle.acc_place.specs.Plans.{PlanView, standing_in, Fits}
use Rattle.acc_place.specs.inner.Judging.{holding_after_all, holding_between, holding_behind, ends_of}
use Rattle.acc_place.proofs.AcceptedDirective.{accepted_device, entered_in, items_counted, items_in, length-ends, room_for}
use Rattle.acc_place.proofs.AnswersKept.{kept_answers}
use Rattle.acc_place.proofs.PlaceAccept.{label_cells, notes_then}
use Rattle.acc_place.proofs.KeptCloses.{closes_pushed}
use Rattle.acc_place.proofs.StandingIn.{acted_on, are_put, device_low, label_room, place_pushed, pushed_view}
use Rattle.acc_place.proofs.PlaceParts.{room_of, seen}
use Rattle.acc_place.proofs.SliceSet.{shown_same}
use Rattle.acc_place.proofs.WalkItem.{room_all}
use Rattle.acc_place.proofs.place.Place.accept.Goals as goal

abbrev planned : PlanInside → PlanView
planned q = record { host = q.host; items_done = q.items_done; directive = q.directive; region = q.region; label = q.label; batch = q.batch; answer = q.answer; stamp = q.stamp }

pub index_mut-there-requires : goal.index_mut-there-requires
index_mut-there-requires c =
    let w = c.self.inside in
    let h = c.self.invariant.0 in
    let q = planned c.plan.inside in
    let fits : Fits (seen w) q = rw (← c.self.view_is, ← c.plan.view_is) at c.requires in
    let n = c.from.ensures ∙ (c.number.ensures ∙ c.device_by-device.ensures) in
    let here = accepted_device w.config (standing_in (seen w)) q.host q.directive fits.accepted in
    omega (arith, w.devices.ok.0, device_low (seen w) q.host q.directive w.devices.items w.regions.items c.as_slice-2.result.now w.labels.queues c.from.result h.tied here c.as_slice-2.ensures.value n)

pub mark_all-requires-clause-fine : goal.mark_all-requires-clause-fine
mark_all-requires-clause-fine c =
    let w = c.self.inside in
    let h = c.self.invariant.0 in
    let q = planned c.plan.inside in
    let fits : Fits (seen w) q = rw (← c.self.view_is, ← c.plan.view_is) at c.requires in
    let n = c.from.ensures ∙ (c.number.ensures ∙ c.device_by-device.ensures) in
    let put = are_put (seen w) q.host q.directive c.as_slice.result.now c.items-items.result.now (h.tied.inside ∙ sym c.as_slice.ensures.value) (c.items-items.ensures ∙ c.put_items.ensures) in
    let v = c.index_mut-there.result.now in
    let a = acted_on (seen w) q w.devices.items w.regions.items c.as_slice-2.result.now w.labels.queues c.from.result v c.items-items.result.now h.tied fits refl c.as_slice-2.ensures.value n c.index_mut-there.ensures.value put in
    rw (a.own, a.tied.capacity, c.kind-kind.ensures) a.free.fine

pub mark_all-requires-clause-entered : goal.mark_all-requires-clause-entered
mark_all-requires-clause-entered c =
    let w = c.self.inside in
    let h = c.self.invariant.0 in
    let q = planned c.plan.inside in
    let fits : Fits (seen w) q = rw (← c.self.view_is, ← c.plan.view_is) at c.requires in
    let n = c.from.ensures ∙ (c.number.ensures ∙ c.device_by-device.ensures) in
    let put = are_put (seen w) q.host q.directive c.as_slice.result.now c.items-items.result.now (h.tied.inside ∙ sym c.as_slice.ensures.value) (c.items-items.ensures ∙ c.put_items.ensures) in
    let v = c.index_mut-there.result.now in
    let a = acted_on (seen w) q w.devices.items w.regions.items c.as_slice-2.result.now w.labels.queues c.from.result v c.items-items.result.now h.tied fits refl c.as_slice-2.ensures.value n c.index_mut-there.ensures.value put in
    rw (a.own, c.kind-kind.ensures) (entered_in (standing_in (seen w)) q.host q.directive v.table v.opened a.tied)

pub mark_all-requires-clause-room : goal.mark_all-requires-clause-room
mark_all-requires-clause-room c =
    let w = c.self.inside in
    let h = c.self.invariant.0 in
    let q = planned c.plan.inside in
    let fits : Fits (seen w) q = rw (← c.self.view_is, ← c.plan.view_is) at c.requires in
    let n = c.from.ensures ∙ (c.number.ensures ∙ c.device_by-device.ensures) in
    let put = are_put (seen w) q.host q.directive c.as_slice.result.now c.items-items.result.now (h.tied.inside ∙ sym c.as_slice.ensures.value) (c.items-items.ensures ∙ c.put_items.ensures) in
    let v = c.index_mut-there.result.now in
    let a = acted_on (seen w) q w.devices.items w.regions.items c.as_slice-2.result.now w.labels.queues c.from.result v c.items-items.result.now h.tied fits refl c.as_slice-2.ensures.value n c.index_mut-there.ensures.value put in
    let items = items_in (standing_in (seen w)) q.host q.directive in
    rw a.own (room_for (standing_in (seen w)) v.table v.opened (length items) a.tied (omega (arith, a.free.within.short)) a.room)

pub note_label-requires : goal.note_label-requires
note_label-requires c =
    let w = c.self.inside in
    let h = c.self.invariant.0 in
    let q = planned c.plan.inside in
    let fits : Fits (seen w) q = rw (← c.self.view_is, ← c.plan.view_is) at c.requires in
    let n = c.from.ensures ∙ (c.number.ensures ∙ c.device_by-device.ensures) in
    let put = are_put (seen w) q.host q.directive c.as_slice.result.now c.items-items.result.now (h.tied.inside ∙ sym c.as_slice.ensures.value) (c.items-items.ensures ∙ c.put_items.ensures) in
    let v = c.index_mut-there.result.now in
    let a = acted_on (seen w) q w.devices.items w.regions.items c.as_slice-2.result.now w.labels.queues c.from.result v c.items-items.result.now h.tied fits refl c.as_slice-2.ensures.value n c.index_mut-there.ensures.value put in
    label_cells (seen w) q v.table v.opened a.tied fits h.lawful

pub mark_all-requires-2-clause-fine : goal.mark_all-requires-2-clause-fine
mark_all-requires-2-clause-fine c =
    let w = c.self.inside in
    let h = c.self.invariant.0 in
    let q = planned c.plan.inside in
    let fits : Fits (seen w) q = rw (← c.self.view_is, ← c.plan.view_is) at c.requires in
    let n = c.from.ensures ∙ (c.number.ensures ∙ c.device_by-device.ensures) in
    let put = are_put (seen w) q.host q.directive c.as_slice.result.now c.items-items.result.now (h.tied.inside ∙ sym c.as_slice.ensures.value) (c.items-items.ensures ∙ c.put_items.ensures) in
    let v = c.index_mut-there.result.now in
    let a = acted_on (seen w) q w.devices.items w.regions.items c.as_slice-2.result.now w.labels.queues c.from.result v c.items-items.result.now h.tied fits refl c.as_slice-2.ensures.value n c.index_mut-there.ensures.value put in
    let items = items_in (standing_in (seen w)) q.host q.directive in
    let between : held_on c.mark_all.new.self ≡ holding_between q.directive.kind (held_on v) items = rw (a.own, c.kind-kind.ensures) at c.mark_all.ensures.holding in
    let ends : c.ends_of.result.now ≡ ends_of q.directive.kind items = (rw c.kind-kind.ensures at c.ends_of.ensures) ∙ ap (ends_of q.directive.kind) a.own in
    rw (c.note_label.ensures.held ∙ between, ends, c.note_label.ensures.capacity ∙ c.mark_all.ensures.capacity, a.tied.capacity) a.free.ends_fine

pub mark_all-requires-2-clause-entered : goal.mark_all-requires-2-clause-entered
mark_all-requires-2-clause-entered c =
    let w = c.self.inside in
    let h = c.self.invariant.0 in
    let q = planned c.plan.inside in
    let fits : Fits (seen w) q = rw (← c.self.view_is, ← c.plan.view_is) at c.requires in
    let n = c.from.ensures ∙ (c.number.ensures ∙ c.device_by-device.ensures) in
    let put = are_put (seen w) q.host q.directive c.as_slice.result.now c.items-items.result.now (h.tied.inside ∙ sym c.as_slice.ensures.value) (c.items-items.ensures ∙ c.put_items.ensures) in
    let v = c.index_mut-there.result.now in
    let a = acted_on (seen w) q w.devices.items w.regions.items c.as_slice-2.result.now w.labels.queues c.from.result v c.items-items.result.now h.tied fits refl c.as_slice-2.ensures.value n c.index_mut-there.ensures.value put in
    let items = items_in (standing_in (seen w)) q.host q.directive in
    let between : held_on c.mark_all.new.self ≡ holding_between q.directive.kind (held_on v) items = rw (a.own, c.kind-kind.ensures) at c.mark_all.ensures.holding in
    let ends : c.ends_of.result.now ≡ ends_of q.directive.kind items = (rw c.kind-kind.ensures at c.ends_of.ensures) ∙ ap (ends_of q.directive.kind) a.own in
    rw (c.note_label.ensures.held ∙ between, ends) a.free.ends_entered

pub mark_all-requires-2-clause-room : goal.mark_all-requires-2-clause-room
mark_all-requires-2-clause-room c =
    let w = c.self.inside in
    let h = c.self.invariant.0 in
    let q = planned c.plan.inside in
    let fits : Fits (seen w) q = rw (← c.self.view_is, ← c.plan.view_is) at c.requires in
    let n = c.from.ensures ∙ (c.number.ensures ∙ c.device_by-device.ensures) in
    let put = are_put (seen w) q.host q.directive c.as_slice.result.now c.items-items.result.now (h.tied.inside ∙ sym c.as_slice.ensures.value) (c.items-items.ensures ∙ c.put_items.ensures) in
    let v = c.index_mut-there.result.now in
    let a = acted_on (seen w) q w.devices.items w.regions.items c.as_slice-2.result.now w.labels.queues c.from.result v c.items-items.result.now h.tied fits refl c.as_slice-2.ensures.value n c.index_mut-there.ensures.value put in
    let items = items_in (standing_in (seen w)) q.host q.directive in
    let between : held_on c.mark_all.new.self ≡ holding_between q.directive.kind (held_on v) items = rw (a.own, c.kind-kind.ensures) at c.mark_all.ensures.holding in
    let ends : c.ends_of.result.now ≡ ends_of q.directive.kind items = (rw c.kind-kind.ensures at c.ends_of.ensures) ∙ ap (ends_of q.directive.kind) a.own in
    let n2 = length (ends_of q.directive.kind items) in
    let room = room_for (standing_in (seen w)) v.table v.opened (length items + n2) a.tied (omega (arith, a.free.within.short, length-ends q.directive.kind items)) a.room in
    rw ends (room_all q.directive.kind v.table c.note_label.new.device.table items n2 v.opened c.note_label.new.device.opened room (c.note_label.ensures.held ∙ between) (c.note_label.ensures.room ∙ c.mark_all.ensures.room))

pub push_label-requires : goal.push_label-requires
push_label-requires c =
    let w = c.self.inside in
    let h = c.self.invariant.0 in
    let q = planned c.plan.inside in
    let fits : Fits (seen w) q = rw (← c.self.view_is, ← c.plan.view_is) at c.requires in
    label_room (seen w) q w.devices.items w.regions.items w.labels.queues h.tied fits

pub push_reserved-requires-3 : goal.push_reserved-requires-3
push_reserved-requires-3 c =
    let w = c.self.inside in
    let h = c.self.invariant.0 in
    let q = planned c.plan.inside in
    let fits : Fits (seen w) q = rw (← c.self.view_is, ← c.plan.view_is) at c.requires in
    let as_many = kept_answers w.config (reverse w.history.items) (reverse w.counts.items) w.answers.items w.devices.items w.regions.items w.labels.queues h in
    omega (arith, fits.roomy.answers, as_many, w.answers.ok.0, length-reverse w.counts.items)

pub invariant_of-self : goal.invariant_of-self
invariant_of-self c =
    let w = c.self.inside in
    let h = c.self.invariant.0 in
    let q = planned c.plan.inside in
    let fits : Fits (seen w) q = rw (← c.self.view_is, ← c.plan.view_is) at c.requires in
    let n = c.from.ensures ∙ (c.number.ensures ∙ c.device_by-device.ensures) in
    let put = are_put (seen w) q.host q.directive c.as_slice.result.now c.items-items.result.now (h.tied.inside ∙ sym c.as_slice.ensures.value) (c.items-items.ensures ∙ c.put_items.ensures) in
    let v = c.index_mut-there.result.now in
    let a = acted_on (seen w) q w.devices.items w.regions.items c.as_slice-2.result.now w.labels.queues c.from.result v c.items-items.result.now h.tied fits refl c.as_slice-2.ensures.value n c.index_mut-there.ensures.value put in
    let items = items_in (standing_in (seen w)) q.host q.directive in
    let between : held_on c.mark_all.new.self ≡ holding_between q.directive.kind (held_on v) items = rw (a.own, c.kind-kind.ensures) at c.mark_all.ensures.holding in
    let ends : c.ends_of.result.now ≡ ends_of q.directive.kind items = (rw c.kind-kind.ensures at c.ends_of.ensures) ∙ ap (ends_of q.directive.kind) a.own in
    let d = q.directive in
    let after = c.mark_all-2.new.self in
    let noted = c.note_label.new.device in
    let left : held_on after ≡ holding_after_all EndData (held_on noted) (ends_of d.kind items) = rw ends at c.mark_all-2.ensures.holding in
    let middle : held_on noted ≡ holding_between d.kind (held_on v) items = c.note_label.ensures.held ∙ between in
    let is : held_on after ≡ holding_behind d.kind (held_on v) items = left ∙ ap (λ g. holding_after_all EndData g (ends_of d.kind items)) middle in
    let notes =
    notes_then (seen w) q v c.mark_all.new.self noted after a.tied fits h.lawful (rw (a.own, c.kind-kind.ensures) at c.mark_all.ensures.holding) c.note_label.ensures.held
    c.mark_all.ensures.notes c.note_label.ensures.notes c.mark_all-2.ensures.notes c.keeps.ensures.noted in
    let regions = c.enter_or_leave.ensures.regions (items_counted (standing_in (seen w)) q.host d) fits.region in
    let closes = map (λ (x : Close). is_some x.batch) w.closes.items in (
      place_pushed w.config w.history.items c.push_reserved.new.self.items w.counts.items c.push_reserved-2.new.self.items w.answers.items c.push_reserved-3.new.self.items closes (room_of w) q w.devices.items (slice_set w.devices.items c.from.result after)
          w.regions.items c.enter_or_leave.new.regions.items w.labels.queues c.push_label.new.labels.queues v after
          c.push_reserved.ensures.items c.push_reserved-2.ensures.items c.push_reserved-3.ensures.items regions c.push_label.ensures.queues (ap (λ k. slice_set w.devices.items k after) a.device) h fits
          (rw a.device at a.there) is (c.mark_all-2.ensures.capacity ∙ (c.note_label.ensures.capacity ∙ c.mark_all.ensures.capacity)) notes,
      rw (c.push_reserved.ensures.capacity, c.push_label.ensures.room)
          (closes_pushed w.config w.history.items c.push_reserved.new.self.items w.counts.items c.push_reserved-2.new.self.items closes (room_of w) q w.closing w.closes.items _ c.push_reserved.ensures.items c.push_reserved-2.ensures.items
          c.self.invariant.1 fits refl),
    )

pub returns-clause-place : goal.returns-clause-place
returns-clause-place c =
    let w = c.self.inside in
    let q = planned c.plan.inside in
    let v = c.index_mut-there.result.now in
    let rooms = shown_same (λ (x : Device). x.table.room) w.devices.items c.from.result v c.mark_all-2.new.self c.index_mut-there.ensures.value (c.mark_all-2.ensures.room ∙ (c.note_label.ensures.room ∙ c.mark_all.ensures.room)) in
    rw (← c.self.view_is, ← c.plan.view_is, c.push_reserved.ensures.capacity, c.push_reserved-2.ensures.capacity, c.push_reserved-3.ensures.capacity, c.enter_or_leave.ensures.room, c.push_label.ensures.room, rooms)
    (pushed_view w.config w.history.items c.push_reserved.new.self.items w.counts.items c.push_reserved-2.new.self.items (map (λ (x : Close). is_some x.batch) w.closes.items) (room_of w) q c.push_reserved.ensures.items c.push_reserved-2.ensures.items)

pub returns-clause-answer : goal.returns-clause-answer
returns-clause-answer c =
    let w = c.self.inside in
    let q = planned c.plan.inside in
    let fits : Fits (seen w) q = rw (← c.self.view_is, ← c.plan.view_is) at c.requires in
    rw (← c.self.view_is, ← c.plan.view_is) (c.placed-placed.ensures ∙ fits.answered)
