use Rattle.std.proofs.Common.{◌≡◌, ◌<◌, [], map, reverse, length, refl, sym, ap, ◌∙◌, arith}
use Rattle.std.specs.Prelude.{slice_index_or, slice_set}
use Rattle.std.proofs.lemmas.List.{length-reverse}
use Rattle.std.proofs.lemmas.Result.{err_from_is_err_and}
use Rattle.acc_base.specs.Queues.{seat}
use Rattle.acc_place.specs.declared.device.Device.{Device}
use Rattle.acc_place.specs.Histories.{standing, IsQueue}
use Rattle.acc_place.specs.Plans.{IsRoomy}
use Rattle.acc_place.specs.inner.Judging.{Holding}
use Rattle.acc_place.proofs.AnswersKept.{kept_answers}
use Rattle.acc_place.proofs.KeptCloses.{closes_spared}
use Rattle.acc_place.proofs.StandingIn.{place_spared, placed_there, present_there, roomier, roomy_by}
use Rattle.acc_place.proofs.PlaceParts.{seen}
use Rattle.acc_place.proofs.SliceSet.{shown_at, shown_more, shown_new}
use Rattle.acc_place.proofs.place.Place.make_room.Goals as goal

pub invariant_of-self-in_err-spare-2 : goal.invariant_of-self-in_err-spare-2
invariant_of-self-in_err-spare-2 c =
    let w = c.self.inside in
    let h = c.self.invariant.0 in
    let at_queue = c.args.at in
    let there : IsQueue w.config at_queue = rw (← c.self.view_is) at c.requires.there in
    let n = c.from-device.result in
    let is : n ≡ at_queue.device = c.from-device.ensures ∙ c.number.ensures in
    let v = c.index_mut.result.now in
    let low : n < length w.devices.items = omega (arith, is, there.0, h.tied.all_devices) in
    let found = c.index_mut.ensures.value in
    rw (c.reserve.ensures.items, c.reserve-2.ensures.items, c.reserve-3.ensures.items, c.reserve-4.ensures.items, c.spare.ensures.queues) (
      place_spared w.config (reverse w.history.items) (reverse w.counts.items) w.devices.items w.regions.items w.labels.queues n v c.spare-2.new.self h
          (omega (arith, is, there.0)) found c.spare-2.ensures.held c.spare-2.ensures.notes c.spare-2.ensures.capacity,
      closes_spared w.config (standing w.config (reverse w.history.items) (reverse w.counts.items)) w.closing w.closes.items (length w.history.items) _ _ w.labels.room _ c.self.invariant.1
          c.reserve.ensures.capacity c.spare.ensures.room,
    )

pub returns-in_err-reserve-3-clause-missing : goal.returns-in_err-reserve-3-clause-missing
returns-in_err-reserve-3-clause-missing c =
    let w = c.self.inside in
    let as_many = kept_answers w.config (reverse w.history.items) (reverse w.counts.items) w.answers.items w.devices.items w.regions.items w.labels.queues c.self.invariant.0 in
    let q = err_from_is_err_and c.from_residual-in_err-reserve-3.result c.from_residual-in_err-reserve-3.ensures.1 in
    rw q.1 (λ roomy. (let roomy' : IsRoomy (seen w) c.args.at = rw (← c.self.view_is) at roomy in omega (arith, roomy'.answers, as_many, length-reverse w.counts.items, c.in_err-reserve-3.ensures.full)))

pub returns-in_err-spare-2-clause-roomy : goal.returns-in_err-spare-2-clause-roomy
returns-in_err-spare-2-clause-roomy c =
    let w = c.self.inside in
    let h = c.self.invariant.0 in
    let at_queue = c.args.at in
    let there : IsQueue w.config at_queue = rw (← c.self.view_is) at c.requires.there in
    let n = c.from-device.result in
    let is : n ≡ at_queue.device = c.from-device.ensures ∙ c.number.ensures in
    let v = c.index_mut.result.now in
    let low : n < length w.devices.items = omega (arith, is, there.0, h.tied.all_devices) in
    let found = c.index_mut.ensures.value in
    λ other roomy.
    roomier (seen w) _ other refl (ap reverse c.reserve.ensures.items) (ap reverse c.reserve-2.ensures.items)
    (omega (arith, c.reserve.ensures.capacity)) c.reserve-2.ensures.capacity c.reserve-3.ensures.capacity c.reserve-4.ensures.capacity (c.spare.ensures.room (seat other))
    (shown_more (λ (x : Device). x.table.room) w.devices.items n v c.spare-2.new.self other.device low found c.spare-2.ensures.room)
    (rw (← c.self.view_is) at roomy)

pub returns-in_err-spare-2-clause-missing : goal.returns-in_err-spare-2-clause-missing
returns-in_err-spare-2-clause-missing c =
    let w = c.self.inside in
    let h = c.self.invariant.0 in
    let at_queue = c.args.at in
    let there : IsQueue w.config at_queue = rw (← c.self.view_is) at c.requires.there in
    let n = c.from-device.result in
    let is : n ≡ at_queue.device = c.from-device.ensures ∙ c.number.ensures in
    let v = c.index_mut.result.now in
    let low : n < length w.devices.items = omega (arith, is, there.0, h.tied.all_devices) in
    let found = c.index_mut.ensures.value in
    let q = err_from_is_err_and c.from_residual-in_err-spare-2.result c.from_residual-in_err-spare-2.ensures.1 in
    let present = present_there (seen w) w.devices.items w.regions.items w.labels.queues n v at_queue h.tied is there.0 found in
    let room = ap (λ k. slice_index_or (map (λ (x : Device). x.table.room) w.devices.items) k 0) (sym is) ∙ shown_at (λ (x : Device). x.table.room) w.devices.items n v 0 low found in
    rw q.1 (λ roomy. (let roomy' : IsRoomy (seen w) at_queue = rw (← c.self.view_is) at roomy in omega (arith, roomy'.ranges, present, room, c.in_err-spare-2.ensures.missing)))

pub invariant_of-self-2 : goal.invariant_of-self-2
invariant_of-self-2 c =
    let w = c.self.inside in
    let h = c.self.invariant.0 in
    let at_queue = c.args.at in
    let there : IsQueue w.config at_queue = rw (← c.self.view_is) at c.requires.there in
    let n = c.from-device.result in
    let is : n ≡ at_queue.device = c.from-device.ensures ∙ c.number.ensures in
    let v = c.index_mut.result.now in
    let low : n < length w.devices.items = omega (arith, is, there.0, h.tied.all_devices) in
    let found = c.index_mut.ensures.value in
    rw (c.reserve.ensures.items, c.reserve-2.ensures.items, c.reserve-3.ensures.items, c.reserve-4.ensures.items, c.spare.ensures.queues) (
      place_spared w.config (reverse w.history.items) (reverse w.counts.items) w.devices.items w.regions.items w.labels.queues n v c.spare-2.new.self h
          (omega (arith, is, there.0)) found c.spare-2.ensures.held c.spare-2.ensures.notes c.spare-2.ensures.capacity,
      closes_spared w.config (standing w.config (reverse w.history.items) (reverse w.counts.items)) w.closing w.closes.items (length w.history.items) _ _ w.labels.room _ c.self.invariant.1
          c.reserve.ensures.capacity c.spare.ensures.room,
    )

pub returns-clause-roomy : goal.returns-clause-roomy
returns-clause-roomy c =
    let w = c.self.inside in
    let h = c.self.invariant.0 in
    let at_queue = c.args.at in
    let there : IsQueue w.config at_queue = rw (← c.self.view_is) at c.requires.there in
    let n = c.from-device.result in
    let is : n ≡ at_queue.device = c.from-device.ensures ∙ c.number.ensures in
    let v = c.index_mut.result.now in
    let low : n < length w.devices.items = omega (arith, is, there.0, h.tied.all_devices) in
    let found = c.index_mut.ensures.value in
    λ other roomy.
    roomier (seen w) _ other refl (ap reverse c.reserve.ensures.items) (ap reverse c.reserve-2.ensures.items)
    (omega (arith, c.reserve.ensures.capacity)) c.reserve-2.ensures.capacity c.reserve-3.ensures.capacity c.reserve-4.ensures.capacity (c.spare.ensures.room (seat other))
    (shown_more (λ (x : Device). x.table.room) w.devices.items n v c.spare-2.new.self other.device low found c.spare-2.ensures.room)
    (rw (← c.self.view_is) at roomy)

pub returns-clause-ok : goal.returns-clause-ok
returns-clause-ok c =
    let w = c.self.inside in
    let h = c.self.invariant.0 in
    let at_queue = c.args.at in
    let there : IsQueue w.config at_queue = rw (← c.self.view_is) at c.requires.there in
    let n = c.from-device.result in
    let is : n ≡ at_queue.device = c.from-device.ensures ∙ c.number.ensures in
    let v = c.index_mut.result.now in
    let low : n < length w.devices.items = omega (arith, is, there.0, h.tied.all_devices) in
    let found = c.index_mut.ensures.value in
    let present = present_there (seen w) w.devices.items w.regions.items w.labels.queues n v at_queue h.tied is there.0 found in
    let placed = placed_there (seen w) w.devices.items w.regions.items w.labels.queues at_queue h.tied there in
    let rooms = ap (λ k. slice_index_or (map (λ (x : Device). x.table.room) (slice_set w.devices.items n c.spare-2.new.self)) k 0) (sym is) ∙ shown_new (λ (x : Device). x.table.room) w.devices.items n c.spare-2.new.self 0 low in
    let same = ap (λ (g : Holding). length g.presences) c.spare-2.ensures.held in
    let as_many = kept_answers w.config (reverse w.history.items) (reverse w.counts.items) w.answers.items w.devices.items w.regions.items w.labels.queues h in
    roomy_by (seen w) _ at_queue refl (ap reverse c.reserve.ensures.items) (ap reverse c.reserve-2.ensures.items)
    (omega (arith, c.in_ok-reserve.ensures.ok, c.len.ensures, c.self.invariant.1.all_queues, ap length c.reserve.ensures.items, length-reverse w.history.items))
    (omega (arith, c.in_ok-reserve-2.ensures.ok, ap length c.reserve-2.ensures.items, length-reverse w.counts.items))
    (omega (arith, c.in_ok-reserve-3.ensures.ok, ap length c.reserve-3.ensures.items, as_many))
    (omega (arith, c.in_ok-reserve-4.ensures.ok, ap length c.reserve-4.ensures.items, ap length h.tied.inside))
    (omega (arith, c.in_ok-spare.ensures.ok, ap length placed, ap (λ qs. length (slice_index_or qs (seat at_queue) [])) c.spare.ensures.queues))
    (omega (arith, c.in_ok-spare-2.ensures.ok, present, rooms, same))
