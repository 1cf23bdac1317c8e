use Rattle.std.proofs.Common.{refl, sym, subst, ◌∙◌}
use Rattle.std.proofs.lemmas.Result.{err_from_is_err_and}
use Rattle.acc_place.specs.Accepting.{refusal}
use Rattle.acc_place.specs.Plans.{queue_for, standing_in, IsRoomy}
use Rattle.acc_place.specs.declared.judge.Known.{Known}
use Rattle.acc_place.specs.inner.Noting.{notes_on}
use Rattle.acc_place.proofs.AcceptedDirective.{device_in}
use Rattle.acc_place.proofs.PlaceParts.{seen}
use Rattle.acc_place.proofs.RoomMade.{fits_there, known_there, memory_refused, same_as, same_refusal}
use Rattle.acc_place.proofs.StandingIn.{counted_by, fault_known, known_in, memory_as, own_device, refused_as}
use Rattle.acc_place.proofs.place.Place.plan_on.Goals as goal

pub judge-requires-clause-known : goal.judge-requires-clause-known
judge-requires-clause-known c =
    let made = c.make_room-room.ensures in
    let w = c.self.inside in
    let host = c.args.host in
    let d = c.args.directive.now in
    let same = same_as (seen w) c.make_room-room.new.self c.args.self.now c.self.view_is made.config made.history made.counts in
    known_in (seen w) host d _
    (known_there (seen w) c.args.self.now host d _ w.devices.items w.regions.items w.labels.queues c.from.result c.index-there.result.now c.args.at same c.self.invariant.0
    c.requires.early c.requires.device c.requires.at c.requires.there (c.from.ensures ∙ c.number.ensures) c.index-there.ensures refl refl refl c.as_slice.ensures.value
    (counted_by w.history.items c.len.result w.history.len c.len.ensures w.history.ok.0) refl refl)

pub judge-requires-clause-device : goal.judge-requires-clause-device
judge-requires-clause-device c =
    let made = c.make_room-room.ensures in
    let w = c.self.inside in
    let host = c.args.host in
    let d = c.args.directive.now in
    let same = same_as (seen w) c.make_room-room.new.self c.args.self.now c.self.view_is made.config made.history made.counts in
    let at_place = c.args.self.ref_ptr in
    let k : Known =
    record {
      config = record { ref_ptr = at_place; now = w.config };
      table = record { ref_ptr = at_place; now = c.index-there.result.now.table };
      regions = c.as_slice.result;
      accepted = c.len.result;
      opened = c.index-there.result.now.opened;
      labels = record { ref_ptr = at_place; now = w.labels };
      at = c.args.at;
    } in
    let known =
    known_there (seen w) c.args.self.now host d k w.devices.items w.regions.items w.labels.queues c.from.result c.index-there.result.now c.args.at same c.self.invariant.0
    c.requires.early c.requires.device c.requires.at c.requires.there (c.from.ensures ∙ c.number.ensures) c.index-there.ensures refl refl refl c.as_slice.ensures.value
    (counted_by w.history.items c.len.result w.history.len c.len.ensures w.history.ok.0) refl refl in
    own_device (seen w) host d k known

pub plan-requires-clause-known : goal.plan-requires-clause-known
plan-requires-clause-known c =
    let made = c.make_room-room.ensures in
    let w = c.self.inside in
    let host = c.args.host in
    let d = c.args.directive.now in
    let same = same_as (seen w) c.make_room-room.new.self c.args.self.now c.self.view_is made.config made.history made.counts in
    known_in (seen w) host d _
    (known_there (seen w) c.args.self.now host d _ w.devices.items w.regions.items w.labels.queues c.from.result c.index-there.result.now c.args.at same c.self.invariant.0
    c.requires.early c.requires.device c.requires.at c.requires.there (c.from.ensures ∙ c.number.ensures) c.index-there.ensures refl refl refl c.as_slice.ensures.value
    (counted_by w.history.items c.len.result w.history.len c.len.ensures w.history.ok.0) refl refl)

pub returns-in-Some-clause-refused : goal.returns-in-Some-clause-refused
returns-in-Some-clause-refused c =
    let made = c.make_room-room.ensures in
    let w = c.self.inside in
    let host = c.args.host in
    let d = c.args.directive.now in
    let same = same_as (seen w) c.make_room-room.new.self c.args.self.now c.self.view_is made.config made.history made.counts in
    let at_place = c.args.self.ref_ptr in
    let k : Known =
    record {
      config = record { ref_ptr = at_place; now = w.config };
      table = record { ref_ptr = at_place; now = c.index-there.result.now.table };
      regions = c.as_slice.result;
      accepted = c.len.result;
      opened = c.index-there.result.now.opened;
      labels = record { ref_ptr = at_place; now = w.labels };
      at = c.args.at;
    } in
    let known =
    known_there (seen w) c.args.self.now host d k w.devices.items w.regions.items w.labels.queues c.from.result c.index-there.result.now c.args.at same c.self.invariant.0
    c.requires.early c.requires.device c.requires.at c.requires.there (c.from.ensures ∙ c.number.ensures) c.index-there.ensures refl refl refl c.as_slice.ensures.value
    (counted_by w.history.items c.len.result w.history.len c.len.ensures w.history.ok.0) refl refl in
    let old = c.args.self.now in
    refused_as (refusal old.config (standing_in old) host d) c.in-Some.fault (same_refusal (seen w) old host d same ∙ fault_known (seen w) host d k known ∙ sym c.in-Some.ensures.fault)

pub returns-in_err-room-clause-refused : goal.returns-in_err-room-clause-refused
returns-in_err-room-clause-refused c =
    let made = c.make_room-room.ensures in
    let w = c.self.inside in
    let host = c.args.host in
    let d = c.args.directive.now in
    let same = same_as (seen w) c.make_room-room.new.self c.args.self.now c.self.view_is made.config made.history made.counts in
    let at_place = c.args.self.ref_ptr in
    let k : Known =
    record {
      config = record { ref_ptr = at_place; now = w.config };
      table = record { ref_ptr = at_place; now = c.index-there.result.now.table };
      regions = c.as_slice.result;
      accepted = c.len.result;
      opened = c.index-there.result.now.opened;
      labels = record { ref_ptr = at_place; now = w.labels };
      at = c.args.at;
    } in
    let known =
    known_there (seen w) c.args.self.now host d k w.devices.items w.regions.items w.labels.queues c.from.result c.index-there.result.now c.args.at same c.self.invariant.0
    c.requires.early c.requires.device c.requires.at c.requires.there (c.from.ensures ∙ c.number.ensures) c.index-there.ensures refl refl refl c.as_slice.ensures.value
    (counted_by w.history.items c.len.result w.history.len c.len.ensures w.history.ok.0) refl refl in
    let old = c.args.self.now in
    let none = same_refusal (seen w) old host d same ∙ fault_known (seen w) host d k known ∙ sym c.in_default.ensures.fault in
    let q = err_from_is_err_and c.from_residual.result c.from_residual.ensures.1 in
    rw q.1 (memory_as (refusal old.config (standing_in old) host d) q.0 none (q.2 ∙ c.in_err-room.ensures.fault))

pub returns-clause-refused : goal.returns-clause-refused
returns-clause-refused c =
    let made = c.make_room-room.ensures in
    let w = c.self.inside in
    let host = c.args.host in
    let d = c.args.directive.now in
    let same = same_as (seen w) c.make_room-room.new.self c.args.self.now c.self.view_is made.config made.history made.counts in
    let at_place = c.args.self.ref_ptr in
    let k : Known =
    record {
      config = record { ref_ptr = at_place; now = w.config };
      table = record { ref_ptr = at_place; now = c.index-there.result.now.table };
      regions = c.as_slice.result;
      accepted = c.len.result;
      opened = c.index-there.result.now.opened;
      labels = record { ref_ptr = at_place; now = w.labels };
      at = c.args.at;
    } in
    let known =
    known_there (seen w) c.args.self.now host d k w.devices.items w.regions.items w.labels.queues c.from.result c.index-there.result.now c.args.at same c.self.invariant.0
    c.requires.early c.requires.device c.requires.at c.requires.there (c.from.ensures ∙ c.number.ensures) c.index-there.ensures refl refl refl c.as_slice.ensures.value
    (counted_by w.history.items c.len.result w.history.len c.len.ensures w.history.ok.0) refl refl in
    let old = c.args.self.now in
    let none = same_refusal (seen w) old host d same ∙ fault_known (seen w) host d k known ∙ sym c.in_default.ensures.fault in
    memory_refused (refusal old.config (standing_in old) host d) none c.plan.result c.plan.ensures.fault

pub returns-clause-fits : goal.returns-clause-fits
returns-clause-fits c =
    let made = c.make_room-room.ensures in
    let w = c.self.inside in
    let host = c.args.host in
    let d = c.args.directive.now in
    let same = same_as (seen w) c.make_room-room.new.self c.args.self.now c.self.view_is made.config made.history made.counts in
    let at_place = c.args.self.ref_ptr in
    let k : Known =
    record {
      config = record { ref_ptr = at_place; now = w.config };
      table = record { ref_ptr = at_place; now = c.index-there.result.now.table };
      regions = c.as_slice.result;
      accepted = c.len.result;
      opened = c.index-there.result.now.opened;
      labels = record { ref_ptr = at_place; now = w.labels };
      at = c.args.at;
    } in
    let known =
    known_there (seen w) c.args.self.now host d k w.devices.items w.regions.items w.labels.queues c.from.result c.index-there.result.now c.args.at same c.self.invariant.0
    c.requires.early c.requires.device c.requires.at c.requires.there (c.from.ensures ∙ c.number.ensures) c.index-there.ensures refl refl refl c.as_slice.ensures.value
    (counted_by w.history.items c.len.result w.history.len c.len.ensures w.history.ok.0) refl refl in
    let p = seen w in
    let roomy : IsRoomy p (queue_for p host d) =
    subst (λ x. IsRoomy p x) known.at_queue (subst (λ x. IsRoomy x c.args.at) (sym c.self.view_is) c.in_ok-room.ensures.ok) in
    let planned = c.plan.ensures in
    let notes = notes_on (device_in (standing_in p) host d) (standing_in p).labels in
    fits_there p host d k c.args.items_done known c.self.invariant.0.lawful (sym c.in_default.ensures.fault) roomy (counted_by w.history.items c.len.result w.history.len c.len.ensures w.history.ok.0)
    c.plan.result planned.host planned.directive planned.region (planned.label notes known.tied.noted) planned.answer
