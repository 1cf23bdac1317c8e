use Rattle.std.proofs.Common.{length, get_or, rules, arith, ap}
use Rattle.acc_present.specs.declared.entry.TheConstants.{COUNTER_LIMIT}
use Rattle.acc_place.specs.declared.directive.Clause.TheVariants.{Copy}
use Rattle.acc_place.specs.declared.directive.DataItem.{DataItem}
use Rattle.acc_place.specs.inner.Devices.{held_on}
use Rattle.acc_place.specs.inner.Judging.{Holding, change_in, AllEntered, AllFine, HasRoomFor}
use Rattle.acc_place.proofs.DeviceNotes.{fresh_later, opened_later}
use Rattle.acc_place.proofs.WalkItem.{AllLow-fewer, rest_of, rest_is, fine-first, fine-next, entered-first, entered-next, room_rest}
use Rattle.acc_place.proofs.device.Device.+mark_all.Goals as goal

abbrev no_item : DataItem
no_item = record { clause = Copy; range = record { array = 0; lo = 0; len = 0 } }

pub mark_item-requires-clause-fine : goal.mark_item-requires-clause-fine
mark_item-requires-clause-fine t c =
    let v = c.args.self.now in
    fine-first v.table.capacity c.args.kind.now (held_on v) c.args.items.now no_item c.in-len1-up.len_at_least c.requires.fine

pub mark_item-requires-clause-entered : goal.mark_item-requires-clause-entered
mark_item-requires-clause-entered t c = entered-first c.args.kind.now (held_on c.args.self.now) c.args.items.now no_item c.in-len1-up.len_at_least c.requires.entered

pub mark_item-requires-clause-low : goal.mark_item-requires-clause-low
mark_item-requires-clause-low t c =
    let n = length c.args.items.now in
    AllLow-fewer COUNTER_LIMIT COUNTER_LIMIT n 1 c.args.self.now.table.presences (omega (arith, c.in-len1-up.len_at_least)) c.requires.room.low

pub mark_all-requires : goal.mark_all-requires
mark_all-requires t c =
    let v = c.args.self.now in
    let w = c.mark_item.new.self in
    let k = c.args.kind.now in
    let items = c.args.items.now in
    let item = get_or items 0 no_item in
    let change = change_in k v.table.presences item in
    let some = c.in-len1-up.len_at_least in
    let after = c.mark_item.ensures.holding in
    let fine : AllFine w.table.capacity k (held_on w) (rest_of items) =
    rw (after, rest_is items, c.mark_item.ensures.capacity) (fine-next v.table.capacity k (held_on v) items no_item some c.requires.fine) in
    let entered : AllEntered k (held_on w) (rest_of items) =
    rw (after, rest_is items) (entered-next k (held_on v) items no_item some c.requires.entered) in
    let room : HasRoomFor (length (rest_of items)) w.table w.opened =
    rw (rest_is items) (room_rest change v.table w.table item.range items v.opened w.opened c.requires.room some after c.mark_item.ensures.room) in
    (search rules, (fine, (entered, room)))

pub returns-in-len1-up-clause-notes : goal.returns-in-len1-up-clause-notes
returns-in-len1-up-clause-notes t c = λ notes fresh h.
    let v = c.args.self.now in
    let w = c.mark_item.new.self in
    let item = get_or c.args.items.now 0 no_item in
    let change = change_in c.args.kind.now v.table.presences item in
    let later = fresh_later notes v.opened w.opened (omega (arith, ap (λ (k : Holding). k.opened) c.mark_item.ensures.holding, opened_later change item.range (held_on v))) fresh in
    c.mark_all.ensures.notes notes later (c.mark_item.ensures.notes notes fresh h)
