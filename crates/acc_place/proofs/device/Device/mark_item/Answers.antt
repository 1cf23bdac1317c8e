use Rattle.std.proofs.Common.{◌≡◌, false, ap, ◌∙◌, arith}
use Rattle.std.specs.Prelude.{is_some}
use Rattle.acc_present.specs.Presences.{Presence}
use Rattle.acc_place.specs.Standings.{asked_item, change_where}
use Rattle.acc_place.specs.inner.Devices.{held_on}
use Rattle.acc_place.specs.inner.Judging.{change_in, holding_after, wants_look}
use Rattle.acc_place.proofs.WalkItem.{can_mark, can_without_look, held_is_present, without_look}
use Rattle.acc_place.proofs.device.Device.mark_item.Goals as goal

pub mark-requires-clause-can : goal.mark-requires-clause-can
mark-requires-clause-can c =
    let t = c.args.self.now.table in
    let k = c.args.kind.now in
    let item = c.args.item.now in
    let change : c.change_where.result ≡ change_in k t.presences item =
    c.change_where.ensures ∙ ap (change_where (asked_item k item)) (c.is_some-present.ensures ∙ (ap is_some c.counters.ensures ∙ held_is_present (λ (p : Presence). (p.s, p.d)) t.presences item.range)) in
    rw change (can_mark (change_in k t.presences item) t.presences item.range t.capacity 1 c.requires.fine c.requires.entered c.requires.low (omega arith))

pub mark-requires-else-wants_look-clause-can : goal.mark-requires-else-wants_look-clause-can
mark-requires-else-wants_look-clause-can c =
    let t = c.args.self.now.table in
    let k = c.args.kind.now in
    let item = c.args.item.now in
    let free : wants_look k item.clause ≡ false = cc in
    rw c.change.ensures (can_without_look k t.presences item t.capacity 1 free c.requires.fine c.requires.entered c.requires.low (omega arith))

pub returns-then-wants_look-clause-holding : goal.returns-then-wants_look-clause-holding
returns-then-wants_look-clause-holding c =
    let t = c.args.self.now.table in
    let k = c.args.kind.now in
    let item = c.args.item.now in
    let change : c.change_where.result ≡ change_in k t.presences item =
    c.change_where.ensures ∙ ap (change_where (asked_item k item)) (c.is_some-present.ensures ∙ (ap is_some c.counters.ensures ∙ held_is_present (λ (p : Presence). (p.s, p.d)) t.presences item.range)) in
    c.mark.ensures.holding ∙ ap (λ made. holding_after made item.range (held_on c.args.self.now)) change

pub returns-else-wants_look-clause-holding : goal.returns-else-wants_look-clause-holding
returns-else-wants_look-clause-holding c =
    let v = c.args.self.now in
    let k = c.args.kind.now in
    let item = c.args.item.now in
    let free : wants_look k item.clause ≡ false = cc in
    c.mark-else-wants_look.ensures.holding
    ∙ (ap (λ made. holding_after made item.range (held_on v)) c.change.ensures
    ∙ without_look k v.table.presences item v.opened c.keeps.ensures.table free)
