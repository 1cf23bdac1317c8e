use Rattle.std.proofs.Common.{◌≡◌, map, sym, ◌∙◌, Some, None}
use Rattle.acc_present.specs.Presences.{holder}
use Rattle.acc_present.specs.Tables.{entry_presence, held_presence}
use Rattle.acc_present.specs.Drafts.{with_changed}
use Rattle.acc_present.proofs.DraftShows.{held_beside, beside_none, beside_hidden, beside_seen, overlaps_changed, none_seen, apart_seen, none_looked}
use Rattle.acc_present.proofs.Holder.{is_present-some, not_partly}
use Rattle.acc_present.proofs.draft.look_beside.Goals as goal

pub returns-then-overlaps_one : goal.returns-then-overlaps_one
returns-then-overlaps_one c =
    let cs = map held_presence c.args.changed.now in
    let ps = c.args.table.now.presences in
    let r = c.args.range in
    let x = entry_presence c.in-Present.entry in
    let some : holder ps r ≡ Some x = (rw c.in-Present.is at c.look.ensures.look).0 in
    let hidden = beside_hidden cs ps r x c.keeps.ensures.table c.requires.cells some (sym c.overlaps_one.ensures ∙ c.if-overlaps_one.true) in
    let none = sym (held_beside cs ps r None c.requires.after c.requires.cells (sym c.requires.none) (sym hidden)) in
    none_looked (with_changed cs ps) r c.overlaps_drafted.result c.partly_or_absent.result none c.overlaps_drafted.ensures c.partly_or_absent.ensures

pub returns-else-overlaps_one : goal.returns-else-overlaps_one
returns-else-overlaps_one c =
    let cs = map held_presence c.args.changed.now in
    let ps = c.args.table.now.presences in
    let r = c.args.range in
    let x = entry_presence c.in-Present.entry in
    let some : holder ps r ≡ Some x = (rw c.in-Present.is at c.look.ensures.look).0 in
    let rest = beside_seen cs ps r x c.keeps.ensures.table c.requires.cells some (sym c.overlaps_one.ensures ∙ c.if-overlaps_one.false) in
    let seen = sym (held_beside cs ps r (Some x) c.requires.after c.requires.cells (sym c.requires.none) (sym rest)) in
    let qs = with_changed cs ps in
    rw c.held_of.ensures (seen, not_partly qs r (is_present-some qs r x seen))

pub returns-in-Partly : goal.returns-in-Partly
returns-in-Partly c =
    let cs = map held_presence c.args.changed.now in
    let ps = c.args.table.now.presences in
    let r = c.args.range in
    let rest = beside_none cs ps r (none_seen ps r (rw c.in-Partly.is at c.look.ensures.look)) in
    let none = sym (held_beside cs ps r None c.requires.after c.requires.cells (sym c.requires.none) (sym rest)) in
    none_looked (with_changed cs ps) r c.overlaps_drafted-in-Partly.result c.partly_or_absent-in-Partly.result none c.overlaps_drafted-in-Partly.ensures c.partly_or_absent-in-Partly.ensures

pub returns-in-Absent : goal.returns-in-Absent
returns-in-Absent c =
    let cs = map held_presence c.args.changed.now in
    let ps = c.args.table.now.presences in
    let r = c.args.range in
    let absent = rw c.in-Absent.is at c.look.ensures.look in
    let rest = beside_none cs ps r absent.0 in
    let none = sym (held_beside cs ps r None c.requires.after c.requires.cells (sym c.requires.none) (sym rest)) in
    none_looked (with_changed cs ps) r c.overlaps_counted.result c.partly_or_absent-in-Absent.result none
    (c.overlaps_counted.ensures ∙ sym (overlaps_changed cs ps r (apart_seen ps r absent.0 absent.1))) c.partly_or_absent-in-Absent.ensures
