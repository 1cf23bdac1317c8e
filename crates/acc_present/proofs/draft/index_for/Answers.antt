use Rattle.std.proofs.Common.{◌≡◌, map, sym, ◌∙◌, arith, Some}
use Rattle.std.proofs.lemmas.List.{length-map, map_push}
use Rattle.acc_present.specs.Presences.{holder}
use Rattle.acc_present.specs.Tables.{held_presence}
use Rattle.acc_present.specs.Drafts.{with_changed}
use Rattle.acc_present.proofs.DraftMarks.{taken_over, slice_get_push}
use Rattle.acc_present.proofs.DraftShows.{held_changed, beside_found, none_seen}
use Rattle.acc_present.proofs.draft.index_for.Goals as goal

pub returns-in-Some-clause-held : goal.returns-in-Some-clause-held
returns-in-Some-clause-held c =
    let es = c.args.changed.now.items in
    let held = rw c.as_slice.ensures.value at c.in-Some.ensures.held in
    let low = rw c.as_slice.ensures.value at c.in-Some.ensures.within in
    held_changed (map held_presence es) c.args.table.now.presences c.args.range c.in-Some.i c.requires.after c.requires.cells (rw (length-map es held_presence) low) held

pub returns-in-Absent-clause-held : goal.returns-in-Absent-clause-held
returns-in-Absent-clause-held c = sym (rw c.in-Absent.is at c.requires.found).0

pub returns-in-Partly-clause-held : goal.returns-in-Partly-clause-held
returns-in-Partly-clause-held c =
    let cs = map held_presence c.args.changed.now.items in
    sym (none_seen (with_changed cs c.args.table.now.presences) c.args.range (rw c.in-Partly.is at c.requires.found))

pub returns-in-Present-clause-same : goal.returns-in-Present-clause-same
returns-in-Present-clause-same c =
    let es = c.args.changed.now.items in
    let x = c.in-Present.held in
    let none = rw c.as_slice.ensures.value at c.in-None.ensures.held in
    let some : holder (with_changed (map held_presence es) c.args.table.now.presences) c.args.range ≡ Some (held_presence x) = (rw c.in-Present.is at c.requires.found).0 in
    let rest = beside_found (map held_presence es) c.args.table.now.presences c.args.range (Some (held_presence x)) c.requires.after c.requires.cells none some in
    rw (c.push_reserved.ensures.items, map_push held_presence es x)
    (taken_over (map held_presence es) c.args.table.now.presences c.args.range (held_presence x) c.keeps.ensures.table c.requires.after (sym rest))

pub returns-in-Present-clause-held : goal.returns-in-Present-clause-held
returns-in-Present-clause-held c =
    let es = c.args.changed.now.items in
    let x = c.in-Present.held in
    let some : holder (with_changed (map held_presence es) c.args.table.now.presences) c.args.range ≡ Some (held_presence x) = (rw c.in-Present.is at c.requires.found).0 in
    rw (c.push_reserved.ensures.items, map_push held_presence es x)
    (slice_get_push (map held_presence es) (held_presence x) c.len-index.result (omega (arith, c.len-index.ensures, length-map es held_presence)) ∙ sym some)
