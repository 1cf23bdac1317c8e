use Rattle.std.proofs.Common.{map, sym, ◌∙◌}
use Rattle.std.proofs.lemmas.List.{length-map}
use Rattle.acc_present.specs.Tables.{held_presence}
use Rattle.acc_present.specs.Drafts.{with_changed}
use Rattle.acc_present.proofs.DraftShows.{held_changed}
use Rattle.acc_present.proofs.Holder.{slice_get-shown, is_present-some, not_partly}
use Rattle.acc_present.proofs.draft.Draft.look.Goals as goal

pub returns-in-Some : goal.returns-in-Some
returns-in-Some c =
    let es = c.self.inside.changed.items in
    let ps = c.args.table.now.presences in
    let r = c.args.range in
    let x = c.index-changed-i.result in
    let d = rw (← c.self.view_is) at c.requires.draft in
    let held = rw c.as_slice-changed.ensures.value at c.in-Some.ensures.held in
    let low = rw c.as_slice-changed.ensures.value at c.in-Some.ensures.within in
    let is = rw c.as_slice-changed.ensures.value at c.index-changed-i.is in
    let seen = sym (held_changed (map held_presence es) ps r c.in-Some.i d.after c.requires.cells (rw (length-map es held_presence) low) held) ∙ slice_get-shown held_presence es c.in-Some.i x low is in
    let qs = with_changed (map held_presence es) ps in
    rw (← c.self.view_is) (seen, not_partly qs r (is_present-some qs r (held_presence x) seen))

pub look_beside-requires-clause-after : goal.look_beside-requires-clause-after
look_beside-requires-clause-after c = rw c.as_slice-changed.ensures.value (rw (← c.self.view_is) at c.requires.draft).after

pub look_beside-requires-clause-none : goal.look_beside-requires-clause-none
look_beside-requires-clause-none c = sym c.in-None.ensures.held

pub returns-in-None : goal.returns-in-None
returns-in-None c = rw (← c.self.view_is) (rw c.as_slice-changed.ensures.value at c.look_beside.ensures)
