use Rattle.std.proofs.Common.{◌≡◌, map, sym, ap, ◌∙◌, refl, None, arith}
use Rattle.acc_present.specs.Presences.{holder}
use Rattle.acc_present.specs.Tables.{held_presence, entry_mark, has_count}
use Rattle.acc_present.specs.Drafts.{with_changed}
use Rattle.acc_present.proofs.EnterAndExit.{entry_opens, has_count-entered, stays}
use Rattle.acc_present.proofs.DraftMarks.{counts_entry, opens_entry}
use Rattle.acc_present.proofs.Holder.{is_present-some, is_present-none}
use Rattle.acc_present.proofs.draft.Draft.enter.Goals as goal

pub returns-in-Some-clause-drafted : goal.returns-in-Some-clause-drafted
returns-in-Some-clause-drafted c =
    let r = c.args.range in
    let ps = c.args.table.now.presences in
    let qs = with_changed (map held_presence c.self.inside.changed.items) ps in
    let d = rw (← c.self.view_is) at c.requires.draft in
    let m = entry_mark c.args.counter r in
    let k = counts_entry m c.index_for.new.changed.items ps qs c.in-Some.i c.index_mut.result.now c.count_up.new.held d.table d.after c.requires.cells c.in-Some.ensures.same c.in-Some.ensures.held
    (omega (arith, c.in-Some.ensures.within)) c.index_mut.ensures.value c.count_up.ensures in
    rw (← c.self.view_is) (k.same ∙ stays m c.args.block qs (is_present-some qs r (held_presence c.index_mut.result.now) k.seen))

pub returns-in-Some-clause-draft : goal.returns-in-Some-clause-draft
returns-in-Some-clause-draft c =
    let r = c.args.range in
    let ps = c.args.table.now.presences in
    let qs = with_changed (map held_presence c.self.inside.changed.items) ps in
    let x = c.index_mut.result.now in
    let d = rw (← c.self.view_is) at c.requires.draft in
    let m = entry_mark c.args.counter r in
    let k = counts_entry m c.index_for.new.changed.items ps qs c.in-Some.i x c.count_up.new.held d.table d.after c.requires.cells c.in-Some.ensures.same c.in-Some.ensures.held
    (omega (arith, c.in-Some.ensures.within)) c.index_mut.ensures.value c.count_up.ensures in
    let counted = ap has_count c.count_up.ensures ∙ has_count-entered c.args.counter (held_presence x) in
    let cells = rw counted at k.used in
    record { table = d.table; after = k.after; counted = omega (arith, cells, d.counted); within = omega (arith, cells, d.within) }

pub returns-in-Some-clause-result : goal.returns-in-Some-clause-result
returns-in-Some-clause-result c =
    let r = c.args.range in
    let ps = c.args.table.now.presences in
    let qs = with_changed (map held_presence c.self.inside.changed.items) ps in
    let x = c.index_mut.result.now in
    let d = rw (← c.self.view_is) at c.requires.draft in
    let k = counts_entry (entry_mark c.args.counter r) c.index_for.new.changed.items ps qs c.in-Some.i x c.count_up.new.held d.table d.after c.requires.cells c.in-Some.ensures.same c.in-Some.ensures.held
    (omega (arith, c.in-Some.ensures.within)) c.index_mut.ensures.value c.count_up.ensures in
    rw (← c.self.view_is) (rw (is_present-some qs r (held_presence x) k.seen) refl)

pub returns-in-None-clause-drafted : goal.returns-in-None-clause-drafted
returns-in-None-clause-drafted c =
    let r = c.args.range in
    let ps = c.args.table.now.presences in
    let qs = with_changed (map held_presence c.self.inside.changed.items) ps in
    let d = rw (← c.self.view_is) at c.requires.draft in
    let whole = rw (← c.self.view_is) at c.requires.whole in
    let none : holder qs r ≡ None = sym c.in-None.ensures.held in
    let k = opens_entry (entry_mark c.args.counter r) c.args.block c.index_for.new.changed.items ps qs c.opened.result d.table d.after c.requires.cells c.in-None.ensures.same
    (entry_opens c.args.counter) none whole c.opened.ensures in
    rw (← c.self.view_is, c.push_reserved.ensures.items) k.same

pub returns-in-None-clause-draft : goal.returns-in-None-clause-draft
returns-in-None-clause-draft c =
    let r = c.args.range in
    let ps = c.args.table.now.presences in
    let qs = with_changed (map held_presence c.self.inside.changed.items) ps in
    let d = rw (← c.self.view_is) at c.requires.draft in
    let whole = rw (← c.self.view_is) at c.requires.whole in
    let none : holder qs r ≡ None = sym c.in-None.ensures.held in
    let k = opens_entry (entry_mark c.args.counter r) c.args.block c.index_for.new.changed.items ps qs c.opened.result d.table d.after c.requires.cells c.in-None.ensures.same
    (entry_opens c.args.counter) none whole c.opened.ensures in
    let capacity = rw (← c.self.view_is) at c.requires.capacity in
    rw c.push_reserved.ensures.items
    (record { table = d.table; after = k.after; counted = omega (arith, k.used, d.counted, c.from.ensures); within = omega (arith, k.used, capacity none) })

pub returns-in-None-clause-result : goal.returns-in-None-clause-result
returns-in-None-clause-result c =
    let qs = with_changed (map held_presence c.self.inside.changed.items) c.args.table.now.presences in
    let none : holder qs c.args.range ≡ None = sym c.in-None.ensures.held in
    rw (← c.self.view_is) (rw (is_present-none qs c.args.range none) refl)
