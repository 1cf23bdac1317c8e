use Rattle.std.proofs.Common.{◌<◌, length, ◌∙◌, sym, ap, subst, arith}
use Rattle.std.proofs.lemmas.List.{get_or_default}
use Rattle.acc_kernel.specs.Jobs.{Use, no_use, values_shown}
use Rattle.acc_kernel.specs.inner.RowTables.{HasRange, RowsView}
use Rattle.acc_kernel.proofs.ShownRows.{range_there, rows_shown, loaded_next}
use Rattle.acc_kernel.proofs.rows.Rows.load.Goals as goal

pub read_row-requires-clause-has : goal.read_row-requires-clause-has
read_row-requires-clause-has g c =
    let uses = c.loop-place.self-inside.uses.items in
    let i = c.loop-place.invariant in
    let has = g.W.Window.has c.args.window.now in
    let low : c.loop-place.place < length uses = omega (arith, c.loop-place-test.true, c.len-place-end.ensures, c.self.invariant.shape.count, ap (λ (v : RowsView). length v.uses) c.self.view_is, ap length i.1) in
    let at = c.index.ensures ∙ get_or_default uses c.loop-place.place c.index.result.now no_use low in
    subst (λ (u : Use). HasRange u.1 has) (sym at) (range_there uses has c.loop-place.place i.0.distinct low (rw (← i.1) at c.requires.has))

pub loop-place-preserved : goal.loop-place-preserved
loop-place-preserved g c =
    let uses = c.loop-place.self-inside.uses.items in
    let i = c.loop-place.invariant in
    let cells = g.W.Window.cells c.args.window.now in
    let low : c.loop-place.place < length uses = omega (arith, c.loop-place-test.true, c.len-place-end.ensures, c.self.invariant.shape.count, ap (λ (v : RowsView). length v.uses) c.self.view_is, ap length i.1) in
    let at = c.index.ensures ∙ get_or_default uses c.loop-place.place c.index.result.now no_use low in
    let next =
    loaded_next uses c.loop-place.self-inside.places.items c.loop-place.self-inside.rows.items cells c.loop-place.place c.read_row.new.row i.0 low
    (c.read_row.ensures ∙ ap (λ (u : Use). values_shown cells u.1) at) (rw (← i.1) at i.2) in
    (next.0, i.1, rw (← i.1) next.1)

pub returns-clause-rows : goal.returns-clause-rows
returns-clause-rows g c =
    let i = c.loop-place.invariant in
    rows_shown c.args.self.now.uses c.loop-place.self-inside.rows.items (g.W.Window.cells c.args.window.now) (i.0.shape.count ∙ ap length i.1)
    (λ place low. i.2 place (omega (arith, low, c.loop-place-test.false, c.len-place-end.ensures, c.self.invariant.shape.count, ap (λ (v : RowsView). length v.uses) c.self.view_is)))
