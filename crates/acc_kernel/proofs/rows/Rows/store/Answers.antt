use Rattle.std.proofs.Common.{◌<◌, length, ◌∙◌, sym, subst, arith}
use Rattle.std.proofs.lemmas.List.{get_or_default}
use Rattle.acc_kernel.specs.Jobs.{Use, no_use, HasUses}
use Rattle.acc_kernel.specs.inner.RowTables.{HasRange}
use Rattle.acc_kernel.proofs.LoopTurns.{HasOf}
use Rattle.acc_kernel.proofs.ShownRows.{range_there}
use Rattle.acc_kernel.proofs.rows.Rows.store.Goals as goal

pub write_row-requires-clause-has : goal.write_row-requires-clause-has
write_row-requires-clause-has g c =
    let uses = c.self.inside.uses.items in
    let low : c.loop-place.place < length uses = omega (arith, c.loop-place-test.true, c.len-place-end.ensures, c.self.invariant.shape.count) in
    let at = c.index.ensures ∙ get_or_default uses c.loop-place.place c.index.result.now no_use low in
    let there : HasUses uses (g.W.Window.has c.loop-place.window) = subst (λ (has : HasOf). HasUses uses has) (sym c.loop-place.invariant.0) (rw (← c.self.view_is) at c.requires.has) in
    subst (λ (u : Use). HasRange u.1 (g.W.Window.has c.loop-place.window)) (sym at)
    (range_there uses (g.W.Window.has c.loop-place.window) c.loop-place.place c.self.invariant.distinct low there)
