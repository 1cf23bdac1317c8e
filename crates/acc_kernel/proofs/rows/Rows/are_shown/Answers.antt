use Rattle.std.proofs.Common.{◌<◌, length, refl, ◌∙◌, sym, subst, arith}
use Rattle.std.proofs.lemmas.List.{get_or_default}
use Rattle.acc_kernel.specs.Jobs.{Use, no_use}
use Rattle.acc_kernel.specs.inner.RowTables.{HasRange}
use Rattle.acc_kernel.proofs.ShownRows.{range_there, rows_shown}
use Rattle.acc_kernel.proofs.rows.Rows.are_shown.Goals as goal

pub is_shown-requires-clause-has : goal.is_shown-requires-clause-has
is_shown-requires-clause-has g c =
    let uses = c.self.inside.uses.items in
    let low : c.loop-place.place < length uses = omega (arith, c.loop-place-test.true, c.len-place-end.ensures, c.self.invariant.shape.count) in
    let at = c.index.ensures ∙ get_or_default uses c.loop-place.place c.index.result.now no_use low in
    subst (λ (u : Use). HasRange u.1 (g.W.Window.has c.args.window.now)) (sym at)
    (range_there uses (g.W.Window.has c.args.window.now) c.loop-place.place c.self.invariant.distinct low (rw (← c.self.view_is) at c.requires.has))

pub returns : goal.returns
returns g c = (
  λ yes. rows_shown c.args.self.now.uses c.args.self.now.rows (g.W.Window.cells c.args.window.now) (rw (← c.self.view_is) c.self.invariant.shape.count)
      (rw (← c.self.view_is) (λ place low. (rw (← c.self.view_is) at c.loop-place.invariant) place (omega (arith, low, c.loop-place-test.false, c.len-place-end.ensures, c.self.invariant.shape.count)))),
  λ same. refl,
)
