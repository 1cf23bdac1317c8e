use Rattle.std.proofs.Common.{◌∙◌, [], ap, sym, subst, arith}
use Rattle.std.specs.Prelude.{IsTrue}
use Rattle.std.proofs.lemmas.Int.{ints, to_z-of_z}
use Rattle.std.proofs.lemmas.List.{get_or_default}
use mir.Syntax.{w64}
use Rattle.acc_kernel.specs.Jobs.{Use, no_use, uses_have}
use Rattle.acc_kernel.specs.inner.RowTables.{RowsView}
use Rattle.acc_kernel.proofs.CellIn.{spot_of, write_one}
use Rattle.acc_kernel.proofs.rows.RowsWindow.set.Goals as goal

pub index-requires : goal.index-requires
index-requires c =
    let s = spot_of c.self.inside.uses.items c.self.inside.places.items c.self.inside.rows.items c.args.array c.args.cell c.from.result c.index-place.result.now
    c.self.invariant c.from.ensures c.ranges.array.fits c.index-place.ensures
    (subst (λ (v : RowsView). IsTrue (uses_have v.uses c.args.array c.args.cell)) (sym c.self.view_is) c.requires) in
    let here = s.here in
    omega arith

pub distance-at-requires : goal.distance-at-requires
distance-at-requires c =
    let s = spot_of c.self.inside.uses.items c.self.inside.places.items c.self.inside.rows.items c.args.array c.args.cell c.from.result c.index-place.result.now
    c.self.invariant c.from.ensures c.ranges.array.fits c.index-place.ensures
    (subst (λ (v : RowsView). IsTrue (uses_have v.uses c.args.array c.args.cell)) (sym c.self.view_is) c.requires) in
    let e = c.index.ensures ∙ get_or_default c.self.inside.uses.items c.index-place.result.now c.index.result.now no_use s.here in
    let lo = ap (λ (u : Use). u.1.lo) e in
    let low = s.low in
    rw (to_z-of_z w64 c.args.cell c.ranges.cell, lo) low

pub index_mut-row-requires : goal.index_mut-row-requires
index_mut-row-requires c =
    let s = spot_of c.self.inside.uses.items c.self.inside.places.items c.self.inside.rows.items c.args.array c.args.cell c.from.result c.index-place.result.now
    c.self.invariant c.from.ensures c.ranges.array.fits c.index-place.ensures
    (subst (λ (v : RowsView). IsTrue (uses_have v.uses c.args.array c.args.cell)) (sym c.self.view_is) c.requires) in
    let there = s.there in
    omega arith

pub set-requires : goal.set-requires
set-requires c =
    let s = spot_of c.self.inside.uses.items c.self.inside.places.items c.self.inside.rows.items c.args.array c.args.cell c.from.result c.index-place.result.now
    c.self.invariant c.from.ensures c.ranges.array.fits c.index-place.ensures
    (subst (λ (v : RowsView). IsTrue (uses_have v.uses c.args.array c.args.cell)) (sym c.self.view_is) c.requires) in
    let e = c.index.ensures ∙ get_or_default c.self.inside.uses.items c.index-place.result.now c.index.result.now no_use s.here in
    let lo = ap (λ (u : Use). u.1.lo) e in
    let far = rw (to_z-of_z w64 c.args.cell c.ranges.cell, lo) at c.distance-at.ensures in
    let row = c.index_mut-row.ensures.value ∙ get_or_default c.self.inside.rows.items c.index-place.result.now c.index_mut-row.result.now [] s.there in
    let high = s.high in
    let long = s.long in
    rw row (omega (arith, ints))

pub returns-clause-cells : goal.returns-clause-cells
returns-clause-cells c =
    let s = spot_of c.self.inside.uses.items c.self.inside.places.items c.self.inside.rows.items c.args.array c.args.cell c.from.result c.index-place.result.now
    c.self.invariant c.from.ensures c.ranges.array.fits c.index-place.ensures
    (subst (λ (v : RowsView). IsTrue (uses_have v.uses c.args.array c.args.cell)) (sym c.self.view_is) c.requires) in
    let e = c.index.ensures ∙ get_or_default c.self.inside.uses.items c.index-place.result.now c.index.result.now no_use s.here in
    let lo = ap (λ (u : Use). u.1.lo) e in
    let far = rw (to_z-of_z w64 c.args.cell c.ranges.cell, lo) at c.distance-at.ensures in
    let row = c.index_mut-row.ensures.value ∙ get_or_default c.self.inside.rows.items c.index-place.result.now c.index_mut-row.result.now [] s.there in
    rw (c.set.ensures, to_z-of_z w64 c.args.value c.ranges.value, row, ← c.self.view_is)
    (write_one c.self.inside.uses.items c.self.inside.rows.items c.args.array c.args.cell c.args.value c.index-place.result.now c.distance-at.result s far)
