use Rattle.std.proofs.Common.{◌∙◌, [], ap, sym, subst, arith}
use Rattle.std.specs.Prelude.{IsTrue}
use Rattle.std.proofs.lemmas.Int.{ints, to_z-of_z}
use Rattle.std.proofs.lemmas.List.{get_or_default}
use Rattle.std.specs.Prelude.{◌^◌}
use Rattle.std.specs.Int.Signed.{mag}
use Rattle.std.proofs.Math.Facts.{sfits_lit}
use Rattle.std.proofs.lemmas.Bool.{lt-ltb}
use mir.Syntax.{w64}
use Rattle.acc_kernel.specs.Jobs.{Use, no_use, uses_have}
use Rattle.acc_kernel.specs.inner.RowTables.{RowsView}
use Rattle.acc_kernel.proofs.CellIn.{spot_of, read_one}
use Rattle.acc_kernel.proofs.rows.RowsWindow.get.Goals as goal

pub index-requires : goal.index-requires
index-requires c =
    let s = spot_of c.self.inside.uses.items c.self.inside.places.items c.self.inside.rows.items c.args.array c.args.cell c.from.result c.index-place.result.now
    c.self.invariant c.from.ensures c.ranges.array.fits c.index-place.ensures
    (subst (λ (v : RowsView). IsTrue (uses_have v.uses c.args.array c.args.cell)) (sym c.self.view_is) c.requires) in
    let there = s.there in
    omega arith

pub index-requires-2 : goal.index-requires-2
index-requires-2 c =
    let s = spot_of c.self.inside.uses.items c.self.inside.places.items c.self.inside.rows.items c.args.array c.args.cell c.from.result c.index-place.result.now
    c.self.invariant c.from.ensures c.ranges.array.fits c.index-place.ensures
    (subst (λ (v : RowsView). IsTrue (uses_have v.uses c.args.array c.args.cell)) (sym c.self.view_is) c.requires) in
    let here = s.here in
    omega arith

pub distance-requires : goal.distance-requires
distance-requires c =
    let s = spot_of c.self.inside.uses.items c.self.inside.places.items c.self.inside.rows.items c.args.array c.args.cell c.from.result c.index-place.result.now
    c.self.invariant c.from.ensures c.ranges.array.fits c.index-place.ensures
    (subst (λ (v : RowsView). IsTrue (uses_have v.uses c.args.array c.args.cell)) (sym c.self.view_is) c.requires) in
    let e = c.index-2.ensures ∙ get_or_default c.self.inside.uses.items c.index-place.result.now c.index-2.result.now no_use s.here in
    let lo = ap (λ (u : Use). u.1.lo) e in
    let low = s.low in
    rw (to_z-of_z w64 c.args.cell c.ranges.cell, lo) low

pub get-requires : goal.get-requires
get-requires c =
    let s = spot_of c.self.inside.uses.items c.self.inside.places.items c.self.inside.rows.items c.args.array c.args.cell c.from.result c.index-place.result.now
    c.self.invariant c.from.ensures c.ranges.array.fits c.index-place.ensures
    (subst (λ (v : RowsView). IsTrue (uses_have v.uses c.args.array c.args.cell)) (sym c.self.view_is) c.requires) in
    let e = c.index-2.ensures ∙ get_or_default c.self.inside.uses.items c.index-place.result.now c.index-2.result.now no_use s.here in
    let lo = ap (λ (u : Use). u.1.lo) e in
    let far = rw (to_z-of_z w64 c.args.cell c.ranges.cell, lo) at c.distance.ensures in
    let row = c.index.ensures ∙ get_or_default c.self.inside.rows.items c.index-place.result.now c.index.result.now [] s.there in
    let high = s.high in
    let long = s.long in
    rw row (omega (arith, ints))

pub returns : goal.returns
returns c =
    let s = spot_of c.self.inside.uses.items c.self.inside.places.items c.self.inside.rows.items c.args.array c.args.cell c.from.result c.index-place.result.now
    c.self.invariant c.from.ensures c.ranges.array.fits c.index-place.ensures
    (subst (λ (v : RowsView). IsTrue (uses_have v.uses c.args.array c.args.cell)) (sym c.self.view_is) c.requires) in
    let e = c.index-2.ensures ∙ get_or_default c.self.inside.uses.items c.index-place.result.now c.index-2.result.now no_use s.here in
    let lo = ap (λ (u : Use). u.1.lo) e in
    let far = rw (to_z-of_z w64 c.args.cell c.ranges.cell, lo) at c.distance.ensures in
    let row = c.index.ensures ∙ get_or_default c.self.inside.rows.items c.index-place.result.now c.index.result.now [] s.there in
    let found = rw row at c.get.ensures in
    let fits = sfits_lit {w = w64} {z = c.get.result} (rw (lt-ltb (mag c.get.result) (2 ^ 63) c.get.type_inv) tt) in
    rw (to_z-of_z w64 c.get.result fits, ← c.self.view_is) (read_one c.self.inside.uses.items c.self.inside.rows.items c.args.array c.args.cell _ c.index-place.result.now c.distance.result s far found)
