use Rattle.std.proofs.Common.{◌∙◌, [], length, ap, sym, subst, arith}
use Rattle.std.proofs.lemmas.Int.{to_z-of_z}
use Rattle.std.proofs.lemmas.List.{get_or_default}
use mir.Syntax.{w64}
use Rattle.acc_kernel.specs.Jobs.{Use, no_use}
use Rattle.acc_kernel.specs.inner.RowTables.{RowsView}
use Rattle.acc_kernel.proofs.CellIn.{spot_of}
use Rattle.acc_kernel.proofs.SplicedRow.{HasAll, first_there, room_for, read_run}
use Rattle.acc_kernel.proofs.rows.RowsWindow.read.Goals as goal

pub index-requires : goal.index-requires
index-requires c =
    let all : HasAll c.self.inside.uses.items c.args.array c.args.first (length c.args.into.now) =
    subst (λ (v : RowsView). HasAll v.uses c.args.array c.args.first (length c.args.into.now)) (sym c.self.view_is) c.requires.has in
    let s = spot_of c.self.inside.uses.items c.self.inside.places.items c.self.inside.rows.items c.args.array c.args.first c.from.result c.index-place.result.now
    c.self.invariant c.from.ensures c.ranges.array.fits c.index-place.ensures
    (first_there c.self.inside.uses.items c.args.array c.args.first (length c.args.into.now) c.requires.some all) in
    let there = s.there in
    omega arith

pub index-requires-2 : goal.index-requires-2
index-requires-2 c =
    let all : HasAll c.self.inside.uses.items c.args.array c.args.first (length c.args.into.now) =
    subst (λ (v : RowsView). HasAll v.uses c.args.array c.args.first (length c.args.into.now)) (sym c.self.view_is) c.requires.has in
    let s = spot_of c.self.inside.uses.items c.self.inside.places.items c.self.inside.rows.items c.args.array c.args.first c.from.result c.index-place.result.now
    c.self.invariant c.from.ensures c.ranges.array.fits c.index-place.ensures
    (first_there c.self.inside.uses.items c.args.array c.args.first (length c.args.into.now) c.requires.some all) in
    let here = s.here in
    omega arith

pub distance-requires : goal.distance-requires
distance-requires c =
    let all : HasAll c.self.inside.uses.items c.args.array c.args.first (length c.args.into.now) =
    subst (λ (v : RowsView). HasAll v.uses c.args.array c.args.first (length c.args.into.now)) (sym c.self.view_is) c.requires.has in
    let s = spot_of c.self.inside.uses.items c.self.inside.places.items c.self.inside.rows.items c.args.array c.args.first c.from.result c.index-place.result.now
    c.self.invariant c.from.ensures c.ranges.array.fits c.index-place.ensures
    (first_there c.self.inside.uses.items c.args.array c.args.first (length c.args.into.now) c.requires.some all) in
    let e = c.index-2.ensures ∙ get_or_default c.self.inside.uses.items c.index-place.result.now c.index-2.result.now no_use s.here in
    let lo = ap (λ (u : Use). u.1.lo) e in
    let low = s.low in
    rw (to_z-of_z w64 c.args.first c.ranges.first, lo) low

pub copy_to-requires : goal.copy_to-requires
copy_to-requires c =
    let all : HasAll c.self.inside.uses.items c.args.array c.args.first (length c.args.into.now) =
    subst (λ (v : RowsView). HasAll v.uses c.args.array c.args.first (length c.args.into.now)) (sym c.self.view_is) c.requires.has in
    let s = spot_of c.self.inside.uses.items c.self.inside.places.items c.self.inside.rows.items c.args.array c.args.first c.from.result c.index-place.result.now
    c.self.invariant c.from.ensures c.ranges.array.fits c.index-place.ensures
    (first_there c.self.inside.uses.items c.args.array c.args.first (length c.args.into.now) c.requires.some all) in
    let e = c.index-2.ensures ∙ get_or_default c.self.inside.uses.items c.index-place.result.now c.index-2.result.now no_use s.here in
    let lo = ap (λ (u : Use). u.1.lo) e in
    let far = rw (to_z-of_z w64 c.args.first c.ranges.first, lo) at c.distance.ensures in
    let row = c.index.ensures ∙ get_or_default c.self.inside.rows.items c.index-place.result.now c.index.result.now [] s.there in
    let room = room_for c.self.inside.uses.items c.self.inside.rows.items c.args.array c.args.first (length c.args.into.now) c.index-place.result.now c.distance.result s far c.requires.some all in
    rw row (omega arith)

pub returns : goal.returns
returns c =
    let all : HasAll c.self.inside.uses.items c.args.array c.args.first (length c.args.into.now) =
    subst (λ (v : RowsView). HasAll v.uses c.args.array c.args.first (length c.args.into.now)) (sym c.self.view_is) c.requires.has in
    let s = spot_of c.self.inside.uses.items c.self.inside.places.items c.self.inside.rows.items c.args.array c.args.first c.from.result c.index-place.result.now
    c.self.invariant c.from.ensures c.ranges.array.fits c.index-place.ensures
    (first_there c.self.inside.uses.items c.args.array c.args.first (length c.args.into.now) c.requires.some all) in
    let e = c.index-2.ensures ∙ get_or_default c.self.inside.uses.items c.index-place.result.now c.index-2.result.now no_use s.here in
    let lo = ap (λ (u : Use). u.1.lo) e in
    let far = rw (to_z-of_z w64 c.args.first c.ranges.first, lo) at c.distance.ensures in
    let row = c.index.ensures ∙ get_or_default c.self.inside.rows.items c.index-place.result.now c.index.result.now [] s.there in
    let room = room_for c.self.inside.uses.items c.self.inside.rows.items c.args.array c.args.first (length c.args.into.now) c.index-place.result.now c.distance.result s far c.requires.some all in
    let got = rw row at c.copy_to.ensures in
    λ k lt.
    rw (got, ← c.self.view_is)
    (read_run c.self.inside.uses.items c.self.inside.rows.items c.args.array c.args.first (length c.args.into.now) c.index-place.result.now c.distance.result s far room k lt)
