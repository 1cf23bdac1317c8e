use Rattle.std.proofs.Common.{refl, ◌∙◌, [], length, get_or, ap, sym, subst, arith}
use Rattle.std.proofs.lemmas.Int.{to_z-of_z}
use Rattle.std.proofs.lemmas.List.{get_or_default}
use mir.Syntax.{w64}
use Rattle.acc_kernel.specs.Jobs.{Use, no_use}
use Rattle.acc_kernel.specs.inner.RowTables.{RowsView}
use Rattle.acc_kernel.proofs.CellIn.{spot_of}
use Rattle.acc_kernel.proofs.SplicedRow.{HasAll, first_there, room_for, spliced, length-spliced, shape_kept, write_run}
use Rattle.acc_kernel.proofs.rows.RowsWindow.write.Goals as goal

pub index-requires : goal.index-requires
index-requires c =
    let all : HasAll c.self.inside.uses.items c.args.array c.args.first (length c.args.values.now) =
    subst (λ (v : RowsView). HasAll v.uses c.args.array c.args.first (length c.args.values.now)) (sym c.self.view_is) c.requires.has in
    let s = spot_of c.self.inside.uses.items c.self.inside.places.items c.self.inside.rows.items c.args.array c.args.first c.from.result c.index-place.result.now
    c.self.invariant c.from.ensures c.ranges.array.fits c.index-place.ensures
    (first_there c.self.inside.uses.items c.args.array c.args.first (length c.args.values.now) c.requires.some all) in
    let here = s.here in
    omega arith

pub distance-at-requires : goal.distance-at-requires
distance-at-requires c =
    let all : HasAll c.self.inside.uses.items c.args.array c.args.first (length c.args.values.now) =
    subst (λ (v : RowsView). HasAll v.uses c.args.array c.args.first (length c.args.values.now)) (sym c.self.view_is) c.requires.has in
    let s = spot_of c.self.inside.uses.items c.self.inside.places.items c.self.inside.rows.items c.args.array c.args.first c.from.result c.index-place.result.now
    c.self.invariant c.from.ensures c.ranges.array.fits c.index-place.ensures
    (first_there c.self.inside.uses.items c.args.array c.args.first (length c.args.values.now) c.requires.some all) in
    let e = c.index.ensures ∙ get_or_default c.self.inside.uses.items c.index-place.result.now c.index.result.now no_use s.here in
    let lo = ap (λ (u : Use). u.1.lo) e in
    let low = s.low in
    rw (to_z-of_z w64 c.args.first c.ranges.first, lo) low

pub index_mut-row-requires : goal.index_mut-row-requires
index_mut-row-requires c =
    let all : HasAll c.self.inside.uses.items c.args.array c.args.first (length c.args.values.now) =
    subst (λ (v : RowsView). HasAll v.uses c.args.array c.args.first (length c.args.values.now)) (sym c.self.view_is) c.requires.has in
    let s = spot_of c.self.inside.uses.items c.self.inside.places.items c.self.inside.rows.items c.args.array c.args.first c.from.result c.index-place.result.now
    c.self.invariant c.from.ensures c.ranges.array.fits c.index-place.ensures
    (first_there c.self.inside.uses.items c.args.array c.args.first (length c.args.values.now) c.requires.some all) in
    let there = s.there in
    omega arith

pub copy_from-requires : goal.copy_from-requires
copy_from-requires c =
    let all : HasAll c.self.inside.uses.items c.args.array c.args.first (length c.args.values.now) =
    subst (λ (v : RowsView). HasAll v.uses c.args.array c.args.first (length c.args.values.now)) (sym c.self.view_is) c.requires.has in
    let s = spot_of c.self.inside.uses.items c.self.inside.places.items c.self.inside.rows.items c.args.array c.args.first c.from.result c.index-place.result.now
    c.self.invariant c.from.ensures c.ranges.array.fits c.index-place.ensures
    (first_there c.self.inside.uses.items c.args.array c.args.first (length c.args.values.now) c.requires.some all) in
    let e = c.index.ensures ∙ get_or_default c.self.inside.uses.items c.index-place.result.now c.index.result.now no_use s.here in
    let lo = ap (λ (u : Use). u.1.lo) e in
    let far = rw (to_z-of_z w64 c.args.first c.ranges.first, lo) at c.distance-at.ensures in
    let row = c.index_mut-row.ensures.value ∙ get_or_default c.self.inside.rows.items c.index-place.result.now c.index_mut-row.result.now [] s.there in
    let room = room_for c.self.inside.uses.items c.self.inside.rows.items c.args.array c.args.first (length c.args.values.now) c.index-place.result.now c.distance-at.result s far c.requires.some all in
    rw row (omega arith)

pub invariant_of-self : goal.invariant_of-self
invariant_of-self c =
    let all : HasAll c.self.inside.uses.items c.args.array c.args.first (length c.args.values.now) =
    subst (λ (v : RowsView). HasAll v.uses c.args.array c.args.first (length c.args.values.now)) (sym c.self.view_is) c.requires.has in
    let s = spot_of c.self.inside.uses.items c.self.inside.places.items c.self.inside.rows.items c.args.array c.args.first c.from.result c.index-place.result.now
    c.self.invariant c.from.ensures c.ranges.array.fits c.index-place.ensures
    (first_there c.self.inside.uses.items c.args.array c.args.first (length c.args.values.now) c.requires.some all) in
    let e = c.index.ensures ∙ get_or_default c.self.inside.uses.items c.index-place.result.now c.index.result.now no_use s.here in
    let lo = ap (λ (u : Use). u.1.lo) e in
    let far = rw (to_z-of_z w64 c.args.first c.ranges.first, lo) at c.distance-at.ensures in
    let row = c.index_mut-row.ensures.value ∙ get_or_default c.self.inside.rows.items c.index-place.result.now c.index_mut-row.result.now [] s.there in
    let room = room_for c.self.inside.uses.items c.self.inside.rows.items c.args.array c.args.first (length c.args.values.now) c.index-place.result.now c.distance-at.result s far c.requires.some all in
    rw (c.copy_from.ensures, row)
    (record {
      table = c.self.invariant.table;
      distinct = c.self.invariant.distinct;
      shape =
          shape_kept c.self.inside.uses.items c.self.inside.rows.items c.args.array c.args.first (length c.args.values.now) c.index-place.result.now c.distance-at.result c.self.invariant.shape
          (spliced (get_or c.self.inside.rows.items c.index-place.result.now []) c.distance-at.result c.args.values.now) s.there
          (length-spliced (get_or c.self.inside.rows.items c.index-place.result.now []) c.args.values.now c.distance-at.result (omega arith));
    })

pub returns-clause-cells : goal.returns-clause-cells
returns-clause-cells c =
    let all : HasAll c.self.inside.uses.items c.args.array c.args.first (length c.args.values.now) =
    subst (λ (v : RowsView). HasAll v.uses c.args.array c.args.first (length c.args.values.now)) (sym c.self.view_is) c.requires.has in
    let s = spot_of c.self.inside.uses.items c.self.inside.places.items c.self.inside.rows.items c.args.array c.args.first c.from.result c.index-place.result.now
    c.self.invariant c.from.ensures c.ranges.array.fits c.index-place.ensures
    (first_there c.self.inside.uses.items c.args.array c.args.first (length c.args.values.now) c.requires.some all) in
    let e = c.index.ensures ∙ get_or_default c.self.inside.uses.items c.index-place.result.now c.index.result.now no_use s.here in
    let lo = ap (λ (u : Use). u.1.lo) e in
    let far = rw (to_z-of_z w64 c.args.first c.ranges.first, lo) at c.distance-at.ensures in
    let row = c.index_mut-row.ensures.value ∙ get_or_default c.self.inside.rows.items c.index-place.result.now c.index_mut-row.result.now [] s.there in
    let room = room_for c.self.inside.uses.items c.self.inside.rows.items c.args.array c.args.first (length c.args.values.now) c.index-place.result.now c.distance-at.result s far c.requires.some all in
    rw (c.copy_from.ensures, row, ← c.self.view_is)
    (write_run c.self.inside.uses.items c.self.inside.rows.items c.args.array c.args.first (length c.args.values.now) c.index-place.result.now c.distance-at.result s far room c.args.values.now refl)
