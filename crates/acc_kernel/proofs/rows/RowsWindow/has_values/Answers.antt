use Rattle.std.proofs.Common.{◌≡◌, ◌+◌, ◌∙◌, List, [], length, get_or, ap, sym, subst, arith}
use Rattle.std.specs.Prelude.{ℤ, pos}
use Rattle.std.specs.List.{slice_range}
use Rattle.std.proofs.lemmas.Int.{to_z-of_z}
use Rattle.std.proofs.lemmas.List.{ext_get_or, get_or_default}
use mir.Syntax.{w64}
use Rattle.acc_kernel.specs.Jobs.{Use, no_use}
use Rattle.acc_kernel.specs.inner.RowTables.{RowsView}
use Rattle.acc_kernel.proofs.CellIn.{spot_of}
use Rattle.acc_kernel.proofs.SplicedRow.{HasAll, first_there, length_range, room_for, read_run}
use Rattle.acc_kernel.proofs.rows.RowsWindow.has_values.Goals as goal

pub index-requires : goal.index-requires
index-requires c =
    let all : HasAll c.self.inside.uses.items c.args.array c.args.first (length c.args.values.now) =
    subst (λ (v : RowsView). HasAll v.uses c.args.array c.args.first (length c.args.values.now)) (sym c.self.view_is) c.requires.has in
    let s = spot_of c.self.inside.uses.items c.self.inside.places.items c.self.inside.rows.items c.args.array c.args.first c.from.result c.index-place.result.now
    c.self.invariant c.from.ensures c.ranges.array.fits c.index-place.ensures
    (first_there c.self.inside.uses.items c.args.array c.args.first (length c.args.values.now) c.requires.some all) in
    let there = s.there in
    omega arith

pub index-requires-2 : goal.index-requires-2
index-requires-2 c =
    let all : HasAll c.self.inside.uses.items c.args.array c.args.first (length c.args.values.now) =
    subst (λ (v : RowsView). HasAll v.uses c.args.array c.args.first (length c.args.values.now)) (sym c.self.view_is) c.requires.has in
    let s = spot_of c.self.inside.uses.items c.self.inside.places.items c.self.inside.rows.items c.args.array c.args.first c.from.result c.index-place.result.now
    c.self.invariant c.from.ensures c.ranges.array.fits c.index-place.ensures
    (first_there c.self.inside.uses.items c.args.array c.args.first (length c.args.values.now) c.requires.some all) in
    let here = s.here in
    omega arith

pub distance-requires : goal.distance-requires
distance-requires c =
    let all : HasAll c.self.inside.uses.items c.args.array c.args.first (length c.args.values.now) =
    subst (λ (v : RowsView). HasAll v.uses c.args.array c.args.first (length c.args.values.now)) (sym c.self.view_is) c.requires.has in
    let s = spot_of c.self.inside.uses.items c.self.inside.places.items c.self.inside.rows.items c.args.array c.args.first c.from.result c.index-place.result.now
    c.self.invariant c.from.ensures c.ranges.array.fits c.index-place.ensures
    (first_there c.self.inside.uses.items c.args.array c.args.first (length c.args.values.now) c.requires.some all) in
    let e = c.index-2.ensures ∙ get_or_default c.self.inside.uses.items c.index-place.result.now c.index-2.result.now no_use s.here in
    let lo = ap (λ (u : Use). u.1.lo) e in
    let low = s.low in
    rw (to_z-of_z w64 c.args.first c.ranges.first, lo) low

pub has_values-requires : goal.has_values-requires
has_values-requires c =
    let all : HasAll c.self.inside.uses.items c.args.array c.args.first (length c.args.values.now) =
    subst (λ (v : RowsView). HasAll v.uses c.args.array c.args.first (length c.args.values.now)) (sym c.self.view_is) c.requires.has in
    let s = spot_of c.self.inside.uses.items c.self.inside.places.items c.self.inside.rows.items c.args.array c.args.first c.from.result c.index-place.result.now
    c.self.invariant c.from.ensures c.ranges.array.fits c.index-place.ensures
    (first_there c.self.inside.uses.items c.args.array c.args.first (length c.args.values.now) c.requires.some all) in
    let e = c.index-2.ensures ∙ get_or_default c.self.inside.uses.items c.index-place.result.now c.index-2.result.now no_use s.here in
    let lo = ap (λ (u : Use). u.1.lo) e in
    let far = rw (to_z-of_z w64 c.args.first c.ranges.first, lo) at c.distance.ensures in
    let row = c.index.ensures ∙ get_or_default c.self.inside.rows.items c.index-place.result.now c.index.result.now [] s.there in
    let room = room_for c.self.inside.uses.items c.self.inside.rows.items c.args.array c.args.first (length c.args.values.now) c.index-place.result.now c.distance.result s far c.requires.some all in
    rw row (omega arith)

pub returns : goal.returns
returns c =
    let all : HasAll c.self.inside.uses.items c.args.array c.args.first (length c.args.values.now) =
    subst (λ (v : RowsView). HasAll v.uses c.args.array c.args.first (length c.args.values.now)) (sym c.self.view_is) c.requires.has in
    let s = spot_of c.self.inside.uses.items c.self.inside.places.items c.self.inside.rows.items c.args.array c.args.first c.from.result c.index-place.result.now
    c.self.invariant c.from.ensures c.ranges.array.fits c.index-place.ensures
    (first_there c.self.inside.uses.items c.args.array c.args.first (length c.args.values.now) c.requires.some all) in
    let e = c.index-2.ensures ∙ get_or_default c.self.inside.uses.items c.index-place.result.now c.index-2.result.now no_use s.here in
    let lo = ap (λ (u : Use). u.1.lo) e in
    let far = rw (to_z-of_z w64 c.args.first c.ranges.first, lo) at c.distance.ensures in
    let row = c.index.ensures ∙ get_or_default c.self.inside.rows.items c.index-place.result.now c.index.result.now [] s.there in
    let room = room_for c.self.inside.uses.items c.self.inside.rows.items c.args.array c.args.first (length c.args.values.now) c.index-place.result.now c.distance.result s far c.requires.some all in
    let found = rw row at c.has_values.ensures in
    let long : length (slice_range (get_or c.self.inside.rows.items c.index-place.result.now []) c.distance.result (c.distance.result + length c.args.values.now)) ≡ length c.args.values.now =
    length_range (get_or c.self.inside.rows.items c.index-place.result.now []) c.distance.result (length c.args.values.now) room in
    let run = read_run c.self.inside.uses.items c.self.inside.rows.items c.args.array c.args.first (length c.args.values.now) c.index-place.result.now c.distance.result s far room in (
      λ yes k lt. rw (← c.self.view_is) (ap (λ (l : List ℤ). get_or l k (pos 0)) (sym (found.0 yes)) ∙ run k lt),
      λ all. found.1
          (ext_get_or (pos 0) (slice_range (get_or c.self.inside.rows.items c.index-place.result.now []) c.distance.result (c.distance.result + length c.args.values.now)) c.args.values.now long
          (λ k lt. run k (omega (arith, lt, long)) ∙ sym ((rw (← c.self.view_is) at all) k (omega (arith, lt, long))))),
    )
