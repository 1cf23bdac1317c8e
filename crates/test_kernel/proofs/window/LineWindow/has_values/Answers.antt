use Rattle.std.proofs.Common.{◌≡◌, List, [], ◌∷◌, ◌+◌, length, get_or, sym, ap, ◌∙◌, arith}
use Rattle.std.specs.Prelude.{ℤ, pos}
use Rattle.std.specs.List.{slice_range}
use Rattle.std.proofs.lemmas.Int.{to_z-of_z}
use Rattle.std.proofs.lemmas.List.{ext_get_or}
use mir.Syntax.{w64}
use Rattle.acc_kernel.proofs.SplicedRow.{first_there, length_range, room_for, read_run}
use Rattle.test_kernel.specs.Lines.{whole_use}
use Rattle.test_kernel.proofs.Lines.{spot}
use Rattle.test_kernel.proofs.window.LineWindow.has_values.Goals as goal

pub distance-requires : goal.distance-requires
distance-requires c =
    let row = c.args.self.now.cells in
    rw (to_z-of_z w64 c.args.first c.ranges.first)
    (spot row c.args._array c.args.first (first_there (whole_use row) c.args._array c.args.first (length c.args.values.now) c.requires.some c.requires.has)).low

pub has_values-requires : goal.has_values-requires
has_values-requires c =
    let row = c.args.self.now.cells in
    let far = rw (to_z-of_z w64 c.args.first c.ranges.first) at c.distance.ensures in
    let s = spot row c.args._array c.args.first (first_there (whole_use row) c.args._array c.args.first (length c.args.values.now) c.requires.some c.requires.has) in
    room_for (whole_use row) (row ∷ []) c.args._array c.args.first (length c.args.values.now) 0 c.distance.result s far c.requires.some c.requires.has

pub returns : goal.returns
returns c =
    let row = c.args.self.now.cells in
    let far = rw (to_z-of_z w64 c.args.first c.ranges.first) at c.distance.ensures in
    let s = spot row c.args._array c.args.first (first_there (whole_use row) c.args._array c.args.first (length c.args.values.now) c.requires.some c.requires.has) in
    let room = room_for (whole_use row) (row ∷ []) c.args._array c.args.first (length c.args.values.now) 0 c.distance.result s far c.requires.some c.requires.has in
    let values = c.args.values.now in
    let n = c.distance.result in
    let run = read_run (whole_use row) (row ∷ []) c.args._array c.args.first (length c.args.values.now) 0 c.distance.result s far room in
    let long : length (slice_range row n (n + length values)) ≡ length values = length_range row n (length values) room in (
      λ yes k lt. ap (λ (l : List ℤ). get_or l k (pos 0)) (sym (c.has_values.ensures.0 yes)) ∙ run k lt,
      λ all. c.has_values.ensures.1
          (ext_get_or (pos 0) (slice_range row n (n + length values)) values long
          (λ k lt. run k (omega (arith, lt, long)) ∙ sym (all k (omega (arith, lt, long))))),
    )
