use Rattle.std.proofs.Common.{List, [], ◌∷◌, length, get_or, ap, ◌∙◌}
use Rattle.std.specs.Prelude.{ℤ, pos}
use Rattle.std.proofs.lemmas.Int.{to_z-of_z}
use mir.Syntax.{w64}
use Rattle.acc_kernel.proofs.SplicedRow.{first_there, room_for, read_run}
use Rattle.test_kernel.specs.Lines.{whole_use}
use Rattle.test_kernel.proofs.Lines.{spot}
use Rattle.test_kernel.proofs.window.LineWindow.read.Goals as goal

pub distance-requires : goal.distance-requires
distance-requires c =
    let row = c.args.self.now.cells in
    rw (to_z-of_z w64 c.args.first c.ranges.first)
    (spot row c.args._array c.args.first (first_there (whole_use row) c.args._array c.args.first (length c.args.into.now) c.requires.some c.requires.has)).low

pub copy_to-requires : goal.copy_to-requires
copy_to-requires c =
    let row = c.args.self.now.cells in
    let far = rw (to_z-of_z w64 c.args.first c.ranges.first) at c.distance.ensures in
    let s = spot row c.args._array c.args.first (first_there (whole_use row) c.args._array c.args.first (length c.args.into.now) c.requires.some c.requires.has) in
    room_for (whole_use row) (row ∷ []) c.args._array c.args.first (length c.args.into.now) 0 c.distance.result s far c.requires.some c.requires.has

pub returns : goal.returns
returns c =
    let row = c.args.self.now.cells in
    let far = rw (to_z-of_z w64 c.args.first c.ranges.first) at c.distance.ensures in
    let s = spot row c.args._array c.args.first (first_there (whole_use row) c.args._array c.args.first (length c.args.into.now) c.requires.some c.requires.has) in
    let room = room_for (whole_use row) (row ∷ []) c.args._array c.args.first (length c.args.into.now) 0 c.distance.result s far c.requires.some c.requires.has in
    λ k lt.
    ap (λ (l : List ℤ). get_or l k (pos 0)) c.copy_to.ensures
    ∙ read_run (whole_use row) (row ∷ []) c.args._array c.args.first (length c.args.into.now) 0 c.distance.result s far room k lt
