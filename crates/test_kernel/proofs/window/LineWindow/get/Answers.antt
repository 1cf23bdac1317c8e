use Rattle.std.proofs.Common.{[], ◌∷◌, arith}
use Rattle.std.specs.Prelude.{◌^◌}
use Rattle.std.proofs.lemmas.Int.{ints, to_z-of_z}
use mir.Syntax.{w64}
use Rattle.std.specs.Int.Signed.{mag}
use Rattle.std.proofs.Math.Facts.{sfits_lit}
use Rattle.std.proofs.lemmas.Bool.{lt-ltb}
use Rattle.acc_kernel.proofs.CellIn.{read_one}
use Rattle.test_kernel.specs.Lines.{whole_use}
use Rattle.test_kernel.proofs.Lines.{spot}
use Rattle.test_kernel.proofs.window.LineWindow.get.Goals as goal

pub distance-requires : goal.distance-requires
distance-requires c = rw (to_z-of_z w64 c.args.cell c.ranges.cell) (spot c.args.self.now.cells c.args._array c.args.cell c.requires).low

pub get-requires : goal.get-requires
get-requires c =
    let far = rw (to_z-of_z w64 c.args.cell c.ranges.cell) at c.distance.ensures in
    let high = (spot c.args.self.now.cells c.args._array c.args.cell c.requires).high in
    omega (arith, ints)

pub returns : goal.returns
returns c =
    let row = c.args.self.now.cells in
    let far = rw (to_z-of_z w64 c.args.cell c.ranges.cell) at c.distance.ensures in
    let fits = sfits_lit {w = w64} {z = c.get.result} (rw (lt-ltb (mag c.get.result) (2 ^ 63) c.get.type_inv) tt) in
    rw (to_z-of_z w64 c.get.result fits) (read_one (whole_use row) (row ∷ []) c.args._array c.args.cell _ 0 c.distance.result (spot row c.args._array c.args.cell c.requires) far c.get.ensures)
