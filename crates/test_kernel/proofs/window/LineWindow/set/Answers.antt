use Rattle.std.proofs.Common.{◌≡◌, ℕ, List, [], ◌∷◌, length, ap, ◌∙◌, arith}
use Rattle.std.specs.Prelude.{ℤ}
use Rattle.std.proofs.lemmas.Int.{ints, to_z-of_z}
use Rattle.std.proofs.lemmas.List.{length-set}
use mir.Syntax.{w64}
use Rattle.acc_kernel.specs.Jobs.{uses_have, cell_in}
use Rattle.acc_kernel.proofs.CellIn.{write_one}
use Rattle.test_kernel.specs.Lines.{uses_to, whole_use}
use Rattle.test_kernel.proofs.Lines.{spot}
use Rattle.test_kernel.proofs.window.LineWindow.set.Goals as goal

pub distance-requires : goal.distance-requires
distance-requires c = rw (to_z-of_z w64 c.args.cell c.ranges.cell) (spot c.args.self.now.cells c.args._array c.args.cell c.requires).low

pub set-requires : goal.set-requires
set-requires c =
    let far = rw (to_z-of_z w64 c.args.cell c.ranges.cell) at c.distance.ensures in
    let high = (spot c.args.self.now.cells c.args._array c.args.cell c.requires).high in
    omega (arith, ints)

pub returns : goal.returns
returns c =
    let row = c.args.self.now.cells in
    let far = rw (to_z-of_z w64 c.args.cell c.ranges.cell) at c.distance.ensures in
    let is = rw (to_z-of_z w64 c.args.value c.ranges.value) at c.set.ensures in
    let kept : length c.set.new.self ≡ length row = ap length is ∙ length-set row c.distance.result c.args.value in
    record {
      has = ap (λ (n : ℕ). uses_have (uses_to n)) kept;
      cells =
          ap (λ (n : ℕ). cell_in (uses_to n) (c.set.new.self ∷ [])) kept
          ∙ (ap (λ (r : List ℤ). cell_in (whole_use row) (r ∷ [])) is
          ∙ write_one (whole_use row) (row ∷ []) c.args._array c.args.cell c.args.value 0 c.distance.result (spot row c.args._array c.args.cell c.requires) far);
      keeps = kept;
    }
