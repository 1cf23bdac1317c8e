use Rattle.std.proofs.Common.{◌≡◌, ℕ, List, [], ◌∷◌, length, refl, ap, ◌∙◌}
use Rattle.std.specs.Prelude.{ℤ}
use Rattle.std.proofs.lemmas.Int.{to_z-of_z}
use mir.Syntax.{w64}
use Rattle.acc_kernel.specs.Jobs.{uses_have, cell_in}
use Rattle.acc_kernel.proofs.SplicedRow.{first_there, length-spliced, room_for, write_run}
use Rattle.test_kernel.specs.Lines.{uses_to, whole_use}
use Rattle.test_kernel.proofs.Lines.{spot}
use Rattle.test_kernel.proofs.window.LineWindow.write.Goals as goal

pub distance-requires : goal.distance-requires
distance-requires c =
    let row = c.args.self.now.cells in
    rw (to_z-of_z w64 c.args.first c.ranges.first)
    (spot row c.args._array c.args.first (first_there (whole_use row) c.args._array c.args.first (length c.args.values.now) c.requires.some c.requires.has)).low

pub copy_from-requires : goal.copy_from-requires
copy_from-requires c =
    let row = c.args.self.now.cells in
    let far = rw (to_z-of_z w64 c.args.first c.ranges.first) at c.distance.ensures in
    let s = spot row c.args._array c.args.first (first_there (whole_use row) c.args._array c.args.first (length c.args.values.now) c.requires.some c.requires.has) in
    room_for (whole_use row) (row ∷ []) c.args._array c.args.first (length c.args.values.now) 0 c.distance.result s far c.requires.some c.requires.has

pub returns : goal.returns
returns c =
    let row = c.args.self.now.cells in
    let far = rw (to_z-of_z w64 c.args.first c.ranges.first) at c.distance.ensures in
    let s = spot row c.args._array c.args.first (first_there (whole_use row) c.args._array c.args.first (length c.args.values.now) c.requires.some c.requires.has) in
    let room = room_for (whole_use row) (row ∷ []) c.args._array c.args.first (length c.args.values.now) 0 c.distance.result s far c.requires.some c.requires.has in
    let kept : length c.copy_from.new.self ≡ length row = ap length c.copy_from.ensures ∙ length-spliced row c.args.values.now c.distance.result room in
    record {
      has = ap (λ (n : ℕ). uses_have (uses_to n)) kept;
      cells =
          ap (λ (n : ℕ). cell_in (uses_to n) (c.copy_from.new.self ∷ [])) kept
          ∙ (ap (λ (r : List ℤ). cell_in (whole_use row) (r ∷ [])) c.copy_from.ensures
          ∙ write_run (whole_use row) (row ∷ []) c.args._array c.args.first (length c.args.values.now) 0 c.distance.result s far room c.args.values.now refl);
      keeps = kept;
    }
