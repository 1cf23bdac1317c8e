use Rattle.std.proofs.Common.{List, refl, subst, ◌∙◌}
use Rattle.acc_kernel.specs.Jobs.{Use}
use Rattle.acc_present.specs.Notes.{HasNotes, used_by}
use Rattle.acc_place.specs.inner.Noting.{changed_all}
use Rattle.acc_batch.specs.declared.label.OpLabel.TheVariants.{Make, CopyIn, CopyOut}
use Rattle.acc_place.proofs.DeviceNotes.{cells_noted}
use Rattle.acc_place.proofs.device.Device.note.Goals as goal

pub note_make-requires-clause-cells : goal.note_make-requires-clause-cells
note_make-requires-clause-cells c = cells_noted c.args.op.now (Make c.in-Make.range c.in-Make.block) c.in-Make.block c.in-Make.range c.in-Make.is refl c.requires.cells

pub note_use-requires-clause-cells : goal.note_use-requires-clause-cells
note_use-requires-clause-cells c = cells_noted c.args.op.now (CopyIn c.in-CopyIn.range c.in-CopyIn.block) c.in-CopyIn.block c.in-CopyIn.range c.in-CopyIn.is refl c.requires.cells

pub note_use-requires-in-CopyOut-clause-cells : goal.note_use-requires-in-CopyOut-clause-cells
note_use-requires-in-CopyOut-clause-cells c = cells_noted c.args.op.now (CopyOut c.in-CopyOut.range c.in-CopyOut.block) c.in-CopyOut.block c.in-CopyOut.range c.in-CopyOut.is refl c.requires.cells

pub returns-in-Run-clause-notes : goal.returns-in-Run-clause-notes
returns-in-Run-clause-notes c = λ notes h.
    let noted = subst (λ (us : List Use). HasNotes (changed_all (used_by c.args.queue c.args.number) us notes) c.note_uses.new.self.table.notes) (c.as_slice.ensures ∙ c.get.ensures) (c.note_uses.ensures.notes notes h) in
    rw c.in-Run.is noted
