use Rattle.std.proofs.Common.{List, subst, ◌∙◌}
use Rattle.acc_batch.specs.declared.label.OpLabel.{OpLabel}
use Rattle.acc_present.specs.Notes.{HasNotes}
use Rattle.acc_place.specs.inner.Noting.{noted_by}
use Rattle.acc_place.proofs.device.note_label.Goals as goal

pub returns-in-Some-clause-notes : goal.returns-in-Some-clause-notes
returns-in-Some-clause-notes c = λ notes h.
    let l = c.in-Some.label in
    let noted = subst (λ (ops : List OpLabel). HasNotes (noted_by l.at.queue l.number ops notes) c.note_all.new.self.table.notes) (c.as_slice.ensures ∙ c.get.ensures) (c.note_all.ensures.notes notes h) in
    rw c.in-Some.is noted
