use Rattle.std.proofs.Common.{List, get_or, sym, subst}
use Rattle.acc_kernel.specs.Jobs.{Use}
use Rattle.acc_present.specs.Notes.{HasNotes, changed_at, used_by}
use Rattle.acc_place.specs.inner.Noting.{changed_all}
use Rattle.acc_place.proofs.AwaitedNumbers.{first_and_rest}
use Rattle.acc_place.proofs.device.Device.+note_uses.Goals as goal

pub returns-in-len1-up-clause-notes : goal.returns-in-len1-up-clause-notes
returns-in-len1-up-clause-notes t c = λ notes h.
    let us = c.args.uses.now in
    let none : Use = c.index-uses-0.result in
    let first = get_or us 0 none in
    let change = used_by c.args.queue c.args.number in
    let all = c.note_uses.ensures.notes (changed_at first.1 change notes) (c.note_use.ensures.notes notes h) in
    subst (λ (xs : List Use). HasNotes (changed_all change xs notes) c.note_uses.new.self.table.notes) (sym (first_and_rest us none c.in-len1-up.len_at_least)) all
