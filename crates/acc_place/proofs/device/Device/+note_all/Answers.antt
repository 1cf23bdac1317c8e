use Rattle.std.proofs.Common.{◌∷◌, ◌-◌, length, take, drop, get_or, rules, sym, ap, ◌∙◌}
use Rattle.acc_batch.specs.declared.label.OpLabel.{OpLabel}
use Rattle.acc_place.proofs.DeviceNotes.{cells_first, cells_rest}
use Rattle.acc_place.proofs.AwaitedNumbers.{first_and_rest}
use Rattle.acc_place.proofs.device.Device.+note_all.Goals as goal

pub note-requires-clause-cells : goal.note-requires-clause-cells
note-requires-clause-cells t c =
    let ops = c.args.ops.now in
    let first : OpLabel = c.first-item.result in
    let rest = take (length ops - 1) (drop 1 ops) in
    cells_first ops first rest (first_and_rest ops first c.in-len1-up.len_at_least ∙ ap (λ x. x ∷ rest) (sym c.first-item.is)) c.requires.cells

pub note_all-requires : goal.note_all-requires
note_all-requires t c =
    let ops = c.args.ops.now in
    let first : OpLabel = c.first-item.result in
    let rest = take (length ops - 1) (drop 1 ops) in
    (search rules, (c.requires.queue, cells_rest ops (get_or ops 0 first) rest (first_and_rest ops first c.in-len1-up.len_at_least) c.requires.cells))
