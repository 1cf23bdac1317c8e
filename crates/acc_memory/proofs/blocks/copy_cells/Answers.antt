use Rattle.std.proofs.Common.{◌+◌, ◌-◌, drop, length-drop, arith}
use Rattle.std.proofs.lemmas.List.{length-take-le}
use Rattle.acc_memory.proofs.CopyCells.{is_copy}
use Rattle.acc_memory.proofs.blocks.copy_cells.Goals as goal

pub returns : goal.returns
returns c =
    let target = c.args.target.now in
    let at = c.args.at in
    let count = c.args.count in
    let part = length-take-le (at + count - at) (drop at target) (omega (arith, c.requires.target, length-drop at target)) in
    is_copy c.args.source.now target c.copy_to.new.target c.args.from at count _ _ c.requires.source c.requires.target (omega (arith, part)) (omega arith) c.copy_to.ensures
