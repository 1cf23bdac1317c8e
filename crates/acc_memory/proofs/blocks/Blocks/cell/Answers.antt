use Rattle.std.proofs.Common.{sym, ap, ◌∙◌}
use Rattle.acc_memory.specs.Memories.{has_cell}
use Rattle.acc_memory.proofs.Rows.{find_block-row, made_there}
use Rattle.acc_memory.proofs.blocks.Blocks.cell.Goals as goal

pub cell_in-requires : goal.cell_in-requires
cell_in-requires c = c.keeps.ensures c.args.block c.in-Some.held.now (sym c.in-Some.ensures)

pub returns-in-Some-clause-there : goal.returns-in-Some-clause-there
returns-in-Some-clause-there c =
    c.cell_in.ensures.there ∙ (ap (λ o. has_cell (made_there o) c.args.cell) c.in-Some.ensures ∙ ap (λ o. has_cell o c.args.cell) (sym (find_block-row c.args.self.now c.args.block)))

pub returns-in-None-clause-there : goal.returns-in-None-clause-there
returns-in-None-clause-there c =
    ap (λ o. has_cell (made_there o) c.args.cell) c.in-None.ensures ∙ ap (λ o. has_cell o c.args.cell) (sym (find_block-row c.args.self.now c.args.block))
