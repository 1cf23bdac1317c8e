use Rattle.std.proofs.Common.{ap, sym, ◌∙◌}
use Rattle.std.specs.Option.{option_map}
use Rattle.acc_batch.specs.Lives.{Made}
use Rattle.acc_memory.specs.Memories.{rows_on}
use Rattle.acc_memory.proofs.Rows.{find_block-row, made_there}
use Rattle.acc_memory.proofs.memory.Memory.range_of.Goals as goal

pub returns-in-None : goal.returns-in-None
returns-in-None c =
    let found = rw c.in-None.is at c.block.ensures in
    ap (λ row. option_map (λ (b : Made). b.range) (made_there row)) found
    ∙ sym (ap (option_map (λ (b : Made). b.range)) (find_block-row (rows_on c.args.self.now c.args.device) c.args.block))

pub returns-in-Some : goal.returns-in-Some
returns-in-Some c =
    let found = rw c.in-Some.is at c.block.ensures in
    ap (λ row. option_map (λ (b : Made). b.range) (made_there row)) found
    ∙ sym (ap (option_map (λ (b : Made). b.range)) (find_block-row (rows_on c.args.self.now c.args.device) c.args.block))
