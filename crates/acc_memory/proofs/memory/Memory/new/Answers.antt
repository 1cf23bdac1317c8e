use Rattle.std.proofs.Common.{◌≡◌, sym, ap, ◌∙◌, map, None, Some}
use Rattle.acc_memory.specs.Memories.{find_block, made_of}
use Rattle.acc_memory.proofs.MemoryCalls.{fresh_made, fresh_rows}
use Rattle.acc_memory.proofs.memory.Memory.new.Goals as goal

pub invariant_of-result : goal.invariant_of-result
invariant_of-result c d n b found =
    let e : None ≡ Some b = ap (λ rows. find_block (map made_of rows) n) (sym (fresh_rows c.in_ok-devices.devices.items d c.in_ok-devices.ensures.fresh)) ∙ found in
    let never : ⊥ = cc in absurd never

pub returns-clause-rows : goal.returns-clause-rows
returns-clause-rows c d = fresh_rows c.in_ok-devices.devices.items d c.in_ok-devices.ensures.fresh

pub returns-clause-made : goal.returns-clause-made
returns-clause-made c d b = fresh_made c.in_ok-devices.devices.items d b c.in_ok-devices.ensures.fresh
