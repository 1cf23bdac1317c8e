use Rattle.std.proofs.Common.{◌≡◌, Some, sym, ap, ◌∙◌}
use Rattle.acc_memory.specs.Memories.{rows_in, row_with, find_row}
use Rattle.acc_memory.specs.inner.Devices.{view_of}
use Rattle.acc_memory.specs.inner.Rows.{number_of}
use Rattle.acc_memory.proofs.ByNumber.{found-number}
use Rattle.acc_memory.proofs.MemoryCalls.{device_at}
use Rattle.acc_memory.proofs.memory.Memory.block.Goals as goal

pub returns-in-Some : goal.returns-in-Some
returns-in-Some c =
    let x = c.index.result.now in
    let held = c.in-Some.held.now in
    let rows = (view_of x).rows in
    let found : Some held ≡ find_row rows c.args.id = c.in-Some.ensures in
    let name = found-number number_of rows c.args.id held (sym found) in
    let at = device_at c.self.inside.devices.items c.args.device c.from.result x (rw (← c.self.view_is) at c.requires) (c.from.ensures ∙ c.number.ensures) c.index.ensures in
    rw (← c.self.view_is) (ap (λ n. Some (row_with n held.range held.cells)) (sym name) ∙ (found ∙ ap (λ o. find_row (rows_in o) c.args.id) (sym at)))

pub returns-in-None : goal.returns-in-None
returns-in-None c =
    let x = c.index.result.now in
    let at = device_at c.self.inside.devices.items c.args.device c.from.result x (rw (← c.self.view_is) at c.requires) (c.from.ensures ∙ c.number.ensures) c.index.ensures in
    rw (← c.self.view_is) (c.in-None.ensures ∙ ap (λ o. find_row (rows_in o) c.args.id) (sym at))
