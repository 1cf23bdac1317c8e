use Rattle.std.proofs.Common.{arith}
use Rattle.acc_script.specs.Arrays.{texts}
use Rattle.acc_script.proofs.ArrayNames.{short_array}
use Rattle.acc_script.proofs.arrays.Arrays.size_of.Goals as goal

pub overflow_cast-result : goal.overflow_cast-result
overflow_cast-result c =
    let within = rw (← c.self.view_is) at c.requires in
    let short = short_array c.self.inside.cells.items (texts c.self.inside.names.keys) c.args.array c.index.result.now c.self.invariant within (rw c.from.ensures at c.index.ensures) in
    omega (arith, short, c.len.ensures)
