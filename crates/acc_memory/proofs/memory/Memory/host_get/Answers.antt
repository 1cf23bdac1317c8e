use Rattle.std.proofs.Common.{◌+◌, sym, ap, length, arith, rules, w64}
use Rattle.std.specs.Prelude.{FitsSigned}
use Rattle.std.proofs.lemmas.Int.{to_z-of_z}
use Rattle.acc_memory.specs.Values.{or_zero}
use Rattle.acc_memory.proofs.HostArrays.{array_at}
use Rattle.acc_memory.proofs.memory.Memory.host_get.Goals as goal

pub cell_at-requires : goal.cell_at-requires
cell_at-requires c =
    let there = array_at (λ v. v.items) c.self.inside.arrays.items c.args.array (c.args.cell + 1) c.index.result.now (rw (← c.self.view_is) at c.requires.there) (rw c.from.ensures at c.index.ensures) in
    omega (arith, there.1, ap length c.as_slice-cells.ensures.value)

pub returns : goal.returns
returns c =
    let there = array_at (λ v. v.items) c.self.inside.arrays.items c.args.array (c.args.cell + 1) c.index.result.now (rw (← c.self.view_is) at c.requires.there) (rw c.from.ensures at c.index.ensures) in
    let fits : FitsSigned w64 c.cell_at.result = search rules in
    rw (← c.self.view_is, to_z-of_z w64 c.cell_at.result fits, there.0) (ap or_zero (sym (rw c.as_slice-cells.ensures.value at c.cell_at.ensures)))
