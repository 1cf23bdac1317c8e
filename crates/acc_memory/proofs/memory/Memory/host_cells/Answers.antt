use Rattle.std.proofs.Common.{◌≡◌, ◌+◌, ◌-◌, length, map, take, drop, ap, ◌∙◌, arith}
use Rattle.acc_memory.specs.inner.Devices.{memory_of}
use Rattle.acc_memory.proofs.HostArrays.{array_at}
use Rattle.acc_memory.proofs.MemoryCalls.{range_values}
use Rattle.acc_memory.proofs.memory.Memory.host_cells.Goals as goal

pub returns : goal.returns
returns c =
    let arrays = c.self.inside.arrays.items in
    let r = c.args.range in
    let cells = c.index.result.now.items in
    let there = array_at (λ v. v.items) arrays r.array (r.lo + r.len) c.index.result.now (rw (← c.self.view_is) at c.requires.there) (rw c.from.ensures at c.index.ensures) in
    let count : r.lo + r.len - r.lo ≡ r.len = omega arith in
    rw (← c.self.view_is, c.as_slice-cells.ensures.value)
    (ap (λ n. take n (drop r.lo cells)) count ∙ range_values (memory_of (map (λ v. v.items) arrays) c.self.inside.devices.items) r cells there.0 there.1)

pub slice_bounds-result-end : goal.slice_bounds-result-end
slice_bounds-result-end c =
    let r = c.args.range in
    let there = array_at (λ v. v.items) c.self.inside.arrays.items r.array (r.lo + r.len) c.index.result.now (rw (← c.self.view_is) at c.requires.there) (rw c.from.ensures at c.index.ensures) in
    omega (arith, there.1, ap length c.as_slice-cells.ensures.value)
