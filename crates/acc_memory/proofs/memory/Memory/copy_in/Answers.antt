use Rattle.std.proofs.Common.{◌+◌, map, set, refl, ◌∙◌, arith}
use Rattle.std.proofs.lemmas.List.{length-map}
use Rattle.acc_batch.specs.declared.label.OpLabel.TheVariants.{CopyIn}
use Rattle.acc_memory.specs.Memories.{PerformsOn}
use Rattle.acc_memory.proofs.HostArrays.{array_low, array_at}
use Rattle.acc_memory.specs.inner.Devices.{memory_of, view_of}
use Rattle.acc_memory.proofs.MemoryCalls.{device_at, device_performs, shows_array}
use Rattle.acc_memory.proofs.BlocksFit.{range_fits, fits_after}
use Rattle.acc_memory.proofs.memory.Memory.copy_in.Goals as goal

pub index-requires : goal.index-requires
index-requires c =
    let arrays = c.self.inside.arrays.items in
    let r = c.args.range in
    let has = range_fits (memory_of (map (λ v. v.items) arrays) c.self.inside.devices.items) c.args.device c.args.block r c.self.invariant (rw (← c.self.view_is) at c.requires.allowed) (omega (arith, c.if-range-gt0.true)) in
    let low = array_low (map (λ v. v.items) arrays) r.array (r.lo + r.len) has in
    omega (arith, low, c.from.ensures, length-map arrays (λ v. v.items))

pub copy_in-requires-clause-held : goal.copy_in-requires-clause-held
copy_in-requires-clause-held c = rw (device_at c.self.inside.devices.items c.args.device c.from-then-range-gt0.result c.index_mut.result.now (rw (← c.self.view_is) at c.requires.device) (c.from-then-range-gt0.ensures ∙ c.number.ensures) c.index_mut.ensures.value)
    at (rw (← c.self.view_is) at c.requires.allowed)

pub copy_in-requires-clause-array : goal.copy_in-requires-clause-array
copy_in-requires-clause-array c =
    let arrays = c.self.inside.arrays.items in
    let r = c.args.range in
    let has = range_fits (memory_of (map (λ v. v.items) arrays) c.self.inside.devices.items) c.args.device c.args.block r c.self.invariant
    (rw (← c.self.view_is) at c.requires.allowed) (omega (arith, c.if-range-gt0.true)) in
    let there = array_at (λ v. v.items) arrays r.array (r.lo + r.len) c.index.result.now has (rw c.from.ensures at c.index.ensures) in
    rw c.as_slice-cells.ensures.value there.1

performed : (c : goal.After-self-1) → PerformsOn c.args.device (CopyIn c.args.range c.args.block) (memory_of (map (λ v. v.items) c.self.inside.arrays.items) c.self.inside.devices.items)
    (memory_of (map (λ v. v.items) c.self.inside.arrays.items) (set c.self.inside.devices.items c.from-then-range-gt0.result (record c.index_mut.result.now { blocks = c.copy_in.new.self })))
performed c =
    let items = c.self.inside.arrays.items in
    let arrays = map (λ v. v.items) items in
    let ds = c.self.inside.devices.items in
    let r = c.args.range in
    let has = range_fits (memory_of arrays ds) c.args.device c.args.block r c.self.invariant (rw (← c.self.view_is) at c.requires.allowed) (omega (arith, c.if-range-gt0.true)) in
    let there = array_at (λ v. v.items) items r.array (r.lo + r.len) c.index.result.now has (rw c.from.ensures at c.index.ensures) in
    device_performs c.args.device (CopyIn r c.args.block) arrays ds c.from-then-range-gt0.result c.index_mut.result.now (record c.index_mut.result.now { blocks = c.copy_in.new.self })
    (rw (← c.self.view_is) at c.requires.device) (c.from-then-range-gt0.ensures ∙ c.number.ensures) c.index_mut.ensures.value (λ was a k. refl) c.copy_in.ensures.blocks (λ b. refl)
    (λ was shows. c.copy_in.ensures.shows c.args.device was (rw c.as_slice-cells.ensures.value (shows_array arrays (map view_of ds) r.array c.index.result.now.items was there.0 shows)))

pub invariant_of-self : goal.invariant_of-self
invariant_of-self c = fits_after c.args.device (CopyIn c.args.range c.args.block) _ _ c.self.invariant tt (performed c)

pub returns-then-range-gt0 : goal.returns-then-range-gt0
returns-then-range-gt0 c = rw (← c.self.view_is) (performed c)
