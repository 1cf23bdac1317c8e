use Rattle.std.proofs.Common.{◌≡◌, ◌+◌, length, map, set, refl, ap, ◌∙◌, arith}
use Rattle.std.specs.Vec.{with_items}
use Rattle.std.proofs.lemmas.List.{length-map, with_items_is}
use Rattle.acc_batch.specs.declared.label.OpLabel.TheVariants.{CopyOut}
use Rattle.acc_memory.specs.Memories.{PerformsOn}
use Rattle.acc_memory.proofs.HostArrays.{array_low, array_at, array_after, unchanged}
use Rattle.acc_memory.specs.inner.Devices.{memory_of, view_of}
use Rattle.acc_memory.proofs.MemoryCalls.{device_at, shows_rows, shows_array, hosts_copy_out, rows_copy_out, performs_on}
use Rattle.acc_memory.proofs.BlocksFit.{range_fits, fits_after}
use Rattle.acc_memory.proofs.memory.Memory.copy_out.Goals as goal

pub index_mut-requires : goal.index_mut-requires
index_mut-requires c =
    let arrays = c.self.inside.arrays.items in
    let r = c.args.range in
    let has = range_fits (memory_of (map (λ v. v.items) arrays) c.self.inside.devices.items) c.args.device c.args.block r c.self.invariant
    (rw (← c.self.view_is) at c.requires.allowed) (omega (arith, c.if-range-gt0.true)) in
    let low = array_low (map (λ v. v.items) arrays) r.array (r.lo + r.len) has in
    omega (arith, low, c.from-then-range-gt0.ensures, length-map arrays (λ v. v.items))

pub copy_out-requires-clause-held : goal.copy_out-requires-clause-held
copy_out-requires-clause-held c =
    let at = device_at c.self.inside.devices.items c.args.device c.from.result c.index.result.now (rw (← c.self.view_is) at c.requires.device)
    (c.from.ensures ∙ c.number.ensures) c.index.ensures in
    rw at at (rw (← c.self.view_is) at c.requires.allowed)

pub copy_out-requires-clause-array : goal.copy_out-requires-clause-array
copy_out-requires-clause-array c =
    let arrays = c.self.inside.arrays.items in
    let r = c.args.range in
    let has = range_fits (memory_of (map (λ v. v.items) arrays) c.self.inside.devices.items) c.args.device c.args.block r c.self.invariant
    (rw (← c.self.view_is) at c.requires.allowed) (omega (arith, c.if-range-gt0.true)) in
    let there = array_at (λ v. v.items) arrays r.array (r.lo + r.len) c.index_mut.result.now has (rw c.from-then-range-gt0.ensures at c.index_mut.ensures.value) in
    rw c.as_mut_slice-cells.ensures.value there.1

performed : (c : goal.After-self-1) → PerformsOn c.args.device (CopyOut c.args.range c.args.block)
    (memory_of (map (λ v. v.items) c.self.inside.arrays.items) c.self.inside.devices.items)
    (memory_of (map (λ v. v.items) (set c.self.inside.arrays.items c.args.range.array (with_items c.index_mut.result.now c.copy_out.new.cells))) c.self.inside.devices.items)
performed c =
    let items = c.self.inside.arrays.items in
    let arrays = map (λ v. v.items) items in
    let ds = c.self.inside.devices.items in
    let device = c.args.device in
    let r = c.args.range in
    let x = c.index.result.now in
    let before = c.index_mut.result.now in
    let cells = c.copy_out.new.cells in
    let at = device_at ds device c.from.result x (rw (← c.self.view_is) at c.requires.device) (c.from.ensures ∙ c.number.ensures) c.index.ensures in
    let has = range_fits (memory_of arrays ds) device c.args.block r c.self.invariant (rw (← c.self.view_is) at c.requires.allowed) (omega (arith, c.if-range-gt0.true)) in
    let read = rw c.from-then-range-gt0.ensures at c.index_mut.ensures.value in
    let there = array_at (λ v. v.items) items r.array (r.lo + r.len) before has read in
    let after = array_after (λ v. v.items) items r.array (r.lo + r.len) before (with_items before cells) has read in
    let len : length cells ≡ length before.items = rw c.as_mut_slice-cells.ensures.value at c.copy_out.ensures.len in
    let kept : (with_items before cells).items ≡ cells = with_items_is before cells (omega (arith, len, before.ok.0)) in
    performs_on device (CopyOut r c.args.block) arrays (map (λ v. v.items) (set items r.array (with_items before cells))) (map view_of ds) (map view_of ds) (view_of x) (view_of x)
    (unchanged (map view_of ds) device (view_of x) at) refl (λ n. refl) (λ b. refl) (after.lengths (ap length kept ∙ len))
    (λ was shows. hosts_copy_out device c.args.block r arrays (map (λ v. v.items) (set items r.array (with_items before cells))) (map view_of ds) before.items (with_items before cells).items was after.replaced shows
    (rw kept (c.copy_out.ensures.shows device was (rw c.as_mut_slice-cells.ensures.value (shows_array arrays (map view_of ds) r.array before.items was there.0 shows)) (shows_rows arrays (map view_of ds) device (view_of x) was at shows))))
    (λ was shows. rows_copy_out device c.args.block r x.blocks was (shows_rows arrays (map view_of ds) device (view_of x) was at shows))

pub invariant_of-self : goal.invariant_of-self
invariant_of-self c = rw c.from-then-range-gt0.ensures (fits_after c.args.device (CopyOut c.args.range c.args.block) _ _ c.self.invariant tt (performed c))

pub returns-then-range-gt0 : goal.returns-then-range-gt0
returns-then-range-gt0 c = rw (← c.self.view_is, c.from-then-range-gt0.ensures) (performed c)
