use Rattle.std.proofs.Common.{◌+◌, ◌<◌, length, map, set, refl, arith, w64}
use Rattle.std.specs.Vec.{with_item}
use Rattle.std.proofs.lemmas.Int.{to_z-of_z}
use Rattle.std.proofs.lemmas.List.{length-set}
use Rattle.acc_memory.specs.inner.Devices.{view_of}
use Rattle.acc_memory.proofs.HostArrays.{ArrayAfter, array_at, array_after}
use Rattle.acc_memory.proofs.MemoryCalls.{shows_write}
use Rattle.acc_memory.proofs.BlocksFit.{fits_kept}
use Rattle.acc_memory.proofs.memory.Memory.host_set.Goals as goal

after : (c : goal.After-self-1) → ArrayAfter (λ v. v.items) c.self.inside.arrays.items c.args.array c.index_mut-cells.result.now (with_item c.index_mut-cells.result.now c.args.cell c.args.value)
after c =
    array_after (λ v. v.items) c.self.inside.arrays.items c.args.array (c.args.cell + 1) c.index_mut-cells.result.now (with_item c.index_mut-cells.result.now c.args.cell c.args.value)
    (rw (← c.self.view_is) at c.requires.there) (rw c.from.ensures at c.index_mut-cells.ensures.value)

pub returns-clause-shows : goal.returns-clause-shows
returns-clause-shows c was shows =
    let arrays = c.self.inside.arrays.items in
    let cells = c.index_mut-cells.result.now in
    let at = array_at (λ v. v.items) arrays c.args.array (c.args.cell + 1) cells (rw (← c.self.view_is) at c.requires.there) (rw c.from.ensures at c.index_mut-cells.ensures.value) in
    let low : c.args.cell < length cells.items = omega (arith, at.1) in
    rw (to_z-of_z w64 c.args.value c.ranges.value, c.from.ensures)
    (shows_write (map (λ v. v.items) arrays) (map (λ v. v.items) (set arrays c.args.array (with_item cells c.args.cell c.args.value))) (map view_of c.self.inside.devices.items)
    c.args.array c.args.cell c.args.value cells.items was low (after c).replaced (rw (← c.self.view_is) at shows))

pub returns-clause-lengths : goal.returns-clause-lengths
returns-clause-lengths c =
    rw (← c.self.view_is, to_z-of_z w64 c.args.value c.ranges.value, c.from.ensures) ((after c).lengths (length-set c.index_mut-cells.result.now.items c.args.cell c.args.value))

pub invariant_of-self : goal.invariant_of-self
invariant_of-self c =
    rw (to_z-of_z w64 c.args.value c.ranges.value, c.from.ensures)
    (fits_kept _ _ c.self.invariant ((after c).lengths (length-set c.index_mut-cells.result.now.items c.args.cell c.args.value)) (λ d. refl))

pub index_mut-requires : goal.index_mut-requires
index_mut-requires c =
    let there = array_at (λ v. v.items) c.self.inside.arrays.items c.args.array (c.args.cell + 1) c.index_mut-cells.result.now (rw (← c.self.view_is) at c.requires.there) (rw c.from.ensures at c.index_mut-cells.ensures.value) in
    omega (arith, there.1, c.index_mut-cells.result.now.ok.0)
