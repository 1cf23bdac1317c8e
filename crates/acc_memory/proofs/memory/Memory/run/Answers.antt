use Rattle.std.proofs.Common.{map, set, refl, ◌∙◌}
use Rattle.acc_batch.specs.declared.label.OpLabel.TheVariants.{Run}
use Rattle.acc_memory.specs.Memories.{PerformsOn}
use Rattle.acc_memory.specs.inner.Devices.{memory_of}
use Rattle.acc_memory.proofs.MemoryCalls.{device_at, device_performs}
use Rattle.acc_memory.proofs.BlocksFit.{fits_after}
use Rattle.acc_memory.proofs.memory.Memory.run.Goals as goal

pub run-requires-clause-held : goal.run-requires-clause-held
run-requires-clause-held c = rw (device_at c.self.inside.devices.items c.args.device c.from.result c.index_mut.result.now (rw (← c.self.view_is) at c.requires.device) (c.from.ensures ∙ c.number.ensures) c.index_mut.ensures.value)
    at (rw (← c.self.view_is) at c.requires.allowed)

performed : (c : goal.After-self-1) → PerformsOn c.args.device (Run c.args.kernel.now c.args.uses.now) (memory_of (map (λ v. v.items) c.self.inside.arrays.items) c.self.inside.devices.items)
    (memory_of (map (λ v. v.items) c.self.inside.arrays.items) (set c.self.inside.devices.items c.from.result (record c.index_mut.result.now { blocks = c.run.new.self })))
performed c =
    device_performs c.args.device (Run c.args.kernel.now c.args.uses.now) (map (λ v. v.items) c.self.inside.arrays.items) c.self.inside.devices.items c.from.result c.index_mut.result.now (record c.index_mut.result.now { blocks = c.run.new.self })
    (rw (← c.self.view_is) at c.requires.device) (c.from.ensures ∙ c.number.ensures) c.index_mut.ensures.value (λ was a k. refl) c.run.ensures.blocks (λ b. refl)
    (λ was shows. c.run.ensures.shows c.args.device was)

pub invariant_of-self : goal.invariant_of-self
invariant_of-self c = fits_after c.args.device (Run c.args.kernel.now c.args.uses.now) _ _ c.self.invariant tt (performed c)

pub returns : goal.returns
returns c = rw (← c.self.view_is) (performed c)
