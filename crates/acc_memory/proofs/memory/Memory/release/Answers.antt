use Rattle.std.proofs.Common.{map, set, refl, ◌∙◌}
use Rattle.acc_batch.specs.declared.label.OpLabel.TheVariants.{Release}
use Rattle.acc_memory.specs.Memories.{PerformsOn}
use Rattle.acc_memory.specs.inner.Devices.{memory_of}
use Rattle.acc_memory.proofs.MemoryCalls.{device_at, device_performs}
use Rattle.acc_memory.proofs.BlocksFit.{fits_after}
use Rattle.acc_memory.proofs.memory.Memory.release.Goals as goal

pub release-requires : goal.release-requires
release-requires c = record {
  held = rw (device_at c.self.inside.devices.items c.args.device c.from.result c.index_mut.result.now (rw (← c.self.view_is) at c.requires.device) (c.from.ensures ∙ c.number.ensures) c.index_mut.ensures.value)
      at (rw (← c.self.view_is) at c.requires.allowed);
}

performed : (c : goal.After-self-1) → PerformsOn c.args.device (Release c.args.block) (memory_of (map (λ v. v.items) c.self.inside.arrays.items) c.self.inside.devices.items)
    (memory_of (map (λ v. v.items) c.self.inside.arrays.items) (set c.self.inside.devices.items c.from.result (record c.index_mut.result.now { blocks = c.release.new.self })))
performed c =
    device_performs c.args.device (Release c.args.block) (map (λ v. v.items) c.self.inside.arrays.items) c.self.inside.devices.items c.from.result c.index_mut.result.now (record c.index_mut.result.now { blocks = c.release.new.self })
    (rw (← c.self.view_is) at c.requires.device) (c.from.ensures ∙ c.number.ensures) c.index_mut.ensures.value (λ was a k. refl) c.release.ensures.blocks (λ b. refl)
    (λ was shows. c.release.ensures.shows c.args.device was)

pub invariant_of-self : goal.invariant_of-self
invariant_of-self c = fits_after c.args.device (Release c.args.block) _ _ c.self.invariant tt (performed c)

pub returns : goal.returns
returns c = rw (← c.self.view_is) (performed c)
