use Rattle.std.proofs.Common.{map, set, refl, ◌∙◌}
use Rattle.acc_batch.specs.declared.label.OpLabel.TheVariants.{Run}
use Rattle.acc_memory.specs.Memories.{PerformsOn}
use Rattle.acc_memory.specs.inner.Devices.{memory_of}
use Rattle.acc_memory.proofs.MemoryCalls.{device_performs}
use Rattle.acc_memory.proofs.BlocksFit.{fits_after}
use Rattle.acc_memory.proofs.memory.Memory.commit.Goals as goal

performed : (c : goal.After-self-1) → PerformsOn c.args.device (Run c.args.job.now.kernel c.args.job.now.uses) (memory_of (map (λ v. v.items) c.self.inside.arrays.items) c.self.inside.devices.items)
    (memory_of (map (λ v. v.items) c.self.inside.arrays.items) (set c.self.inside.devices.items c.from.result (record c.index_mut.result.now { blocks = c.commit.new.self })))
performed c =
    device_performs c.args.device (Run c.args.job.now.kernel c.args.job.now.uses) (map (λ v. v.items) c.self.inside.arrays.items) c.self.inside.devices.items
    c.from.result c.index_mut.result.now (record c.index_mut.result.now { blocks = c.commit.new.self })
    (rw (← c.self.view_is) at c.requires.device) (c.from.ensures ∙ c.number.ensures) c.index_mut.ensures.value (λ was a k. refl) c.commit.ensures.blocks (λ b. refl)
    (λ was shows. c.commit.ensures.shows c.args.device was)

pub invariant_of-self : goal.invariant_of-self
invariant_of-self c = fits_after c.args.device (Run c.args.job.now.kernel c.args.job.now.uses) _ _ c.self.invariant tt (performed c)

pub returns : goal.returns
returns c = rw (← c.self.view_is) (performed c)
