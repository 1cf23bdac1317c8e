use Rattle.std.proofs.Common.{map, set, refl, ap, ◌∙◌}
use Rattle.std.specs.Prelude.{◌==◌, ◌||◌}
use Rattle.acc_batch.specs.declared.label.OpLabel.TheVariants.{Make}
use Rattle.acc_memory.specs.Memories.{PerformsOn, is_made}
use Rattle.acc_memory.specs.inner.Devices.{memory_of}
use Rattle.acc_memory.proofs.MemoryCalls.{device_at, device_performs}
use Rattle.acc_memory.proofs.BlocksFit.{fits_after}
use Rattle.acc_memory.proofs.memory.Memory.make.Goals as goal

pub make-requires-clause-fresh : goal.make-requires-clause-fresh
make-requires-clause-fresh c = rw (device_at c.self.inside.devices.items c.args.device c.from.result c.index_mut-device.result.now (rw (← c.self.view_is) at c.requires.device) (c.from.ensures ∙ c.number.ensures) c.index_mut-device.ensures.value)
    at (rw (← c.self.view_is) at c.requires.allowed).0

performed : (c : goal.After-self-1) → PerformsOn c.args.device (Make c.args.block.range c.args.block.block) (memory_of (map (λ v. v.items) c.self.inside.arrays.items) c.self.inside.devices.items)
    (memory_of (map (λ v. v.items) c.self.inside.arrays.items) (set c.self.inside.devices.items c.from.result (record { blocks = c.make.new.self; makes = c.note.new.self })))
performed c =
    device_performs c.args.device (Make c.args.block.range c.args.block.block) (map (λ v. v.items) c.self.inside.arrays.items) c.self.inside.devices.items c.from.result
    c.index_mut-device.result.now (record { blocks = c.make.new.self; makes = c.note.new.self })
    (rw (← c.self.view_is) at c.requires.device) (c.from.ensures ∙ c.number.ensures) c.index_mut-device.ensures.value (λ was a k. refl) c.make.ensures.blocks
    (λ b. c.note.ensures b ∙ ap (λ n. (n == b) || is_made c.index_mut-device.result.now.makes b) c.requires.mark)
    (λ was shows. c.make.ensures.shows c.args.device was)

pub invariant_of-self : goal.invariant_of-self
invariant_of-self c = fits_after c.args.device (Make c.args.block.range c.args.block.block) _ _ c.self.invariant (rw (← c.self.view_is) at c.requires.allowed).1 (performed c)

pub returns : goal.returns
returns c = rw (← c.self.view_is) (performed c)
