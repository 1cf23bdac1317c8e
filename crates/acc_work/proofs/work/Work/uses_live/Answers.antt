use Rattle.std.proofs.Common.{length, sym, ap, subst, ◌∙◌}
use Rattle.std.specs.Prelude.{not, ◌<◌}
use Rattle.acc_work.specs.Works.{WorkView}
use Rattle.acc_work.proofs.RemembersWork.{new_if}
use Rattle.acc_work.proofs.work.Work.uses_live.Goals as goal

pub returns-then-not-was_made : goal.returns-then-not-was_made
returns-then-not-was_made c =
    let i = c.self.inside in
    let v : WorkView = record { arrays = i.opening.value.arrays; memory = i.memory; work = i.log.work; lanes = i.lanes.items } in
    let made = c.value-block.result.now in
    let fresh = ap not (sym c.was_made.ensures ∙ c.if-not-was_made.true) in
    let there = subst (λ (w : WorkView). c.args.device < length w.memory.devices) (sym c.self.view_is) c.requires in
    rw (← c.self.view_is, c.in-Make.is, ← c.value-block.ensures) (c.has_range.ensures ∙ new_if i.opening.value.arrays v c.args.device made.block made.range c.self.invariant.memory c.self.invariant.kept.live_blocks there fresh)
