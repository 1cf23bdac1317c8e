use Rattle.std.proofs.Common.{◌*◌, ap, ◌∙◌}
use Rattle.acc_base.specs.Queues.{queue_count}
use Rattle.acc_base.specs.declared.ids.TheConstants.{QUEUES}
use Rattle.acc_run.proofs.Publishing.{published_first}
use Rattle.acc_run.proofs.WorkSideSteps.{first_side}
use Rattle.acc_run.proofs.work_side.WorkSide.new.Goals as goal

pub invariant_of-result : goal.invariant_of-result
invariant_of-result c =
    let w = c.in_ok-work.ensures in
    let order = c.keeps-2.ensures.order in (
      rw c.in_ok-copy.ensures.equal
          (first_side c.args.config.now c.in_ok-work.work c.args.takers.items c.keeps.ensures.limits.cells w.opening w.devices w.lanes order.count c.requires.ends),
      published_first c.in_ok-work.work c.args.progress.numbers (queue_count c.args.config.now) order w.lanes c.requires.numbers (order.count ∙ ap (λ n. n * QUEUES) w.devices),
    )
