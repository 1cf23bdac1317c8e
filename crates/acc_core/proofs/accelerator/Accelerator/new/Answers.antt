use Rattle.std.proofs.Common.{◌≡◌, ◌*◌, length, refl, sym, ap, ◌∙◌}
use Rattle.std.specs.Prelude.{replicate}
use Rattle.acc_base.specs.declared.ids.TheConstants.{QUEUES}
use Rattle.acc_base.specs.Queues.{queue_count}
use Rattle.acc_work.specs.Works.{taken_counts}
use Rattle.acc_core.proofs.BatchesLeft.{none_yet}
use Rattle.acc_core.proofs.CloseQueue.{has_all, has_all_places}
use Rattle.acc_core.proofs.AcceleratorNew.{is_opening, none_taken}
use Rattle.acc_core.proofs.accelerator.Accelerator.new.Goals as goal

-- no queue took a batch
took_none : (c : goal.In_ok-new) → taken_counts c.in_ok-work.work ≡ replicate (queue_count c.args.config) 0
took_none c =
    let w = c.in_ok-work.ensures in
    let count : length c.in_ok-work.work.lanes ≡ queue_count c.args.config = c.keeps.ensures.order.count ∙ ap (λ n. n * QUEUES) w.devices in
    none_taken c.in_ok-work.work.lanes w.lanes ∙ ap (λ n. replicate n 0) count

pub invariant_of-result : goal.invariant_of-result
invariant_of-result c =
    let w = c.in_ok-work.ensures in
    let q = c.in_ok-queues.ensures in
    let p = c.in_ok-new.ensures in (
      is_opening c.args.config _ c.in_ok-work.work c.in_ok-queues.queues.items (rw (p.config, p.history, p.counts, w.work, took_none c) refl) w.opening w.lanes w.devices q.count q.empty,
      has_all c.in_ok-new.field-0 p.history (λ at there. p.closes at (rw p.config at there)),
      sym (none_yet c.in_ok-work.work.lanes c.in_ok-queues.queues.items w.lanes q.empty),
      has_all_places c.in_ok-new.field-0 c.in_ok-queues.queues.items (q.count ∙ ap queue_count (sym p.config)) q.empty,
    )

pub returns-clause-opened : goal.returns-clause-opened
returns-clause-opened c =
    let w = c.in_ok-work.ensures in
    let p = c.in_ok-new.ensures in
    rw (p.config, p.history, p.counts, w.work, took_none c) refl
