use Rattle.std.proofs.Common.{◌≡◌, ◌*◌, ◌≤◌, length, sym, ap, ◌∙◌}
use Rattle.std.specs.Prelude.{All}
use Rattle.acc_base.specs.declared.config.TheConstants.{MAX_CELLS}
use Rattle.acc_base.specs.declared.ids.TheConstants.{QUEUES}
use Rattle.acc_work.proofs.WorkSteps.{work_first}
use Rattle.acc_work.proofs.work.Work.new.Goals as goal

pub invariant_of-result : goal.invariant_of-result
invariant_of-result c =
    let memory = c.in_ok-memory.memory in
    let log = c.in_ok-log.log in
    let lanes = c.in_ok-lanes.lanes.items in
    let m = c.in_ok-memory.ensures in
    let l = c.in_ok-log.ensures in
    let limits : All (λ cells. (1 ≤ length cells) × (length cells ≤ MAX_CELLS)) c.of-opening.result.value.arrays = rw c.of-opening.ensures c.keeps.ensures.limits.cells in
    let same : memory.arrays ≡ c.of-opening.result.value.arrays = m.arrays ∙ sym (ap (λ config. config.arrays) c.of-opening.ensures) in
    let count : length lanes ≡ length memory.devices * QUEUES = c.in_ok-lanes.ensures.count ∙ ap (λ n. n * QUEUES) (sym m.devices) in
    rw (l.work, l.unclaimed) (work_first c.of-opening.result.value.arrays memory lanes log.free limits same m.rows m.made c.in_ok-lanes.ensures.fresh count)
