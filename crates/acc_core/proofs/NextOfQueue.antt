-- The operation that a queue performs next is the next of all that were placed there, and uses live blocks.
use Rattle.std.proofs.Common.{◌≡◌, ℕ, List, ◌∷◌, length, take, drop, ◌∙◌}
use Rattle.acc_base.specs.declared.ids.QueueAt.{QueueAt}
use Rattle.acc_batch.specs.declared.label.Label.{Label}
use Rattle.acc_batch.specs.declared.label.OpLabel.{OpLabel}
use Rattle.acc_batch.specs.Labels.{on_queue, ops_of}
use Rattle.acc_work.specs.Orders.{IsPrefix, InOrder}
use Rattle.acc_core.specs.Legality.{IsLegalState}
use Rattle.acc_batch.specs.Lives.{UsesLive}
use Rattle.acc_work.specs.Logs.{performed, device_ops}
use Rattle.acc_core.specs.Machine.{State, standing_of, taken_on, ops_left}
use Rattle.acc_work.proofs.NextUsesLive.{any_order}
use Rattle.acc_place.proofs.LabelsSound.{labels_sound}
use Rattle.acc_batch.proofs.Labels.{ops_of_all}
use Rattle.acc_batch.proofs.NextOperation.{NextOp, next_in}

-- what isn't performed of the first batches begins with the next operation of all of them
next_of_taken : (labels : List Label) (taken : ℕ) (done : List OpLabel) (op : OpLabel) (ops : List OpLabel) → IsPrefix done (ops_of labels) → drop (length done) (ops_of (take taken labels)) ≡ op ∷ ops → NextOp done op (ops_of labels)
next_of_taken labels taken done op ops p e =
    let first = ops_of (take taken labels) in
    let second = ops_of (drop taken labels) in
    let cut = ops_of_all taken labels in
    next_in done first second p.0 op ops (p.1 ∙ cut) e cut

-- the next operation of a queue
pub next_of_all : (w : State) (at : QueueAt) (op : OpLabel) (ops : List OpLabel) → InOrder (standing_of w).labels w.work → ops_left w (standing_of w).labels at ≡ op ∷ ops
    → NextOp (performed at w.work) op (ops_of (on_queue at (standing_of w).labels))
next_of_all w at op ops h e = next_of_taken (on_queue at (standing_of w).labels) (taken_on w at) (performed at w.work) op ops (h at) e

-- The next operation of a queue uses live blocks, whatever the queues have performed.
pub next_uses_live : (w : State) (at : QueueAt) (op : OpLabel) (ops : List OpLabel) → IsLegalState w → ops_left w (standing_of w).labels at ≡ op ∷ ops → UsesLive w.config.arrays op (device_ops at.device w.work)
next_uses_live w at op ops l e =
    let next = next_of_all w at op ops l.kept.prefix e in
    any_order w.config.arrays (standing_of w).labels w.work at op next.later (labels_sound w.config w.history w.counts l.accepted) l.kept.prefix l.kept.awaited next.split
