-- How many batches of a queue are performed: as many as of those that it took.
use Rattle.std.proofs.Common.{◌≡◌, ℕ, ◌+◌, ◌<◌, ◌≤◌, List, [], ◌∷◌, length, refl, sym, ap, ◌∙◌, arith}
use Rattle.std.specs.Prelude.{All, nat_le, ◌&&◌}
use Rattle.std.proofs.lemmas.List.{length-append}
use Rattle.std.proofs.lemmas.List.Elements.{All-filter}
use Rattle.acc_base.proofs.Lists.{All-behind}
use Rattle.acc_base.specs.declared.ids.QueueAt.{QueueAt}
use Rattle.acc_base.specs.Queues.{same_queue}
use Rattle.acc_batch.specs.declared.label.Label.{Label}
use Rattle.acc_batch.specs.declared.label.OpLabel.{OpLabel}
use Rattle.acc_batch.specs.declared.label.OpLabel.TheVariants.{Make, CopyIn, CopyOut, Release, Run, Await, Close}
use Rattle.acc_batch.specs.Labels.{on_queue, ops_of, whole_batches}
use Rattle.acc_batch.proofs.WholeBatches.{whole_taken}
use Rattle.acc_core.specs.Machine.{State, labels_of}
use Rattle.acc_core.specs.inner.Queues.{QueueView, queue_in}
use Rattle.acc_core.specs.inner.Ties.{Queued}
use Rattle.acc_work.specs.Logs.{batches_done, all_done, await_allows, performed}
use Rattle.acc_work.specs.Works.{WorkView, KeepsOrder, lane_at, taken_labels}

-- each batch that a queue holds has an operation
pub held_filled : (w : State) (v : WorkView) (queues : List QueueView) (at : QueueAt) → Queued w v queues → All (λ (l : Label). 0 < length l.ops) (queue_in queues at).held
held_filled w v queues at q =
    let all = All-filter (λ (l : Label). same_queue l.at at) (λ (l : Label). 0 < length l.ops) (labels_of w) q.filled in
    All-behind (λ (l : Label). 0 < length l.ops) (lane_at v at).taken (queue_in queues at).held (rw (q.each at).split at all)

pub done_taken : (w : State) (v : WorkView) (queues : List QueueView) (at : QueueAt) → Queued w v queues → KeepsOrder v → v.work ≡ w.work → batches_done (taken_labels v) v.work at ≡ batches_done (labels_of w) w.work at
done_taken w v queues at q k same =
    let lane = lane_at v at in
    let held = (queue_in queues at).held in
    let n = length (performed at v.work) in
    let low : n ≤ length (ops_of lane.taken) = omega (arith, length-append (performed at v.work) lane.left, ap length (k.order at).in_order) in
    ap (λ ls. whole_batches ls n) (k.taken at)
    ∙ (sym (whole_taken lane.taken held n low (held_filled w v queues at q))
    ∙ (ap (λ ls. whole_batches ls n) (sym (q.each at).split) ∙ ap (λ work. whole_batches (on_queue at (labels_of w)) (length (performed at work))) same))

-- the same of several queues
pub all_done_taken : (w : State) (v : WorkView) (queues : List QueueView) (device from : ℕ) (counts : List ℕ) → Queued w v queues → KeepsOrder v → v.work ≡ w.work
    → all_done (taken_labels v) v.work device from counts ≡ all_done (labels_of w) w.work device from counts
all_done_taken w v queues device from [] q k same = refl
all_done_taken w v queues device from (n ∷ ns) q k same =
    let at : QueueAt = record { device = device; queue = from } in
    ap (λ d. nat_le n d && all_done (taken_labels v) v.work device (from + 1) ns) (done_taken w v queues at q k same)
    ∙ ap (λ b. nat_le n (batches_done (labels_of w) w.work at) && b) (all_done_taken w v queues device (from + 1) ns q k same)

-- and of what an operation awaits
pub awaits_taken : (w : State) (v : WorkView) (queues : List QueueView) (device : ℕ) (op : OpLabel) → Queued w v queues → KeepsOrder v → v.work ≡ w.work
    → await_allows (taken_labels v) v.work device op ≡ await_allows (labels_of w) w.work device op
awaits_taken w v queues device (Await q n) parts k same = ap (nat_le n) (done_taken w v queues (record { device = device; queue = q }) parts k same)
awaits_taken w v queues device (Make r b) parts k same = refl
awaits_taken w v queues device (CopyIn r b) parts k same = refl
awaits_taken w v queues device (CopyOut r b) parts k same = refl
awaits_taken w v queues device (Release b) parts k same = refl
awaits_taken w v queues device (Run kernel uses) parts k same = refl
awaits_taken w v queues device Close parts k same = refl
