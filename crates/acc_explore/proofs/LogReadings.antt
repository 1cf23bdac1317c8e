-- What each reading of a work log depends on: how many operations each queue has performed, the items of the hosts, and the cells.
use Rattle.std.proofs.Common.{◌≡◌, ℕ, ◌+◌, Bool, true, ◌&&◌, cond, not, List, [], ◌∷◌, ◌++◌, length, take, drop, refl, sym, ap, ap₂, ◌∙◌, Some, None, Option, Ok, ℤ, nat_le}
use mathlib.Core.Path.{fun_ext}
use Rattle.std.specs.Prelude.{false}
use Rattle.std.proofs.Math.Seq.{take-append_seam}
use Rattle.acc_base.specs.declared.fault.Fault.TheVariants.{BadRange, TooMany, Memory}
use Rattle.acc_base.specs.declared.ids.QueueAt.{QueueAt}
use Rattle.acc_batch.specs.declared.entry.Told.TheVariants as told
use Rattle.acc_batch.specs.declared.entry.WorkEntry.{WorkEntry}
use Rattle.acc_batch.specs.declared.label.Label.{Label}
use Rattle.acc_batch.specs.declared.label.OpLabel.{OpLabel}
use Rattle.acc_batch.specs.declared.label.OpLabel.TheVariants.{Await}
use Rattle.acc_batch.specs.Labels.{on_queue, ops_of, batch_at, whole_batches}
use Rattle.acc_core.proofs.Merged.{items_length}
use Rattle.acc_core.specs.Machine.{State, labels_of, ops_left, can_perform, told_of, can_tell, taken_on, item_answer, wait_answer, unless}
use Rattle.acc_memory.specs.Values.{Host_cell, values_from}
use Rattle.acc_work.specs.declared.item.ItemLabel.{ItemLabel}
use Rattle.acc_work.specs.declared.item.ItemLabel.TheVariants as to_record
use Rattle.acc_work.specs.declared.log.TheConstants.{MAX_HOST_ITEMS}
use Rattle.acc_work.specs.Items.{shown_by}
use Rattle.acc_work.specs.Logs.{performed, items_of, all_items, batches_done, all_done, await_allows, host_allows}
use Rattle.acc_work.specs.Orders.{InOrder}
use Rattle.acc_work.specs.Works.{item_fault}
use Rattle.acc_explore.specs.Alike.{AlikeLogs}

abbrev pub with_work : State → List WorkEntry → State
with_work w work = record w { work = work }

-- ## How much each queue has performed

abbrev pub AsMany : List WorkEntry → List WorkEntry → Type 0
AsMany old new = (at : QueueAt) → length (performed at old) ≡ length (performed at new)

batches_same : (labels : List Label) (old new : List WorkEntry) (at : QueueAt) → AsMany old new → batches_done labels old at ≡ batches_done labels new at
batches_same labels old new at h = ap (whole_batches (on_queue at labels)) (h at)

all_done_same : (labels : List Label) (old new : List WorkEntry) → AsMany old new → (device q : ℕ) (counts : List ℕ) → all_done labels old device q counts ≡ all_done labels new device q counts
all_done_same labels old new h device q [] = refl
all_done_same labels old new h device q (n ∷ ns) =
    ap₂ (λ a b. a && b) (ap (λ k. nat_le n k) (batches_same labels old new (record { device = device; queue = q }) h)) (all_done_same labels old new h device (q + 1) ns)

await_same : (labels : List Label) (old new : List WorkEntry) → AsMany old new → (device : ℕ) (op : OpLabel) → await_allows labels old device op ≡ await_allows labels new device op
await_same labels old new h device (Await q n) = ap (λ k. nat_le n k) (batches_same labels old new (record { device = device; queue = q }) h)
await_same labels old new h device op = refl

pub ops_left_same : (w : State) (new : List WorkEntry) (labels : List Label) (at : QueueAt) → AsMany w.work new → ops_left w labels at ≡ ops_left (with_work w new) labels at
ops_left_same w new labels at h = ap (λ n. drop n (ops_of (take (taken_on w at) (on_queue at labels)))) (h at)

-- where what was performed is a prefix of what was placed, as many operations are the same operations
prefix_same : {X : Type 0} → (xs ys all more rest : List X) → xs ++ more ≡ all → ys ++ rest ≡ all → length xs ≡ length ys → xs ≡ ys
prefix_same xs ys all more rest e f h =
    sym (take-append_seam xs more) ∙ (ap (take (length xs)) (e ∙ sym f) ∙ (ap (λ n. take n (ys ++ rest)) h ∙ take-append_seam ys rest))

pub performed_same : (labels : List Label) (old new : List WorkEntry) → AsMany old new → InOrder labels old → InOrder labels new → (at : QueueAt) → performed at old ≡ performed at new
performed_same labels old new h a b at =
    let p = a at in
    let q = b at in
    prefix_same (performed at old) (performed at new) (ops_of (on_queue at labels)) p.0 q.0 p.1 q.1 (h at)

-- ## The items of the hosts

pub items_same : (arrays : List (List ℤ)) (old new : List WorkEntry) → AlikeLogs arrays old new → (host : ℕ) → items_of host old ≡ items_of host new
items_same arrays old new s host = sym (items_length host old) ∙ (ap length (s.shown host) ∙ items_length host new)

host_same : (old new : List WorkEntry) → ((host : ℕ) → items_of host old ≡ items_of host new) → (l : Option Label) → host_allows l old ≡ host_allows l new
host_same old new h None = refl
host_same old new h (Some l) = ap (λ n. nat_le l.items_done n) (h l.host)

pub can_perform_same : (arrays : List (List ℤ)) (labels : List Label) (old new : List WorkEntry) → AlikeLogs arrays old new → (at : QueueAt) (op : OpLabel)
    → can_perform labels old at op ≡ can_perform labels new at op
can_perform_same arrays labels old new s at op =
    ap₂ (λ a b. a && b) (await_same labels old new s.done at.device op)
    (ap (λ n. host_allows (batch_at (on_queue at labels) n) old) (s.done at)
    ∙ host_same old new (items_same arrays old new s) (batch_at (on_queue at labels) (length (performed at new))))

-- ## What an item tells, and whether it can

pub told_same : (w : State) (new : List WorkEntry) → AlikeLogs w.config.arrays w.work new → (item : ItemLabel) → told_of w item ≡ told_of (with_work w new) item
told_same w new s (to_record.Write array cell new_value) = refl
told_same w new s (to_record.Print range) = ap (λ (at : ℕ → ℤ). told.Print range (values_from at range.lo range.len)) (fun_ext (λ i. s.cells (Host_cell range.array i) tt))
told_same w new s (to_record.Seen device counts) = refl
told_same w new s (to_record.Test device counts) = ap (λ answer. told.Test device answer counts) (all_done_same (labels_of w) w.work new s.done device 0 counts)

can_tell_same : (w : State) (new : List WorkEntry) → AlikeLogs w.config.arrays w.work new → (item : ItemLabel) → can_tell w item ≡ can_tell (with_work w new) item
can_tell_same w new s (to_record.Write array cell new_value) = refl
can_tell_same w new s (to_record.Print range) = refl
can_tell_same w new s (to_record.Seen device counts) = all_done_same (labels_of w) w.work new s.done device 0 counts
can_tell_same w new s (to_record.Test device counts) = refl

fault_same : (no_memory : Bool) (old new : List WorkEntry) → all_items old ≡ all_items new → (ok : Bool) → item_fault no_memory old ok ≡ item_fault no_memory new ok
fault_same no_memory old new e ok =
    ap (λ n. cond no_memory (Some Memory) (cond (nat_le MAX_HOST_ITEMS n) (Some TooMany) (cond (not ok) (Some BadRange) None))) e

pub item_answer_same : (no_memory : Bool) (w : State) (new : List WorkEntry) → AlikeLogs w.config.arrays w.work new → (item : ItemLabel)
    → item_answer no_memory w item ≡ item_answer no_memory (with_work w new) item
item_answer_same no_memory w new s item =
    ap₂ (λ fault answer. unless fault answer)
    (ap (item_fault no_memory w.work) (can_tell_same w new s item) ∙ fault_same no_memory w.work new s.items (can_tell (with_work w new) item))
    (ap shown_by (told_same w new s item))

pub wait_answer_same : (no_memory : Bool) (w : State) (new : List WorkEntry) → AlikeLogs w.config.arrays w.work new → (device : ℕ) (counts : List ℕ)
    → wait_answer no_memory w device counts ≡ wait_answer no_memory (with_work w new) device counts
wait_answer_same no_memory w new s device counts =
    ap₂ (λ reached fault. cond reached (unless fault true) (Ok false))
    (all_done_same (labels_of w) w.work new s.done device 0 counts) (fault_same no_memory w.work new s.items true)
