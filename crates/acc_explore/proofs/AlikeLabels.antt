-- What depends on the batches of each queue alone.
use Rattle.std.proofs.Common.{◌≡◌, ℕ, ◌+◌, Bool, true, false, ◌&&◌, cond, List, [], ◌∷◌, ◌++◌, length, map, refl, sym, ap, ap₂, ◌∙◌, Some, nat_le}
use mathlib.Core.Path.{fun_ext}
use Rattle.std.specs.List.{flat_map}
use Rattle.std.proofs.lemmas.List.Elements.{filter-append}
use Rattle.acc_base.specs.declared.ids.QueueAt.{QueueAt}
use Rattle.acc_base.specs.Queues.{same_queue, every_queue}
use Rattle.acc_batch.specs.Awaits.{awaited_number, await_of, awaits, behind_awaits, with_awaits, close_label}
use Rattle.acc_batch.specs.declared.entry.WorkEntry.{WorkEntry}
use Rattle.acc_batch.specs.declared.label.Label.{Label}
use Rattle.acc_batch.specs.declared.label.OpLabel.{OpLabel}
use Rattle.acc_batch.specs.declared.label.OpLabel.TheVariants.{Await, Close}
use Rattle.acc_batch.specs.Labels.{on_queue, used_blocks, released_blocks, has_number, whole_batches, batch_at}
use Rattle.acc_core.specs.Machine.{can_perform}
use Rattle.acc_place.specs.Batches.{counts_by, labels_with, next_number, placed_batch}
use Rattle.acc_work.specs.Logs.{all_done, await_allows, batches_done, host_allows, performed}

abbrev pub SameByQueue : List Label → List Label → Type 0
SameByQueue old new = (at : QueueAt) → on_queue at old ≡ on_queue at new

-- ## What a directive places

awaits_same : (named : List ℕ) (own : QueueAt) (old new : List Label) (used released : List ℕ) → SameByQueue old new → awaits named own old used released ≡ awaits named own new used released
awaits_same named own old new used released s =
    ap (λ (f : ℕ → List OpLabel). flat_map f every_queue)
    (fun_ext (λ q. ap (λ (ls : List Label). await_of own.queue q (awaited_number (has_number named q) ls used released)) (s (record { device = own.device; queue = q }))))

pub behind_same : (alone : Bool) (named : List ℕ) (own : QueueAt) (old new : List Label) (ops : List OpLabel) → SameByQueue old new → behind_awaits alone named own old ops ≡ behind_awaits alone named own new ops
behind_same alone named own old new ops s =
    ap (λ (before : List OpLabel). with_awaits alone before ops) (awaits_same named own old new (flat_map used_blocks ops) (flat_map released_blocks ops) s)

number_same : (old new : List Label) (at : QueueAt) → SameByQueue old new → next_number at old ≡ next_number at new
number_same old new at s = ap (λ (ls : List Label). length ls + 1) (s at)

pub placed_same : (old new : List Label) (at : QueueAt) (ops : List OpLabel) → SameByQueue old new → placed_batch at old ops ≡ placed_batch at new ops
placed_same old new at [] s = refl
placed_same old new at (op ∷ ops) s = ap (λ n. Some (at, n)) (number_same old new at s)

pub counts_same : (asks : Bool) (old new : List Label) (device : ℕ) (named : List ℕ) → SameByQueue old new → counts_by asks old device named ≡ counts_by asks new device named
counts_same true old new device named s =
    ap (λ (f : ℕ → ℕ). map f every_queue)
    (fun_ext (λ q. ap (λ (ls : List Label). cond (has_number named q) (length ls) 0) (s (record { device = device; queue = q }))))
counts_same false old new device named s = refl

push_same : (old new : List Label) (l m : Label) → l ≡ m → SameByQueue old new → SameByQueue (old ++ l ∷ []) (new ++ m ∷ [])
push_same old new l m e s at =
    filter-append (λ (k : Label). same_queue k.at at) old (l ∷ [])
    ∙ (ap₂ (λ (xs : List Label) (k : Label). xs ++ on_queue at (k ∷ [])) (s at) e ∙ sym (filter-append (λ (k : Label). same_queue k.at at) new (m ∷ [])))

pub labels_same : (old new : List Label) (at : QueueAt) (host items_done : ℕ) (ops : List OpLabel) → SameByQueue old new
    → SameByQueue (labels_with at host items_done old ops) (labels_with at host items_done new ops)
labels_same old new at host items_done [] s = s
labels_same old new at host items_done (op ∷ ops) s =
    push_same old new _ _ (ap (λ n. record { at = at; number = n; host = host; items_done = items_done; ops = op ∷ ops }) (number_same old new at s)) s

pub close_same : (old new : List Label) (at : QueueAt) → SameByQueue old new → SameByQueue (old ++ close_label at old ∷ []) (new ++ close_label at new ∷ [])
close_same old new at s =
    push_same old new _ _ (ap (λ n. record { at = at; number = n; host = 0; items_done = 0; ops = Close ∷ [] }) (number_same old new at s)) s

-- ## What is performed

done_same : (old new : List Label) (work : List WorkEntry) (at : QueueAt) → SameByQueue old new → batches_done old work at ≡ batches_done new work at
done_same old new work at s = ap (λ (ls : List Label). whole_batches ls (length (performed at work))) (s at)

pub all_done_same : (old new : List Label) (work : List WorkEntry) (device q : ℕ) (counts : List ℕ) → SameByQueue old new → all_done old work device q counts ≡ all_done new work device q counts
all_done_same old new work device q [] s = refl
all_done_same old new work device q (n ∷ ns) s =
    ap₂ (λ a b. a && b) (ap (λ k. nat_le n k) (done_same old new work (record { device = device; queue = q }) s)) (all_done_same old new work device (q + 1) ns s)

await_same : (old new : List Label) (work : List WorkEntry) (device : ℕ) (op : OpLabel) → SameByQueue old new → await_allows old work device op ≡ await_allows new work device op
await_same old new work device (Await q n) s = ap (λ k. nat_le n k) (done_same old new work (record { device = device; queue = q }) s)
await_same old new work device op s = refl

pub performs_same : (old new : List Label) (work : List WorkEntry) (at : QueueAt) (op : OpLabel) → SameByQueue old new → can_perform old work at op ≡ can_perform new work at op
performs_same old new work at op s =
    ap₂ (λ a b. a && b) (await_same old new work at.device op s)
    (ap (λ (ls : List Label). host_allows (batch_at ls (length (performed at work))) work) (s at))
