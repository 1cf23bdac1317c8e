-- The first label, in the order of placing, that isn't performed.
use Rattle.std.proofs.Common.{inl, inr, ◌≡◌, ◌<◌, ◌≤◌, List, [], ◌∷◌, ◌++◌, length, refl, sym, subst, arith}
use Rattle.std.proofs.lemmas.Bool.{cases_Bool, cases_lt}
use Rattle.std.proofs.lemmas.List.{append_assoc, append-nil}
use Rattle.acc_base.specs.declared.ids.QueueAt.{QueueAt}
use Rattle.acc_base.specs.Queues.{same_queue}
use Rattle.acc_base.proofs.SameQueue.{same_queue_is}
use Rattle.acc_batch.specs.declared.label.Label.{Label}
use Rattle.acc_batch.specs.Awaits.{IsOrdered, AllOrdered}
use Rattle.acc_batch.specs.Labels.{on_queue, ops_of}
use Rattle.acc_batch.proofs.Labels.{on_queue-append}
use Rattle.acc_batch.specs.declared.entry.WorkEntry.{WorkEntry}
use Rattle.acc_work.specs.Logs.{performed}

-- a queue has performed what these labels placed on it
abbrev pub IsDone : List Label → List WorkEntry → QueueAt → Type 0
IsDone before work at = length (ops_of (on_queue at before)) ≤ length (performed at work)

-- one more label, which its queue has performed
done_more : (before : List Label) (l : Label) (work : List WorkEntry) → ((at : QueueAt) → IsDone before work at) → IsDone (before ++ l ∷ []) work l.at
    → (at : QueueAt) → IsDone (before ++ l ∷ []) work at
done_more before l work done own at = elim (cases_Bool (same_queue l.at at)) [
  | inl same ↦ subst (λ q. IsDone (before ++ l ∷ []) work q) (same_queue_is l.at at same) own
  | inr differ ↦ rw (on_queue-append at before (l ∷ []), differ, append-nil (on_queue at before)) (done at)
]

-- All labels before it are performed on every queue, and it isn't on its own.
pub record Frontier (labels : List Label) (work : List WorkEntry) : Type 0 where
  pub before : List Label
  pub label : Label
  pub more : List Label
  pub split : labels ≡ before ++ label ∷ more
  pub ordered : IsOrdered before label
  pub done : (at : QueueAt) → IsDone before work at
  pub left : length (performed label.at work) < length (ops_of (on_queue label.at (before ++ label ∷ [])))

-- Where a queue has an operation left, there is such a label.
pub frontier : (before ls : List Label) (work : List WorkEntry) → AllOrdered before ls → ((at : QueueAt) → IsDone before work at)
    → (at : QueueAt) → length (performed at work) < length (ops_of (on_queue at (before ++ ls))) → Frontier (before ++ ls) work
frontier before [] work ordered done at left = absurd (let high = done at in let low = rw (append-nil before) at left in omega (arith, low, high))
frontier before (l ∷ ls) work ordered done at left = elim (cases_lt (length (performed l.at work)) (length (ops_of (on_queue l.at (before ++ l ∷ []))))) [
  | inl low ↦ record { before = before; label = l; more = ls; split = refl; ordered = ordered.0; done = done; left = low }
  | inr high ↦
      subst (λ r. Frontier r work) (append_assoc before (l ∷ []) ls)
      (frontier (before ++ l ∷ []) ls work ordered.1 (done_more before l work done high) at
      (subst (λ r. length (performed at work) < length (ops_of (on_queue at r))) (sym (append_assoc before (l ∷ []) ls)) left))
]
