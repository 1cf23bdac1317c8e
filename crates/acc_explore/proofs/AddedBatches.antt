-- The batches that a directive adds.
use Rattle.std.proofs.Common.{◌≡◌, ℕ, ◌<◌, ◌≤◌, List, [], ◌∷◌, ◌++◌, length, refl, sym, ap, ◌∙◌, subst, arith}
use Rattle.std.specs.Prelude.{All}
use Rattle.std.proofs.lemmas.List.{append-nil}
use Rattle.std.proofs.lemmas.List.Elements.{All-cons, All-nil}
use Rattle.std.proofs.lemmas.List.Sums.{count_by-le-length, length-filter}
use Rattle.acc_base.specs.declared.ids.QueueAt.{QueueAt}
use Rattle.acc_base.specs.Queues.{same_queue}
use Rattle.acc_batch.proofs.Labels.{on_queue-append}
use Rattle.acc_batch.specs.declared.label.Label.{Label}
use Rattle.acc_batch.specs.declared.label.OpLabel.{OpLabel}
use Rattle.acc_batch.specs.Labels.{on_queue}
use Rattle.acc_core.specs.Machine.{State, labels_of, standing_of, with_directive}
use Rattle.acc_place.specs.Batches.{batch_of, labels_with, next_number, walk_at}
use Rattle.acc_place.specs.Directives.{Directive}
use Rattle.acc_place.specs.Histories.{standing}
use Rattle.acc_place.specs.Standings.{walk_of}
use Rattle.acc_work.specs.Logs.{items_of}

-- Batches behind those that were placed before: one at most, each with an operation.
pub record Adds (old new : List Label) : Type 0 where
  pub more : List Label
  pub is : new ≡ old ++ more
  pub filled : All (λ (b : Label). 0 < length b.ops) more
  pub few : length more ≤ 1

adds : (at : QueueAt) (host items_done : ℕ) (labels : List Label) (ops : List OpLabel) → Adds labels (labels_with at host items_done labels ops)
adds at host items_done labels [] = record { more = []; is = sym (append-nil labels); filled = All-nil (λ (b : Label). 0 < length b.ops); few = omega arith }
adds at host items_done labels (op ∷ ops) =
    let b : Label = record { at = at; number = next_number at labels; host = host; items_done = items_done; ops = op ∷ ops } in
    record {
      more = b ∷ [];
      is = refl;
      filled = All-cons (λ (b : Label). 0 < length b.ops) b [] (omega arith) (All-nil (λ (b : Label). 0 < length b.ops));
      few = omega arith;
    }

pub labels_placed : (w : State) (h : ℕ) (d : Directive)
    → labels_of (with_directive w h d) ≡ labels_with (walk_at (walk_of (standing_of w) h d)) h (items_of h w.work) (labels_of w) (batch_of (standing_of w) (walk_of (standing_of w) h d))
unfolding standing
labels_placed w h d = refl

pub placed_adds : (w : State) (h : ℕ) (d : Directive) → Adds (labels_of w) (labels_of (with_directive w h d))
placed_adds w h d =
    let walk = walk_of (standing_of w) h d in
    subst (λ (ls : List Label). Adds (labels_of w) ls) (sym (labels_placed w h d)) (adds (walk_at walk) h (items_of h w.work) (labels_of w) (batch_of (standing_of w) walk))

-- of one queue
pub on_queue_adds : (at : QueueAt) (old new : List Label) (a : Adds old new) → on_queue at new ≡ on_queue at old ++ on_queue at a.more
on_queue_adds at old new a = ap (on_queue at) a.is ∙ on_queue-append at old a.more

pub on_queue_few : (at : QueueAt) (old new : List Label) (a : Adds old new) → length (on_queue at a.more) ≤ 1
on_queue_few at old new a =
    omega (arith, a.few, length-filter (λ (l : Label). same_queue l.at at) a.more, count_by-le-length (λ (l : Label). same_queue l.at at) a.more)
