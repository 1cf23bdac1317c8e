-- A directive that names no array of an operation places nothing that conflicts with it.
use Rattle.std.proofs.Common.{inl, inr, ◌≡◌, ℕ, Bool, true, false, not, List, [], ◌∷◌, ◌++◌, refl, sym, ap, ◌∙◌, subst}
use Rattle.std.specs.Prelude.{Contains}
use Rattle.std.specs.List.{list_all}
use Rattle.std.proofs.lemmas.Bool.{cases_Bool}
use Rattle.std.proofs.lemmas.List.{append-nil}
use Rattle.std.proofs.lemmas.List.Elements.{Contains-append_left, Contains-append_right}
use Rattle.acc_base.proofs.Members.{member_first}
use Rattle.acc_base.specs.declared.ids.QueueAt.{QueueAt}
use Rattle.acc_base.specs.Queues.{same_queue}
use Rattle.acc_batch.proofs.Labels.{on_queue-append, ops_of-append}
use Rattle.acc_batch.specs.declared.label.Label.{Label}
use Rattle.acc_batch.specs.declared.label.OpLabel.{OpLabel}
use Rattle.acc_batch.specs.Labels.{on_queue, ops_of}
use Rattle.acc_core.proofs.NextOfQueue.{next_of_all}
use Rattle.acc_core.specs.Legality.{IsLegalState}
use Rattle.acc_core.specs.Machine.{State, labels_of, standing_of, with_directive}
use Rattle.acc_place.proofs.LabelsSound.{labels_sound}
use Rattle.acc_place.specs.Batches.{batch_of, labels_with, next_number, walk_at}
use Rattle.acc_place.specs.Directives.{Directive}
use Rattle.acc_place.specs.Standings.{Walk, walk_of}
use Rattle.acc_work.specs.Logs.{items_of, performed}
use Rattle.acc_explore.specs.ApartOperations.{may_name, ops_conflict, touches_array}
use Rattle.acc_explore.proofs.AddedBatches.{labels_placed}
use Rattle.acc_explore.proofs.ApartKept.{AddsClear, StandsApart}
use Rattle.acc_explore.proofs.BatchesNamed.{all_joined, batch_named, has_arrays}
use Rattle.acc_explore.proofs.OneArray.{all_at, all_by, ops_apart}

-- the label of a batch, if it isn't empty
abbrev added : QueueAt → ℕ → ℕ → List Label → List OpLabel → List Label
added at h items labels [] = []
added at h items labels (op ∷ ops) = record { at = at; number = next_number at labels; host = h; items_done = items; ops = op ∷ ops } ∷ []

labels_are : (at : QueueAt) (h items : ℕ) (labels : List Label) (ops : List OpLabel) → labels_with at h items labels ops ≡ labels ++ added at h items labels ops
labels_are at h items labels [] = sym (append-nil labels)
labels_are at h items labels (op ∷ ops) = refl

all_added : (p : OpLabel → Bool) (q at : QueueAt) (h items : ℕ) (labels : List Label) (ops : List OpLabel) → list_all p ops ≡ true → list_all p (ops_of (on_queue q (added at h items labels ops))) ≡ true
all_added p q at h items labels [] all = refl
all_added p q at h items labels (op ∷ ops) all = elim (cases_Bool (same_queue at q)) [
  | inl same ↦ rw same (all_joined p (op ∷ ops) [] all refl)
  | inr other ↦ rw other refl
]

module _ (at : QueueAt) (w s : State) (op : OpLabel) (a : StandsApart at w op) (l : IsLegalState w) (m : IsLegalState s) (h : ℕ) (d : Directive) (labels : labels_of s ≡ labels_of (with_directive w h d)) where
  abbrev walk : Walk
  walk = walk_of (standing_of w) h d

  abbrev more : List Label
  more = added (walk_at walk) h (items_of h w.work) (labels_of w) (batch_of (standing_of w) walk)

  labels_now : labels_of s ≡ labels_of w ++ more
  labels_now = labels ∙ (labels_placed w h d ∙ labels_are (walk_at walk) h (items_of h w.work) (labels_of w) (batch_of (standing_of w) walk))

  queue_now : (q : QueueAt) → on_queue q (labels_of s) ≡ on_queue q (labels_of w) ++ on_queue q more
  queue_now q = ap (on_queue q) labels_now ∙ on_queue-append q (labels_of w) more

  ops_now : (q : QueueAt) → ops_of (on_queue q (labels_of s)) ≡ ops_of (on_queue q (labels_of w)) ++ ops_of (on_queue q more)
  ops_now q = ap ops_of (queue_now q) ∙ ops_of-append (on_queue q (labels_of w)) (on_queue q more)

  -- the operation was placed before
  op_there : Contains (ops_of (on_queue at (labels_of s))) op
  op_there =
      let next = next_of_all w at op a.next.later l.kept.prefix a.next.left in
      subst (λ (ops : List OpLabel). Contains ops op) (sym (ops_now at))
      (Contains-append_left (ops_of (on_queue at (labels_of w))) (ops_of (on_queue at more)) op
      (subst (λ (ops : List OpLabel). Contains ops op) (sym next.split) (Contains-append_right (performed at w.work) (op ∷ next.later) op (member_first op next.later))))

  pub adds_clear : may_name op d ≡ false → (q : QueueAt) → AddsClear at w s op q
  adds_clear none q =
      let test = has_arrays (λ array. not (touches_array op array)) in
      let all : list_all test (ops_of (on_queue q more)) ≡ true = all_added test q (walk_at walk) h (items_of h w.work) (labels_of w) (batch_of (standing_of w) walk) (batch_named op (standing_of w) h d none) in
      record {
        more = on_queue q more;
        is = queue_now q;
        clear = all_by (λ (y : OpLabel). not (ops_conflict at.device op q.device y)) (ops_of (on_queue q more)) (λ x there.
            ap not (ops_apart s.config.arrays (labels_of s) (labels_sound s.config s.history s.counts m.accepted).use_live at q op x op_there
            (subst (λ (ops : List OpLabel). Contains ops x) (sym (ops_now q)) (Contains-append_right (ops_of (on_queue q (labels_of w))) (ops_of (on_queue q more)) x there))
            (all_at test (ops_of (on_queue q more)) x all there)));
      }
