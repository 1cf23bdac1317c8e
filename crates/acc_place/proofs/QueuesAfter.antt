-- The labels of each queue, where one more is added.
use Rattle.std.proofs.Common.{inl, inr, subst, ◌≡◌, ℕ, zero, suc, ◌<◌, true, false, cond, List, [], ◌∷◌, ◌++◌, length, refl, sym, ap, ◌∙◌, arith, Option, Some, None}
use Rattle.std.specs.Prelude.{All, IfSome, nat_lt, ◌&&◌, slice_index_or}
use Rattle.std.specs.Option.{option_to_list}
use Rattle.std.proofs.lemmas.Bool.{and_parts, cases_Bool, ltb-true, lt-ltb}
use Rattle.std.proofs.lemmas.List.{append-nil, get_or-set_same, get_or-set_other}
use Rattle.std.proofs.lemmas.List.Elements.{All-head, All-tail, filter-append}
use Rattle.acc_base.specs.declared.ids.QueueAt.{QueueAt}
use Rattle.acc_base.specs.declared.ids.TheConstants.{QUEUES}
use Rattle.acc_base.specs.Configurations.{Configuration}
use Rattle.acc_base.specs.Queues.{queue_count, same_queue, seat}
use Rattle.acc_base.proofs.SameQueue.{same_queue_is}
use Rattle.acc_batch.specs.declared.label.Label.{Label}
use Rattle.acc_batch.specs.Labels.{on_queue}
use Rattle.acc_batch.proofs.Seats.{one_seat}
use Rattle.acc_place.specs.Histories.{IsQueue}
use Rattle.acc_place.specs.inner.Places.{queue_in, queues_after}

-- the seat of a queue that is there
pub seat_low : (config : Configuration) (at_queue : QueueAt) (count : ℕ) → IsQueue config at_queue → count ≡ queue_count config → seat at_queue < count
seat_low config at_queue count there is = omega (arith, there.0, there.1, is)

-- it is there where it is tested to be
pub is_queue : (config : Configuration) (at_queue : QueueAt) → (nat_lt at_queue.device config.devices && nat_lt at_queue.queue QUEUES) ≡ true → IsQueue config at_queue
is_queue config at_queue passes =
    let parts = and_parts (nat_lt at_queue.device config.devices) (nat_lt at_queue.queue QUEUES) passes in
    (ltb-true at_queue.device config.devices parts.0, ltb-true at_queue.queue QUEUES parts.1)

-- the labels of a queue that is there
pub queue_there : (queues : List (List Label)) (at_queue : QueueAt) → at_queue.queue < QUEUES → queue_in queues at_queue ≡ slice_index_or queues (seat at_queue) []
queue_there queues at_queue low = rw (lt-ltb at_queue.queue QUEUES low) refl

-- no labels yet
pub none_placed : (queues : List (List Label)) (at_queue : QueueAt) → All (λ labels. labels ≡ []) queues → queue_in queues at_queue ≡ []
none_placed queues at_queue none = elim (nat_lt at_queue.queue QUEUES) as (λ v. cond v (slice_index_or queues (seat at_queue) []) [] ≡ []) [ true ↦ each queues (seat at_queue) none | false ↦ refl ]
  where
    each : (qs : List (List Label)) (n : ℕ) → All (λ labels. labels ≡ []) qs → slice_index_or qs n [] ≡ []
    each [] n none = refl
    each (q ∷ qs) zero none = All-head (λ labels. labels ≡ []) q qs none
    each (q ∷ qs) (suc n) none = each qs n (All-tail (λ labels. labels ≡ []) q qs none)

pushed_at : (config : Configuration) (queues : List (List Label)) (l : Label) (at_queue : QueueAt) → length queues ≡ queue_count config → IsQueue config l.at
    → queue_in (queues_after queues (Some l)) at_queue ≡ queue_in queues at_queue ++ on_queue at_queue (l ∷ [])
pushed_at config queues l at_queue all there = elim (cases_Bool (nat_lt at_queue.queue QUEUES)) [
  | inl low ↦ elim (cases_Bool (same_queue l.at at_queue)) [
    | inl same ↦
        let one : l.at ≡ at_queue = same_queue_is l.at at_queue same in
        let more : slice_index_or (queues_after queues (Some l)) (seat l.at) [] ≡ slice_index_or queues (seat l.at) [] ++ l ∷ [] =
        get_or-set_same queues (seat l.at) (slice_index_or queues (seat l.at) [] ++ l ∷ []) [] (seat_low config l.at (length queues) there all) in
        let here : slice_index_or (queues_after queues (Some l)) (seat at_queue) [] ≡ slice_index_or queues (seat at_queue) [] ++ l ∷ [] =
        subst (λ q. slice_index_or (queues_after queues (Some l)) (seat q) [] ≡ slice_index_or queues (seat q) [] ++ l ∷ []) one more in
        rw (low, same) here
    | inr differ ↦
        let apart : seat at_queue ≡ seat l.at → ⊥ = λ e. (let w : true ≡ false = sym (one_seat l.at at_queue there.1 (ltb-true at_queue.queue QUEUES low) (sym e)) ∙ differ in cc) in
        rw (low, differ)
        (get_or-set_other queues (seat l.at) (seat at_queue) (slice_index_or queues (seat l.at) [] ++ l ∷ []) [] apart ∙ sym (append-nil (slice_index_or queues (seat at_queue) [])))
  ]
  | inr past ↦ elim (cases_Bool (same_queue l.at at_queue)) [
    | inl same ↦
        let low = lt-ltb l.at.queue QUEUES there.1 in
        let w : true ≡ false = sym low ∙ (ap (λ (q : QueueAt). nat_lt q.queue QUEUES) (same_queue_is l.at at_queue same) ∙ past) in
        cc
    | inr differ ↦ rw (past, differ) refl
  ]
]

-- they are those of the labels in the order of placing
pub one_more : (config : Configuration) (queues : List (List Label)) (labels : List Label) (label : Option Label) (at_queue : QueueAt) → length queues ≡ queue_count config
    → IfSome label (λ l. IsQueue config l.at) → queue_in queues at_queue ≡ on_queue at_queue labels → queue_in (queues_after queues label) at_queue ≡ on_queue at_queue (labels ++ option_to_list label)
one_more config queues labels None at_queue all there is = is ∙ ap (on_queue at_queue) (sym (append-nil labels))
one_more config queues labels (Some l) at_queue all there is =
    pushed_at config queues l at_queue all there ∙ (ap (λ ls. ls ++ on_queue at_queue (l ∷ [])) is ∙ sym (filter-append (λ (k : Label). same_queue k.at at_queue) labels (l ∷ [])))
