-- The test of an operation that stands apart, in its parts, and what keeps it.
use Rattle.std.proofs.Common.{◌≡◌, ℕ, zero, suc, ◌+◌, ◌-◌, ◌<◌, Bool, true, false, not, ◌&&◌, ◌||◌, ◌==◌, List, [], ◌∷◌, ◌++◌, length, drop, refl, sym, ap, ap₂, ◌∙◌, subst, nat_lt, arith, slice_index_or, inl, inr}
use Rattle.std.specs.List.{list_all}
use Rattle.std.proofs.lemmas.Bool.{and_from, and_parts, cases_eq, or_cases}
use Rattle.std.proofs.lemmas.List.{append-nil, drop_all, drop-append-le}
use Rattle.acc_base.specs.Configurations.{Configuration}
use Rattle.acc_base.specs.declared.ids.QueueAt.{QueueAt}
use Rattle.acc_base.specs.Queues.{at_seat, queue_count, same_queue, seat}
use Rattle.acc_batch.proofs.Labels.{ops_of-append}
use Rattle.acc_batch.specs.declared.label.Label.{Label}
use Rattle.acc_batch.specs.declared.label.OpLabel.{OpLabel}
use Rattle.acc_batch.specs.Labels.{on_queue, ops_of, whole_batches}
use Rattle.acc_core.proofs.NextOfQueue.{next_of_all}
use Rattle.acc_core.specs.Legality.{IsLegalState}
use Rattle.acc_core.specs.Machine.{State, can_perform, is_there, labels_of, ops_left}
use Rattle.acc_host.specs.declared.state.Phase.{Phase}
use Rattle.acc_host.specs.declared.state.Phase.TheVariants as phase
use Rattle.acc_work.specs.Logs.{performed}
use Rattle.acc_explore.specs.ApartOperations.{begins_apart, host_is_clear, is_at_apart, keeps_clear, ops_conflict, ops_to_come, queue_is_clear, queues_are_clear, waits_for}
use Rattle.acc_explore.specs.UnseenOperations.{ends_no_batch, nobody_asks}
use Rattle.acc_explore.proofs.KnownEvents.{has_seat}
use Rattle.acc_explore.proofs.MoreBatches.{whole_stays}
use Rattle.acc_explore.proofs.NextKept.{next_placed}
use Rattle.acc_explore.proofs.StandingNext.{LeavesTest, StandsNext, standing_kept, or_from}
use Rattle.acc_explore.proofs.NobodyAsks.{all_behind}

-- ## Its parts

pub record StandsApart (at : QueueAt) (w : State) (op : OpLabel) : Type 0 where
  pub next : StandsNext at w op
  pub queues : queues_are_clear w at op (queue_count w.config) ≡ true
  pub hosts : list_all (host_is_clear w at op) w.hosts ≡ true

pub stands_apart : (at : QueueAt) (w : State) → is_at_apart at w ≡ true → (op : OpLabel) × StandsApart at w op
stands_apart at w e =
    let parts = and_parts (is_there w at) (begins_apart w at (ops_left w (labels_of w) at)) e in
    by (ops_left w (labels_of w) at) refl parts.0 parts.1
  where
    by : (ops : List OpLabel) → ops_left w (labels_of w) at ≡ ops → is_there w at ≡ true → begins_apart w at ops ≡ true → (op : OpLabel) × StandsApart at w op
    by [] left there e = cc
    by (op ∷ later) left there e =
        let none = ends_no_batch (labels_of w) w.work at op in
        let can = can_perform (labels_of w) w.work at op in
        let queues = queues_are_clear w at op (queue_count w.config) in
        let hosts = list_all (host_is_clear w at op) w.hosts in
        let one = and_parts can ((none || nobody_asks w) && (queues && hosts)) e in
        let two = and_parts (none || nobody_asks w) (queues && hosts) one.1 in
        let clear = and_parts queues hosts two.1 in (
          op,
          record {
            next = record { later = later; there = there; left = left; can = one.0; quiet = or_cases none (nobody_asks w) two.0 };
            queues = clear.0;
            hosts = clear.1;
          },
        )

pub at_apart : (at : QueueAt) (w : State) (op : OpLabel) → StandsApart at w op → is_at_apart at w ≡ true
at_apart at w op a =
    let none = ends_no_batch (labels_of w) w.work at op in
    let can = can_perform (labels_of w) w.work at op in
    let queues = queues_are_clear w at op (queue_count w.config) in
    let hosts = list_all (host_is_clear w at op) w.hosts in
    and_from (is_there w at) (begins_apart w at (ops_left w (labels_of w) at)) a.next.there
    (ap (begins_apart w at) a.next.left
    ∙ and_from can ((none || nobody_asks w) && (queues && hosts)) a.next.can
    (and_from (none || nobody_asks w) (queues && hosts) (or_from none (nobody_asks w) a.next.quiet) (and_from queues hosts a.queues a.hosts)))

-- ## What it says of a queue

clear_at : (w : State) (at : QueueAt) (op : OpLabel) (n k : ℕ) → queues_are_clear w at op n ≡ true → k < n → queue_is_clear w at op (at_seat k) ≡ true
clear_at w at op zero k e low = absurd (omega (arith, low))
clear_at w at op (suc n) k e low =
    let parts = and_parts (queue_is_clear w at op (at_seat n)) (queues_are_clear w at op n) e in
    elim (cases_eq k n) [
      | inl same ↦ subst (λ m. queue_is_clear w at op (at_seat m) ≡ true) (sym same) parts.0
      | inr other ↦ clear_at w at op n k parts.1 (omega (arith, low, other))
    ]

pub behind_all : {X : Type 0} (xs ys : List X) → drop (length xs) (xs ++ ys) ≡ ys
behind_all xs ys = drop-append-le (length xs) xs ys (omega arith) ∙ ap (λ zs. zs ++ ys) (drop_all (length xs) xs (omega arith))

-- the next operation of another queue doesn't conflict with it
pub next_apart : (at : QueueAt) (w : State) (op : OpLabel) → StandsApart at w op → IsLegalState w → (q : QueueAt) (x : OpLabel) (later : List OpLabel) → same_queue at q ≡ false → is_there w q ≡ true
    → ops_left w (labels_of w) q ≡ x ∷ later → ops_conflict at.device op q.device x ≡ false
next_apart at w op a l q x later differ there left =
    let s = has_seat w q there in
    let clear : queue_is_clear w at op q ≡ true = subst (λ (r : QueueAt). queue_is_clear w at op r ≡ true) s.same (clear_at w at op (queue_count w.config) (seat q) a.queues s.low) in
    let next = next_of_all w q x later l.kept.prefix left in
    let to_come : ops_to_come w q ≡ x ∷ next.later = ap (drop (length (performed q w.work))) next.split ∙ behind_all (performed q w.work) (x ∷ next.later) in
    let no = λ (y : OpLabel). not (ops_conflict at.device op q.device y) in
    let all : list_all no (x ∷ next.later) ≡ true = ap (list_all no) (sym to_come) ∙ (ap (λ (b : Bool). b || list_all no (ops_to_come w q)) (sym differ) ∙ clear) in
    by (ops_conflict at.device op q.device x) (and_parts (no x) (list_all no next.later) all).0
  where
    by : (b : Bool) → not b ≡ true → b ≡ false
    by true e = cc
    by false e = refl

-- ## What keeps it

pub later_too : {X : Type 0} (p : X → Bool) (xs : List X) (n k : ℕ) → list_all p (drop n xs) ≡ true → list_all p (drop (n + k) xs) ≡ true
later_too p xs n zero all = let e : n + zero ≡ n = omega arith in ap (λ m. list_all p (drop m xs)) e ∙ all
later_too p xs n (suc k) all = let e : n + suc k ≡ suc (n + k) = omega arith in ap (λ m. list_all p (drop m xs)) e ∙ all_behind p xs (n + k) (later_too p xs n k all)

pub all_same : {X : Type 0} (p q : X → Bool) (xs : List X) → ((x : X) → p x ≡ q x) → list_all p xs ≡ list_all q xs
all_same p q [] same = refl
all_same p q (x ∷ xs) same = ap₂ (λ a b. a && b) (same x) (all_same p q xs same)

-- what a list has, and more behind it
all_rest : {X : Type 0} (p : X → Bool) (xs : List X) (n : ℕ) → list_all p xs ≡ true → list_all p (drop n xs) ≡ true
all_rest p xs zero all = all
all_rest p [] (suc n) all = refl
all_rest p (x ∷ xs) (suc n) all = all_rest p xs n (and_parts (p x) (list_all p xs) all).1

all_and_more : {X : Type 0} (p : X → Bool) (xs ys : List X) (n : ℕ) → list_all p (drop n xs) ≡ true → list_all p ys ≡ true → list_all p (drop n (xs ++ ys)) ≡ true
all_and_more p [] ys n all more = all_rest p ys n more
all_and_more p (x ∷ xs) ys zero all more =
    let parts = and_parts (p x) (list_all p xs) all in
    and_from (p x) (list_all p (xs ++ ys)) parts.0 (all_and_more p xs ys zero parts.1 more)
all_and_more p (x ∷ xs) ys (suc n) all more = all_and_more p xs ys n all more

-- Batches that are placed behind those of a queue don't conflict with the operation.
pub record AddsClear (at : QueueAt) (w s : State) (op : OpLabel) (q : QueueAt) : Type 0 where
  pub more : List Label
  pub is : on_queue q (labels_of s) ≡ on_queue q (labels_of w) ++ more
  pub clear : list_all (λ (y : OpLabel). not (ops_conflict at.device op q.device y)) (ops_of more) ≡ true

-- where none is placed
pub adds_none : (at : QueueAt) (w s : State) (op : OpLabel) → labels_of s ≡ labels_of w → (q : QueueAt) → AddsClear at w s op q
adds_none at w s op same q = record { more = []; is = ap (on_queue q) same ∙ sym (append-nil (on_queue q (labels_of w))); clear = refl }

module _ (at : QueueAt) (w s : State) (op : OpLabel) (l : LeavesTest at w s) (adds : (q : QueueAt) → AddsClear at w s op q) where
  queue_kept : (q : QueueAt) → queue_is_clear w at op q ≡ true → queue_is_clear s at op q ≡ true
  queue_kept q e =
      let no = λ (y : OpLabel). not (ops_conflict at.device op q.device y) in
      let before = on_queue q (labels_of w) in
      let all = ops_of before in
      let n = length (performed q w.work) in
      let m = length (performed q s.work) in
      let further : n + (m - n) ≡ m = omega (arith, l.done q) in
      let now : ops_of (on_queue q (labels_of s)) ≡ all ++ ops_of (adds q).more = ap ops_of (adds q).is ∙ ops_of-append before (adds q).more in
      or_from (same_queue at q) (list_all no (ops_to_come s q)) (elim (or_cases (same_queue at q) (list_all no (ops_to_come w q)) e) [
        | inl same ↦ inl same
        | inr clear ↦ inr
            (ap (λ (ops : List OpLabel). list_all no (drop m ops)) now
            ∙ all_and_more no all (ops_of (adds q).more) m (ap (λ k. list_all no (drop k all)) (sym further) ∙ later_too no all n (m - n) clear) (adds q).clear)
      ])

  queues_kept : (n : ℕ) → queues_are_clear w at op n ≡ true → queues_are_clear s at op n ≡ true
  queues_kept zero e = refl
  queues_kept (suc n) e =
      let parts = and_parts (queue_is_clear w at op (at_seat n)) (queues_are_clear w at op n) e in
      and_from (queue_is_clear s at op (at_seat n)) (queues_are_clear s at op n) (queue_kept (at_seat n) parts.0) (queues_kept n parts.1)

  module _ (a : StandsApart at w op) where
    -- the queue has performed as many batches
    done_same : whole_batches (on_queue at (labels_of s)) (length (performed at s.work)) ≡ whole_batches (on_queue at (labels_of w)) (length (performed at w.work))
    done_same =
        ap₂ (λ (ls : List Label) (ops : List OpLabel). whole_batches ls (length ops)) (adds at).is l.same
        ∙ whole_stays (on_queue at (labels_of w)) (adds at).more (length (performed at w.work)) (next_placed at w op (record { later = a.next.later; left = a.next.left; can = a.next.can }))

    waits_same : (p : Phase) → waits_for s at p ≡ waits_for w at p
    waits_same phase.Ready = refl
    waits_same (phase.Waits device counts) = ap (λ n. (device == at.device) && nat_lt n (slice_index_or counts at.queue 0)) done_same
    waits_same (phase.Asks device counts) = refl
    waits_same (phase.Refused fault) = refl

    -- such an operation goes on to stand apart, where the hosts are clear of it
    pub apart_kept : list_all (host_is_clear w at op) s.hosts ≡ true → is_at_apart at s ≡ true
    apart_kept clear = at_apart at s op (record {
      next = standing_kept at w s op a.next l;
      queues = ap (λ (c : Configuration). queues_are_clear s at op (queue_count c)) l.config ∙ queues_kept (queue_count w.config) a.queues;
      hosts = all_same (host_is_clear s at op) (host_is_clear w at op) s.hosts (λ host. ap (λ (b : Bool). b || keeps_clear op host) (waits_same host.phase)) ∙ clear;
    })
