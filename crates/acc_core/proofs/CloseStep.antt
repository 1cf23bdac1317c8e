-- To close all queues at once is to close them in turn: the close of one leaves the others as they are.
use Rattle.std.proofs.Common.{inl, inr, ◌≡◌, ℕ, zero, suc, ◌+◌, ◌<◌, ◌≤◌, Bool, true, false, cond, [], ◌∷◌, ◌++◌, refl, sym, ap, ◌∙◌, arith}
use Rattle.std.specs.Prelude.{◌||◌}
use Rattle.std.proofs.lemmas.Bool.{cases_Bool}
use Rattle.std.proofs.lemmas.List.{append-nil}
use Rattle.acc_place.specs.Closing.{left_open}
use Rattle.acc_base.specs.declared.ids.QueueAt.{QueueAt}
use Rattle.acc_base.specs.Queues.{queue_count, same_queue, seat, at_seat}
use Rattle.acc_base.proofs.SameQueue.{same_queue_is}
use Rattle.acc_batch.specs.Awaits.{close_label}
use Rattle.acc_batch.specs.Labels.{on_queue}
use Rattle.acc_batch.proofs.Labels.{on_queue-append}
use Rattle.acc_host.specs.declared.state.Reply.TheVariants as reply
use Rattle.acc_place.specs.declared.directive.PlaceEntry.TheVariants as noted
use Rattle.acc_place.specs.Histories.{is_closed}
use Rattle.acc_core.specs.inner.Closing.{closing_begun, can_close_now, closes_all, closes_one, close_in_turn}
use Rattle.acc_core.specs.Machine.{State, can_close, close_step, closes, labels_of, standing_of, stay_open, with_closing}
use Rattle.acc_place.proofs.LeftOpen.{place_seat}
use Rattle.acc_core.proofs.ClosesOne.{begins_closed, begins_labels, closed_at, closed_then, closes_did, closes_idle, is_closed_then, labels_closed, left_next}

-- what stands on a queue is as before, but for the history
record IsAsBefore (v w : State) (at : QueueAt) : Type 0 where
  closed : is_closed (standing_of v) at ≡ is_closed (standing_of w) at
  labels : on_queue at (labels_of v) ≡ on_queue at (labels_of w)

apart : (n m : ℕ) → n < m → same_queue (at_seat n) (at_seat m) ≡ false
apart n m less = elim (cases_Bool (same_queue (at_seat n) (at_seat m))) [
  | inl same ↦ (let here : n ≡ m = sym (place_seat n) ∙ (ap seat (same_queue_is (at_seat n) (at_seat m) same) ∙ place_seat m) in absurd (omega (arith, less, here)))
  | inr differ ↦ differ
]

-- the close of one queue, for another
another : (v : State) (at other : QueueAt) → same_queue at other ≡ false → IsAsBefore (closed_at v at) v other
another v at other differ = record {
  closed = closed_then v at other ∙ rw differ refl;
  labels =
      let none : on_queue other (close_label at (labels_of v) ∷ []) ≡ [] = rw differ refl in
      ap (on_queue other) (labels_closed v at)
      ∙ (on_queue-append other (labels_of v) (close_label at (labels_of v) ∷ []) ∙ (ap (λ ls. on_queue other (labels_of v) ++ ls) none ∙ append-nil (on_queue other (labels_of v))));
}

-- the queues behind the first n
behind : (w : State) (n m : ℕ) → n ≤ m → IsAsBefore (closes_all w n) w (at_seat m)
behind w zero m low = record { closed = refl; labels = refl }
behind w (suc n) m low =
    let v = closes_all w n in
    let before = behind w n m (omega (arith, low)) in
    elim (cases_Bool (can_close_now v (at_seat n))) [
      | inl can ↦
          let one = another v (at_seat n) (at_seat m) (apart n m (omega (arith, low))) in
          rw (closes_did v (at_seat n) can) (record { closed = one.closed ∙ before.closed; labels = one.labels ∙ before.labels })
      | inr full ↦ rw (closes_idle v (at_seat n) full) before
    ]

-- as closing began: it closes no queue
begun_as : (w : State) (at : QueueAt) → IsAsBefore (closing_begun w) w at
begun_as w at = record { closed = begins_closed w at; labels = ap (on_queue at) (begins_labels w) }

all_config : (w : State) (n : ℕ) → (closes_all w n).config ≡ w.config
all_config w zero = refl
all_config w (suc n) = all_config w n

all_taken : (w : State) (n : ℕ) → (closes_all w n).taken ≡ w.taken
all_taken w zero = refl
all_taken w (suc n) = all_taken w n

-- so whether the next queue can be closed is known from the start
can_same : (w : State) (n : ℕ) → can_close_now (closes_all (closing_begun w) n) (at_seat n) ≡ can_close w (standing_of w) (at_seat n)
can_same w n =
    let v = closes_all (closing_begun w) n in
    let at = at_seat n in
    let before = behind (closing_begun w) n n (omega arith) in
    let start = begun_as w at in
    let closed : is_closed (standing_of v) at ≡ is_closed (standing_of w) at = before.closed ∙ start.closed in
    let labels : on_queue at (labels_of v) ≡ on_queue at (labels_of w) = before.labels ∙ start.labels in
    rw (closed, labels, all_taken (closing_begun w) n, all_config (closing_begun w) n) refl

-- the history, and how many queues stay open
history_same : (w : State) (n : ℕ) → (closes_all (closing_begun w) n).history ≡ closes w (standing_of w) n ++ with_closing (standing_of w) w.history
history_same w zero = refl
history_same w (suc n) = rw (can_same w n) (by_room (can_close w (standing_of w) (at_seat n)) (history_same w n))
  where
    by_room : (b : Bool) → (closes_all (closing_begun w) n).history ≡ closes w (standing_of w) n ++ with_closing (standing_of w) w.history
        → cond b (noted.Closed (at_seat n) ∷ (closes_all (closing_begun w) n).history) (closes_all (closing_begun w) n).history
        ≡ cond b (noted.Closed (at_seat n) ∷ closes w (standing_of w) n) (closes w (standing_of w) n) ++ with_closing (standing_of w) w.history
    by_room true same = ap (λ h. noted.Closed (at_seat n) ∷ h) same
    by_room false same = same

closed_next : (w : State) (n : ℕ) → is_closed (standing_of (closes_one (closes_all (closing_begun w) n) (at_seat n))) (at_seat n) ≡ (is_closed (standing_of w) (at_seat n) || can_close w (standing_of w) (at_seat n))
closed_next w n =
    let v = closes_all (closing_begun w) n in
    let at = at_seat n in
    let closed : is_closed (standing_of v) at ≡ is_closed (standing_of w) at = (behind (closing_begun w) n n (omega arith)).closed ∙ (begun_as w at).closed in
    elim (cases_Bool (can_close w (standing_of w) at)) [
      | inl can ↦ ap (λ x. is_closed (standing_of x) at) (closes_did v at (can_same w n ∙ can)) ∙ (is_closed_then v at ∙ sym (rw can (or_true (is_closed (standing_of w) at))))
      | inr full ↦ ap (λ x. is_closed (standing_of x) at) (closes_idle v at (can_same w n ∙ full)) ∙ (closed ∙ sym (rw full (or_false (is_closed (standing_of w) at))))
    ]
  where
    or_true : (b : Bool) → (b || true) ≡ true
    or_true true = refl
    or_true false = refl

    or_false : (b : Bool) → (b || false) ≡ b
    or_false true = refl
    or_false false = refl

open_same : (w : State) (n : ℕ) → left_open (standing_of (closes_all (closing_begun w) n)) n ≡ stay_open w (standing_of w) n
open_same w zero = refl
open_same w (suc n) =
    let v = closes_all (closing_begun w) n in
    let b = is_closed (standing_of w) (at_seat n) || can_close w (standing_of w) (at_seat n) in
    let more : suc n ≡ n + 1 = omega arith in
    ap (left_open (standing_of (closes_one v (at_seat n)))) more
    ∙ (left_next v n b (sym (closed_next w n)) ∙ ap (λ k. cond b k (k + 1)) (open_same w n))

-- At once, or in turn.
pub close_is : (w : State) → close_step w (standing_of w) ≡ close_in_turn w
close_is w =
    let n = queue_count w.config in
    let history = history_same w n in
    let left = open_same w n in
    ap (λ h. record { reply = reply.Remaining (stay_open w (standing_of w) n); state = record w { history = h } }) (sym history)
    ∙ (ap (λ k. record { reply = reply.Remaining k; state = record w { history = (closes_all (closing_begun w) n).history } }) (sym left)
    ∙ ap (λ v. record { reply = reply.Remaining (left_open (standing_of (closes_all (closing_begun w) n)) n); state = v }) (with_history w n))
  where
    with_history : (w : State) (n : ℕ) → record w { history = (closes_all (closing_begun w) n).history } ≡ closes_all (closing_begun w) n
    with_history w zero = refl
    with_history w (suc n) = ap {A = State} (λ v. record v { history = (closes_all (closing_begun w) (suc n)).history }) (with_history w n)
