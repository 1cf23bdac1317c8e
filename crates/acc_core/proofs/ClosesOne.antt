-- Queues that are closed in turn: which are closed then, and how many are left.
use Rattle.std.proofs.Common.{◌≡◌, ℕ, suc, ◌+◌, ◌<◌, ◌≤◌, Bool, true, false, cond, [], ◌∷◌, ◌++◌, refl, sym, ap, ◌∙◌, arith}
use Rattle.std.specs.Prelude.{◌||◌}
use Rattle.acc_place.specs.Closing.{left_open}
use Rattle.acc_base.specs.declared.ids.QueueAt.{QueueAt}
use Rattle.acc_base.specs.declared.ids.TheConstants.{QUEUES}
use Rattle.acc_base.specs.Queues.{same_queue, seat, at_seat}
use Rattle.acc_base.proofs.SameQueue.{same_queue_itself}
use Rattle.acc_batch.specs.Awaits.{close_label}
use Rattle.acc_place.specs.declared.directive.PlaceEntry.TheVariants as noted
use Rattle.acc_place.specs.Histories.{is_closed, standing}
use Rattle.acc_place.specs.Standings.{Standing}
use Rattle.acc_core.specs.inner.Closing.{closing_begun, can_close_now, closes_one, closes_all}
use Rattle.acc_core.specs.Machine.{State, labels_of, standing_of}
use Rattle.acc_place.proofs.LeftOpen.{place_seat}
use Rattle.acc_place.proofs.LeftOpen.{left_past}

abbrev pub closed_at : State → QueueAt → State
closed_at w at = record w { history = noted.Closed at ∷ w.history }

pub labels_closed : (w : State) (at : QueueAt) → labels_of (closed_at w at) ≡ labels_of w ++ close_label at (labels_of w) ∷ []
unfolding standing
labels_closed w at = refl

pub closed_then : (w : State) (at other : QueueAt) → is_closed (standing_of (closed_at w at)) other ≡ (same_queue at other || is_closed (standing_of w) other)
unfolding standing
closed_then w at other = refl

-- Closing begins.
pub begins_labels : (w : State) → labels_of (closing_begun w) ≡ labels_of w
unfolding standing
begins_labels w = elim (standing_of w).closing as (λ b. (standing w.config (cond b w.history (noted.Closing ∷ w.history)) w.counts).labels ≡ labels_of w) [ true ↦ refl | false ↦ refl ]

pub begins_closed : (w : State) (at : QueueAt) → is_closed (standing_of (closing_begun w)) at ≡ is_closed (standing_of w) at
unfolding standing
begins_closed w at = elim (standing_of w).closing as (λ b. is_closed (standing w.config (cond b w.history (noted.Closing ∷ w.history)) w.counts) at ≡ is_closed (standing_of w) at) [ true ↦ refl | false ↦ refl ]

pub closes_idle : (w : State) (at : QueueAt) → can_close_now w at ≡ false → closes_one w at ≡ w
closes_idle w at e = rw e refl

pub closes_did : (w : State) (at : QueueAt) → can_close_now w at ≡ true → closes_one w at ≡ closed_at w at
closes_did w at e = rw e refl

pub is_closed_then : (w : State) (at : QueueAt) → is_closed (standing_of (closed_at w at)) at ≡ true
is_closed_then w at = closed_then w at at ∙ rw (same_queue_itself at) refl

pub all_more : (w : State) (n : ℕ) → closes_all w (n + 1) ≡ closes_one (closes_all w n) (at_seat n)
all_more w n = (let e : n + 1 ≡ suc n = omega arith in ap (closes_all w) e)

left_kept : (w : State) (at : QueueAt) (n : ℕ) → at.queue < QUEUES → n ≤ seat at → left_open (standing_of (closes_one w at)) n ≡ left_open (standing_of w) n
unfolding standing
left_kept w at n low past = by_room (can_close_now w at)
  where
    by_room : (b : Bool) → left_open (standing w.config (cond b (noted.Closed at ∷ w.history) w.history) w.counts) n ≡ left_open (standing_of w) n
    by_room true = left_past (standing_of w) at n low past
    by_room false = refl

left_here : (st : Standing) (n : ℕ) (b : Bool) → is_closed st (at_seat n) ≡ b → left_open st (n + 1) ≡ cond b (left_open st n) (left_open st n + 1)
left_here st n b e = (let more : n + 1 ≡ suc n = omega arith in ap (left_open st) more ∙ ap (λ x. cond x (left_open st n) (left_open st n + 1)) e)

-- the queue at the next place is closed then, or left
pub left_next : (w : State) (n : ℕ) (b : Bool) → b ≡ is_closed (standing_of (closes_one w (at_seat n))) (at_seat n)
    → left_open (standing_of (closes_one w (at_seat n))) (n + 1) ≡ cond b (left_open (standing_of w) n) (left_open (standing_of w) n + 1)
left_next w n b e =
    let kept = left_kept w (at_seat n) n (omega arith) (omega (arith, place_seat n)) in
    left_here (standing_of (closes_one w (at_seat n))) n b (sym e) ∙ ap (λ k. cond b k (k + 1)) kept

-- how many are left behind one more turn
pub turn_left : (w new : State) (n remaining next : ℕ) (b : Bool) (at : QueueAt) → at ≡ at_seat n → new ≡ closes_one w at → b ≡ is_closed (standing_of new) at → remaining ≡ left_open (standing_of w) n → next ≡ cond b remaining (remaining + 1)
    → next ≡ left_open (standing_of new) (n + 1)
turn_left w new n remaining next b at here is told before counted =
    let made : new ≡ closes_one w (at_seat n) = is ∙ ap (closes_one w) here in
    let now : b ≡ is_closed (standing_of (closes_one w (at_seat n))) (at_seat n) = told ∙ (ap (is_closed (standing_of new)) here ∙ ap (λ v. is_closed (standing_of v) (at_seat n)) made) in
    counted ∙ (ap (λ k. cond b k (k + 1)) before ∙ (sym (left_next w n b now) ∙ ap (λ v. left_open (standing_of v) (n + 1)) (sym made)))
