-- The lanes of all queues, of which one changes, and the batches that they took.
use Rattle.std.proofs.Common.{inl, inr, ◌≡◌, ℕ, zero, suc, ◌+◌, ◌-◌, ◌*◌, ◌<◌, ◌≤◌, true, false, cond, List, [], ◌∷◌, ◌++◌, length, refl, sym, ap, subst, ◌∙◌, arith}
use Rattle.std.specs.Prelude.{All, nat_lt, slice_index_or, slice_set}
use Rattle.std.proofs.lemmas.Bool.{cases_Bool, cases_lt}
use Rattle.std.proofs.lemmas.List.{append-nil}
use Rattle.std.proofs.lemmas.List.Elements.{All-head, All-tail}
use Rattle.acc_base.specs.declared.ids.QueueAt.{QueueAt}
use Rattle.acc_base.specs.declared.ids.TheConstants.{QUEUES}
use Rattle.acc_base.specs.Queues.{same_queue, seat}
use Rattle.acc_base.proofs.SameQueue.{same_queue_is}
use Rattle.acc_batch.specs.declared.label.Label.{Label}
use Rattle.acc_batch.specs.Labels.{on_queue, AllAt}
use Rattle.acc_batch.proofs.Labels.{on_queue-append}
use Rattle.acc_batch.proofs.Seats.{each_seat, one_seat, seat_absent, seat_found, seat_there}
use Rattle.acc_work.specs.Lanes.{LaneView, IsFresh, no_lane, lane_in, lanes_with, all_taken}

-- ## One lane

-- the seat of a queue that is there is that of a lane
pub seat_low : (at : QueueAt) (devices count : ℕ) → at.device < devices → at.queue < QUEUES → count ≡ devices * QUEUES → seat at < count
seat_low at devices count device queue all = omega (arith, device, queue, all)

-- and its lane is what stands there
pub lane_there : (lanes : List LaneView) (at : QueueAt) → at.queue < QUEUES → lane_in lanes at ≡ slice_index_or lanes (seat at) no_lane
lane_there lanes at low = seat_there no_lane lanes at low

pub found : (lanes : List LaneView) (at : QueueAt) (lane : LaneView) → at.queue < QUEUES → seat at < length lanes → lane ≡ slice_index_or lanes (seat at) lane → lane ≡ lane_in lanes at
found lanes at lane low there is = seat_found no_lane lanes at lane low there is

-- One queue's lane is set, and the others go on to have what is wanted.
pub each_lane : (P Q : QueueAt → LaneView → Type 0) (lanes : List LaneView) (at : QueueAt) (new : LaneView) → at.queue < QUEUES → seat at < length lanes → ((other : QueueAt) → P other (lane_in lanes other))
    → Q at new → ((other : QueueAt) → same_queue at other ≡ false → (lane : LaneView) → P other lane → Q other lane) → (other : QueueAt) → Q other (lane_in (lanes_with lanes at new) other)
each_lane P Q lanes at new low there all mine others other = each_seat P Q no_lane lanes at new low there all mine others other

-- lanes that took nothing yet
pub fresh_lane : (lanes : List LaneView) (at : QueueAt) → All IsFresh lanes → IsFresh (lane_in lanes at)
fresh_lane lanes at h = elim (nat_lt at.queue QUEUES) as (λ v. IsFresh (cond v (slice_index_or lanes (seat at) no_lane) no_lane)) [ true ↦ each lanes (seat at) h | false ↦ none ]
  where
    none : IsFresh no_lane
    none = record { taken = refl; left = refl; in_place = refl }

    each : (ls : List LaneView) (n : ℕ) → All IsFresh ls → IsFresh (slice_index_or ls n no_lane)
    each [] n all = none
    each (l ∷ ls) zero all = All-head IsFresh l ls all
    each (l ∷ ls) (suc n) all = each ls n (All-tail IsFresh l ls all)

-- ## All batches that were taken

-- where a lane's batches stay, all of them do
pub taken_kept : (lanes : List LaneView) (n : ℕ) (new : LaneView) → new.taken ≡ (slice_index_or lanes n no_lane).taken → all_taken (slice_set lanes n new) ≡ all_taken lanes
taken_kept [] n new e = refl
taken_kept (l ∷ ls) zero new e = ap (λ r. r ++ all_taken ls) e
taken_kept (l ∷ ls) (suc n) new e = ap (λ r. l.taken ++ r) (taken_kept ls n new e)

pub taken_with : (lanes : List LaneView) (at : QueueAt) (new : LaneView) → at.queue < QUEUES → new.taken ≡ (lane_in lanes at).taken → all_taken (lanes_with lanes at new) ≡ all_taken lanes
taken_with lanes at new low e = taken_kept lanes (seat at) new (e ∙ ap (λ (l : LaneView). l.taken) (lane_there lanes at low))

-- labels of the queue at this place
abbrev OnSeat : ℕ → List Label → Type 0
OnSeat n [] = Unit {0}
OnSeat n (l ∷ ls) = (seat l.at ≡ n) × (l.at.queue < QUEUES) × OnSeat n ls

abbrev EachOn : ℕ → List LaneView → Type 0
EachOn n [] = Unit {0}
EachOn n (l ∷ ls) = OnSeat n l.taken × EachOn (n + 1) ls

on_seat : (at : QueueAt) (labels : List Label) → at.queue < QUEUES → AllAt at labels → OnSeat (seat at) labels
on_seat at [] low h = tt
on_seat at (l ∷ ls) low h = (ap seat h.0, rw h.0 low, on_seat at ls low h.1)

-- a queue has these labels, or none of them
seat_here : (at : QueueAt) (labels : List Label) → at.queue < QUEUES → OnSeat (seat at) labels → on_queue at labels ≡ labels
seat_here at [] low h = refl
seat_here at (l ∷ ls) low h = rw (one_seat l.at at h.1 low h.0) (ap (λ r. l ∷ r) (seat_here at ls low h.2))

seat_away : (at : QueueAt) (n : ℕ) (labels : List Label) → (seat at ≡ n → ⊥) → OnSeat n labels → on_queue at labels ≡ []
seat_away at n [] apart h = refl
seat_away at n (l ∷ ls) apart h = elim (cases_Bool (same_queue l.at at)) [
  | inl same ↦ absurd (apart (ap seat (sym (same_queue_is l.at at same)) ∙ h.0))
  | inr differ ↦ rw differ (seat_away at n ls apart h.2)
]

none_before : (at : QueueAt) (n : ℕ) (lanes : List LaneView) → seat at < n → EachOn n lanes → on_queue at (all_taken lanes) ≡ []
none_before at n [] low h = refl
none_before at n (l ∷ ls) low h =
    on_queue-append at l.taken (all_taken ls)
    ∙ (ap (λ r. r ++ on_queue at (all_taken ls)) (seat_away at n l.taken (λ e. absurd (omega (arith, low, e))) h.0) ∙ none_before at (n + 1) ls (omega (arith, low)) h.1)

among : (at : QueueAt) (n k : ℕ) (lanes : List LaneView) → at.queue < QUEUES → seat at ≡ n + k → EachOn n lanes → on_queue at (all_taken lanes) ≡ (slice_index_or lanes k no_lane).taken
among at n k [] low e h = refl
among at n zero (l ∷ ls) low e h =
    let here : seat at ≡ n = omega (arith, e) in
    on_queue-append at l.taken (all_taken ls)
    ∙ (ap (λ r. r ++ on_queue at (all_taken ls)) (seat_here at l.taken low (subst (λ s. OnSeat s l.taken) (sym here) h.0))
    ∙ (ap (λ r. l.taken ++ r) (none_before at (n + 1) ls (omega (arith, here)) h.1) ∙ append-nil l.taken))
among at n (suc k) (l ∷ ls) low e h =
    on_queue-append at l.taken (all_taken ls)
    ∙ (ap (λ r. r ++ on_queue at (all_taken ls)) (seat_away at n l.taken (λ same. absurd (omega (arith, e, same))) h.0) ∙ among at (n + 1) k ls low (omega (arith, e)) h.1)

-- a queue that isn't there has none
no_seat : (at : QueueAt) (n : ℕ) (labels : List Label) → QUEUES ≤ at.queue → OnSeat n labels → on_queue at labels ≡ []
no_seat at n [] past h = refl
no_seat at n (l ∷ ls) past h = elim (cases_Bool (same_queue l.at at)) [
  | inl same ↦ (let e = ap (λ (q : QueueAt). q.queue) (same_queue_is l.at at same) in absurd (omega (arith, e, past, h.1)))
  | inr differ ↦ rw differ (no_seat at n ls past h.2)
]

none_past : (at : QueueAt) (n : ℕ) (lanes : List LaneView) → QUEUES ≤ at.queue → EachOn n lanes → on_queue at (all_taken lanes) ≡ []
none_past at n [] past h = refl
none_past at n (l ∷ ls) past h =
    on_queue-append at l.taken (all_taken ls) ∙ (ap (λ r. r ++ on_queue at (all_taken ls)) (no_seat at n l.taken past h.0) ∙ none_past at (n + 1) ls past h.1)

-- each place among the queues of all devices is a queue's seat
record Seated (n : ℕ) : Type 0 where
  at : QueueAt
  here : seat at ≡ n
  queue : at.queue < QUEUES

seated : (devices n : ℕ) → n < devices * QUEUES → Seated n
seated zero n h = absurd (omega (arith, h))
seated (suc d) n h = elim (cases_lt n QUEUES) [
  | inl low ↦ record { at = record { device = 0; queue = n }; here = omega arith; queue = low }
  | inr high ↦
      let s = seated d (n - QUEUES) (omega (arith, h, high)) in
      record { at = record { device = s.at.device + 1; queue = s.at.queue }; here = (let e = s.here in omega (arith, e, high)); queue = s.queue }
]

each_on : (n : ℕ) (lanes : List LaneView) → ((k : ℕ) → k < length lanes → OnSeat (n + k) (slice_index_or lanes k no_lane).taken) → EachOn n lanes
each_on n [] h = tt
each_on n (l ∷ ls) h = (
  (let same : n + 0 ≡ n = omega arith in subst (λ s. OnSeat s l.taken) same (h 0 (omega arith))),
  each_on (n + 1) ls (λ k low. let same : n + suc k ≡ n + 1 + k = omega arith in subst (λ s. OnSeat s (slice_index_or ls k no_lane).taken) same (h (suc k) (omega (arith, low)))),
)

-- A queue's batches among all that were taken are those of its lane.
pub taken_on : (lanes : List LaneView) (devices : ℕ) → length lanes ≡ devices * QUEUES → ((at : QueueAt) → AllAt at (lane_in lanes at).taken) → (at : QueueAt) → on_queue at (all_taken lanes) ≡ (lane_in lanes at).taken
taken_on lanes devices count all at = elim (cases_lt at.queue QUEUES) [
  | inl low ↦ among at 0 (seat at) lanes low (omega arith) each ∙ ap (λ (l : LaneView). l.taken) (sym (lane_there lanes at low))
  | inr past ↦ none_past at 0 lanes past each ∙ ap (λ (l : LaneView). l.taken) (sym (seat_absent no_lane lanes at past))
]
  where
    one : (k : ℕ) → k < length lanes → OnSeat k (slice_index_or lanes k no_lane).taken
    one k low =
        let s = seated devices k (omega (arith, low, count)) in
        let here = on_seat s.at (slice_index_or lanes (seat s.at) no_lane).taken s.queue (subst (λ (l : LaneView). AllAt s.at l.taken) (lane_there lanes s.at s.queue) (all s.at)) in
        subst (λ n. OnSeat n (slice_index_or lanes n no_lane).taken) s.here here

    each : EachOn 0 lanes
    each = each_on 0 lanes (λ k low. let same : k ≡ 0 + k = omega arith in subst (λ n. OnSeat n (slice_index_or lanes k no_lane).taken) same (one k low))
