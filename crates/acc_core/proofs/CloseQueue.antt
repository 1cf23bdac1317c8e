-- A queue is closed: its last batch joins the queue, for which there is room.
use Rattle.std.proofs.Common.{inl, inr, ◌≡◌, ℕ, zero, suc, ◌<◌, ◌≤◌, Bool, true, false, cond, List, [], ◌∷◌, length, None, Some, refl, sym, ap, subst, ◌∙◌, arith}
use Rattle.std.specs.Prelude.{All, not, nat_lt, ◌&&◌, ◌||◌, slice_index_or, slice_set}
use Rattle.std.proofs.lemmas.Bool.{and_parts, cases_Bool, le-ltb, lt-ltb}
use Rattle.std.proofs.lemmas.List.{get_or-set_other}
use Rattle.std.proofs.lemmas.List.Elements.{All-get_or}
use Rattle.acc_base.specs.declared.ids.QueueAt.{QueueAt}
use Rattle.acc_base.specs.declared.ids.TheConstants.{QUEUES}
use Rattle.acc_base.specs.Queues.{queue_count, same_queue, seat}
use Rattle.acc_base.proofs.SameQueue.{same_queue_is, same_queue_itself}
use Rattle.acc_batch.specs.declared.label.Label.{Label}
use Rattle.acc_batch.specs.Awaits.{close_label}
use Rattle.acc_batch.proofs.Seats.{each_seat, one_seat, seat_there}
use Rattle.acc_place.specs.declared.directive.PlaceEntry.TheVariants as noted
use Rattle.acc_place.specs.Closing.{place_after_begin, place_after_close, handed_back, handed_out, is_at_hand, IsCloseOut}
use Rattle.acc_place.specs.Accepting.{refusal}
use Rattle.acc_base.specs.declared.fault.Fault.TheVariants.{Closed}
use Rattle.acc_place.specs.Histories.{is_closed, standing, CanClose, IsQueue}
use Rattle.acc_core.specs.Legality.{IsLegalState}
use Rattle.acc_place.specs.Directives.{Directive}
use Rattle.acc_place.specs.Plans.{PlaceView, standing_in}
use Rattle.acc_place.proofs.AcceptedDirective.{refused_closing}
use Rattle.acc_place.proofs.LastClose.{none_closed}
use Rattle.acc_work.specs.Works.{WorkView}
use Rattle.acc_core.specs.inner.Closing.{closing_begun, can_close_now}
use Rattle.acc_core.specs.Machine.{State, batches_held, labels_of, standing_of}
use Rattle.acc_core.specs.inner.Queues.{QueueView, empty_queue, held_with, no_queue, queue_in, queues_with}
use Rattle.acc_core.specs.inner.Ties.{HasCloses, HasPlaces, Queued, IsAccelerator}
use Rattle.acc_core.proofs.ClosedState.{legal_begins, legal_closed}
use Rattle.acc_core.proofs.Accept.{queued_more, queued_same}
use Rattle.acc_core.proofs.Seats.{IsSeated}
use Rattle.acc_core.proofs.TakeBatch.{held_is, with_taken}
use Rattle.acc_core.proofs.ClosesOne.{begins_labels, closed_at, labels_closed}

-- An accelerator of which a queue is closed.
pub keeps_closed : (w : State) (v : WorkView) (queues : List QueueView) (at : QueueAt) (b : Label) (new : QueueView) → new.held ≡ held_with (queue_in queues at) b → IsAccelerator w v queues → IsSeated w.config.devices v queues at → CanClose w.config (standing_of w) at → b ≡ close_label at (labels_of w)
    → length (queue_in queues at).held < w.config.room → IsAccelerator (closed_at w at) v (queues_with queues at new)
keeps_closed w v queues at b new pushed a s can is fits =
    record {
      legal = legal_closed w at a.legal can;
      few_items = a.few_items;
      parts = queued_more w (closed_at w at) v queues (close_label at (labels_of w)) new (pushed ∙ ap (held_with (queue_in queues at)) is) s a.parts refl (labels_closed w at) (omega arith) (omega arith) fits;
      opening = a.opening;
    }

pub keeps_begun : (w : State) (v : WorkView) (queues : List QueueView) → IsAccelerator w v queues → IsAccelerator (closing_begun w) v queues
keeps_begun w v queues a =
    record {
      legal = legal_begins w a.legal;
      few_items = a.few_items;
      parts = queued_same w (closing_begun w) v queues refl (begins_labels w) a.parts;
      opening = a.opening;
    }

-- ## The closes at hand

abbrev standing_shown : PlaceView → QueueAt → Bool
standing_shown p at = is_closed (standing_in p) at

-- a place that has the same closes at hand, and the same queues closed
pub has_same : (p p' : PlaceView) → p'.config ≡ p.config → p'.closes ≡ p.closes → ((at : QueueAt) → standing_shown p' at ≡ standing_shown p at) → HasCloses p → HasCloses p'
has_same p p' config closes same h = λ at there. ap (λ bs. nat_lt at.queue QUEUES && slice_index_or bs (seat at) false) closes ∙ (h at (rw config at there) ∙ ap not (sym (same at)))

pub has_planned : (p p' : PlaceView) → p'.config ≡ p.config → p'.history ≡ p.history → p'.counts ≡ p.counts → p'.closes ≡ p.closes → HasCloses p → HasCloses p'
has_planned p p' config history counts closes h =
    has_same p p' config closes
    (λ at. ap (λ c. is_closed (standing c p'.history p'.counts) at) config ∙ (ap (λ xs. is_closed (standing p.config xs p'.counts) at) history ∙ ap (λ ns. is_closed (standing p.config p.history ns) at) counts)) h

pub has_accepted : (p : PlaceView) (host : ℕ) (d : Directive) (items_done : ℕ) → HasCloses p → HasCloses (record p { history = noted.Accepted host d ∷ p.history; counts = items_done ∷ p.counts })
unfolding standing
has_accepted p host d items_done h =
    has_same p (record p { history = noted.Accepted host d ∷ p.history; counts = items_done ∷ p.counts }) refl refl (λ at. refl) h

pub has_begun : (p : PlaceView) → HasCloses p → HasCloses (place_after_begin p)
unfolding standing
has_begun p h = has_same p (place_after_begin p) refl refl same h
  where
    same : (at : QueueAt) → standing_shown (place_after_begin p) at ≡ standing_shown p at
    same at =
        elim (standing_in p).closing as (λ b. is_closed (standing p.config (cond b p.history (noted.Closing ∷ p.history)) p.counts) at ≡ standing_shown p at) [ true ↦ refl | false ↦ refl ]

-- at first it has all
pub has_all : (p : PlaceView) → p.history ≡ [] → ((at : QueueAt) → IsQueue p.config at → is_at_hand p at ≡ true) → HasCloses p
unfolding standing
has_all p none all =
    let closed : (standing_in p).closed ≡ [] = rw none refl in
    λ at there. all at there ∙ sym (rw closed refl)

-- of the other queues, where one's goes or comes
at_hand_other : (p : PlaceView) (at other : QueueAt) (b : Bool) → at.queue < QUEUES → IsQueue p.config other → same_queue at other ≡ false
    → (nat_lt other.queue QUEUES && slice_index_or (slice_set p.closes (seat at) b) (seat other) false) ≡ is_at_hand p other
at_hand_other p at other b low there differ =
    let apart : seat other ≡ seat at → ⊥ = λ e. (let w : true ≡ false = sym (one_seat at other low there.1 (sym e)) ∙ differ in cc) in
    ap (λ x. nat_lt other.queue QUEUES && x) (get_or-set_other p.closes (seat at) (seat other) b false apart)

-- and one that is placed isn't
pub has_closed : (p : PlaceView) (at : QueueAt) → IsQueue p.config at → is_at_hand p at ≡ true → IsCloseOut (handed_out p at) at → HasCloses p → HasCloses (place_after_close (handed_out p at) at)
unfolding standing
has_closed p at there hand out h = λ other here. elim (cases_Bool (same_queue at other)) [
  | inl same ↦ subst (λ q. is_at_hand (handed_out p at) q ≡ not (same_queue at q || standing_shown p q)) (same_queue_is at other same) (rw (same_queue_itself at) out.given)
  | inr differ ↦ rw differ (rw hand (at_hand_other p at other false there.1 here differ) ∙ h other here)
]

pub can_now : (w : State) (v : WorkView) (queues : List QueueView) (at : QueueAt) → IsSeated w.config.devices v queues at → Queued w v queues → is_closed (standing_of w) at ≡ false → length (queue_in queues at).held < w.config.room
    → can_close_now (with_taken w v) at ≡ true
can_now w v queues at s q early fits =
    let e = held_is w v queues at (queue_in queues at) s (q.each at) in
    let yes : nat_lt (batches_held (with_taken w v) (labels_of w) at) w.config.room ≡ true = lt-ltb (batches_held (with_taken w v) (labels_of w) at) w.config.room (omega (arith, e, fits)) in
    rw (early, yes) refl

-- a close that comes back is at hand again, as if it had never gone
set_back : (closes : List Bool) (i : ℕ) → slice_index_or closes i false ≡ true → slice_set (slice_set closes i false) i true ≡ closes
set_back [] i hand = absurd cc
set_back (b ∷ bs) zero hand = ap (λ c. c ∷ bs) (sym hand)
set_back (b ∷ bs) (suc i) hand = ap (λ cs. b ∷ cs) (set_back bs i hand)

pub handed_both : (p : PlaceView) (at : QueueAt) → is_at_hand p at ≡ true → handed_back (handed_out p at) at ≡ p
handed_both p at hand =
    let there = and_parts (nat_lt at.queue QUEUES) (slice_index_or p.closes (seat at) false) hand in
    ap (λ b. record p { closes = slice_set (cond b (slice_set p.closes (seat at) false) p.closes) (seat at) true }) hand ∙ ap (λ cs. record p { closes = cs }) (set_back p.closes (seat at) there.1)

pub cannot_now : (w : State) (v : WorkView) (queues : List QueueView) (at : QueueAt) → IsSeated w.config.devices v queues at → Queued w v queues → is_closed (standing_of w) at ≡ false → w.config.room ≤ length (queue_in queues at).held
    → can_close_now (with_taken w v) at ≡ false
cannot_now w v queues at s q early full =
    let e = held_is w v queues at (queue_in queues at) s (q.each at) in
    let no : nat_lt (batches_held (with_taken w v) (labels_of w) at) w.config.room ≡ false = le-ltb (batches_held (with_taken w v) (labels_of w) at) w.config.room (omega (arith, e, full)) in
    rw (early, no) refl

-- ## The places of the closes

-- a place that has the same closes at hand
pub has_same_places : (p p' : PlaceView) (queues : List QueueView) → p'.config ≡ p.config → p'.closes ≡ p.closes → HasPlaces p queues → HasPlaces p' queues
has_same_places p p' queues config closes h = λ at there hand. h at (rw config at there) (sym (ap (λ bs. nat_lt at.queue QUEUES && slice_index_or bs (seat at) false) closes) ∙ hand)

-- a queue that has a place, among others that had theirs
pub has_place_with : (p : PlaceView) (queues : List QueueView) (at : QueueAt) (new : QueueView) → at.queue < QUEUES → seat at < length queues → new.has_place ≡ true → HasPlaces p queues → HasPlaces p (queues_with queues at new)
has_place_with p queues at new low there has h =
    each_seat (λ other (x : QueueView). IsQueue p.config other → is_at_hand p other ≡ true → x.has_place ≡ true) (λ other (x : QueueView). IsQueue p.config other → is_at_hand p other ≡ true → x.has_place ≡ true) no_queue queues at new low there h
    (λ here hand. has) (λ other differ x same. same)

-- one whose close was placed needs none
pub has_place_beside : (p : PlaceView) (queues : List QueueView) (at : QueueAt) (new : QueueView) → at.queue < QUEUES → seat at < length queues → is_at_hand p at ≡ true → IsCloseOut (handed_out p at) at → HasPlaces p queues
    → HasPlaces (place_after_close (handed_out p at) at) (queues_with queues at new)
has_place_beside p queues at new low there hand out h =
    each_seat (λ other (x : QueueView). IsQueue p.config other → is_at_hand p other ≡ true → x.has_place ≡ true) (λ other (x : QueueView). IsQueue p.config other → is_at_hand (handed_out p at) other ≡ true → x.has_place ≡ true) no_queue queues at new low there h
    (λ here back. (let w : true ≡ false = sym back ∙ out.given in cc))
    (λ other differ x same here back. same here (sym (rw hand (at_hand_other p at other false low here differ)) ∙ back))

-- where a directive is accepted no queue is closed
pub open_yet : (w : State) (host : ℕ) (d : Directive) (at : QueueAt) → IsLegalState w → refusal w.config (standing_of w) host d ≡ None → is_closed (standing_of w) at ≡ false
open_yet w host d at legal accepted = elim (cases_Bool (standing_of w).closing) [
  | inl begun ↦ (let w : Some Closed ≡ None = sym (refused_closing w.config (standing_of w) host d begun) ∙ accepted in absurd cc)
  | inr early ↦ rw (none_closed w.config w.history w.counts legal.accepted early) refl
]

-- at first each has one
pub has_all_places : (p : PlaceView) (queues : List QueueView) → length queues ≡ queue_count p.config → All (λ (q : QueueView). q ≡ empty_queue) queues → HasPlaces p queues
has_all_places p queues count empty = λ at there hand.
    let low : seat at < length queues = omega (arith, count, there.0, there.1) in
    ap (λ (q : QueueView). q.has_place) (seat_there no_queue queues at there.1 ∙ All-get_or (λ (q : QueueView). q ≡ empty_queue) queues (seat at) no_queue low empty)
