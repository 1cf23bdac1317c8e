-- What the place lock holds, after each change.
use Rattle.std.proofs.Common.{◌≡◌, ℕ, ◌+◌, ◌<◌, ◌≤◌, true, false, Bool, List, [], ◌∷◌, ◌++◌, length, refl, sym, ap, subst, ◌∙◌, arith, Some, None, Option, zero, suc, cond, inl, inr, ◌⊎◌}
use Rattle.std.specs.Prelude.{slice_set, slice_index_or, nat_lt, ◌&&◌, ◌||◌, not, IfSome}
use Rattle.std.proofs.lemmas.Bool.{cases_Bool, cases_lt, and_parts}
use Rattle.std.specs.Option.{option_to_list}
use Rattle.std.proofs.lemmas.List.{length-set, append-nil, get_or-set_other}
use Rattle.std.proofs.lemmas.List.Elements.{All-head}
use Rattle.acc_base.proofs.Lists.{All-behind}
use Rattle.acc_base.proofs.SameQueue.{same_queue_is, same_queue_itself}
use Rattle.acc_base.specs.Configurations.{Configuration}
use Rattle.acc_base.specs.declared.config.TheConstants.{MAX_HOSTS}
use Rattle.acc_base.specs.declared.ids.QueueAt.{QueueAt}
use Rattle.acc_base.specs.declared.ids.TheConstants.{QUEUES}
use Rattle.acc_base.specs.Queues.{at_seat, queue_count, same_queue, seat}
use Rattle.acc_batch.specs.declared.label.Label.{Label}
use Rattle.acc_batch.specs.declared.label.OpLabel.{OpLabel}
use Rattle.acc_batch.specs.Labels.{on_queue}
use Rattle.acc_batch.proofs.Labels.{on_queue-append}
use Rattle.acc_batch.proofs.Seats.{each_seat, one_seat, seat_kept}
use Rattle.acc_batch.specs.Awaits.{close_label}
use Rattle.acc_place.proofs.LeftOpen.{place_seat}
use Rattle.acc_place.specs.declared.directive.PlaceEntry.TheVariants as noted
use Rattle.acc_place.specs.Batches.{batch_of, labels_with, next_number, walk_at}
use Rattle.acc_place.specs.Closing.{left_open, is_at_hand, place_after_begin, place_after_close, handed_out, handed_back, IsCloseOut}
use Rattle.acc_place.specs.Histories.{is_closed, standing, AllAccepted, IsQueue}
use Rattle.acc_place.specs.Plans.{PlaceView, PlanView, Fits, label_for, place_after, standing_in}
use Rattle.acc_place.specs.Standings.{Standing, walk_of}
use Rattle.acc_place.proofs.LabelsThere.{labels_there}
use Rattle.acc_queue.specs.Tied.{Line, MayBeFull}
use Rattle.acc_run.specs.PlaceSides.{IsClosed, IsPlaceSide, IsSent, IsUnchanged, PlaceSideView, CanSend, ClosedFrom, ClosesOne, lines_closed, lines_sent, lines_with, place_closed}
use Rattle.acc_run.specs.WorkSides.{AreEnds, no_line, line_in}

-- a place that stands as before
standing_same : (p p' : PlaceView) → p'.config ≡ p.config → p'.history ≡ p.history → p'.counts ≡ p.counts → standing_in p' ≡ standing_in p
standing_same p p' config history counts =
    ap (λ c. standing c p'.history p'.counts) config ∙ (ap (λ xs. standing p.config xs p'.counts) history ∙ ap (standing p.config p.history) counts)

pub planned : (p p' : PlaceView) (ends : List Line) → p'.config ≡ p.config → p'.history ≡ p.history → p'.counts ≡ p.counts → p'.closes ≡ p.closes → IsPlaceSide p ends → IsPlaceSide p' ends
planned p p' ends config history counts closes s =
    let same = standing_same p p' config history counts in
    record {
      each = λ at there. (let x = s.each at (rw config at there) in record {
        here = x.here;
        room = x.room ∙ ap (λ (g : Configuration). g.room) (sym config);
        sent = x.sent ∙ ap (λ (st : Standing). on_queue at st.labels) (sym same);
        at_hand = ap (λ bs. nat_lt at.queue QUEUES && slice_index_or bs (seat at) false) closes ∙ (x.at_hand ∙ ap (λ (st : Standing). not (is_closed st at)) (sym same));
      });
      count = s.count ∙ ap queue_count (sym config);
    }

-- ## A directive is accepted

-- it adds its label behind all others, if it has one
labels_by : (at : QueueAt) (host items_done : ℕ) (labels : List Label) (ops : List OpLabel)
    → labels_with at host items_done labels ops ≡ labels ++ option_to_list (label_for at (next_number at labels) host items_done ops)
labels_by at host items_done labels [] = sym (append-nil labels)
labels_by at host items_done labels (op ∷ ops) = refl

pub labels_after : (p : PlaceView) (q : PlanView) → Fits p q → (standing_in (place_after p q)).labels ≡ (standing_in p).labels ++ option_to_list q.label
unfolding standing
labels_after p q fits =
    let walk = walk_of (standing_in p) q.host q.directive in
    labels_by (walk_at walk) q.host q.items_done (standing_in p).labels (batch_of (standing_in p) walk) ∙ ap (λ l. (standing_in p).labels ++ option_to_list l) (sym fits.labelled)

-- and closes no queue
closed_after : (p : PlaceView) (q : PlanView) (at : QueueAt) → is_closed (standing_in (place_after p q)) at ≡ is_closed (standing_in p) at
unfolding standing
closed_after p q at = refl

pub accepted_empty : (p : PlaceView) (q : PlanView) (ends : List Line) → Fits p q → q.label ≡ None → IsPlaceSide p ends → IsPlaceSide (place_after p q) ends
accepted_empty p q ends fits none s =
    let same : (standing_in (place_after p q)).labels ≡ (standing_in p).labels = labels_after p q fits ∙ (ap (λ l. (standing_in p).labels ++ option_to_list l) none ∙ append-nil (standing_in p).labels) in
    record {
      each = λ at there. (let x = s.each at there in record {
        here = x.here;
        room = x.room;
        sent = x.sent ∙ ap (on_queue at) (sym same);
        at_hand = x.at_hand ∙ ap not (sym (closed_after p q at));
      });
      count = s.count;
    }

-- What a label is that a plan has.
pub record IsPlanned (p : PlaceView) (q : PlanView) (b : Label) : Type 0 where
  pub at : b.at ≡ walk_at (walk_of (standing_in p) q.host q.directive)
  pub host : b.host ≡ q.host
  pub filled : 0 < length b.ops
  pub there : IsQueue p.config b.at

label_parts : (at : QueueAt) (number host items_done : ℕ) (ops : List OpLabel) (b : Label) → label_for at number host items_done ops ≡ Some b → (b.at ≡ at) × (b.host ≡ host) × (0 < length b.ops)
label_parts at number host items_done [] b is = absurd (cc)
label_parts at number host items_done (op ∷ ops) b is =
    let same : record { at = at; number = number; host = host; items_done = items_done; ops = op ∷ ops } ≡ b = cc in
    (ap (λ (l : Label). l.at) (sym same), ap (λ (l : Label). l.host) (sym same), rw (← same) (omega arith))

pub is_planned : (p : PlaceView) (q : PlanView) (b : Label) → Fits p q → AllAccepted p.config p.history p.counts → q.label ≡ Some b → IsPlanned p q b
is_planned p q b fits all is =
    let st = standing_in p in
    let walk = walk_of st q.host q.directive in
    let parts = label_parts (walk_at walk) (next_number (walk_at walk) st.labels) q.host q.items_done (batch_of st walk) b (sym fits.labelled ∙ is) in
    let labels : (standing_in (place_after p q)).labels ≡ st.labels ++ b ∷ [] = labels_after p q fits ∙ ap (λ l. st.labels ++ option_to_list l) is in
    let all_there = labels_there p.config (place_after p q).history (place_after p q).counts (fits.accepted, all) in
    let Q = λ (l : Label). (l.at.device < p.config.devices) × (l.at.queue < QUEUES) × (0 < length l.ops) in
    let last = All-head Q b [] (All-behind Q st.labels (b ∷ []) (rw labels at all_there)) in
    record { at = parts.0; host = parts.1; filled = parts.2; there = (last.0, last.1) }

pub seat_there : (p : PlaceView) (ends : List Line) (at : QueueAt) → IsPlaceSide p ends → IsQueue p.config at → seat at < length ends
seat_there p ends at s there = omega (arith, there.0, there.1, s.count)

-- one more label of a queue
placed_here : (labels : List Label) (b : Label) → on_queue b.at (labels ++ b ∷ []) ≡ on_queue b.at labels ++ b ∷ []
placed_here labels b = on_queue-append b.at labels (b ∷ []) ∙ rw (same_queue_itself b.at) refl

placed_elsewhere : (labels : List Label) (b : Label) (other : QueueAt) → same_queue b.at other ≡ false → on_queue other (labels ++ b ∷ []) ≡ on_queue other labels
placed_elsewhere labels b other differ = on_queue-append other labels (b ∷ []) ∙ rw differ (append-nil (on_queue other labels))

pub accepted_batch : (p : PlaceView) (q : PlanView) (ends : List Line) (b : Label) (new : Line) → Fits p q → AllAccepted p.config p.history p.counts → q.label ≡ Some b → IsPlaceSide p ends
    → new.at ≡ (line_in ends b.at).at → new.room ≡ (line_in ends b.at).room → new.labels ≡ (line_in ends b.at).labels ++ b ∷ [] → IsPlaceSide (place_after p q) (slice_set ends (seat b.at) new)
accepted_batch p q ends b new fits all is s same_at same_room more =
    let planned_b = is_planned p q b fits all is in
    let st = standing_in p in
    let labels : (standing_in (place_after p q)).labels ≡ st.labels ++ b ∷ [] = labels_after p q fits ∙ ap (λ l. st.labels ++ option_to_list l) is in
    record {
      each = each_seat (λ at l. IsQueue p.config at → IsSent p at l) (λ at l. IsQueue p.config at → IsSent (place_after p q) at l) no_line ends b.at new planned_b.there.1 (seat_there p ends b.at s planned_b.there) s.each
          (λ there. (let x = s.each b.at there in record {
            here = same_at ∙ x.here;
            room = same_room ∙ x.room;
            sent = more ∙ (ap (λ ls. ls ++ b ∷ []) x.sent ∙ (sym (placed_here st.labels b) ∙ ap (on_queue b.at) (sym labels)));
            at_hand = x.at_hand ∙ ap not (sym (closed_after p q b.at));
          }))
          (λ other differ l h there. (let x = h there in record {
            here = x.here;
            room = x.room;
            sent = x.sent ∙ (sym (placed_elsewhere st.labels b other differ) ∙ ap (on_queue other) (sym labels));
            at_hand = x.at_hand ∙ ap not (sym (closed_after p q other));
          }));
      count = length-set ends (seat b.at) new ∙ s.count;
    }

-- the batch of a plan can be sent
pub can_send : (p : PlaceView) (q : PlanView) (ends : List Line) → Fits p q → AllAccepted p.config p.history p.counts → q.host < MAX_HOSTS → IsPlaceSide p ends → IfSome q.label (CanSend ends)
can_send p q ends fits all low s = by_label q.label refl
  where
    by_label : (o : Option Label) → q.label ≡ o → IfSome o (CanSend ends)
    by_label None e = tt
    by_label (Some b) e =
        let x = is_planned p q b fits all e in
        record {
          low = x.there.1;
          there = seat_there p ends b.at s x.there;
          for_it = (sym (s.each b.at x.there).here, rw x.host low, x.filled);
        }

-- and then the plan is accepted
pub accepted_sent : (p : PlaceView) (q : PlanView) (ends : List Line) → Fits p q → AllAccepted p.config p.history p.counts → IsPlaceSide p ends → IsPlaceSide (place_after p q) (lines_sent ends q.label)
accepted_sent p q ends fits all s = by_label q.label refl
  where
    by_label : (o : Option Label) → q.label ≡ o → IsPlaceSide (place_after p q) (lines_sent ends o)
    by_label None e = accepted_empty p q ends fits e s
    by_label (Some b) e = accepted_batch p q ends b (record (line_in ends b.at) { labels = (line_in ends b.at).labels ++ b ∷ [] }) fits all e s refl refl refl

-- a place where each directive was accepted, and that changed only its spare memory
pub still_accepted : (p p' : PlaceView) → p'.config ≡ p.config → p'.history ≡ p.history → p'.counts ≡ p.counts → AllAccepted p.config p.history p.counts → AllAccepted p'.config p'.history p'.counts
still_accepted p p' config history counts all = rw (config, history, counts) all

-- ## Queues are closed

begins_standing : (p : PlaceView) → ((standing_in (place_after_begin p)).labels ≡ (standing_in p).labels) × ((at : QueueAt) → is_closed (standing_in (place_after_begin p)) at ≡ is_closed (standing_in p) at)
unfolding standing
begins_standing p = elim (standing_in p).closing
    as (λ b. ((standing p.config (cond b p.history (noted.Closing ∷ p.history)) p.counts).labels ≡ (standing_in p).labels) × ((at : QueueAt) → is_closed (standing p.config (cond b p.history (noted.Closing ∷ p.history)) p.counts) at ≡ is_closed (standing_in p) at))
    [ true ↦ (refl, λ at. refl) | false ↦ (refl, λ at. refl) ]

pub begun : (p : PlaceView) (ends : List Line) → IsPlaceSide p ends → IsPlaceSide (place_after_begin p) ends
begun p ends s =
    let same = begins_standing p in
    record {
      each = λ at there. (let x = s.each at there in record {
        here = x.here;
        room = x.room;
        sent = x.sent ∙ ap (on_queue at) (sym same.0);
        at_hand = x.at_hand ∙ ap not (sym (same.1 at));
      });
      count = s.count;
    }

-- what a close adds
labels_closed : (p : PlaceView) (at : QueueAt) → (standing_in (place_after_close p at)).labels ≡ (standing_in p).labels ++ close_label at (standing_in p).labels ∷ []
unfolding standing
labels_closed p at = refl

closed_then : (p : PlaceView) (at other : QueueAt) → is_closed (standing_in (place_after_close p at)) other ≡ (same_queue at other || is_closed (standing_in p) other)
unfolding standing
closed_then p at other = refl

-- the closes of other queues, where one's goes or comes
hand_other : (closes : List Bool) (at other : QueueAt) (b : Bool) → at.queue < QUEUES → other.queue < QUEUES → same_queue at other ≡ false → slice_index_or (slice_set closes (seat at) b) (seat other) false ≡ slice_index_or closes (seat other) false
hand_other closes at other b low there differ =
    let apart : seat other ≡ seat at → ⊥ = λ e. (let w : true ≡ false = sym (one_seat at other low there (sym e)) ∙ differ in cc) in
    get_or-set_other closes (seat at) (seat other) b false apart

hand_back : (closes : List Bool) (n : ℕ) → slice_index_or closes n false ≡ true → slice_index_or (slice_set (slice_set closes n false) n true) n false ≡ true
hand_back [] n h = cc
hand_back (b ∷ closes) zero h = refl
hand_back (b ∷ closes) (suc n) h = hand_back closes n h

-- the close can be sent
pub close_sends : (p : PlaceView) (ends : List Line) (at : QueueAt) (b : Label) → IsPlaceSide p ends → IsQueue p.config at → b ≡ close_label at (standing_in p).labels → CanSend ends b
close_sends p ends at b s there is = rw is (record {
  low = there.1;
  there = seat_there p ends at s there;
  for_it = (sym (s.each at there).here, omega arith, omega arith);
})

-- and is placed
pub closed_sent : (p : PlaceView) (ends : List Line) (at : QueueAt) (b : Label) → IsPlaceSide p ends → IsQueue p.config at → is_at_hand p at ≡ true → IsCloseOut (handed_out p at) at → b ≡ close_label at (standing_in p).labels
    → IsPlaceSide (place_after_close (handed_out p at) at) (lines_with ends b)
closed_sent p ends at b s there hand out is =
    let st = standing_in p in
    let l = close_label at st.labels in
    let new : Line = record (line_in ends at) { labels = (line_in ends at).labels ++ l ∷ [] } in
    let more = labels_closed (handed_out p at) at in
    let now : is_closed (standing_in (place_after_close (handed_out p at) at)) at ≡ true = closed_then (handed_out p at) at at ∙ rw (same_queue_itself at) refl in
    rw is (record {
      each = each_seat (λ q x. IsQueue p.config q → IsSent p q x) (λ q x. IsQueue p.config q → IsSent (place_after_close (handed_out p at) at) q x) no_line ends at new there.1 (seat_there p ends at s there) s.each
          (λ t. (let x = s.each at t in record {
            here = x.here;
            room = x.room;
            sent = ap (λ ls. ls ++ l ∷ []) x.sent ∙ (sym (placed_here st.labels l) ∙ ap (on_queue at) (sym more));
            at_hand = out.given ∙ sym (ap not now);
          }))
          (λ other differ x h t. (let y = h t in let then : is_closed (standing_in (place_after_close (handed_out p at) at)) other ≡ is_closed st other = closed_then (handed_out p at) at other ∙ rw differ refl in record {
            here = y.here;
            room = y.room;
            sent = y.sent ∙ (sym (placed_elsewhere st.labels l other differ) ∙ ap (on_queue other) (sym more));
            at_hand =
                ap (λ cs. nat_lt other.queue QUEUES && slice_index_or cs (seat other) false) (ap (λ h. cond h (slice_set p.closes (seat at) false) p.closes) hand)
                ∙ (ap (λ v. nat_lt other.queue QUEUES && v) (hand_other p.closes at other false there.1 t.1 differ)
                ∙ (y.at_hand ∙ sym (ap not then)));
          }));
      count = length-set ends (seat at) new ∙ s.count;
    })

-- or comes back
pub close_returned : (p : PlaceView) (ends : List Line) (at : QueueAt) → IsPlaceSide p ends → IsQueue p.config at → is_at_hand p at ≡ true → IsPlaceSide (handed_back (handed_out p at) at) ends
close_returned p ends at s there hand = record {
  each = λ other t. (let x = s.each other t in record {
    here = x.here;
    room = x.room;
    sent = x.sent;
    at_hand = hands other t ∙ x.at_hand;
  });
  count = s.count;
}
  where
    out : (cond (is_at_hand p at) (slice_set p.closes (seat at) false) p.closes) ≡ slice_set p.closes (seat at) false
    out = ap (λ h. cond h (slice_set p.closes (seat at) false) p.closes) hand

    hands : (other : QueueAt) → IsQueue p.config other → is_at_hand (handed_back (handed_out p at) at) other ≡ is_at_hand p other
    hands other t = ap (λ cs. nat_lt other.queue QUEUES && slice_index_or (slice_set cs (seat at) true) (seat other) false) out ∙ elim (cases_Bool (same_queue at other)) [
      | inl same ↦
          let both = and_parts (nat_lt at.queue QUEUES) (slice_index_or p.closes (seat at) false) hand in
          subst (λ q. (nat_lt q.queue QUEUES && slice_index_or (slice_set (slice_set p.closes (seat at) false) (seat at) true) (seat q) false) ≡ is_at_hand p q) (same_queue_is at other same)
          (ap (λ v. nat_lt at.queue QUEUES && v) (hand_back p.closes (seat at) both.1 ∙ sym both.1))
      | inr differ ↦
          ap (λ v. nat_lt other.queue QUEUES && v) (hand_other (slice_set p.closes (seat at) false) at other true there.1 t.1 differ ∙ hand_other p.closes at other false there.1 t.1 differ)
    ]

-- What closing a queue did.
pub closes_one : (old : PlaceSideView) (at : QueueAt) (b : Label) → b ≡ close_label at (standing_in old.place).labels
    → ClosesOne old (record { place = place_after_close (handed_out old.place at) at; lines = lines_with old.lines b }) at true
closes_one old at b is =
    let now : is_closed (standing_in (place_after_close (handed_out old.place at) at)) at ≡ true = closed_then (handed_out old.place at) at at ∙ rw (same_queue_itself at) refl in
    record {
      config = refl;
      counts = refl;
      change = inr (record { history = refl; lines = ap (lines_with old.lines) is });
      closed = sym now;
      full = λ no. cc;
    }

-- ## All queues in turn

-- another queue is closed if it was
closed_others : (old new : PlaceSideView) (at other : QueueAt) (answer : Bool) → ClosesOne old new at answer → same_queue at other ≡ false → is_closed (standing_in new.place) other ≡ is_closed (standing_in old.place) other
closed_others old new at other answer c differ = elim c.change [
  | inl same ↦ ap (λ st. is_closed st other) (standing_same old.place new.place c.config same.history c.counts)
  | inr more ↦
      ap (λ st. is_closed st other) (standing_same (place_after_close old.place at) new.place c.config more.history c.counts) ∙ (closed_then old.place at other ∙ rw differ refl)
]

-- and its end has sent what it had
sent_others : (old new : PlaceSideView) (at other : QueueAt) (answer : Bool) → at.queue < QUEUES → ClosesOne old new at answer → same_queue at other ≡ false → line_in new.lines other ≡ line_in old.lines other
sent_others old new at other answer low c differ = elim c.change [
  | inl same ↦ ap (λ ends. line_in ends other) same.lines
  | inr more ↦
      ap (λ ends. line_in ends other) more.lines
      ∙ seat_kept no_line old.lines at other (record (line_in old.lines at) { labels = (line_in old.lines at).labels ++ close_label at (standing_in old.place).labels ∷ [] }) low differ
]

still : (p : PlaceView) (q : QueueAt) → (standing_in (place_after_close p q)).closing ≡ (standing_in p).closing
unfolding standing
still p q = refl

pub closing_kept : (old new : PlaceSideView) (at : QueueAt) (answer : Bool) → ClosesOne old new at answer → (standing_in old.place).closing ≡ true → (standing_in new.place).closing ≡ true
closing_kept old new at answer c h = elim c.change [
  | inl same ↦ ap (λ (st : Standing). st.closing) (standing_same old.place new.place c.config same.history c.counts) ∙ h
  | inr more ↦ ap (λ (st : Standing). st.closing) (standing_same (place_after_close old.place at) new.place c.config more.history c.counts) ∙ (still old.place at ∙ h)
]

apart : (n : ℕ) (other : QueueAt) → other.queue < QUEUES → (seat other ≡ n → ⊥) → same_queue (at_seat n) other ≡ false
apart n other low ne = elim (cases_Bool (same_queue (at_seat n) other)) [
  | inl same ↦ absurd (ne (ap seat (sym (same_queue_is (at_seat n) other same)) ∙ place_seat n))
  | inr differ ↦ differ
]

left_kept : (old new : PlaceSideView) (n k : ℕ) (answer : Bool) → ClosesOne old new (at_seat n) answer → k ≤ n → left_open (standing_in new.place) k ≡ left_open (standing_in old.place) k
left_kept old new n zero answer c low = refl
left_kept old new n (suc k) answer c low =
    let differ = apart n (at_seat k) (omega arith) (λ e. absurd (omega (arith, low, e, place_seat k))) in
    rw (closed_others old new (at_seat n) (at_seat k) answer c differ, left_kept old new n k answer c (omega (arith, low))) refl

-- the count after one more queue
pub left_more : (old new : PlaceSideView) (n remaining remaining' : ℕ) (answer : Bool) → ClosesOne old new (at_seat n) answer → remaining ≡ left_open (standing_in old.place) n → remaining' ≡ cond answer remaining (remaining + 1)
    → remaining' ≡ left_open (standing_in new.place) (n + 1)
left_more old new n remaining remaining' answer c e more =
    let kept = left_kept old new n n answer c (omega arith) in
    let next : suc n ≡ n + 1 = omega arith in
    more
    ∙ (ap (λ r. cond answer r (r + 1)) (e ∙ sym kept)
    ∙ (ap (λ b. cond b (left_open (standing_in new.place) n) (left_open (standing_in new.place) n + 1)) c.closed ∙ ap (left_open (standing_in new.place)) next))

pub closed_more : (from old new : PlaceSideView) (n : ℕ) (answer : Bool) → ClosedFrom from old n → ClosesOne old new (at_seat n) answer → ClosedFrom from new (n + 1)
closed_more from old new n answer f c = by_change c.change
  where
    full : (at : QueueAt) → at.queue < QUEUES → seat at < n + 1 → is_closed (standing_in new.place) at ≡ false → MayBeFull (line_in new.lines at).room (line_in new.lines at).labels
    full at low there early = elim (cases_Bool (same_queue (at_seat n) at)) [
      | inl same ↦ subst (λ q. MayBeFull (line_in new.lines q).room (line_in new.lines q).labels) (same_queue_is (at_seat n) at same)
          (c.full (c.closed ∙ subst (λ q. is_closed (standing_in new.place) q ≡ false) (sym (same_queue_is (at_seat n) at same)) early))
      | inr differ ↦
          let past : seat at ≡ n → ⊥ = λ e. (let no : true ≡ false = sym (one_seat (at_seat n) at (omega arith) low (place_seat n ∙ sym e)) ∙ differ in cc) in
          let before : seat at < n = elim (cases_lt (seat at) n) [ inl less ↦ less | inr more ↦ absurd (past (omega (arith, more, there))) ] in
          rw (sent_others old new (at_seat n) at answer (omega arith) c differ) (f.full at low before (sym (closed_others old new (at_seat n) at answer c differ) ∙ early))
    ]

    by_change : (IsUnchanged old new ⊎ IsClosed old new (at_seat n)) → ClosedFrom from new (n + 1)
    by_change (inl same) = record { closed = f.closed; history = same.history ∙ f.history; lines = same.lines ∙ f.lines; config = c.config ∙ f.config; counts = c.counts ∙ f.counts; full = full }
    by_change (inr more) =
        let before : standing_in old.place ≡ standing_in (place_closed from.place f.closed) = standing_same (place_closed from.place f.closed) old.place f.config f.history f.counts in
        record {
          closed = at_seat n ∷ f.closed;
          history = more.history ∙ ap (λ h. noted.Closed (at_seat n) ∷ h) f.history;
          lines = more.lines ∙ (ap (λ ends. lines_with ends (close_label (at_seat n) (standing_in old.place).labels)) f.lines ∙ ap (λ (st : Standing). lines_with (lines_closed from f.closed) (close_label (at_seat n) st.labels)) before);
          config = c.config ∙ f.config;
          counts = c.counts ∙ f.counts;
          full = full;
        }

-- ## The first of all

pub first_side : (p : PlaceView) (ends : List Line) → p.history ≡ [] → ((at : QueueAt) → IsQueue p.config at → is_at_hand p at ≡ true) → AreEnds p.config ends → IsPlaceSide p ends
unfolding standing
first_side p ends none hand e = record {
  each = λ at there. (let x = e.each at there in record {
    here = x.0;
    room = x.1;
    sent = x.2 ∙ sym (ap (on_queue at) labels);
    at_hand = hand at there ∙ sym (ap not (closed at));
  });
  count = e.count;
}
  where
    labels : (standing_in p).labels ≡ []
    labels = rw none refl

    closed : (at : QueueAt) → is_closed (standing_in p) at ≡ false
    closed at = rw none refl
