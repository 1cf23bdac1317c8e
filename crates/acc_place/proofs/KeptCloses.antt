-- What a place keeps of the closes, and how each call leaves it.
use Rattle.std.proofs.Common.{inl, inr, subst, ◌≡◌, ◌⊎◌, ℕ, zero, suc, ◌+◌, ◌-◌, ◌<◌, ◌≤◌, Bool, true, false, List, [], ◌∷◌, ◌++◌, length, map, Option, Some, None, refl, sym, ap, ◌∙◌, arith}
use Rattle.std.specs.Prelude.{not, nat_lt, ◌&&◌, reverse, is_some, slice_index_or, slice_set}
use Rattle.std.proofs.lemmas.Bool.{cases_Bool, lt-ltb}
use Rattle.std.proofs.lemmas.List.{append-nil, get_or_default, get_or-map, map-set, get_or-set_same, get_or-set_other, length-append, length-reverse, length-set}
use Rattle.acc_base.specs.declared.ids.QueueAt.{QueueAt}
use Rattle.acc_base.specs.declared.ids.TheConstants.{QUEUES}
use Rattle.acc_base.specs.Configurations.{Configuration}
use Rattle.acc_base.specs.Queues.{queue_count, same_queue, seat}
use Rattle.acc_base.proofs.SameQueue.{same_queue_itself, same_queue_is}
use Rattle.acc_batch.specs.declared.label.Label.{Label}
use Rattle.acc_batch.specs.declared.label.OpLabel.{OpLabel}
use Rattle.acc_batch.specs.Awaits.{close_label}
use Rattle.acc_batch.specs.Labels.{on_queue}
use Rattle.acc_batch.proofs.Labels.{on_queue-append}
use Rattle.acc_batch.proofs.Seats.{one_seat}
use Rattle.acc_place.specs.declared.closes.Close.{Close}
use Rattle.acc_place.specs.declared.device.Device.{Device}
use Rattle.acc_place.specs.declared.directive.Placed.{Placed}
use Rattle.acc_place.specs.declared.directive.PlaceEntry.{PlaceEntry}
use Rattle.acc_place.specs.declared.directive.PlaceEntry.TheVariants.{Accepted, Closing, Closed}
use Rattle.acc_place.specs.declared.directive.Region.{Region}
use Rattle.acc_place.specs.Closing.{IsCloseOut, ClosesQueue}
use Rattle.acc_place.specs.Batches.{batch_of, labels_with, walk_at}
use Rattle.acc_place.specs.Histories.{after_close, after_directive, at_first, is_closed, standing, CanClose, IsQueue}
use Rattle.acc_place.specs.inner.Places.{close_in, closing_entries, entries_left, closes_kept, new_close, no_close, queues_after, IsCloseOf, IsPlace, KeepsCloses}
use Rattle.acc_place.specs.Plans.{standing_in, Fits, PlaceView, PlanView, Room}
use Rattle.acc_place.specs.Standings.{Standing, walk_of}
use Rattle.acc_place.proofs.AcceptedDirective.{accepted_open}
use Rattle.acc_place.proofs.AfterClose.{tied_begun, tied_closed}
use Rattle.acc_place.proofs.StandingIn.{reverse-push, viewed}
use Rattle.acc_place.proofs.QueuesAfter.{one_more, seat_low}

-- ## How many queues are open

abbrev one_left : Bool → ℕ → ℕ
one_left true n = n + 1
one_left false n = n

left_first : (c : Close) (cs : List Close) → closes_kept (c ∷ cs) ≡ one_left (is_some c.label) (closes_kept cs)
left_first c cs = elim (cases_Bool (is_some c.label)) [ inl some ↦ rw some (omega arith) | inr none ↦ rw none refl ]

left_most : (cs : List Close) → closes_kept cs ≤ length cs
left_most [] = omega arith
left_most (c ∷ cs) = by_label (is_some c.label) (left_first c cs) (left_most cs)
  where
    by_label : (b : Bool) → closes_kept (c ∷ cs) ≡ one_left b (closes_kept cs) → closes_kept cs ≤ length cs → closes_kept (c ∷ cs) ≤ length (c ∷ cs)
    by_label true e most = omega (arith, e, most)
    by_label false e most = omega (arith, e, most)

left_same : (cs : List Close) (i : ℕ) (new : Close) → is_some new.label ≡ is_some (slice_index_or cs i no_close).label → closes_kept (slice_set cs i new) ≡ closes_kept cs
left_same [] i new same = refl
left_same (c ∷ cs) zero new same = left_first new cs ∙ (ap (λ b. one_left b (closes_kept cs)) same ∙ sym (left_first c cs))
left_same (c ∷ cs) (suc i) new same = left_first c (slice_set cs i new) ∙ (ap (one_left (is_some c.label)) (left_same cs i new same) ∙ sym (left_first c cs))

left_fewer : (cs : List Close) (i : ℕ) (new : Close) → is_some (slice_index_or cs i no_close).label ≡ true → is_some new.label ≡ false → closes_kept (slice_set cs i new) + 1 ≡ closes_kept cs
left_fewer [] i new some none = absurd cc
left_fewer (c ∷ cs) zero new some none =
    let before = left_first c cs ∙ ap (λ b. one_left b (closes_kept cs)) some in
    let after = left_first new cs ∙ ap (λ b. one_left b (closes_kept cs)) none in
    omega (arith, before, after)
left_fewer (c ∷ cs) (suc i) new some none = by_label (is_some c.label) (left_first c cs) (left_first c (slice_set cs i new)) (left_fewer cs i new some none)
  where
    by_label : (b : Bool) → closes_kept (c ∷ cs) ≡ one_left b (closes_kept cs) → closes_kept (c ∷ slice_set cs i new) ≡ one_left b (closes_kept (slice_set cs i new)) → closes_kept (slice_set cs i new) + 1 ≡ closes_kept cs
        → closes_kept (c ∷ slice_set cs i new) + 1 ≡ closes_kept (c ∷ cs)
    by_label true before after fewer = omega (arith, before, after, fewer)
    by_label false before after fewer = omega (arith, before, after, fewer)

-- ## One queue's close

-- what stands at a queue's seat once it is set, and at another's
pub set_own : (config : Configuration) (cs : List Close) (at : QueueAt) (new : Close) → length cs ≡ queue_count config → IsQueue config at → close_in (slice_set cs (seat at) new) at ≡ new
set_own config cs at new all there = get_or-set_same cs (seat at) new no_close (seat_low config at (length cs) there all)

set_other : (config : Configuration) (cs : List Close) (at other : QueueAt) (new : Close) → IsQueue config at → IsQueue config other → same_queue at other ≡ false → close_in (slice_set cs (seat at) new) other ≡ close_in cs other
set_other config cs at other new there here differ =
    let apart : seat other ≡ seat at → ⊥ = λ e. (let w : true ≡ false = sym (one_seat at other there.1 here.1 (sym e)) ∙ differ in cc) in
    get_or-set_other cs (seat at) (seat other) new no_close apart

-- one queue's is set, and those of the others are as they are wanted
each_set : (config : Configuration) (before after : Standing) (cs : List Close) (at : QueueAt) (new : Close) → length cs ≡ queue_count config → IsQueue config at → IsCloseOf after at new
    → ((other : QueueAt) → IsQueue config other → IsCloseOf before other (close_in cs other))
    → ((other : QueueAt) → same_queue at other ≡ false → (c : Close) → IsCloseOf before other c → IsCloseOf after other c)
    → (other : QueueAt) → IsQueue config other → IsCloseOf after other (close_in (slice_set cs (seat at) new) other)
each_set config before after cs at new all there own each others other here = elim (cases_Bool (same_queue at other)) [
  | inl same ↦
      let one : at ≡ other = same_queue_is at other same in
      subst (λ q. IsCloseOf after q (close_in (slice_set cs (seat at) new) q)) one (rw (set_own config cs at new all there) own)
  | inr differ ↦ rw (set_other config cs at other new there here differ) (others other differ (close_in cs other) (each other here))
]

-- its batch goes or comes
pub close_set : (config : Configuration) (st : Standing) (closing : Bool) (cs : List Close) (entries room : ℕ) (batches : List ℕ) (at : QueueAt) (new : Close) → KeepsCloses config st closing cs entries room batches
    → IsQueue config at → IsCloseOf st at new → KeepsCloses config st closing (slice_set cs (seat at) new) entries room batches
close_set config st closing cs entries room batches at new h there own =
    let left = left_same cs (seat at) new (own.left ∙ sym (h.each at there).left) in
    record {
      begun = h.begun;
      all_queues = length-set cs (seat at) new ∙ h.all_queues;
      each = each_set config st st cs at new h.all_queues there own h.each (λ other differ c is. is);
      history_room = by_closing closing left h.history_room;
      label_room = h.label_room;
    }
  where
    by_closing : (b : Bool) → closes_kept (slice_set cs (seat at) new) ≡ closes_kept cs → entries + entries_left b cs ≤ room → entries + entries_left b (slice_set cs (seat at) new) ≤ room
    by_closing true same fits = omega (arith, same, fits)
    by_closing false same fits = omega (arith, same, fits)

-- its label is placed
close_placed : (config : Configuration) (st : Standing) (cs : List Close) (entries room : ℕ) (batches : List ℕ) (at : QueueAt) (new : Close) → KeepsCloses config st true cs entries room batches
    → IsQueue config at → is_closed st at ≡ false → new ≡ no_close → KeepsCloses config (after_close st at) true (slice_set cs (seat at) new) (entries + 1) room batches
close_placed config st cs entries room batches at new h there unplaced none =
    let label : is_some (close_in cs at).label ≡ true = (h.each at there).left ∙ ap not unplaced in
    let left = left_fewer cs (seat at) new label (ap (λ (c : Close). is_some c.label) none) in
    record {
      begun = h.begun;
      all_queues = length-set cs (seat at) new ∙ h.all_queues;
      each =
          each_set config st (after_close st at) cs at new h.all_queues there (rw none own) h.each
          (λ other differ c is. record { batch = is.batch; label = is.label; unplaced = λ kept. rw differ (is.unplaced kept); left = rw differ is.left });
      history_room = omega (arith, left, h.history_room);
      label_room = λ other here early. others other here early (cases_Bool (same_queue at other));
    }
  where
    own : IsCloseOf (after_close st at) at no_close
    own = record { batch = tt; label = tt; unplaced = λ kept. absurd cc; left = rw (same_queue_itself at) refl }

    others : (other : QueueAt) → IsQueue config other → is_closed (after_close st at) other ≡ false → (same_queue at other ≡ true) ⊎ (same_queue at other ≡ false)
        → length (on_queue other (after_close st at).labels) ≤ slice_index_or batches (seat other) 0
    others other here early (inl same) = (let w : true ≡ false = rw same at early in absurd cc)
    others other here early (inr differ) =
        let kept : is_closed st other ≡ false = rw differ at early in
        let none : on_queue other (close_label at st.labels ∷ []) ≡ [] = rw differ refl in
        let all : on_queue other (after_close st at).labels ≡ on_queue other st.labels = on_queue-append other st.labels (close_label at st.labels ∷ []) ∙ (ap (λ ls. on_queue other st.labels ++ ls) none ∙ append-nil (on_queue other st.labels)) in
        omega (arith, ap length all, h.label_room other here kept)

-- ## All closes

closes_at_first : (config : Configuration) (cs : List Close) (room : ℕ) (batches : List ℕ) → length cs ≡ queue_count config → ((at : QueueAt) → IsQueue config at → close_in cs at ≡ new_close at) → length cs + 1 ≤ room
    → KeepsCloses config (at_first config) false cs 0 room batches
closes_at_first config cs room batches all new enough =
    record {
      begun = refl;
      all_queues = all;
      each = λ at there. rw (new at there) (record { batch = refl; label = refl; unplaced = λ kept. refl; left = refl });
      history_room = omega (arith, left_most cs, enough);
      label_room = λ at there early. omega arith;
    }

pub closes_new : (config : Configuration) (history : List PlaceEntry) (counts : List ℕ) (cs : List Close) (room : ℕ) (batches : List ℕ) → history ≡ [] → length cs ≡ queue_count config
    → ((at : QueueAt) → IsQueue config at → close_in cs at ≡ new_close at) → length cs + 1 ≤ room → KeepsCloses config (standing config (reverse history) (reverse counts)) false cs (length history) room batches
unfolding standing
closes_new config history counts cs room batches none all new enough = rw none (closes_at_first config cs room batches all new enough)

-- which are at hand
pub at_hand_is : (config : Configuration) (cs : List Close) (at : QueueAt) → length cs ≡ queue_count config → IsQueue config at
    → (nat_lt at.queue QUEUES && slice_index_or (map (λ (c : Close). is_some c.batch) cs) (seat at) false) ≡ is_some (close_in cs at).batch
at_hand_is config cs at all there =
    rw (lt-ltb at.queue QUEUES there.1) (get_or-map (λ (c : Close). is_some c.batch) cs (seat at) no_close false (seat_low config at (length cs) there all))

closes_begun : (config : Configuration) (history : List PlaceEntry) (counts : List ℕ) (cs : List Close) (entries room : ℕ) (batches : List ℕ) → KeepsCloses config (standing config history counts) false cs entries room batches
    → KeepsCloses config (standing config (Closing ∷ history) counts) true cs (entries + 1) room batches
unfolding standing
closes_begun config history counts cs entries room batches h =
    record {
      begun = refl;
      all_queues = h.all_queues;
      each = λ at there. (let c = h.each at there in record { batch = c.batch; label = c.label; unplaced = c.unplaced; left = c.left });
      history_room = omega (arith, h.history_room);
      label_room = h.label_room;
    }

-- where there is more room
pub closes_spared : (config : Configuration) (st : Standing) (closing : Bool) (cs : List Close) (entries room more : ℕ) (batches others : List ℕ) → KeepsCloses config st closing cs entries room batches
    → room ≤ more → ((i : ℕ) → slice_index_or batches i 0 ≤ slice_index_or others i 0) → KeepsCloses config st closing cs entries more others
closes_spared config st closing cs entries room more batches others h enough each =
    record {
      begun = h.begun;
      all_queues = h.all_queues;
      each = h.each;
      history_room = omega (arith, h.history_room, enough);
      label_room = λ at there early. omega (arith, h.label_room at there early, each (seat at));
    }

-- a batch of a directive is placed
label_more : (config : Configuration) (labels : List Label) (own at : QueueAt) (host items_done : ℕ) (ops : List OpLabel) (room : QueueAt → ℕ) → length (on_queue own labels) < room own → length (on_queue at labels) ≤ room at
    → length (on_queue at (labels_with own host items_done labels ops)) ≤ room at
label_more config labels own at host items_done [] room roomy fits = fits
label_more config labels own at host items_done (op ∷ ops) room roomy fits =
    let l : Label = record { at = own; number = length (on_queue own labels) + 1; host = host; items_done = items_done; ops = op ∷ ops } in
    let all = ap length (on_queue-append at labels (l ∷ [])) ∙ length-append (on_queue at labels) (on_queue at (l ∷ [])) in
    elim (cases_Bool (same_queue own at)) [
      | inl same ↦
          let one : length (on_queue at (l ∷ [])) ≡ 1 = rw same refl in
          let here : length (on_queue at labels) < room at = subst (λ q. length (on_queue q labels) < room q) (same_queue_is own at same) roomy in
          omega (arith, all, one, here)
      | inr differ ↦ (let none : length (on_queue at (l ∷ [])) ≡ 0 = rw differ refl in omega (arith, all, none, fits))
    ]

closes_accepted : (p : PlaceView) (q : PlanView) (closing : Bool) (cs : List Close) (entries room : ℕ) → KeepsCloses p.config (standing_in p) closing cs entries room p.room.batches → Fits p q
    → p.room.entries ≡ room - closing_entries p.config → entries ≡ length p.history
    → KeepsCloses p.config (after_directive (standing_in p) q.host q.items_done q.directive) closing cs (entries + 1) room p.room.batches
closes_accepted p q closing cs entries room h fits rooms counted =
    let st = standing_in p in
    let early : closing ≡ false = h.begun ∙ accepted_open p.config st q.host q.directive fits.accepted in
    let walk = walk_of st q.host q.directive in
    record {
      begun = h.begun;
      all_queues = h.all_queues;
      each = λ at there. (let c = h.each at there in record { batch = c.batch; label = c.label; unplaced = c.unplaced; left = c.left });
      history_room = rw early (omega (arith, left_most cs, h.all_queues, fits.roomy.entries, rooms, counted));
      label_room =
          λ at there unplaced.
          label_more p.config st.labels (walk_at walk) at q.host q.items_done (batch_of st walk) (λ a. slice_index_or p.room.batches (seat a) 0) fits.roomy.batches (h.label_room at there unplaced);
    }

-- as the vectors say, which have the latest at their ends
pub closes_pushed : (config : Configuration) (history history2 : List PlaceEntry) (counts counts2 : List ℕ) (shown : List Bool) (left : Room) (q : PlanView) (closing : Bool) (cs : List Close) (room : ℕ)
    → history2 ≡ history ++ Accepted q.host q.directive ∷ [] → counts2 ≡ counts ++ q.items_done ∷ [] → KeepsCloses config (standing config (reverse history) (reverse counts)) closing cs (length history) room left.batches
    → Fits (viewed config history counts shown left) q → left.entries ≡ room - closing_entries config → KeepsCloses config (standing config (reverse history2) (reverse counts2)) closing cs (length history2) room left.batches
unfolding standing
closes_pushed config history history2 counts counts2 shown left q closing cs room more_history more_counts h fits rooms =
    let e : reverse history2 ≡ Accepted q.host q.directive ∷ reverse history = ap reverse more_history ∙ reverse-push history (Accepted q.host q.directive) in
    let f : reverse counts2 ≡ q.items_done ∷ reverse counts = ap reverse more_counts ∙ reverse-push counts q.items_done in
    let longer : length history2 ≡ length history + 1 = ap length more_history ∙ length-append history (Accepted q.host q.directive ∷ []) in
    rw (e, f, longer) (closes_accepted (viewed config history counts shown left) q closing cs (length history) room h fits rooms (sym (length-reverse history)))

-- ## The place

pub place_begun : {answers : List Placed} (config : Configuration) (history : List PlaceEntry) (counts : List ℕ) (devices : List Device) (regions : List Region) (queues : List (List Label)) → IsPlace config history counts answers devices regions queues
    → (standing config history counts).closing ≡ false → IsPlace config (Closing ∷ history) counts answers devices regions queues
unfolding standing
place_begun config history counts devices regions queues h early =
    let st = standing config history counts in
    record {
      counted = h.counted;
      lawful = (early, h.lawful);
      answered = h.answered;
      tied =
          record {
            all_devices = h.tied.all_devices;
            on_devices = λ n v is. tied_begun config st n v.table v.opened (h.tied.on_devices n v is);
            inside = h.tied.inside;
            there = h.tied.there;
            all_queues = h.tied.all_queues;
            labelled = h.tied.labelled;
          };
    }

pub place_closed : {answers : List Placed} (config : Configuration) (history : List PlaceEntry) (counts : List ℕ) (devices : List Device) (regions : List Region) (queues : List (List Label)) (at : QueueAt) (l : Label) → IsPlace config history counts answers devices regions queues
    → CanClose config (standing config history counts) at → l ≡ close_label at (standing config history counts).labels → IsPlace config (Closed at ∷ history) counts answers devices regions (queues_after queues (Some l))
unfolding standing
place_closed config history counts devices regions queues at l h can is =
    let st = standing config history counts in
    record {
      counted = h.counted;
      lawful = (can, h.lawful);
      answered = h.answered;
      tied =
          record {
            all_devices = h.tied.all_devices;
            on_devices = λ n v found. tied_closed config st at n v.table v.opened (h.tied.on_devices n v found);
            inside = h.tied.inside;
            there = h.tied.there;
            all_queues = length-set queues (seat l.at) _ ∙ h.tied.all_queues;
            labelled =
                λ other.
                one_more config queues st.labels (Some l) other h.tied.all_queues (rw is can.there) (h.tied.labelled other)
                ∙ ap (λ k. on_queue other (st.labels ++ k ∷ [])) is;
          };
    }

-- ## The calls

-- closing begins: as the vectors say, which have the latest at their ends
pub begun_by : {answers : List Placed} (config : Configuration) (history history2 : List PlaceEntry) (counts : List ℕ) (devices : List Device) (regions : List Region) (queues : List (List Label)) (closing : Bool) (cs : List Close) (room : ℕ) (batches : List ℕ)
    → IsPlace config (reverse history) counts answers devices regions queues × KeepsCloses config (standing config (reverse history) counts) closing cs (length history) room batches → closing ≡ false → history2 ≡ history ++ Closing ∷ []
    → IsPlace config (reverse history2) counts answers devices regions queues × KeepsCloses config (standing config (reverse history2) counts) true cs (length history2) room batches
begun_by config history history2 counts devices regions queues closing cs room batches h early more =
    let e : reverse history2 ≡ Closing ∷ reverse history = ap reverse more ∙ reverse-push history Closing in
    let longer : length history2 ≡ length history + 1 = ap length more ∙ length-append history (Closing ∷ []) in
    let kept : KeepsCloses config (standing config (reverse history) counts) false cs (length history) room batches = rw early at h.1 in
    rw (e, longer) (
      place_begun config (reverse history) counts devices regions queues h.0 (sym kept.begun),
      closes_begun config (reverse history) counts cs (length history) room batches kept,
    )

-- a queue is closed
pub closed_by : {answers : List Placed} (config : Configuration) (history history2 : List PlaceEntry) (counts : List ℕ) (devices : List Device) (regions : List Region) (queues queues2 : List (List Label)) (closing : Bool) (cs cs2 : List Close) (room : ℕ) (batches : List ℕ)
    (at : QueueAt) (l : Label) (new : Close) → IsPlace config (reverse history) counts answers devices regions queues × KeepsCloses config (standing config (reverse history) counts) closing cs (length history) room batches
    → CanClose config (standing config (reverse history) counts) at → l ≡ close_label at (standing config (reverse history) counts).labels → new ≡ no_close → history2 ≡ history ++ Closed at ∷ [] → queues2 ≡ queues_after queues (Some l)
    → cs2 ≡ slice_set cs (seat at) new
    → IsPlace config (reverse history2) counts answers devices regions queues2 × KeepsCloses config (standing config (reverse history2) counts) closing cs2 (length history2) room batches
unfolding standing
closed_by config history history2 counts devices regions queues queues2 closing cs cs2 room batches at l new h can is none more more_queues set =
    let e : reverse history2 ≡ Closed at ∷ reverse history = ap reverse more ∙ reverse-push history (Closed at) in
    let longer : length history2 ≡ length history + 1 = ap length more ∙ length-append history (Closed at ∷ []) in
    let begun : closing ≡ true = h.1.begun ∙ can.begun in
    let kept : KeepsCloses config (standing config (reverse history) counts) true cs (length history) room batches = rw begun at h.1 in
    rw (e, longer, more_queues, set, begun) (
      place_closed config (reverse history) counts devices regions queues at l h.0 can is,
      close_placed config (standing config (reverse history) counts) cs (length history) room batches at new kept can.there can.unplaced none,
    )

-- the close that is found at a queue's seat
pub close_at : (config : Configuration) (cs : List Close) (at : QueueAt) (n : ℕ) (c : Close) → length cs ≡ queue_count config → IsQueue config at → n ≡ seat at → c ≡ slice_index_or cs n c → c ≡ close_in cs at
close_at config cs at n c all there is found =
    let low = seat_low config at (length cs) there all in
    found ∙ (ap (λ k. slice_index_or cs k c) is ∙ get_or_default cs (seat at) c no_close low)

-- without its batch, and with it
pub close_without : (st : Standing) (at : QueueAt) (old new : Close) → IsCloseOf st at old → new ≡ record old { batch = None } → IsCloseOf st at new
close_without st at old new h is = rw is (record { batch = tt; label = h.label; unplaced = λ kept. absurd cc; left = h.left })

pub close_with : (st : Standing) (at : QueueAt) (old : Close) (batch : Label) → IsCloseOf st at old → ClosesQueue at batch → is_closed st at ≡ false → IsCloseOf st at (record old { batch = Some batch })
close_with st at old batch h closes unplaced = record { batch = closes; label = h.label; unplaced = λ kept. unplaced; left = h.left }

-- nothing is left of one that is out, once its label is placed
none_of : {X : Type 0} (o : Option X) → is_some o ≡ false → o ≡ None
none_of None none = refl
none_of (Some x) none = absurd cc

pub close_gone : (p : PlaceView) (cs : List Close) (at : QueueAt) (old new : Close) → p.closes ≡ map (λ (c : Close). is_some c.batch) cs → length cs ≡ queue_count p.config → IsCloseOut p at → old ≡ close_in cs at → new.batch ≡ old.batch → new.label ≡ None
    → new ≡ no_close
close_gone p cs at old new shown all out is batch label =
    let hand : is_some old.batch ≡ false =
    ap (λ (c : Close). is_some c.batch) is ∙ (sym (at_hand_is p.config cs at all out.there) ∙ (ap (λ bs. nat_lt at.queue QUEUES && slice_index_or bs (seat at) false) (sym shown) ∙ out.given)) in
    ap (λ b. record { batch = b; label = new.label }) (batch ∙ none_of old.batch hand) ∙ ap (λ l. record { batch = None; label = l }) label

-- there is room for one more entry
pub entry_room : (config : Configuration) (st : Standing) (closing : Bool) (cs : List Close) (entries room : ℕ) (batches : List ℕ) (at : QueueAt) → KeepsCloses config st closing cs entries room batches → IsQueue config at → is_closed st at ≡ false → entries < room
entry_room config st closing cs entries room batches at h there unplaced =
    let some : is_some (close_in cs at).label ≡ true = (h.each at there).left ∙ ap not unplaced in
    by_closing closing (left_fewer cs (seat at) no_close some refl) h.history_room
  where
    by_closing : (b : Bool) → closes_kept (slice_set cs (seat at) no_close) + 1 ≡ closes_kept cs → entries + entries_left b cs ≤ room → entries < room
    by_closing true fewer fits = omega (arith, fewer, fits)
    by_closing false fewer fits = omega (arith, fewer, fits)

-- which closes are at hand then
pub at_hand_set : (cs : List Close) (n : ℕ) (new : Close) → map (λ (c : Close). is_some c.batch) (slice_set cs n new) ≡ slice_set (map (λ (c : Close). is_some c.batch) cs) n (is_some new.batch)
at_hand_set cs n new = map-set (λ (c : Close). is_some c.batch) cs n new

-- the label that is placed is the queue's last
pub label_closes : (at : QueueAt) (labels : List Label) (l : Label) (number : ℕ) → ClosesQueue at l → number ≡ length (on_queue at labels) + 1 → record l { number = number } ≡ close_label at labels
label_closes at labels l number is counted = ap (λ (k : Label). record k { number = number }) is ∙ ap (λ n. record (close_label at []) { number = n }) counted
