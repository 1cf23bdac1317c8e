-- Each step of two states that differ in their place histories alone, which leave alike.
use Rattle.std.proofs.Common.{◌≡◌, ℕ, ◌+◌, zero, suc, Bool, true, false, cond, ◌||◌, ◌&&◌, List, [], ◌∷◌, ◌++◌, length, take, drop, refl, sym, ap, ap₂, ◌∙◌, subst, Some, None, Option, Ok, Err, Result, nat_lt, slice_get, slice_set, ◌==◌}
use Rattle.std.specs.Prelude.{not, ◌-◌}
use Rattle.acc_base.specs.declared.fault.Fault.{Fault}
use Rattle.acc_base.specs.declared.fault.Fault.TheVariants.{Memory}
use Rattle.acc_base.specs.declared.ids.QueueAt.{QueueAt}
use Rattle.acc_base.specs.Configurations.{Configuration, lengths_of}
use Rattle.acc_base.specs.Queues.{at_seat, queue_count}
use Rattle.acc_batch.specs.declared.entry.Told.{Told}
use Rattle.acc_batch.specs.declared.entry.Told.TheVariants as told
use Rattle.acc_batch.specs.declared.label.Label.{Label}
use Rattle.acc_batch.specs.declared.label.OpLabel.{OpLabel}
use Rattle.acc_batch.specs.Labels.{ops_of}
use Rattle.acc_core.specs.Machine.{State, Outcome, step, standing_of, is_there, is_empty, taken_on, batches_held, ops_left, is_full, queue_fault, place_fault, unless, place_answer, placed_state, with_directive, with_item, told_of, can_tell, item_answer, item_state, wait_answer, waited_state, idle, did, host_outcome, host_step, named_step, take_step, can_perform, perform_step, with_op, can_close, closes, stay_open, with_closing, close_step, queue_step}
use Rattle.acc_host.specs.declared.event.Event.{Event}
use Rattle.acc_host.specs.declared.event.Event.TheVariants as event
use Rattle.acc_host.specs.declared.state.After.{After}
use Rattle.acc_host.specs.declared.state.After.TheVariants as go
use Rattle.acc_host.specs.declared.state.Reply.TheVariants as reply
use Rattle.acc_host.specs.Entries.{Own, own_of}
use Rattle.acc_host.specs.Hosts.{HostView, wants, after_place, after_wait, after_answer, host_after}
use Rattle.acc_host.specs.Steps.{Want, stays, sets, refuses, places, awaits, records}
use Rattle.acc_place.specs.Accepting.{refusal}
use Rattle.acc_place.specs.Batches.{answer_of, walk_at}
use Rattle.acc_place.specs.declared.directive.Placed.{Placed}
use Rattle.acc_place.specs.declared.directive.PlaceEntry.{PlaceEntry}
use Rattle.acc_place.specs.declared.directive.PlaceEntry.TheVariants as noted
use Rattle.acc_place.specs.Directives.{Directive}
use Rattle.acc_place.specs.Histories.{AllAccepted, after_walk, is_closed, standing}
use Rattle.acc_place.specs.Standings.{Standing, Walk, marks_behind, walk_of}
use Rattle.acc_place.proofs.LabelsSound.{all_sound}
use Rattle.acc_present.specs.Legality.{AllLegal}
use Rattle.acc_work.specs.declared.item.ItemLabel.{ItemLabel}
use Rattle.acc_work.specs.declared.item.ItemLabel.TheVariants as to_record
use Rattle.acc_work.specs.declared.item.Shown.{Shown}
use Rattle.acc_work.specs.Items.{shown_by}
use Rattle.acc_work.specs.Logs.{items_of, one_more, performed}
use Rattle.acc_work.specs.Works.{item_fault}
use Rattle.acc_explore.specs.Alike.{AlikePlaces, own_directives}
use Rattle.acc_explore.proofs.AcceptedMarks.{behind_legal, marks_legal}
use Rattle.acc_explore.proofs.AlikeCloses.{closed_same}
use Rattle.acc_explore.proofs.AlikeDirectives.{LeaveAlike, answer_same, batch_same, leave_alike, refusal_same, walk_same}
use Rattle.acc_explore.proofs.AlikeLabels.{all_done_same, performs_same}
use Rattle.acc_explore.proofs.AlikeLabels as labels
use Rattle.acc_explore.proofs.AlikeOpened.{opened_same}
use Rattle.acc_explore.proofs.OwnDirectives.{accepted_same}

abbrev pub with_histories : State → List PlaceEntry → List ℕ → State
with_histories w history counts = record w { history = history; counts = counts }

-- They differ in their place histories alone, which leave alike, each host with the same directives of its own.
pub record AlikeInPlaces (w v : State) : Type 0 where
  pub rest : v ≡ with_histories w v.history v.counts
  pub places : AlikePlaces (standing_of w) (standing_of v)
  pub own : (host : ℕ) → own_directives w host ≡ own_directives v host

pub record OutcomeInPlaces (old new : Outcome) : Type 0 where
  pub reply : old.reply ≡ new.reply
  pub state : AlikeInPlaces old.state new.state

lengths_are : (config : Configuration) (history : List PlaceEntry) (counts : List ℕ) → (standing config history counts).lengths ≡ lengths_of config.arrays
unfolding standing
lengths_are config [] counts = refl
lengths_are config (noted.Accepted host d ∷ before) counts = lengths_are config before (drop 1 counts)
lengths_are config (noted.Closing ∷ before) counts = lengths_are config before counts
lengths_are config (noted.Closed at ∷ before) counts = lengths_are config before counts

-- ## What is the same in both of two outcomes

outcome_same : (x y : State) (h : ℕ) (host : HostView) (goes other : Result After Fault) → goes ≡ other → AlikeInPlaces x y
    → OutcomeInPlaces (host_outcome x h host goes) (host_outcome y h host other)
outcome_same x y h host goes other e s =
    subst (λ (o : Result After Fault). OutcomeInPlaces (host_outcome x h host goes) (host_outcome y h host o)) e
    (record {
      reply = refl;
      state = record {
        rest = ap (λ (z : State). record z { hosts = slice_set z.hosts h (host_after goes host) }) s.rest;
        places = s.places;
        own = s.own;
      };
    })

if_same : (b c : Bool) (x y other_x other_y : Outcome) → b ≡ c → OutcomeInPlaces x other_x → OutcomeInPlaces y other_y → OutcomeInPlaces (cond b x y) (cond c other_x other_y)
if_same true true x y other_x other_y e f g = f
if_same false false x y other_x other_y e f g = g
if_same true false x y other_x other_y e f g = absurd cc
if_same false true x y other_x other_y e f g = absurd cc

-- ## Closing

-- one queue more is closed behind both
closed_behind : (config : Configuration) (at : QueueAt) (h g : List PlaceEntry) (c b : List ℕ) → AlikePlaces (standing config h c) (standing config g b)
    → AlikePlaces (standing config (noted.Closed at ∷ h) c) (standing config (noted.Closed at ∷ g) b)
unfolding standing
closed_behind config at h g c b s = record {
  placed = labels.close_same (standing config h c).labels (standing config g b).labels at s.placed;
  present = s.present;
  inside = s.inside;
  closing = s.closing;
}

begun_behind : (config : Configuration) (x y : Bool) (h g : List PlaceEntry) (c b : List ℕ) → x ≡ y → AlikePlaces (standing config h c) (standing config g b)
    → AlikePlaces (standing config (cond x h (noted.Closing ∷ h)) c) (standing config (cond y g (noted.Closing ∷ g)) b)
unfolding standing
begun_behind config true true h g c b e s = s
begun_behind config false false h g c b e s = record {
  placed = s.placed;
  present = s.present;
  inside = s.inside;
  closing = refl;
}
begun_behind config true false h g c b e s = absurd cc
begun_behind config false true h g c b e s = absurd cc

begun_own : (config : Configuration) (host : ℕ) (x y : Bool) (h g : List PlaceEntry) (c b : List ℕ) → own_of config host h c ≡ own_of config host g b
    → own_of config host (cond x h (noted.Closing ∷ h)) c ≡ own_of config host (cond y g (noted.Closing ∷ g)) b
begun_own config host true true h g c b e = e
begun_own config host true false h g c b e = e
begun_own config host false true h g c b e = e
begun_own config host false false h g c b e = e

module _ (config : Configuration) (w : State) (st : Standing) where
  closes_behind : (n : ℕ) (h g : List PlaceEntry) (c b : List ℕ) → AlikePlaces (standing config h c) (standing config g b)
      → AlikePlaces (standing config (closes w st n ++ h) c) (standing config (closes w st n ++ g) b)
  closes_behind zero h g c b s = s
  closes_behind (suc n) h g c b s =
      let rest = closes_behind n h g c b s in
      elim (can_close w st (at_seat n))
      as (λ v. AlikePlaces (standing config (cond v (noted.Closed (at_seat n) ∷ closes w st n) (closes w st n) ++ h) c) (standing config (cond v (noted.Closed (at_seat n) ∷ closes w st n) (closes w st n) ++ g) b))
      [ true ↦ closed_behind config (at_seat n) (closes w st n ++ h) (closes w st n ++ g) c b rest | false ↦ rest ]

  closes_own : (host n : ℕ) (h g : List PlaceEntry) (c b : List ℕ) → own_of config host h c ≡ own_of config host g b
      → own_of config host (closes w st n ++ h) c ≡ own_of config host (closes w st n ++ g) b
  closes_own host zero h g c b e = e
  closes_own host (suc n) h g c b e =
      let rest = closes_own host n h g c b e in
      elim (can_close w st (at_seat n))
      as (λ v. own_of config host (cond v (noted.Closed (at_seat n) ∷ closes w st n) (closes w st n) ++ h) c ≡ own_of config host (cond v (noted.Closed (at_seat n) ∷ closes w st n) (closes w st n) ++ g) b)
      [ true ↦ rest | false ↦ rest ]

-- ## Each event

module _ (w : State) (h : List PlaceEntry) (c : List ℕ) (places_alike : AlikePlaces (standing_of w) (standing w.config h c)) (own_alike : (host : ℕ) → own_directives w host ≡ own_of w.config host h c)
    (a : AllAccepted w.config w.history w.counts) (b : AllAccepted w.config h c) where
  abbrev v : State
  v = with_histories w h c

  abbrev st : Standing
  st = standing w.config w.history w.counts

  abbrev ot : Standing
  ot = standing w.config h c

  itself : AlikeInPlaces w v
  itself = record { rest = refl; places = places_alike; own = own_alike }

  idle_same : OutcomeInPlaces (idle w) (idle v)
  idle_same = record { reply = refl; state = itself }

  leave : LeaveAlike st ot
  leave = record {
    lengths = lengths_are w.config w.history w.counts ∙ sym (lengths_are w.config h c);
    places = places_alike;
    accepted = accepted_same w.config w.config w.history h w.counts c own_alike;
    opened = opened_same w.config w.config st ot (all_sound w.config w.history w.counts a) (all_sound w.config h c b) places_alike.placed;
  }

  held_same : (at : QueueAt) → batches_held w st.labels at ≡ batches_held v ot.labels at
  held_same at = ap (λ (ls : List Label). length ls - taken_on w at) (places_alike.placed at)

  left_same : (at : QueueAt) → ops_left w st.labels at ≡ ops_left v ot.labels at
  left_same at = ap (λ (ls : List Label). drop (length (performed at w.work)) (ops_of (take (taken_on w at) ls))) (places_alike.placed at)

  -- ### A directive

  module _ (no_memory : Bool) (host : ℕ) (d : Directive) where
    refusals : refusal w.config st host d ≡ refusal w.config ot host d
    refusals = refusal_same st ot leave w.config host d (marks_legal w.config w.history w.counts a) (marks_legal w.config h c b)

    abbrev PlacesAlike : Result Placed Fault → Result Placed Fault → Type 0
    PlacesAlike x y = (x ≡ y) × AlikeInPlaces (placed_state w host d x) (placed_state v host d y)

    refused : (f : Fault) → refusal w.config st host d ≡ Some f → PlacesAlike (place_answer no_memory w host d) (place_answer no_memory v host d)
    refused f is =
        let one : place_answer no_memory w host d ≡ Err f = ap (λ (r : Option Fault). unless (place_fault no_memory w host d r) (answer_of st d (walk_of st host d))) is in
        let two : place_answer no_memory v host d ≡ Err f = ap (λ (r : Option Fault). unless (place_fault no_memory v host d r) (answer_of ot d (walk_of ot host d))) (sym refusals ∙ is) in
        subst (λ (x : Result Placed Fault). PlacesAlike x (place_answer no_memory v host d)) (sym one)
        (subst (λ (y : Result Placed Fault). PlacesAlike (Err f) y) (sym two) (refl, itself))

    module _ (accepted : refusal w.config st host d ≡ None) where
      abbrev walk : Walk
      walk = walk_of st host d

      one_walk : walk_of st host d ≡ walk_of ot host d
      one_walk = walk_same st ot leave host d

      first_legal : AllLegal (marks_behind (st.marks walk.device) walk)
      first_legal = behind_legal w.config w.history w.counts host d a accepted

      second_legal : AllLegal (marks_behind (ot.marks walk.device) walk)
      second_legal =
          subst (λ (x : Walk). AllLegal (marks_behind (ot.marks x.device) x)) (sym one_walk) (behind_legal w.config h c host d b (sym refusals ∙ accepted))

      full_same : is_full w st walk ≡ is_full v ot (walk_of ot host d)
      full_same =
          ap₂ (λ (ops : List OpLabel) (held : ℕ). not (is_empty ops) && (held == w.config.room)) (batch_same st ot leave walk first_legal second_legal) (held_same (walk_at walk))
          ∙ ap (λ (x : Walk). is_full v ot x) one_walk

      placed_same : answer_of st d walk ≡ answer_of ot d (walk_of ot host d)
      placed_same = answer_same st ot leave walk first_legal second_legal d ∙ ap (λ (x : Walk). answer_of ot d x) one_walk

      directive_same : AlikeInPlaces (with_directive w host d) (with_directive v host d)
      unfolding standing
      directive_same =
          let n = items_of host w.work in
          record {
            rest = refl;
            places = subst (λ (x : Walk). AlikePlaces (after_walk st host n d walk) (after_walk ot host n d x)) one_walk (leave_alike st ot leave walk first_legal second_legal host n d).places;
            own = λ k.
                ap₂ (λ (owns : List Own) (placed : Placed). let o : Own = record { items_before = n; directive = d; placed = placed } in one_more (host == k) owns o) (own_alike k) placed_same;
          }

      answered : (x : Result Placed Fault) → AlikeInPlaces (placed_state w host d x) (placed_state v host d x)
      answered (Ok placed) = directive_same
      answered (Err fault) = itself

      placed_alike : PlacesAlike (place_answer no_memory w host d) (place_answer no_memory v host d)
      placed_alike =
          let x : Result Placed Fault = unless (cond no_memory (Some Memory) (queue_fault (is_full w st walk))) (answer_of st d walk) in
          let y : Result Placed Fault = unless (cond no_memory (Some Memory) (queue_fault (is_full v ot (walk_of ot host d)))) (answer_of ot d (walk_of ot host d)) in
          let one : place_answer no_memory w host d ≡ x = ap (λ (r : Option Fault). unless (place_fault no_memory w host d r) (answer_of st d (walk_of st host d))) accepted in
          let two : place_answer no_memory v host d ≡ y =
          ap (λ (r : Option Fault). unless (place_fault no_memory v host d r) (answer_of ot d (walk_of ot host d))) (sym refusals ∙ accepted) in
          let same : x ≡ y = ap₂ (λ (full : Bool) (placed : Placed). unless (cond no_memory (Some Memory) (queue_fault full)) placed) full_same placed_same in
          let all : place_answer no_memory w host d ≡ place_answer no_memory v host d = one ∙ (same ∙ sym two) in
          (all, subst (λ (z : Result Placed Fault). AlikeInPlaces (placed_state w host d (place_answer no_memory w host d)) (placed_state v host d z)) all (answered (place_answer no_memory w host d)))

    by_refusal : (r : Option Fault) → refusal w.config st host d ≡ r → PlacesAlike (place_answer no_memory w host d) (place_answer no_memory v host d)
    by_refusal None is = placed_alike is
    by_refusal (Some f) is = refused f is

    place_same : PlacesAlike (place_answer no_memory w host d) (place_answer no_memory v host d)
    place_same = by_refusal (refusal w.config st host d) refl

  -- ### An item

  can_tell_same : (item : ItemLabel) → can_tell w item ≡ can_tell v item
  can_tell_same (to_record.Write array cell new_value) = refl
  can_tell_same (to_record.Print range) = refl
  can_tell_same (to_record.Seen device counts) = all_done_same st.labels ot.labels w.work device 0 counts places_alike.placed
  can_tell_same (to_record.Test device counts) = refl

  told_same : (item : ItemLabel) → told_of w item ≡ told_of v item
  told_same (to_record.Write array cell new_value) = refl
  told_same (to_record.Print range) = refl
  told_same (to_record.Seen device counts) = refl
  told_same (to_record.Test device counts) = ap (λ answer. told.Test device answer counts) (all_done_same st.labels ot.labels w.work device 0 counts places_alike.placed)

  answer_item_same : (no_memory : Bool) (item : ItemLabel) → item_answer no_memory w item ≡ item_answer no_memory v item
  answer_item_same no_memory item =
      ap₂ (λ (can : Bool) (what : Told). unless (item_fault no_memory w.work can) (shown_by what)) (can_tell_same item) (told_same item)

  with_item_same : (host : ℕ) (what other : Told) → what ≡ other → AlikeInPlaces (with_item w host what) (with_item v host other)
  with_item_same host what other e =
      subst (λ (o : Told). AlikeInPlaces (with_item w host what) (with_item v host o)) e (record { rest = refl; places = places_alike; own = own_alike })

  item_same : (host : ℕ) (item : ItemLabel) (answer : Result Shown Fault) → AlikeInPlaces (item_state w host item answer) (item_state v host item answer)
  item_same host item (Ok answer) = with_item_same host (told_of w item) (told_of v item) (told_same item)
  item_same host item (Err fault) = itself

  wait_same : (no_memory : Bool) (device : ℕ) (counts : List ℕ) → wait_answer no_memory w device counts ≡ wait_answer no_memory v device counts
  wait_same no_memory device counts =
      ap (λ (reached : Bool). cond reached (unless (item_fault no_memory w.work true) true) (Ok false)) (all_done_same st.labels ot.labels w.work device 0 counts places_alike.placed)

  waited_same : (host device : ℕ) (counts : List ℕ) (answer : Result Bool Fault) → AlikeInPlaces (waited_state w host device counts answer) (waited_state v host device counts answer)
  waited_same host device counts (Ok true) = with_item_same host (told.Seen device counts) (told.Seen device counts) refl
  waited_same host device counts (Ok false) = itself
  waited_same host device counts (Err fault) = itself

  -- ### The step of a host, by what it wants

  want_same : (no_memory : Bool) (host : ℕ) (view : HostView) (want : Want) → OutcomeInPlaces (host_step no_memory w host view want) (host_step no_memory v host view want)
  want_same no_memory host view stays = outcome_same w v host view (Ok go.Idle) (Ok go.Idle) refl itself
  want_same no_memory host view (sets ids) = outcome_same w v host view (Ok (go.Set ids)) (Ok (go.Set ids)) refl itself
  want_same no_memory host view (refuses fault) = outcome_same w v host view (Err fault) (Err fault) refl itself
  want_same no_memory host view (places d) =
      let s = place_same no_memory host d in
      outcome_same (placed_state w host d (place_answer no_memory w host d)) (placed_state v host d (place_answer no_memory v host d)) host view
      (after_place d (place_answer no_memory w host d)) (after_place d (place_answer no_memory v host d)) (ap (after_place d) s.0) s.1
  want_same no_memory host view (awaits device counts) =
      let answer = wait_answer no_memory w device counts in
      let other = wait_answer no_memory v device counts in
      let e = wait_same no_memory device counts in
      outcome_same (waited_state w host device counts answer) (waited_state v host device counts other) host view (after_wait answer) (after_wait other) (ap after_wait e)
      (subst (λ (x : Result Bool Fault). AlikeInPlaces (waited_state w host device counts answer) (waited_state v host device counts x)) e (waited_same host device counts answer))
  want_same no_memory host view (records item) =
      let answer = item_answer no_memory w item in
      let other = item_answer no_memory v item in
      let e = answer_item_same no_memory item in
      outcome_same (item_state w host item answer) (item_state v host item other) host view (after_answer answer) (after_answer other) (ap after_answer e)
      (subst (λ (x : Result Shown Fault). AlikeInPlaces (item_state w host item answer) (item_state v host item x)) e (item_same host item answer))

  named_same : (no_memory : Bool) (host : ℕ) (view : Option HostView) → OutcomeInPlaces (named_step no_memory w host view) (named_step no_memory v host view)
  named_same no_memory host None = idle_same
  named_same no_memory host (Some view) = want_same no_memory host view (wants w.config.devices view)

  -- ### A queue

  take_same : (at : QueueAt) (ops : List OpLabel) → OutcomeInPlaces (take_step w st.labels at ops) (take_step v ot.labels at ops)
  take_same at [] =
      if_same (nat_lt 0 (batches_held w st.labels at)) (nat_lt 0 (batches_held v ot.labels at)) _ (idle w) _ (idle v) (ap (nat_lt 0) (held_same at))
      (record { reply = refl; state = record { rest = refl; places = places_alike; own = own_alike } }) idle_same
  take_same at (op ∷ ops) = idle_same

  perform_same : (at : QueueAt) (ops : List OpLabel) → OutcomeInPlaces (perform_step w st.labels at ops) (perform_step v ot.labels at ops)
  perform_same at [] = idle_same
  perform_same at (op ∷ ops) =
      if_same (can_perform st.labels w.work at op) (can_perform ot.labels v.work at op) (did (with_op w at op)) (idle w) (did (with_op v at op)) (idle v)
      (performs_same st.labels ot.labels w.work at op places_alike.placed) (record { reply = refl; state = record { rest = refl; places = places_alike; own = own_alike } }) idle_same

  queue_same : (there : Bool) (o other : Outcome) → OutcomeInPlaces o other → OutcomeInPlaces (queue_step there w o) (queue_step there v other)
  queue_same true o other s = s
  queue_same false o other s = idle_same

  -- ### The owner

  shut_same : (at : QueueAt) → is_closed st at ≡ is_closed ot at
  shut_same at = closed_same w.config w.config w.history h w.counts c at a b (places_alike.placed at)

  can_close_same : (at : QueueAt) → can_close w st at ≡ can_close v ot at
  can_close_same at = ap₂ (λ (shut : Bool) (held : ℕ). not shut && nat_lt held w.config.room) (shut_same at) (held_same at)

  closes_same : (n : ℕ) → closes w st n ≡ closes v ot n
  closes_same zero = refl
  closes_same (suc n) = ap₂ (λ (can : Bool) cs. cond can (noted.Closed (at_seat n) ∷ cs) cs) (can_close_same (at_seat n)) (closes_same n)

  stay_same : (n : ℕ) → stay_open w st n ≡ stay_open v ot n
  stay_same zero = refl
  stay_same (suc n) = λ i. cond (shut_same (at_seat n) i || can_close_same (at_seat n) i) (stay_same n i) (stay_same n i + 1)

  close_same : OutcomeInPlaces (close_step w st) (close_step v ot)
  close_same =
      let n = queue_count w.config in
      let cs = closes w st n in
      let before = with_closing st w.history in
      let other = with_closing ot h in
      let begun = begun_behind w.config st.closing ot.closing w.history h w.counts c places_alike.closing places_alike in
      record {
        reply = ap reply.Remaining (stay_same n);
        state = subst (λ (xs : List PlaceEntry). AlikeInPlaces (with_histories w (cs ++ before) w.counts) (with_histories w (xs ++ other) c)) (closes_same n)
            (record {
              rest = refl;
              places = closes_behind w.config w st n before other w.counts c begun;
              own = λ host. closes_own w.config w st host n before other w.counts c (begun_own w.config host st.closing ot.closing w.history h w.counts c (own_alike host));
            });
      }

  pub by_event : (no_memory : Bool) (e : Event) → OutcomeInPlaces (step no_memory w e) (step no_memory v e)
  by_event no_memory (event.Host host) = named_same no_memory host (slice_get w.hosts host)
  by_event no_memory (event.Take at) =
      queue_same (is_there w at) _ _
      (subst (λ (ops : List OpLabel). OutcomeInPlaces (take_step w st.labels at (ops_left w st.labels at)) (take_step v ot.labels at ops)) (left_same at) (take_same at (ops_left w st.labels at)))
  by_event no_memory (event.Perform at) =
      queue_same (is_there w at) _ _
      (subst (λ (ops : List OpLabel). OutcomeInPlaces (perform_step w st.labels at (ops_left w st.labels at)) (perform_step v ot.labels at ops)) (left_same at) (perform_same at (ops_left w st.labels at)))
  by_event no_memory event.Close = close_same
