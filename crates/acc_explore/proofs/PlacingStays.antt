-- A host that may place a directive before the others go on may do so behind what they do.
use Rattle.std.proofs.Common.{inl, inr, ◌≡◌, ℕ, zero, suc, ◌+◌, ◌<◌, ◌≤◌, Bool, true, false, cond, List, [], ◌∷◌, length, refl, sym, ap, ◌∙◌, Some, None, Option, Ok, Err, Result, nat_lt, slice_get, slice_set, arith}
use Rattle.std.specs.Prelude.{◌&&◌, ◌==◌, slice_index_or}
use Rattle.std.specs.List.{list_all}
use Rattle.std.proofs.lemmas.Bool.{and_parts, and_from, cases_Bool, lt-ltb, cases_eq, cases_lt, eqb-true, eq-eqb, leb-true, le-leb}
use Rattle.std.proofs.lemmas.List.{get_or_past, get_or-set_same, get_or-set_other}
use Rattle.acc_base.specs.Configurations.{Configuration}
use Rattle.acc_base.specs.declared.fault.Fault.{Fault}
use Rattle.acc_base.specs.declared.ids.QueueAt.{QueueAt}
use Rattle.acc_base.specs.declared.ids.TheConstants.{QUEUES}
use Rattle.acc_base.specs.Queues.{at_seat, numbers_from, queue_count, seat}
use Rattle.acc_batch.proofs.Seats.{set_there}
use Rattle.acc_batch.specs.declared.entry.Told.{Told}
use Rattle.acc_batch.specs.declared.entry.Told.TheVariants as told
use Rattle.acc_batch.specs.declared.label.OpLabel.{OpLabel}
use Rattle.acc_batch.specs.Labels.{on_queue}
use Rattle.acc_core.specs.Machine.{State, Outcome, is_there, standing_of, labels_of, batches_held, can_perform, did, host_outcome, host_step, idle, item_answer, item_state, perform_step, queue_step, take_step, taken_on, told_of, wait_answer, waited_state, with_item, with_op}
use Rattle.acc_host.specs.declared.state.After.{After}
use Rattle.acc_host.specs.declared.state.After.TheVariants as go
use Rattle.acc_host.specs.Hosts.{HostView, wants, after_answer, after_wait, host_after}
use Rattle.acc_host.specs.Steps.{Want, stays, sets, refuses, places, awaits, records}
use Rattle.acc_place.specs.declared.directive.PlaceEntry.{PlaceEntry}
use Rattle.acc_place.specs.Directives.{Directive}
use Rattle.acc_place.specs.Histories.{standing}
use Rattle.acc_place.specs.Standings.{Standing}
use Rattle.acc_work.specs.declared.item.ItemLabel.{ItemLabel}
use Rattle.acc_work.specs.declared.item.Shown.{Shown}
use Rattle.acc_work.specs.Logs.{items_of}
use Rattle.acc_explore.specs.Placements.{all_have_room, is_placement, may_place, places_alone}
use Rattle.acc_explore.specs.Takes.{never_fills, unplaced, unplaced_by}
use Rattle.acc_explore.proofs.FreeTakes.{behind_take}
use Rattle.acc_explore.proofs.PlacedBeside.{other_item}
use Rattle.acc_explore.proofs.UnplacedDirectives.{had_before, left_behind, unplaced_of, unplaced_set}

-- ## What holds of each of some numbers

pub each_of : (p : ℕ → Bool) (first count i : ℕ) → list_all p (numbers_from first count) ≡ true → i < count → p (first + i) ≡ true
each_of p first zero i all low = absurd (omega (arith, low))
each_of p first (suc count) zero all low =
    let here : first ≡ first + 0 = omega arith in
    ap p (sym here) ∙ (and_parts (p first) (list_all p (numbers_from (first + 1) count)) all).0
each_of p first (suc count) (suc i) all low =
    let there : first + 1 + i ≡ first + suc i = omega arith in
    ap p (sym there) ∙ each_of p (first + 1) count i (and_parts (p first) (list_all p (numbers_from (first + 1) count)) all).1 (omega (arith, low))

pub all_of : (p : ℕ → Bool) (first count : ℕ) → ((i : ℕ) → i < count → p (first + i) ≡ true) → list_all p (numbers_from first count) ≡ true
all_of p first zero each = refl
all_of p first (suc count) each =
    let here : first ≡ first + 0 = omega arith in
    and_from (p first) (list_all p (numbers_from (first + 1) count)) (ap p here ∙ each 0 (omega arith))
    (all_of p (first + 1) count (λ i low. (let there : first + 1 + i ≡ first + suc i = omega arith in ap p there ∙ each (suc i) (omega (arith, low)))))

-- Where all queues that are there have room, each of them has; where one has none, they haven't.
rooms : (w : State) → all_have_room w ≡ true → (n : ℕ) → n < queue_count w.config → never_fills w (at_seat n) ≡ true
rooms w all n low =
    let same : 0 + n ≡ n = omega arith in
    ap (λ m. never_fills w (at_seat m)) (sym same) ∙ each_of (λ m. never_fills w (at_seat m)) 0 (queue_count w.config) n all low

seat_there : (w : State) (n : ℕ) → n < queue_count w.config → is_there w (at_seat n) ≡ true
seat_there w n low =
    and_from (nat_lt (at_seat n).device w.config.devices) (nat_lt (at_seat n).queue QUEUES) (lt-ltb (at_seat n).device w.config.devices (omega (arith, low)))
    (lt-ltb (at_seat n).queue QUEUES (omega arith))

pub lacks_room : (w : State) (n : ℕ) → n < queue_count w.config → (is_there w (at_seat n) && never_fills w (at_seat n)) ≡ false → all_have_room w ≡ false
lacks_room w n low lacks = elim (cases_Bool (all_have_room w)) [
  | inl all ↦
      let wrong : true ≡ false = sym (and_from (is_there w (at_seat n)) (never_fills w (at_seat n)) (seat_there w n low) (rooms w all n low)) ∙ lacks in
      cc
  | inr some ↦ some
]

-- ## The test, in its parts

-- A host stands at a directive, all that are still to be placed are its own, and each queue has room for them.
pub record StandsPlacing (w : State) (h : ℕ) (host : HostView) (d : Directive) : Type 0 where
  pub there : slice_get w.hosts h ≡ Some host
  pub want : wants w.config.devices host ≡ places d
  pub own : unplaced w.hosts ≡ unplaced_by host
  pub room : (n : ℕ) → n < queue_count w.config → batches_held w (labels_of w) (at_seat n) + unplaced w.hosts ≤ w.config.room

placed_by : (want : Want) → is_placement want ≡ true → (d : Directive) × (want ≡ places d)
placed_by (places d) e = (d, refl)
placed_by stays e = cc
placed_by (sets ids) e = cc
placed_by (refuses fault) e = cc
placed_by (awaits device counts) e = cc
placed_by (records item) e = cc

pub stands_placing : (w : State) (h : ℕ) → may_place h w ≡ true → (host : HostView) × ((d : Directive) × StandsPlacing w h host d)
stands_placing w h e =
    let parts = and_parts (places_alone w (slice_get w.hosts h)) (all_have_room w) e in
    by (slice_get w.hosts h) refl parts.0 (λ n low. (let at = at_seat n in leb-true (batches_held w (labels_of w) at + unplaced w.hosts) w.config.room (rooms w parts.1 n low)))
  where
    by : (o : Option HostView) → slice_get w.hosts h ≡ o → places_alone w o ≡ true → ((n : ℕ) → n < queue_count w.config → batches_held w (labels_of w) (at_seat n) + unplaced w.hosts ≤ w.config.room)
        → (host : HostView) × ((d : Directive) × StandsPlacing w h host d)
    by None there alone room = cc
    by (Some host) there alone room =
        let parts = and_parts (is_placement (wants w.config.devices host)) (unplaced w.hosts == unplaced_by host) alone in
        let p = placed_by (wants w.config.devices host) parts.0 in
        (host, (p.0, record { there = there; want = p.1; own = eqb-true (unplaced w.hosts) (unplaced_by host) parts.1; room = room }))

pub is_tested : (w : State) (h : ℕ) (host : HostView) (d : Directive) → StandsPlacing w h host d → may_place h w ≡ true
is_tested w h host d p =
    and_from (places_alone w (slice_get w.hosts h)) (all_have_room w)
    (ap (places_alone w) p.there
    ∙ and_from (is_placement (wants w.config.devices host)) (unplaced w.hosts == unplaced_by host) (ap is_placement p.want) (eq-eqb (unplaced w.hosts) (unplaced_by host) p.own))
    (all_of (λ n. never_fills w (at_seat n)) 0 (queue_count w.config)
    (λ n low. (
    let same : n ≡ 0 + n = omega arith in
    ap (λ m. never_fills w (at_seat m)) (sym same) ∙ le-leb (batches_held w (labels_of w) (at_seat n) + unplaced w.hosts) w.config.room (p.room n low)
    )))

-- ## What others leave

-- All that was placed; how many items the host has; the host itself; no fewer batches that were taken, and no more directives to place.
pub record Stays (w s : State) (h : ℕ) : Type 0 where
  pub config : s.config ≡ w.config
  pub history : s.history ≡ w.history
  pub counts : s.counts ≡ w.counts
  pub items : items_of h s.work ≡ items_of h w.work
  pub taken : (at : QueueAt) → taken_on w at ≤ taken_on s at
  pub there : slice_get s.hosts h ≡ slice_get w.hosts h
  pub fewer : unplaced s.hosts ≤ unplaced w.hosts

pub standing_stays : (w s : State) (h : ℕ) → Stays w s h → standing_of s ≡ standing_of w
standing_stays w s h x =
    ap (λ (c : Configuration). standing c s.history s.counts) x.config
    ∙ (ap (λ (history : List PlaceEntry). standing w.config history s.counts) x.history ∙ ap (standing w.config w.history) x.counts)

pub stands_still : (w s : State) (h : ℕ) (host : HostView) (d : Directive) → StandsPlacing w h host d → Stays w s h → StandsPlacing s h host d
stands_still w s h host d p x =
    let there : slice_get s.hosts h ≡ Some host = x.there ∙ p.there in
    record {
      there = there;
      want = ap (λ (c : Configuration). wants c.devices host) x.config ∙ p.want;
      own = omega (arith, x.fewer, p.own, unplaced_of s.hosts h host there);
      room = λ n low.
          (let at = at_seat n in
          let same : length (on_queue at (labels_of s)) ≡ length (on_queue at (labels_of w)) = ap (λ (st : Standing). length (on_queue at st.labels)) (standing_stays w s h x) in
          let count : queue_count s.config ≡ queue_count w.config = ap queue_count x.config in
          omega (arith, p.room n (omega (arith, low, count)), x.taken at, x.fewer, same, ap (λ (c : Configuration). c.room) x.config));
    }

pub stays_itself : (w : State) (h : ℕ) → Stays w w h
stays_itself w h = record { config = refl; history = refl; counts = refl; items = refl; taken = λ at. omega arith; there = refl; fewer = omega arith }

module _ (w : State) (h : ℕ) where
  stays_if : (b : Bool) (x y : Outcome) → Stays w x.state h → Stays w y.state h → Stays w (cond b x y).state h
  stays_if true x y f g = f
  stays_if false x y f g = g

  pub stays_queue : (there : Bool) (o : Outcome) → Stays w o.state h → Stays w (queue_step there w o).state h
  stays_queue true o f = f
  stays_queue false o f = stays_itself w h

  -- a queue that takes a batch has taken one more, where it is there
  taken_grows : (at other : QueueAt) → taken_on w other ≤ taken_on (behind_take w at) other
  taken_grows at other = elim (cases_eq (seat other) (seat at)) [
    | inl same ↦ elim (cases_lt (seat at) (length w.taken)) [
      | inl low ↦
          let now : taken_on (behind_take w at) at ≡ taken_on w at + 1 = get_or-set_same w.taken (seat at) (taken_on w at + 1) 0 low in
          omega (arith, now, ap (λ n. slice_index_or w.taken n 0) same, ap (λ n. slice_index_or (behind_take w at).taken n 0) same)
      | inr past ↦
          let none : taken_on w at ≡ 0 = get_or_past w.taken (seat at) 0 past in
          omega (arith, none, ap (λ n. slice_index_or w.taken n 0) same)
    ]
    | inr apart ↦ omega (arith, get_or-set_other w.taken (seat at) (seat other) (taken_on w at + 1) 0 apart)
  ]

  pub stays_take : (at : QueueAt) (ops : List OpLabel) → Stays w (take_step w (labels_of w) at ops).state h
  stays_take at [] =
      stays_if (nat_lt 0 (batches_held w (labels_of w) at)) (did (behind_take w at)) (idle w)
      (record { config = refl; history = refl; counts = refl; items = refl; taken = taken_grows at; there = refl; fewer = omega arith }) (stays_itself w h)
  stays_take at (op ∷ ops) = stays_itself w h

  pub stays_perform : (at : QueueAt) (ops : List OpLabel) → Stays w (perform_step w (labels_of w) at ops).state h
  stays_perform at [] = stays_itself w h
  stays_perform at (op ∷ ops) =
      stays_if (can_perform (labels_of w) w.work at op) (did (with_op w at op)) (idle w)
      (record { config = refl; history = refl; counts = refl; items = refl; taken = λ q. omega arith; there = refl; fewer = omega arith }) (stays_itself w h)

  module _ (k : ℕ) (host : HostView) (here : slice_get w.hosts k ≡ Some host) (other : k ≡ h → ⊥) where
    -- What its call leaves, before the host goes on.
    record Calls (s : State) : Type 0 where
      pub config : s.config ≡ w.config
      pub history : s.history ≡ w.history
      pub counts : s.counts ≡ w.counts
      pub items : items_of h s.work ≡ items_of h w.work
      pub taken : s.taken ≡ w.taken
      pub hosts : s.hosts ≡ w.hosts

    no_call : Calls w
    no_call = record { config = refl; history = refl; counts = refl; items = refl; taken = refl; hosts = refl }

    tells : (what : Told) → Calls (with_item w k what)
    tells what = record { config = refl; history = refl; counts = refl; items = other_item h k w.work other; taken = refl; hosts = refl }

    item_calls : (item : ItemLabel) (answer : Result Shown Fault) → Calls (item_state w k item answer)
    item_calls item (Ok shown) = tells (told_of w item)
    item_calls item (Err fault) = no_call

    wait_calls : (device : ℕ) (counts : List ℕ) (answer : Result Bool Fault) → Calls (waited_state w k device counts answer)
    wait_calls device counts (Ok true) = tells (told.Seen device counts)
    wait_calls device counts (Ok false) = no_call
    wait_calls device counts (Err fault) = no_call

    goes_stays : (s : State) (goes : Result After Fault) → Calls s → unplaced_by (host_after goes host) ≤ unplaced_by host → Stays w (host_outcome s k host goes).state h
    goes_stays s goes c low =
        let new = host_after goes host in
        record {
          config = c.config;
          history = c.history;
          counts = c.counts;
          items = c.items;
          taken = λ at. omega (arith, ap (λ (ns : List ℕ). slice_index_or ns (seat at) 0) c.taken);
          there = ap (λ (hosts : List HostView). slice_get (slice_set hosts k new) h) c.hosts ∙ set_there w.hosts k h new other;
          fewer = omega (arith, low, unplaced_set w.hosts k host new here, ap (λ (hosts : List HostView). unplaced (slice_set hosts k new)) c.hosts);
        }

    -- a host that goes on has no more directives to place
    no_more : (want : Want) → wants w.config.devices host ≡ want → (want ≡ stays → ⊥) → (goes : Result After Fault) → unplaced_by (host_after goes host) ≤ unplaced_by host
    no_more want wanted moves (Ok go.Idle) = omega arith
    no_more want wanted moves (Ok go.Ended) = omega (arith, left_behind (Ok go.Ended) host (λ e. cc), had_before w.config.devices host (λ e. moves (sym wanted ∙ e)))
    no_more want wanted moves (Ok (go.Set ids)) = omega (arith, left_behind (Ok (go.Set ids)) host (λ e. cc), had_before w.config.devices host (λ e. moves (sym wanted ∙ e)))
    no_more want wanted moves (Ok (go.Waits what)) = omega (arith, left_behind (Ok (go.Waits what)) host (λ e. cc), had_before w.config.devices host (λ e. moves (sym wanted ∙ e)))
    no_more want wanted moves (Ok (go.Asks what)) = omega (arith, left_behind (Ok (go.Asks what)) host (λ e. cc), had_before w.config.devices host (λ e. moves (sym wanted ∙ e)))
    no_more want wanted moves (Err fault) = omega (arith, left_behind (Err fault) host (λ e. cc), had_before w.config.devices host (λ e. moves (sym wanted ∙ e)))

    pub stays_host : (want : Want) → wants w.config.devices host ≡ want → ((d : Directive) → want ≡ places d → ⊥) → Stays w (host_step false w k host want).state h
    stays_host stays wanted places_none = goes_stays w (Ok go.Idle) no_call (omega arith)
    stays_host (sets ids) wanted places_none = goes_stays w (Ok (go.Set ids)) no_call (no_more (sets ids) wanted (λ e. cc) (Ok (go.Set ids)))
    stays_host (refuses fault) wanted places_none = goes_stays w (Err fault) no_call (no_more (refuses fault) wanted (λ e. cc) (Err fault))
    stays_host (places d) wanted places_none = absurd (places_none d refl)
    stays_host (awaits device counts) wanted places_none =
        let answer = wait_answer false w device counts in
        goes_stays (waited_state w k device counts answer) (after_wait answer) (wait_calls device counts answer) (no_more (awaits device counts) wanted (λ e. cc) (after_wait answer))
    stays_host (records item) wanted places_none =
        let answer = item_answer false w item in
        goes_stays (item_state w k item answer) (after_answer answer) (item_calls item answer) (no_more (records item) wanted (λ e. cc) (after_answer answer))
