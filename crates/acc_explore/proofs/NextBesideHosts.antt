-- An operation that comes next on a queue commutes with the step of a host that has no conflict with it.
use Rattle.std.proofs.Common.{inl, inr, ◌⊎◌, ◌≡◌, ℕ, ◌+◌, ◌≤◌, Bool, true, false, ◌&&◌, cond, List, [], ◌∷◌, refl, sym, ap, ap₂, ◌∙◌, ◌==◌, subst, Some, Option, Ok, Err, Result, ℤ, nat_le, nat_lt, zero, suc, ◌<◌, true≢false, slice_get, slice_set, arith}
use Rattle.std.proofs.lemmas.Bool.{and_parts, and_from, eq-eqb, false_from_ne_true, le-leb, leb-true, lt-ltb, or_parts}
use Rattle.acc_base.specs.Configurations.{Configuration}
use Rattle.acc_base.specs.declared.fault.Fault.{Fault}
use Rattle.acc_base.specs.declared.ids.QueueAt.{QueueAt}
use Rattle.acc_batch.proofs.Labels.{on_queue-append}
use Rattle.acc_batch.specs.declared.entry.Told.{Told}
use Rattle.acc_batch.specs.declared.entry.Told.TheVariants as told
use Rattle.acc_batch.specs.declared.entry.WorkEntry.TheVariants as entry
use Rattle.acc_batch.specs.declared.label.OpLabel.{OpLabel}
use Rattle.acc_batch.specs.Labels.{on_queue}
use Rattle.acc_batch.specs.Ops.{HasItsCells}
use Rattle.acc_core.proofs.LegalSteps.{labels_accepted, more_labels}
use Rattle.acc_core.specs.Machine.{State, Outcome, can_tell, host_outcome, host_step, item_answer, item_state, labels_of, named_step, place_answer, placed_state, step, told_of, unless, wait_answer, waited_state, with_item, with_op}
use Rattle.acc_host.specs.declared.event.Event.TheVariants as event
use Rattle.acc_host.specs.declared.state.After.{After}
use Rattle.acc_host.specs.declared.state.After.TheVariants as go
use Rattle.acc_host.specs.Hosts.{HostView, wants, after_place, after_wait, after_answer, host_after, reply_to}
use Rattle.acc_host.specs.Steps.{Want, stays, sets, refuses, places, awaits, records}
use Rattle.acc_memory.specs.Values.{Host_cell, is_in, values_from}
use Rattle.acc_place.specs.declared.directive.Placed.{Placed}
use Rattle.acc_place.specs.Directives.{Directive}
use Rattle.acc_work.specs.declared.item.ItemLabel.{ItemLabel}
use Rattle.acc_work.specs.declared.item.ItemLabel.TheVariants as to_record
use Rattle.acc_work.specs.declared.item.Shown.{Shown}
use Rattle.acc_work.specs.Items.{shown_by}
use Rattle.acc_work.specs.Logs.{all_done, batches_done, if_one, items_of, value}
use Rattle.acc_work.specs.Works.{item_fault}
use Rattle.acc_explore.specs.declared.conflicts.Access.{Access}
use Rattle.acc_explore.specs.ApartOperations.{any_conflict, host_accesses, reads_only, writes_too}
use Rattle.acc_explore.specs.UnseenOperations.{ends_no_batch, nobody_asks}
use Rattle.acc_explore.proofs.AlikeLogs.{same_itself}
use Rattle.acc_explore.proofs.NobodyAsks.{host_quiet, is_quiet, want_quiet}
use Rattle.acc_explore.proofs.ApartCells.{item_apart, leaves_cell, told_accesses, writes_apart, written}
use Rattle.acc_explore.proofs.StandingNext.{StandsNext, batches_grow, batches_stay, no_more}
use Rattle.acc_explore.proofs.NextTurned.{Turned, Turns, turned_itself, turns_by}

-- what a host's item reads or writes of host arrays
abbrev pub item_accesses : ItemLabel → List Access
item_accesses (to_record.Write array cell new_value) = writes_too (record { array = array; lo = cell; len = 1 }) ∷ []
item_accesses (to_record.Print range) = reads_only range ∷ []
item_accesses (to_record.Seen device counts) = []
item_accesses (to_record.Test device counts) = []

abbrev pub want_accesses : Want → List Access
want_accesses stays = []
want_accesses (sets ids) = []
want_accesses (refuses fault) = []
want_accesses (places d) = []
want_accesses (awaits device counts) = []
want_accesses (records item) = item_accesses item

-- nothing conflicts with nothing
pub none_empty : (xs : List Access) → any_conflict xs [] ≡ false
none_empty [] = refl
none_empty (x ∷ xs) = none_empty xs

values_alike : (f g : ℕ → ℤ) (lo n : ℕ) → ((i : ℕ) → lo ≤ i → i < lo + n → f i ≡ g i) → values_from f lo n ≡ values_from g lo n
values_alike f g lo zero same = refl
values_alike f g lo (suc n) same = ap₂ (λ z zs. z ∷ zs) (same lo (omega arith) (omega arith)) (values_alike f g (lo + 1) n (λ i low high. same i (omega (arith, low)) (omega (arith, high))))

module _ (at : QueueAt) (w : State) (op : OpLabel) (u : StandsNext at w op) (cells : HasItsCells op) where
  abbrev Alone : List Access → Type 0
  Alone xs = any_conflict (host_accesses op) xs ≡ false

  -- what a host saw performed it goes on to see
  all_grow : (device q : ℕ) (counts : List ℕ) → all_done (labels_of w) w.work device q counts ≡ true → all_done (labels_of w) (entry.Op at op ∷ w.work) device q counts ≡ true
  all_grow device q [] e = refl
  all_grow device q (n ∷ ns) e =
      let there : QueueAt = record { device = device; queue = q } in
      let before = batches_done (labels_of w) w.work there in
      let behind = batches_done (labels_of w) (entry.Op at op ∷ w.work) there in
      let parts = and_parts (nat_le n before) (all_done (labels_of w) w.work device (q + 1) ns) e in
      and_from (nat_le n behind) (all_done (labels_of w) (entry.Op at op ∷ w.work) device (q + 1) ns)
      (le-leb n behind (omega (arith, leb-true n before parts.0, batches_grow at w op there))) (all_grow device (q + 1) ns parts.1)

  -- and where the operation ends no batch, it sees the same
  abbrev SeesSame : ℕ → List ℕ → Type 0
  SeesSame device counts = all_done (labels_of w) (entry.Op at op ∷ w.work) device 0 counts ≡ all_done (labels_of w) w.work device 0 counts

  all_stay : ends_no_batch (labels_of w) w.work at op ≡ true → (device q : ℕ) (counts : List ℕ) → all_done (labels_of w) (entry.Op at op ∷ w.work) device q counts ≡ all_done (labels_of w) w.work device q counts
  all_stay none device q [] = refl
  all_stay none device q (n ∷ ns) =
      ap₂ (λ a b. a && b) (ap (λ k. nat_le n k) (batches_stay at w op none (record { device = device; queue = q }))) (all_stay none device (q + 1) ns)

  -- an item tells the same
  abbrev TellsSame : ItemLabel → Type 0
  TellsSame (to_record.Write array cell new_value) = Unit {0}
  TellsSame (to_record.Print range) = Unit {0}
  TellsSame (to_record.Seen device counts) = SeesSame device counts
  TellsSame (to_record.Test device counts) = SeesSame device counts

  tells_same : (item : ItemLabel) → (ends_no_batch (labels_of w) w.work at op ≡ true) ⊎ (is_quiet (records item) ≡ true) → TellsSame item
  tells_same (to_record.Write array cell new_value) q = tt
  tells_same (to_record.Print range) q = tt
  tells_same (to_record.Seen device counts) (inl none) = all_stay none device 0 counts
  tells_same (to_record.Seen device counts) (inr quiet) = cc
  tells_same (to_record.Test device counts) (inl none) = all_stay none device 0 counts
  tells_same (to_record.Test device counts) (inr quiet) = cc

  told_stays : (item : ItemLabel) → TellsSame item → Alone (item_accesses item) → told_of (with_op w at op) item ≡ told_of w item
  told_stays (to_record.Write array cell new_value) same none = refl
  told_stays (to_record.Print range) same none =
      ap (told.Print range) (values_alike (λ i. value w.config.arrays (entry.Op at op ∷ w.work) (Host_cell range.array i)) (λ i. value w.config.arrays w.work (Host_cell range.array i)) range.lo range.len (λ i low high.
      leaves_cell at.device op cells (value w.config.arrays w.work) (Host_cell range.array i)
      (false_from_ne_true (written (host_accesses op) range.array i) (λ wrote.
      true≢false (sym (and_from (range.array == range.array) (is_in range i) (eq-eqb range.array range.array refl)
      (and_from (nat_le range.lo i) (nat_lt i (range.lo + range.len)) (le-leb range.lo i low) (lt-ltb i (range.lo + range.len) high)))
      ∙ (or_parts ((range.array == range.array) && is_in range i) false (writes_apart (host_accesses op) (reads_only range ∷ []) range.array i none wrote)).0)))))
  told_stays (to_record.Seen device counts) same none = refl
  told_stays (to_record.Test device counts) same none = ap (λ answer. told.Test device answer counts) same

  can_tell_stays : (item : ItemLabel) → TellsSame item → can_tell (with_op w at op) item ≡ can_tell w item
  can_tell_stays (to_record.Write array cell new_value) same = refl
  can_tell_stays (to_record.Print range) same = refl
  can_tell_stays (to_record.Seen device counts) same = same
  can_tell_stays (to_record.Test device counts) same = refl

  item_answer_stays : (item : ItemLabel) → TellsSame item → Alone (item_accesses item) → item_answer false (with_op w at op) item ≡ item_answer false w item
  item_answer_stays item same none = ap₂ (λ fault answer. unless fault answer) (ap (item_fault false w.work) (can_tell_stays item same)) (ap shown_by (told_stays item same none))

  -- one more item
  turned_item : (h : ℕ) (what other : Told) → Alone (told_accesses what) → other ≡ what → Turned at w op (with_item w h what) (with_item (with_op w at op) h other)
  turned_item h what other none e = record {
    new = entry.Item h what ∷ entry.Op at op ∷ w.work;
    moved = ap (with_item (with_op w at op) h) e;
    logs = item_apart w.config.arrays w.work at op cells h what none;
    leaves = record {
      config = refl;
      labels = no_more (labels_of w);
      taken = refl;
      same = refl;
      done = λ q. omega arith;
      items = λ host. more (h == host) (items_of host w.work);
      unasked = λ e. e;
    };
  }
    where
      more : (b : Bool) (n : ℕ) → n ≤ if_one b n
      more true n = omega arith
      more false n = omega arith

  turned_placed : (h : ℕ) (d : Directive) (answer : Result Placed Fault) → Turned at w op (placed_state w h d answer) (placed_state (with_op w at op) h d answer)
  turned_placed h d (Ok placed) = record {
    new = entry.Op at op ∷ w.work;
    moved = refl;
    logs = same_itself w.config.arrays (entry.Op at op ∷ w.work);
    leaves = record {
      config = refl;
      labels = λ q. (on_queue q (more_labels w h d), ap (on_queue q) (labels_accepted w h d) ∙ on_queue-append q (labels_of w) (more_labels w h d));
      taken = refl;
      same = refl;
      done = λ q. omega arith;
      items = λ host. omega arith;
      unasked = λ e. e;
    };
  }
  turned_placed h d (Err fault) = turned_itself at w op

  told_alone : (item : ItemLabel) → Alone (item_accesses item) → Alone (told_accesses (told_of w item))
  told_alone (to_record.Write array cell new_value) none = none
  told_alone (to_record.Print range) none = none_empty (host_accesses op)
  told_alone (to_record.Seen device counts) none = none
  told_alone (to_record.Test device counts) none = none

  turned_shown : (h : ℕ) (item : ItemLabel) → TellsSame item → Alone (item_accesses item) → (answer : Result Shown Fault) → Turned at w op (item_state w h item answer) (item_state (with_op w at op) h item answer)
  turned_shown h item same none (Ok shown) = turned_item h (told_of w item) (told_of (with_op w at op) item) (told_alone item none) (told_stays item same none)
  turned_shown h item same none (Err fault) = turned_itself at w op

  turned_waited : (h device : ℕ) (counts : List ℕ) (answer : Result Bool Fault) → Turned at w op (waited_state w h device counts answer) (waited_state (with_op w at op) h device counts answer)
  turned_waited h device counts (Ok true) = turned_item h (told.Seen device counts) (told.Seen device counts) (none_empty (host_accesses op)) refl
  turned_waited h device counts (Ok false) = turned_itself at w op
  turned_waited h device counts (Err fault) = turned_itself at w op

  -- the host goes on
  turned_host : (s t : State) (h : ℕ) (host : HostView) (goes other : Result After Fault) → other ≡ goes → (nobody_asks w ≡ true → nobody_asks (host_outcome s h host goes).state ≡ true) → Turned at w op s t
      → Turned at w op (host_outcome s h host goes).state (host_outcome t h host other).state
  turned_host s t h host goes other e unasked m = record {
    new = m.new;
    moved = ap₂ (λ (v : State) (o : Result After Fault). record v { hosts = slice_set v.hosts h (host_after o host) }) m.moved e;
    logs = m.logs;
    leaves = record {
      config = m.leaves.config;
      labels = m.leaves.labels;
      taken = m.leaves.taken;
      same = m.leaves.same;
      done = m.leaves.done;
      items = m.leaves.items;
      unasked = unasked;
    };
  }

  -- a host that is there, by what it wants
  module _ (h : ℕ) (host : HostView) (there : slice_get w.hosts h ≡ Some host) where
    host_is : (want : Want) → wants w.config.devices host ≡ want → (v : State) → v.hosts ≡ w.hosts → v.config ≡ w.config → step false v (event.Host h) ≡ host_step false v h host want
    host_is want is v hosts config =
        ap (λ (o : Option HostView). named_step false v h o) (ap (λ (hs : List HostView). slice_get hs h) hosts ∙ there)
        ∙ ap (host_step false v h host) (ap (λ (c : Configuration). wants c.devices host) config ∙ is)

    unasked : (want : Want) → wants w.config.devices host ≡ want → nobody_asks w ≡ true → nobody_asks (host_step false w h host want).state ≡ true
    unasked want is nobody = host_quiet w h host there nobody want (ap is_quiet (sym is) ∙ want_quiet w h host there nobody)

    turned_turns : (want : Want) → wants w.config.devices host ≡ want → Turned at w op (host_step false w h host want).state (host_step false (with_op w at op) h host want).state → Turns at w op (event.Host h)
    turned_turns want is m =
        turns_by at w op (event.Host h) (host_step false w h host want) (host_step false (with_op w at op) h host want) (host_is want is w refl refl) (host_is want is (with_op w at op) refl refl) m

    -- one that waits goes on where all is performed, and does nothing else
    wait_turns : (device : ℕ) (counts : List ℕ) → wants w.config.devices host ≡ awaits device counts → (reached : Bool) → all_done (labels_of w) w.work device 0 counts ≡ reached → Turns at w op (event.Host h)
    wait_turns device counts is false e =
        inl (ap (λ (o : Outcome). o.reply) (host_is (awaits device counts) is w refl refl)
        ∙ ap (λ reached. reply_to (after_wait (cond reached (unless (item_fault false w.work true) true) (Ok false)))) e)
    wait_turns device counts is true e =
        let want = awaits device counts in
        let answer = wait_answer false w device counts in
        let other = wait_answer false (with_op w at op) device counts in
        let same : other ≡ answer = ap (λ reached. cond reached (unless (item_fault false w.work true) true) (Ok false)) (all_grow device 0 counts e ∙ sym e) in
        turned_turns want is
        (turned_host (waited_state w h device counts answer) (waited_state (with_op w at op) h device counts other) h host (after_wait answer) (after_wait other) (ap after_wait same) (unasked want is)
        (subst (λ (a : Result Bool Fault). Turned at w op (waited_state w h device counts answer) (waited_state (with_op w at op) h device counts a)) (sym same) (turned_waited h device counts answer)))

    record_turns : (item : ItemLabel) → wants w.config.devices host ≡ records item → TellsSame item → Alone (item_accesses item) → Turns at w op (event.Host h)
    record_turns item is tells none =
        let want = records item in
        let answer = item_answer false w item in
        let other = item_answer false (with_op w at op) item in
        let same = item_answer_stays item tells none in
        turned_turns want is
        (turned_host (item_state w h item answer) (item_state (with_op w at op) h item other) h host (after_answer answer) (after_answer other) (ap after_answer same) (unasked want is)
        (subst (λ (a : Result Shown Fault). Turned at w op (item_state w h item answer) (item_state (with_op w at op) h item a)) (sym same) (turned_shown h item tells none answer)))

    quiet_item : (item : ItemLabel) → wants w.config.devices host ≡ records item → (ends_no_batch (labels_of w) w.work at op ≡ true) ⊎ (nobody_asks w ≡ true)
        → (ends_no_batch (labels_of w) w.work at op ≡ true) ⊎ (is_quiet (records item) ≡ true)
    quiet_item item is (inl none) = inl none
    quiet_item item is (inr nobody) = inr (ap is_quiet (sym is) ∙ want_quiet w h host there nobody)

    -- what it goes on to do, unless it does nothing
    want_turns : (want : Want) → wants w.config.devices host ≡ want → Alone (want_accesses want) → Turns at w op (event.Host h)
    want_turns stays is none = inl (ap (λ (o : Outcome). o.reply) (host_is stays is w refl refl))
    want_turns (sets ids) is none = turned_turns (sets ids) is (turned_host w (with_op w at op) h host (Ok (go.Set ids)) (Ok (go.Set ids)) refl (unasked (sets ids) is) (turned_itself at w op))
    want_turns (refuses fault) is none = turned_turns (refuses fault) is (turned_host w (with_op w at op) h host (Err fault) (Err fault) refl (unasked (refuses fault) is) (turned_itself at w op))
    want_turns (places d) is none =
        let answer = place_answer false w h d in
        turned_turns (places d) is
        (turned_host (placed_state w h d answer) (placed_state (with_op w at op) h d answer) h host (after_place d answer) (after_place d answer) refl (unasked (places d) is) (turned_placed h d answer))
    want_turns (awaits device counts) is none = wait_turns device counts is (all_done (labels_of w) w.work device 0 counts) refl
    want_turns (records item) is none = record_turns item is (tells_same item (quiet_item item is u.quiet)) none

    pub host_turns : Alone (want_accesses (wants w.config.devices host)) → Turns at w op (event.Host h)
    host_turns none = want_turns (wants w.config.devices host) refl none
