-- A host that waits, or asks, for what is performed commutes with every event of the others.
use Rattle.std.proofs.Common.{inl, inr, ◌⊎◌, ◌≡◌, ℕ, ◌+◌, ◌≤◌, ◌<◌, Bool, true, false, ◌&&◌, ◌==◌, cond, List, [], ◌∷◌, ◌++◌, length, refl, sym, ap, ap₂, ◌∙◌, subst, Some, None, Option, Ok, Err, Result, nat_le, nat_lt, slice_get, slice_set, arith}
use Rattle.std.specs.Prelude.{IsTrue}
use Rattle.std.proofs.lemmas.Bool.{and_from, and_parts, cases_Bool, cases_eq, eqb-true, le-leb, leb-true, ne_eqb}
use Rattle.std.proofs.lemmas.List.{length_push, set_comm}
use Rattle.acc_base.specs.declared.fault.Fault.{Fault}
use Rattle.acc_base.specs.declared.ids.QueueAt.{QueueAt}
use Rattle.acc_base.specs.Queues.{queue_count, same_queue, seat}
use Rattle.acc_batch.proofs.Seats.{set_there}
use Rattle.acc_batch.specs.declared.entry.Told.{Told}
use Rattle.acc_batch.specs.declared.entry.Told.TheVariants as told
use Rattle.acc_batch.specs.declared.entry.WorkEntry.TheVariants as entry
use Rattle.acc_batch.specs.declared.label.Label.{Label}
use Rattle.acc_batch.specs.declared.label.OpLabel.{OpLabel}
use Rattle.acc_batch.proofs.Labels.{on_queue-append}
use Rattle.acc_batch.specs.declared.label.OpLabel.TheVariants.{Make, CopyIn, CopyOut, Release, Run, Await, Close}
use Rattle.acc_batch.specs.Labels.{on_queue, batch_at}
use Rattle.acc_core.proofs.LegalSteps.{labels_accepted, more_labels}
use Rattle.acc_core.specs.Machine.{State, Outcome, step, standing_of, labels_of, is_there, ops_left, idle, did, host_step, named_step, host_outcome, placed_state, place_answer, item_answer, item_state, wait_answer, waited_state, with_item, with_op, told_of, can_tell, unless, can_perform, queue_step, take_step, taken_on, perform_step, batches_held, with_closing, with_directive}
use Rattle.acc_host.specs.declared.event.Event.{Event}
use Rattle.acc_host.specs.declared.event.Event.TheVariants as event
use Rattle.acc_host.specs.declared.state.After.{After}
use Rattle.acc_host.specs.declared.state.After.TheVariants as go
use Rattle.acc_host.specs.declared.state.Reply.TheVariants as reply
use Rattle.acc_host.specs.Engines.{Had, HostEntry}
use Rattle.acc_host.specs.Entries.{items_shown}
use Rattle.acc_host.specs.Hosts.{HostView, wants, host_after, after_wait, after_answer, after_place, reply_to}
use Rattle.acc_host.specs.Steps.{Want, stays, sets, refuses, places, awaits, records}
use Rattle.acc_memory.specs.Values.{Cell, values_of}
use Rattle.acc_place.specs.declared.directive.PlaceEntry.{PlaceEntry}
use Rattle.acc_place.specs.declared.directive.PlaceEntry.TheVariants as noted
use Rattle.acc_place.specs.declared.directive.Placed.{Placed}
use Rattle.acc_place.specs.Directives.{Directive}
use Rattle.acc_work.specs.declared.item.ItemLabel.{ItemLabel}
use Rattle.acc_work.specs.declared.item.ItemLabel.TheVariants as to_record
use Rattle.acc_work.specs.declared.item.Shown.{Shown}
use Rattle.acc_work.specs.declared.log.TheConstants.{MAX_HOST_ITEMS}
use Rattle.acc_work.specs.Items.{shown_by}
use Rattle.acc_work.specs.Logs.{all_done, all_items, await_allows, batches_done, host_allows, items_of, if_one, one_more, performed, value}
use Rattle.acc_work.specs.Works.{item_fault}
use Rattle.acc_explore.specs.Alike.{Alike}
use Rattle.acc_explore.specs.Explorations.{IsEnd}
use Rattle.acc_explore.specs.ReachedWaits.{ReachedWaitsCommute, statements_left, is_at_reached}
use Rattle.acc_explore.proofs.AlikeSteps.{but_log}
use Rattle.acc_explore.proofs.AlikeLogs.{same_itself}
use Rattle.acc_explore.proofs.LogReadings.{with_work}
use Rattle.acc_explore.proofs.AlikeLogSteps.{closes_same}
use Rattle.acc_explore.proofs.NextBesideCloses.{turned_close}
use Rattle.acc_explore.proofs.OtherHosts.{with_hosts, Apart, apart_take, apart_perform, apart_queue, apart_close, beside_want}
use Rattle.acc_explore.proofs.QueueSteps.{perform_leaves, take_leaves}
use Rattle.acc_explore.proofs.StandingNext.{no_more}
use Rattle.acc_explore.proofs.StatementsLeft.{ends, one_left, fewer_left, left_set, left_apart}
use Rattle.acc_explore.proofs.ReachedSteps.{Beside, StandsReached, again, at_reached, behind, fault_free, goes, hosts, new, own_left, reach_told, same_beside, stands_reached, what}

-- then it commutes with the event
abbrev Moves : State → ℕ → Event → Type 0
Moves w h x =
    IsTrue (is_at_reached h (step false w x).state)
    × Alike (step false (step false w (event.Host h)).state x).state (step false (step false w x).state (event.Host h)).state

abbrev Keeps : State → ℕ → Event → Type 0
Keeps w h x = (x ≡ event.Host h) ⊎ ((step false w x).reply ≡ reply.Idle) ⊎ Moves w h x

module _ (w : State) (h : ℕ) (r : StandsReached w h) where
  finish : (x : Event) (items : ℕ) (t : State) (last : List HostView) → Beside w h r items (step false w x).state t → slice_get (step false w x).state.hosts h ≡ Some r.host
      → all_items (step false w x).state.work + statements_left (step false w x).state.hosts ≤ MAX_HOST_ITEMS
      → (step false (with_hosts (behind w h r) (hosts w h r)) x).state ≡ with_hosts t last → slice_set (step false w x).state.hosts h (new w h r) ≡ last → Moves w h x
  finish x items t last b there fit same set =
      let s = (step false w x).state in
      let a = again w h r s items t b there fit in
      let v : State = with_hosts (with_work s b.work) last in
      let first : (step false (step false w (event.Host h)).state x).state ≡ v =
      ap (λ (o : Outcome). (step false o.state x).state) (goes w h r) ∙ (same ∙ ap (λ (u : State). with_hosts u last) b.moved) in
      let second : (step false s (event.Host h)).state ≡ with_work v (entry.Item h (what w h r) ∷ s.work) =
      ap (λ (o : Outcome). o.state) (goes s h a) ∙ ap (with_hosts (with_item s h (what w h r))) set in (
        at_reached s h a,
        subst (λ (u : State). Alike u (step false s (event.Host h)).state) (sym first)
            (subst (Alike v) (sym second) (but_log v (entry.Item h (what w h r) ∷ s.work) b.logs)),
      )

  -- ## Queues, and the owner

  queue_moves : (x : Event) → Apart (behind w h r) (hosts w h r) (step false (behind w h r) x) (step false (with_hosts (behind w h r) (hosts w h r)) x) → (step false w x).state.hosts ≡ w.hosts
      → Beside w h r 0 (step false w x).state (step false (behind w h r) x).state → Moves w h x
  queue_moves x a kept b =
      finish x 0 (step false (behind w h r) x).state (hosts w h r) b (ap (λ (hs : List HostView). slice_get hs h) kept ∙ r.there)
      (omega (arith, r.fit, b.count, ap statements_left kept)) a.same (ap (λ (hs : List HostView). slice_set hs h (new w h r)) kept)

  take_beside : (at : QueueAt) (ops : List OpLabel) → Beside w h r 0 (take_step w (labels_of w) at ops).state (take_step (behind w h r) (labels_of w) at ops).state
  take_beside at (op ∷ ops) = same_beside w h r
  take_beside at [] =
      elim (nat_lt 0 (batches_held w (labels_of w) at)) as
      (λ (b : Bool). Beside w h r 0 (cond b (did (record w { taken = slice_set w.taken (seat at) (taken_on w at + 1) })) (idle w)).state
      (cond b (did (record (behind w h r) { taken = slice_set w.taken (seat at) (taken_on w at + 1) })) (idle (behind w h r))).state)
      [ true ↦ taken | false ↦ same_beside w h r ]
    where
      taken : Beside w h r 0 (record w { taken = slice_set w.taken (seat at) (taken_on w at + 1) }) (record (behind w h r) { taken = slice_set w.taken (seat at) (taken_on w at + 1) })
      taken = record {
        work = entry.Item h (what w h r) ∷ w.work;
        moved = refl;
        logs = same_itself w.config.arrays (entry.Item h (what w h r) ∷ w.work);
        config = refl;
        labels = no_more (labels_of w);
        done = λ q. omega arith;
        count = omega arith;
      }

  queue_beside : (there : Bool) (o p : Outcome) → Beside w h r 0 o.state p.state → Beside w h r 0 (queue_step there w o).state (queue_step there (behind w h r) p).state
  queue_beside true o p b = b
  queue_beside false o p b = same_beside w h r

  keeps_take : (at : QueueAt) → Moves w h (event.Take at)
  keeps_take at =
      queue_moves (event.Take at) (apart_queue (is_there w at) (behind w h r) (hosts w h r) _ _ (apart_take (behind w h r) (hosts w h r) (labels_of w) at (ops_left w (labels_of w) at)))
      (take_leaves w at).hosts
      (queue_beside (is_there w at) (take_step w (labels_of w) at (ops_left w (labels_of w) at)) (take_step (behind w h r) (labels_of w) at (ops_left w (labels_of w) at))
      (take_beside at (ops_left w (labels_of w) at)))

  -- what can be performed still can
  await_same : (device : ℕ) (op : OpLabel) → await_allows (labels_of w) w.work device op ≡ true → await_allows (labels_of w) (entry.Item h (what w h r) ∷ w.work) device op ≡ true
  await_same device (Await q n) e = e
  await_same device (Make x b) e = e
  await_same device (CopyIn x b) e = e
  await_same device (CopyOut x b) e = e
  await_same device (Release b) e = e
  await_same device (Run k uses) e = e
  await_same device Close e = e

  host_grows : (o : Option Label) → host_allows o w.work ≡ true → host_allows o (entry.Item h (what w h r) ∷ w.work) ≡ true
  host_grows None e = e
  host_grows (Some l) e =
      le-leb l.items_done (if_one (h == l.host) (items_of l.host w.work)) (omega (arith, leb-true l.items_done (items_of l.host w.work) e, more (h == l.host) (items_of l.host w.work)))
    where
      more : (b : Bool) (n : ℕ) → n ≤ if_one b n
      more true n = omega arith
      more false n = omega arith

  can_grows : (at : QueueAt) (op : OpLabel) → can_perform (labels_of w) w.work at op ≡ true → can_perform (labels_of w) (entry.Item h (what w h r) ∷ w.work) at op ≡ true
  can_grows at op e =
      let batch = batch_at (on_queue at (labels_of w)) (length (performed at w.work)) in
      let parts = and_parts (await_allows (labels_of w) w.work at.device op) (host_allows batch w.work) e in
      and_from (await_allows (labels_of w) (entry.Item h (what w h r) ∷ w.work) at.device op) (host_allows batch (entry.Item h (what w h r) ∷ w.work))
      (await_same at.device op parts.0) (host_grows batch parts.1)

  op_beside : (at : QueueAt) (op : OpLabel) → Beside w h r 0 (with_op w at op) (with_op (behind w h r) at op)
  op_beside at op = record {
    work = entry.Op at op ∷ entry.Item h (what w h r) ∷ w.work;
    moved = refl;
    logs = record { done = λ q. refl; shown = λ host. refl; items = refl; cells = λ c live. by r.reach.asks c };
    config = refl;
    labels = no_more (labels_of w);
    done = λ q. more (same_queue at q) (performed q w.work);
    count = omega arith;
  }
    where
      more : (b : Bool) (ops : List OpLabel) → length ops ≤ length (one_more b ops op)
      more true ops = omega (arith, length_push ops op)
      more false ops = omega arith

      by : (asks : Bool) (c : Cell) → value w.config.arrays (entry.Op at op ∷ entry.Item h (reach_told asks r.reach.device r.reach.counts) ∷ w.work) c
          ≡ value w.config.arrays (entry.Item h (reach_told asks r.reach.device r.reach.counts) ∷ entry.Op at op ∷ w.work) c
      by true c = refl
      by false c = refl

  -- a queue that can't perform anything does nothing
  abbrev PerformBeside : Outcome → Outcome → Type 0
  PerformBeside o p = (o.reply ≡ reply.Idle) ⊎ Beside w h r 0 o.state p.state

  perform_beside : (at : QueueAt) (ops : List OpLabel) → PerformBeside (perform_step w (labels_of w) at ops) (perform_step (behind w h r) (labels_of w) at ops)
  perform_beside at [] = inl refl
  perform_beside at (op ∷ ops) = elim (cases_Bool (can_perform (labels_of w) w.work at op)) [
    | inl can ↦ inr
        (subst (λ (b : Bool). Beside w h r 0 (cond b (did (with_op w at op)) (idle w)).state (perform_step (behind w h r) (labels_of w) at (op ∷ ops)).state) (sym can)
        (subst (λ (b : Bool). Beside w h r 0 (with_op w at op) (cond b (did (with_op (behind w h r) at op)) (idle (behind w h r))).state) (sym (can_grows at op can)) (op_beside at op)))
    | inr cannot ↦ inl (ap (λ (b : Bool). (cond b (did (with_op w at op)) (idle w)).reply) cannot)
  ]

  perform_queue : (there : Bool) (o p : Outcome) → PerformBeside o p → PerformBeside (queue_step there w o) (queue_step there (behind w h r) p)
  perform_queue true o p b = b
  perform_queue false o p b = inl refl

  keeps_perform : (at : QueueAt) → Keeps w h (event.Perform at)
  keeps_perform at = elim (perform_queue (is_there w at) (perform_step w (labels_of w) at (ops_left w (labels_of w) at)) (perform_step (behind w h r) (labels_of w) at (ops_left w (labels_of w) at)) (perform_beside at (ops_left w (labels_of w) at))) [
    | inl idle ↦ inr (inl idle)
    | inr b ↦ inr (inr
        (queue_moves (event.Perform at) (apart_queue (is_there w at) (behind w h r) (hosts w h r) _ _ (apart_perform (behind w h r) (hosts w h r) (labels_of w) at (ops_left w (labels_of w) at)))
        (perform_leaves w at).hosts b))
  ]

  keeps_close : Moves w h event.Close
  keeps_close =
      let st = standing_of w in
      queue_moves event.Close (apart_close (behind w h r) (hosts w h r) st) refl
      (record {
        work = entry.Item h (what w h r) ∷ w.work;
        moved = ap (λ (cs : List PlaceEntry). record (behind w h r) { history = cs ++ with_closing st w.history }) (sym (closes_same w (entry.Item h (what w h r) ∷ w.work) st (queue_count w.config)));
        logs = same_itself w.config.arrays (entry.Item h (what w h r) ∷ w.work);
        config = refl;
        labels = (turned_close (record { device = 0; queue = 0 }) w Close).leaves.labels;
        done = λ q. omega arith;
        count = omega arith;
      })

  -- ## Another host

  record HostGoes (k : ℕ) (host : HostView) (o p : Outcome) : Type 0 where
    pub after : Result After Fault
    pub items : ℕ
    pub low : items ≤ ends after
    pub hosts_are : o.state.hosts ≡ slice_set w.hosts k (host_after after host)
    pub beside : Beside w h r items o.state p.state

  abbrev HostKeeps : ℕ → HostView → Outcome → Outcome → Type 0
  HostKeeps k host o p = (o.reply ≡ reply.Idle) ⊎ HostGoes k host o p

  -- the host goes on, behind what its call leaves
  went : (k : ℕ) (host : HostView) (goes : Result After Fault) (items : ℕ) (s t : State) → items ≤ ends goes → s.hosts ≡ w.hosts → Beside w h r items s t → HostGoes k host (host_outcome s k host goes) (host_outcome t k host goes)
  went k host goes items s t low kept b = record {
    after = goes;
    items = items;
    low = low;
    hosts_are = ap (λ (hs : List HostView). slice_set hs k (host_after goes host)) kept;
    beside = record {
      work = b.work;
      moved = ap (λ (u : State). record u { hosts = slice_set u.hosts k (host_after goes host) }) b.moved;
      logs = b.logs;
      config = b.config;
      labels = b.labels;
      done = b.done;
      count = b.count;
    };
  }

  module _ (k : ℕ) (host : HostView) (there : slice_get w.hosts k ≡ Some host) (other : k ≡ h → ⊥) (moves : wants w.config.devices host ≡ stays → ⊥) where
    -- both have room for an item
    few_both : all_items w.work + 1 < MAX_HOST_ITEMS
    few_both = omega (arith, r.fit, own_left w h r, one_left w.config.devices host moves, left_apart w.hosts h k r.host host r.there there other)

    few_one : all_items w.work < MAX_HOST_ITEMS
    few_one = omega (arith, few_both)

    -- of two items either may stand first
    item_beside : (x other_x : Told) → other_x ≡ x → Beside w h r 1 (with_item w k x) (with_item (behind w h r) k other_x)
    item_beside x other_x e = record {
      work = entry.Item k x ∷ entry.Item h (what w h r) ∷ w.work;
      moved = ap (with_item (behind w h r) k) e;
      logs = record {
        done = λ q. refl;
        shown = λ n. turned (h == n) (k == n) (items_shown n w.work) (λ a b. other (eqb-true k n b ∙ sym (eqb-true h n a)));
        items = refl;
        cells = λ c live. by r.reach.asks c;
      };
      config = refl;
      labels = no_more (labels_of w);
      done = λ q. omega arith;
      count = refl;
    }
      where
        turned : (a b : Bool) (shown : List HostEntry) → (a ≡ true → b ≡ true → ⊥) → one_more b (one_more a shown (Had (what w h r))) (Had x) ≡ one_more a (one_more b shown (Had x)) (Had (what w h r))
        turned true true shown both = absurd (both refl refl)
        turned true false shown both = refl
        turned false true shown both = refl
        turned false false shown both = refl

        by : (asks : Bool) (c : Cell) → value w.config.arrays (entry.Item k x ∷ entry.Item h (reach_told asks r.reach.device r.reach.counts) ∷ w.work) c
            ≡ value w.config.arrays (entry.Item h (reach_told asks r.reach.device r.reach.counts) ∷ entry.Item k x ∷ w.work) c
        by true c = refl
        by false c = refl

    all_same : (device q : ℕ) (counts : List ℕ) → all_done (labels_of w) (entry.Item h (what w h r) ∷ w.work) device q counts ≡ all_done (labels_of w) w.work device q counts
    all_same device q [] = refl
    all_same device q (n ∷ ns) = ap (λ (b : Bool). nat_le n (batches_done (labels_of w) w.work (record { device = device; queue = q })) && b) (all_same device (q + 1) ns)

    told_stays : (item : ItemLabel) → told_of (behind w h r) item ≡ told_of w item
    told_stays (to_record.Write array cell new_value) = refl
    told_stays (to_record.Print range) = by r.reach.asks
      where
        by : (asks : Bool) → told.Print range (values_of (value w.config.arrays (entry.Item h (reach_told asks r.reach.device r.reach.counts) ∷ w.work)) range) ≡ told.Print range (values_of (value w.config.arrays w.work) range)
        by true = refl
        by false = refl
    told_stays (to_record.Seen device counts) = refl
    told_stays (to_record.Test device counts) = ap (λ (b : Bool). told.Test device b counts) (all_same device 0 counts)

    can_stays : (item : ItemLabel) → can_tell (behind w h r) item ≡ can_tell w item
    can_stays (to_record.Write array cell new_value) = refl
    can_stays (to_record.Print range) = refl
    can_stays (to_record.Seen device counts) = all_same device 0 counts
    can_stays (to_record.Test device counts) = refl

    fault_stays : (ok : Bool) → item_fault false (behind w h r).work ok ≡ item_fault false w.work ok
    fault_stays ok = fault_free (behind w h r).work ok few_both ∙ sym (fault_free w.work ok few_one)

    answer_stays : (item : ItemLabel) → item_answer false (behind w h r) item ≡ item_answer false w item
    answer_stays item =
        ap₂ (λ (fault : Option Fault) (what : Told). unless fault (shown_by what)) (ap (item_fault false (behind w h r).work) (can_stays item) ∙ fault_stays (can_tell w item)) (told_stays item)

    placed_goes : (d : Directive) (answer : Result Placed Fault) → HostGoes k host (host_outcome (placed_state w k d answer) k host (after_place d answer)) (host_outcome (placed_state (behind w h r) k d answer) k host (after_place d answer))
    placed_goes d (Err fault) = went k host (Err fault) 0 w (behind w h r) (omega arith) refl (same_beside w h r)
    placed_goes d (Ok placed) =
        let apart : (h == k) ≡ false = ne_eqb h k (λ e. other (sym e)) in
        went k host (after_place d (Ok placed)) 0 (with_directive w k d) (with_directive (behind w h r) k d) (omega arith) refl
        (record {
          work = entry.Item h (what w h r) ∷ w.work;
          moved = ap (λ (b : Bool). record (behind w h r) { history = noted.Accepted k d ∷ w.history; counts = if_one b (items_of k w.work) ∷ w.counts }) apart;
          logs = same_itself w.config.arrays (entry.Item h (what w h r) ∷ w.work);
          config = refl;
          labels = λ q. (on_queue q (more_labels w k d), ap (on_queue q) (labels_accepted w k d) ∙ on_queue-append q (labels_of w) (more_labels w k d));
          done = λ q. omega arith;
          count = omega arith;
        })

    wait_goes : (device : ℕ) (counts : List ℕ) (b : Bool) → all_done (labels_of w) w.work device 0 counts ≡ b → HostKeeps k host (host_step false w k host (awaits device counts)) (host_step false (behind w h r) k host (awaits device counts))
    wait_goes device counts false e = inl (ap (λ (b : Bool). reply_to (after_wait (cond b (unless (item_fault false w.work true) true) (Ok false)))) e)
    wait_goes device counts true e =
        let one : wait_answer false w device counts ≡ Ok true =
        ap (λ (b : Bool). cond b (unless (item_fault false w.work true) true) (Ok false)) e ∙ ap (λ (fault : Option Fault). unless fault true) (fault_free w.work true few_one) in
        let two : wait_answer false (behind w h r) device counts ≡ Ok true =
        ap (λ (b : Bool). cond b (unless (item_fault false (behind w h r).work true) true) (Ok false)) (all_same device 0 counts ∙ e)
        ∙ ap (λ (fault : Option Fault). unless fault true) (fault_free (behind w h r).work true few_both) in
        let x = told.Seen device counts in
        inr (subst (λ (a : Result Bool Fault). HostGoes k host (host_outcome (waited_state w k device counts a) k host (after_wait a)) (host_step false (behind w h r) k host (awaits device counts))) (sym one)
        (subst (λ (a : Result Bool Fault). HostGoes k host (host_outcome (with_item w k x) k host (Ok go.Ended)) (host_outcome (waited_state (behind w h r) k device counts a) k host (after_wait a))) (sym two)
        (went k host (Ok go.Ended) 1 (with_item w k x) (with_item (behind w h r) k x) (omega arith) refl (item_beside x x refl))))

    shown_goes : (item : ItemLabel) (answer : Result Shown Fault) → HostGoes k host (host_outcome (item_state w k item answer) k host (after_answer answer)) (host_outcome (item_state (behind w h r) k item answer) k host (after_answer answer))
    shown_goes item (Ok shown) = went k host (Ok go.Ended) 1 (with_item w k (told_of w item)) (with_item (behind w h r) k (told_of (behind w h r) item)) (omega arith) refl (item_beside (told_of w item) (told_of (behind w h r) item) (told_stays item))
    shown_goes item (Err fault) = went k host (Err fault) 0 w (behind w h r) (omega arith) refl (same_beside w h r)

    want_goes : (want : Want) → HostKeeps k host (host_step false w k host want) (host_step false (behind w h r) k host want)
    want_goes stays = inl refl
    want_goes (sets ids) = inr (went k host (Ok (go.Set ids)) 0 w (behind w h r) (omega arith) refl (same_beside w h r))
    want_goes (refuses fault) = inr (went k host (Err fault) 0 w (behind w h r) (omega arith) refl (same_beside w h r))
    want_goes (places d) = inr (placed_goes d (place_answer false w k d))
    want_goes (awaits device counts) = wait_goes device counts (all_done (labels_of w) w.work device 0 counts) refl
    want_goes (records item) =
        let answer = item_answer false w item in
        inr (subst (λ (a : Result Shown Fault). HostGoes k host (host_step false w k host (records item)) (host_outcome (item_state (behind w h r) k item a) k host (after_answer a))) (sym (answer_stays item))
        (shown_goes item answer))

    goes_moves : (want : Want) → wants w.config.devices host ≡ want → HostGoes k host (host_step false w k host want) (host_step false (behind w h r) k host want) → Moves w h (event.Host k)
    goes_moves want is g =
        let v = with_hosts (behind w h r) (hosts w h r) in
        let b = beside_want (behind w h r) (hosts w h r) k host want in
        let o = host_step false w k host want in
        let t = (host_step false (behind w h r) k host want).state in
        let at_k : slice_get (hosts w h r) k ≡ Some host = set_there w.hosts h k (new w h r) (λ e. other (sym e)) ∙ there in
        let one : step false w (event.Host k) ≡ o = ap (named_step false w k) there ∙ ap (host_step false w k host) is in
        let two : step false v (event.Host k) ≡ host_step false v k host want = ap (named_step false v k) at_k ∙ ap (host_step false v k host) is in
        let hosts_are : o.state.hosts ≡ slice_set w.hosts k b.host = sym (ap (λ (u : State). u.hosts) g.beside.moved) ∙ b.first in
        let fewer = fewer_left g.after host (one_left w.config.devices host moves) in
        let left = left_set w.hosts k host (host_after g.after host) there in
        let fit : all_items o.state.work + statements_left o.state.hosts ≤ MAX_HOST_ITEMS = omega (arith, r.fit, g.low, g.beside.count, fewer, left, ap statements_left g.hosts_are) in
        finish (event.Host k) g.items t (slice_set (hosts w h r) k b.host)
        (subst (λ (q : Outcome). Beside w h r g.items q.state t) (sym one) g.beside)
        (ap (λ (q : Outcome). slice_get q.state.hosts h) one ∙ (ap (λ (hs : List HostView). slice_get hs h) hosts_are ∙ (set_there w.hosts k h b.host other ∙ r.there)))
        (subst (λ (q : Outcome). all_items q.state.work + statements_left q.state.hosts ≤ MAX_HOST_ITEMS) (sym one) fit)
        (ap (λ (q : Outcome). q.state) two ∙ b.same)
        (ap (λ (q : Outcome). slice_set q.state.hosts h (new w h r)) one ∙ (ap (λ (hs : List HostView). slice_set hs h (new w h r)) hosts_are ∙ set_comm w.hosts k h b.host (new w h r) other))

  -- by what it wants
  want_keeps : (k : ℕ) (host : HostView) → slice_get w.hosts k ≡ Some host → (k ≡ h → ⊥) → (want : Want) → wants w.config.devices host ≡ want → Keeps w h (event.Host k)
  want_keeps k host there other want is = elim (cases_stays want) [
    | inl stay ↦ idle_is (is ∙ stay)
    | inr moving ↦ (
        let moves : wants w.config.devices host ≡ stays → ⊥ = λ e. moving (sym is ∙ e) in
        elim (want_goes k host there other moves want) [
          | inl idle ↦ inr (inl (ap (λ (o : Option HostView). (named_step false w k o).reply) there ∙ (ap (λ (x : Want). (host_step false w k host x).reply) is ∙ idle)))
          | inr g ↦ inr (inr (goes_moves k host there other moves want is g))
        ]
        )
  ]
    where
      cases_stays : (want : Want) → (want ≡ stays) ⊎ (want ≡ stays → ⊥)
      cases_stays stays = inl refl
      cases_stays (sets ids) = inr (λ e. cc)
      cases_stays (refuses fault) = inr (λ e. cc)
      cases_stays (places d) = inr (λ e. cc)
      cases_stays (awaits device counts) = inr (λ e. cc)
      cases_stays (records item) = inr (λ e. cc)

      idle_is : wants w.config.devices host ≡ stays → Keeps w h (event.Host k)
      idle_is e = inr (inl (ap (λ (o : Option HostView). (named_step false w k o).reply) there ∙ ap (λ (x : Want). (host_step false w k host x).reply) e))

  keeps_host : (k : ℕ) → Keeps w h (event.Host k)
  keeps_host k = elim (cases_eq k h) [
    | inl same ↦ inl (ap event.Host same)
    | inr other ↦ by other (slice_get w.hosts k) refl
  ]
    where
      by : (k ≡ h → ⊥) → (o : Option HostView) → slice_get w.hosts k ≡ o → Keeps w h (event.Host k)
      by other None none = inr (inl (ap (λ (o : Option HostView). (named_step false w k o).reply) none))
      by other (Some host) there = want_keeps k host there other (wants w.config.devices host) refl

  keeps : (x : Event) → Keeps w h x
  keeps (event.Host k) = keeps_host k
  keeps (event.Take at) = inr (inr (keeps_take at))
  keeps (event.Perform at) = keeps_perform at
  keeps event.Close = inr (inr keeps_close)

  -- it is still to come
  no_end : IsEnd w → ⊥
  no_end ends =
      let wrong : reply.Did ≡ reply.Idle = sym (ap (λ (o : Outcome). o.reply) (goes w h r)) ∙ ends (event.Host h) tt in
      cc

pub reached_commute : ReachedWaitsCommute
reached_commute closing h = record {
  kept = λ w x l test may. keeps w h (stands_reached w h test) x;
  waits = λ w l test ends. no_end w h (stands_reached w h test) ends;
}
