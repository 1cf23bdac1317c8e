-- What queues and other hosts do beside a directive that is placed: it leaves all that they see as it was.
use Rattle.std.proofs.Common.{inl, inr, ◌⊎◌, ◌≡◌, ℕ, ◌+◌, ◌-◌, ◌<◌, ◌≤◌, Bool, true, false, ◌&&◌, cond, List, [], ◌∷◌, ◌++◌, length, take, drop, refl, sym, ap, ap₂, ◌∙◌, Ok, Err, Result, nat_lt, nat_le, slice_set, arith}
use Rattle.std.specs.Prelude.{All, ◌==◌}
use Rattle.std.proofs.lemmas.Bool.{cases_Bool, ne_eqb, lt-ltb, ltb-true}
use Rattle.std.proofs.lemmas.List.{length-append, take-append-le}
use Rattle.std.proofs.lemmas.List.Elements.{All-filter}
use Rattle.acc_base.specs.declared.fault.Fault.{Fault}
use Rattle.acc_base.specs.declared.ids.QueueAt.{QueueAt}
use Rattle.acc_base.specs.Queues.{same_queue}
use Rattle.acc_batch.proofs.WholeBatches.{whole_taken}
use Rattle.acc_batch.specs.declared.entry.Told.{Told}
use Rattle.acc_batch.specs.declared.entry.Told.TheVariants as told
use Rattle.acc_batch.specs.declared.entry.WorkEntry.{WorkEntry}
use Rattle.acc_batch.specs.declared.label.Label.{Label}
use Rattle.acc_batch.specs.declared.label.OpLabel.{OpLabel}
use Rattle.acc_batch.specs.Labels.{on_queue, ops_of, whole_batches}
use Rattle.acc_core.specs.Legality.{IsLegalState}
use Rattle.acc_core.specs.Machine.{State, Outcome, step, labels_of, is_there, batches_held, can_tell, ops_left, taken_on, told_of, unless, with_directive, with_item, item_answer, item_state, wait_answer, waited_state, idle, did, host_outcome, host_step, take_step, can_perform, perform_step, with_op, queue_step}
use Rattle.acc_host.specs.declared.event.Event.{Event}
use Rattle.acc_host.specs.declared.event.Event.TheVariants as event
use Rattle.acc_host.specs.declared.state.After.{After}
use Rattle.acc_host.specs.declared.state.After.TheVariants as go
use Rattle.acc_host.specs.declared.state.Reply.TheVariants as reply
use Rattle.acc_host.specs.Hosts.{HostView, after_wait, after_answer, host_after}
use Rattle.acc_host.specs.Steps.{Want, stays, sets, refuses, places, awaits, records}
use Rattle.acc_place.specs.Directives.{Directive}
use Rattle.acc_work.specs.declared.item.ItemLabel.{ItemLabel}
use Rattle.acc_work.specs.declared.item.ItemLabel.TheVariants as to_record
use Rattle.acc_work.specs.declared.item.Shown.{Shown}
use Rattle.acc_work.specs.Items.{shown_by}
use Rattle.acc_work.specs.Logs.{all_done, batches_done, if_one, items_of, performed}
use Rattle.acc_work.specs.Works.{item_fault}
use Rattle.acc_explore.proofs.AddedBatches.{on_queue_adds, placed_adds}
use Rattle.acc_explore.proofs.FreeTakes.{behind_take, queue_there, takes_one}
use Rattle.acc_explore.proofs.NextKept.{ComesNext, next_kept}
use Rattle.acc_explore.proofs.TakesBesideQueues.{performs}

-- another host's item is none of this one
pub other_item : (h k : ℕ) (work : List WorkEntry) → (k ≡ h → ⊥) → if_one (k == h) (items_of h work) ≡ items_of h work
other_item h k work other = ap (λ b. if_one b (items_of h work)) (ne_eqb k h other)

module _ (w : State) (l : IsLegalState w) (h : ℕ) (d : Directive) where
  abbrev placed : State
  placed = with_directive w h d

  -- ## Its batch stands behind the others

  more : List Label
  more = (placed_adds w h d).more

  grown : (q : QueueAt) → on_queue q (labels_of placed) ≡ on_queue q (labels_of w) ++ on_queue q more
  unfolding more
  grown q = on_queue_adds q (labels_of w) (labels_of placed) (placed_adds w h d)

  filled : All (λ (b : Label). 0 < length b.ops) more
  unfolding more
  filled = (placed_adds w h d).filled

  -- and none of it is performed
  counted : (q : QueueAt) → batches_done (labels_of placed) w.work q ≡ batches_done (labels_of w) w.work q
  counted q =
      let first = on_queue q (labels_of w) in
      let n = length (performed q w.work) in
      let order = l.kept.prefix q in
      let low : n ≤ length (ops_of first) = omega (arith, length-append (performed q w.work) order.0, ap length order.1) in
      ap (λ (ls : List Label). whole_batches ls n) (grown q)
      ∙ whole_taken first (on_queue q more) n low (All-filter (λ (b : Label). same_queue b.at q) (λ (b : Label). 0 < length b.ops) more filled)

  all_counted : (device q : ℕ) (counts : List ℕ) → all_done (labels_of placed) w.work device q counts ≡ all_done (labels_of w) w.work device q counts
  all_counted device q [] = refl
  all_counted device q (n ∷ ns) = ap₂ (λ a b. a && b) (ap (λ k. nat_le n k) (counted (record { device = device; queue = q }))) (all_counted device (q + 1) ns)

  -- ## Queues

  -- An event does nothing, or does the same behind the directive.
  abbrev pub Beside : Event → Type 0
  Beside x = ((step false w x).reply ≡ reply.Idle) ⊎ ((step false placed x).state ≡ with_directive (step false w x).state h d)

  idle_by : (x : Event) → step false w x ≡ idle w → Beside x
  idle_by x e = inl (ap (λ (o : Outcome). o.reply) e)

  moves_by : (x : Event) (s : State) → step false w x ≡ did s → step false placed x ≡ did (with_directive s h d) → Beside x
  moves_by x s e f = inr (ap (λ (o : Outcome). o.state) f ∙ ap (λ (o : Outcome). with_directive o.state h d) (sym e))

  module _ (q : QueueAt) (there : is_there w q ≡ true) where
    takes : ops_left w (labels_of w) q ≡ [] → nat_lt 0 (batches_held w (labels_of w) q) ≡ true → step false placed (event.Take q) ≡ did (behind_take placed q)
    takes none some =
        let first = on_queue q (labels_of w) in
        let behind = on_queue q more in
        let t = taken_on w q in
        let held : 0 < length first - t = ltb-true 0 (length first - t) some in
        takes_one placed q there
        (ap (λ (ls : List Label). drop (length (performed q w.work)) (ops_of (take t ls))) (grown q)
        ∙ (ap (λ (ls : List Label). drop (length (performed q w.work)) (ops_of ls)) (take-append-le t first behind (omega (arith, held))) ∙ none))
        (lt-ltb 0 (batches_held placed (labels_of placed) q) (omega (arith, held, ap length (grown q), length-append first behind)))

    by_left : (ops : List OpLabel) → ops_left w (labels_of w) q ≡ ops → Beside (event.Take q)
    by_left [] left = elim (cases_Bool (nat_lt 0 (batches_held w (labels_of w) q))) [
      | inl some ↦ moves_by (event.Take q) (behind_take w q) (takes_one w q there left some) (takes left some)
      | inr none ↦ idle_by (event.Take q) (queue_there w q there (take_step w (labels_of w) q) left ∙ ap (λ b. cond b (did (behind_take w q)) (idle w)) none)
    ]
    by_left (op ∷ ops) left = idle_by (event.Take q) (queue_there w q there (take_step w (labels_of w) q) left)

    goes_on : (op : OpLabel) → ComesNext q w op → ComesNext q placed op
    goes_on op c = next_kept q w op c placed (record {
      labels = λ at. (on_queue at more, grown at);
      taken = refl;
      same = refl;
      done = λ at. omega arith;
      items = λ host. omega arith;
    })

    by_next : (ops : List OpLabel) → ops_left w (labels_of w) q ≡ ops → Beside (event.Perform q)
    by_next [] left = idle_by (event.Perform q) (queue_there w q there (perform_step w (labels_of w) q) left)
    by_next (op ∷ ops) left = elim (cases_Bool (can_perform (labels_of w) w.work q op)) [
      | inl can ↦
          let c = goes_on op (record { later = ops; left = left; can = can }) in
          moves_by (event.Perform q) (with_op w q op) (performs w q op ops there left can) (performs placed q op c.later there c.left c.can)
      | inr held ↦ idle_by (event.Perform q) (queue_there w q there (perform_step w (labels_of w) q) left ∙ ap (λ b. cond b (did (with_op w q op)) (idle w)) held)
    ]

  pub take_beside : (q : QueueAt) → Beside (event.Take q)
  take_beside q = elim (cases_Bool (is_there w q)) [
    | inl there ↦ by_left q there (ops_left w (labels_of w) q) refl
    | inr absent ↦ idle_by (event.Take q) (ap (λ b. queue_step b w (take_step w (labels_of w) q (ops_left w (labels_of w) q))) absent)
  ]

  pub perform_beside : (q : QueueAt) → Beside (event.Perform q)
  perform_beside q = elim (cases_Bool (is_there w q)) [
    | inl there ↦ by_next q there (ops_left w (labels_of w) q) refl
    | inr absent ↦ idle_by (event.Perform q) (ap (λ b. queue_step b w (perform_step w (labels_of w) q (ops_left w (labels_of w) q))) absent)
  ]

  -- ## Another host, which places nothing

  told_stays : (item : ItemLabel) → told_of placed item ≡ told_of w item
  told_stays (to_record.Write array cell new_value) = refl
  told_stays (to_record.Print range) = refl
  told_stays (to_record.Seen device counts) = refl
  told_stays (to_record.Test device counts) = ap (λ answer. told.Test device answer counts) (all_counted device 0 counts)

  can_tell_stays : (item : ItemLabel) → can_tell placed item ≡ can_tell w item
  can_tell_stays (to_record.Write array cell new_value) = refl
  can_tell_stays (to_record.Print range) = refl
  can_tell_stays (to_record.Seen device counts) = all_counted device 0 counts
  can_tell_stays (to_record.Test device counts) = refl

  answer_stays : (item : ItemLabel) → item_answer false placed item ≡ item_answer false w item
  answer_stays item = ap₂ (λ fault answer. unless fault answer) (ap (item_fault false w.work) (can_tell_stays item)) (ap shown_by (told_stays item))

  wait_stays : (device : ℕ) (counts : List ℕ) → wait_answer false placed device counts ≡ wait_answer false w device counts
  wait_stays device counts = ap (λ reached. cond reached (unless (item_fault false w.work true) true) (Ok false)) (all_counted device 0 counts)

  module _ (k : ℕ) (other : k ≡ h → ⊥) where
    with_item_beside : (what : Told) → with_item placed k what ≡ with_directive (with_item w k what) h d
    with_item_beside what = ap (λ n. record (with_item placed k what) { counts = n ∷ w.counts }) (sym (other_item h k w.work other))

    item_beside : (item : ItemLabel) (answer : Result Shown Fault) → item_state placed k item answer ≡ with_directive (item_state w k item answer) h d
    item_beside item (Ok shown) = ap (with_item placed k) (told_stays item) ∙ with_item_beside (told_of w item)
    item_beside item (Err fault) = refl

    wait_beside : (device : ℕ) (counts : List ℕ) (answer : Result Bool Fault) → waited_state placed k device counts answer ≡ with_directive (waited_state w k device counts answer) h d
    wait_beside device counts (Ok true) = with_item_beside (told.Seen device counts)
    wait_beside device counts (Ok false) = refl
    wait_beside device counts (Err fault) = refl

    outcome_beside : (host : HostView) (goes behind : Result After Fault) (s t : State) → t ≡ with_directive s h d → behind ≡ goes
        → (host_outcome t k host behind).state ≡ with_directive (host_outcome s k host goes).state h d
    outcome_beside host goes behind s t e f = ap₂ (λ (v : State) (g : Result After Fault). record v { hosts = slice_set v.hosts k (host_after g host) }) e f

    pub host_beside : (host : HostView) (want : Want) → ((p : Directive) → want ≡ places p → ⊥)
        → (host_step false placed k host want).state ≡ with_directive (host_step false w k host want).state h d
    host_beside host stays places_none = outcome_beside host (Ok go.Idle) (Ok go.Idle) w placed refl refl
    host_beside host (sets ids) places_none = outcome_beside host (Ok (go.Set ids)) (Ok (go.Set ids)) w placed refl refl
    host_beside host (refuses fault) places_none = outcome_beside host (Err fault) (Err fault) w placed refl refl
    host_beside host (places p) places_none = absurd (places_none p refl)
    host_beside host (awaits device counts) places_none =
        let answer = wait_answer false w device counts in
        let same = wait_stays device counts in
        outcome_beside host (after_wait answer) (after_wait (wait_answer false placed device counts)) (waited_state w k device counts answer)
        (waited_state placed k device counts (wait_answer false placed device counts)) (ap (waited_state placed k device counts) same ∙ wait_beside device counts answer) (ap after_wait same)
    host_beside host (records item) places_none =
        let answer = item_answer false w item in
        let same = answer_stays item in
        outcome_beside host (after_answer answer) (after_answer (item_answer false placed item)) (item_state w k item answer)
        (item_state placed k item (item_answer false placed item)) (ap (item_state placed k item) same ∙ item_beside item answer) (ap after_answer same)
