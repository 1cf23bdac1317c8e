-- An operation that comes next commutes with the steps of other queues, where their cells don't see it.
use Rattle.std.proofs.Common.{inl, inr, ◌⊎◌, subst, ◌≡◌, ℕ, ◌+◌, ◌<◌, ◌≤◌, Bool, true, false, cond, List, [], ◌∷◌, length, drop, take, refl, sym, ap, ◌∙◌, Some, None, Option, nat_lt, slice_set, arith}
use Rattle.std.proofs.lemmas.Bool.{cases_Bool, and_parts, and_from, le-leb, leb-true, ltb-true}
use Rattle.std.proofs.lemmas.List.{get_or-set_other, length_push}
use Rattle.acc_base.proofs.SameQueue.{same_queue_is, same_queue_turned}
use Rattle.acc_base.specs.declared.ids.QueueAt.{QueueAt}
use Rattle.acc_base.specs.declared.ids.TheConstants.{QUEUES}
use Rattle.acc_base.specs.Queues.{same_queue, seat}
use Rattle.acc_batch.proofs.Seats.{one_seat}
use Rattle.acc_batch.specs.declared.entry.WorkEntry.TheVariants as entry
use Rattle.acc_batch.specs.declared.label.Label.{Label}
use Rattle.acc_batch.specs.declared.label.OpLabel.{OpLabel}
use Rattle.acc_batch.specs.declared.label.OpLabel.TheVariants.{Make, CopyIn, CopyOut, Release, Run, Await, Close}
use Rattle.acc_batch.specs.Labels.{on_queue, ops_of, batch_at}
use Rattle.acc_core.specs.Machine.{State, Outcome, batches_held, can_perform, did, idle, is_there, labels_of, ops_left, perform_step, queue_step, step, take_step, taken_on, with_op}
use Rattle.acc_host.specs.declared.event.Event.TheVariants as event
use Rattle.acc_work.specs.Logs.{await_allows, batches_done, host_allows, one_more, performed}
use Rattle.acc_explore.specs.Alike.{AlikeLogs}
use Rattle.acc_explore.proofs.AlikeLogs.{same_itself}
use Rattle.acc_explore.proofs.StandingNext.{LeavesTest, StandsNext, batches_grow, no_more}
use Rattle.acc_explore.proofs.NextTurned.{Turns, idle_by, turns_by}

module _ (at : QueueAt) (w : State) (op : OpLabel) (u : StandsNext at w op) where
  left_stays_of : (q : QueueAt) → same_queue at q ≡ false → ops_left (with_op w at op) (labels_of w) q ≡ ops_left w (labels_of w) q
  left_stays_of q differ =
      ap (λ (b : Bool). drop (length (one_more b (performed q w.work) op)) (ops_of (take (taken_on w q) (on_queue q (labels_of w))))) differ

  -- both steps of a queue that is there, by what is left of it
  there_step : (q : QueueAt) → is_there w q ≡ true → (f : State → List OpLabel → Outcome) (v : State) (ops : List OpLabel) (left : List OpLabel) → left ≡ ops
      → queue_step (is_there w q) v (f v left) ≡ f v ops
  there_step q there f v ops left e = ap (λ (b : Bool). queue_step b v (f v left)) there ∙ ap (f v) e

  take_there : (q : QueueAt) → same_queue at q ≡ false → is_there w q ≡ true → (ops : List OpLabel) → ops_left w (labels_of w) q ≡ ops → (held : Bool) → nat_lt 0 (batches_held w (labels_of w) q) ≡ held
      → Turns at w op (event.Take q)
  take_there q differ there (x ∷ ops) e held h = idle_by at w op (event.Take q) (there_step q there (λ v ops. take_step v (labels_of w) q ops) w (x ∷ ops) (ops_left w (labels_of w) q) e)
  take_there q differ there [] e false h =
      idle_by at w op (event.Take q)
      (there_step q there (λ v ops. take_step v (labels_of w) q ops) w [] (ops_left w (labels_of w) q) e
      ∙ ap (λ (b : Bool). cond b (did (record w { taken = slice_set w.taken (seat q) (taken_on w q + 1) })) (idle w)) h)
  take_there q differ there [] e true h =
      let v = with_op w at op in
      let taken = slice_set w.taken (seat q) (taken_on w q + 1) in
      turns_by at w op (event.Take q) (did (record w { taken = taken })) (did (record v { taken = taken }))
      (there_step q there (λ v ops. take_step v (labels_of w) q ops) w [] (ops_left w (labels_of w) q) e
      ∙ ap (λ (b : Bool). cond b (did (record w { taken = taken })) (idle w)) h)
      (there_step q there (λ v ops. take_step v (labels_of w) q ops) v [] (ops_left v (labels_of w) q) (left_stays_of q differ ∙ e)
      ∙ ap (λ (b : Bool). cond b (did (record v { taken = taken })) (idle v)) h)
      (record {
        new = entry.Op at op ∷ w.work;
        moved = refl;
        logs = same_itself w.config.arrays (entry.Op at op ∷ w.work);
        leaves = record {
          config = refl;
          labels = no_more (labels_of w);
          taken = get_or-set_other w.taken (seat q) (seat at) (taken_on w q + 1) 0 apart;
          same = refl;
          done = λ r. omega arith;
          items = λ host. omega arith;
          unasked = λ e. e;
        };
      })
    where
      low : (r : QueueAt) → is_there w r ≡ true → r.queue < QUEUES
      low r e = ltb-true r.queue QUEUES (and_parts (nat_lt r.device w.config.devices) (nat_lt r.queue QUEUES) e).1

      apart : seat at ≡ seat q → ⊥
      apart e = let wrong : true ≡ false = sym (one_seat at q (low at u.there) (low q there) e) ∙ differ in cc

  pub take_turns : (q : QueueAt) → Turns at w op (event.Take q)
  take_turns q = elim (cases_Bool (same_queue at q)) [
    | inl same ↦ idle_by at w op (event.Take q)
        (subst (λ (q : QueueAt). step false w (event.Take q) ≡ idle w) (same_queue_is at q same)
        (there_step at u.there (λ v ops. take_step v (labels_of w) at ops) w (op ∷ u.later) (ops_left w (labels_of w) at) u.left))
    | inr differ ↦ elim (cases_Bool (is_there w q)) [
      | inl there ↦ take_there q differ there (ops_left w (labels_of w) q) refl (nat_lt 0 (batches_held w (labels_of w) q)) refl
      | inr none ↦ idle_by at w op (event.Take q) (ap (λ (b : Bool). queue_step b w (take_step w (labels_of w) q (ops_left w (labels_of w) q))) none)
    ]
  ]

  host_stays : (o : Option Label) → host_allows o (entry.Op at op ∷ w.work) ≡ host_allows o w.work
  host_stays None = refl
  host_stays (Some l) = refl

  await_grows : (device : ℕ) (x : OpLabel) → await_allows (labels_of w) w.work device x ≡ true → await_allows (labels_of w) (entry.Op at op ∷ w.work) device x ≡ true
  await_grows device (Await q n) e =
      let there : QueueAt = record { device = device; queue = q } in
      le-leb n (batches_done (labels_of w) (entry.Op at op ∷ w.work) there) (omega (arith, leb-true n (batches_done (labels_of w) w.work there) e, batches_grow at w op there))
  await_grows device (Make r b) e = refl
  await_grows device (CopyIn r b) e = refl
  await_grows device (CopyOut r b) e = refl
  await_grows device (Release b) e = refl
  await_grows device (Run k uses) e = refl
  await_grows device Close e = refl

  -- what can be performed still can
  can_grows : (q : QueueAt) (x : OpLabel) → same_queue at q ≡ false → can_perform (labels_of w) w.work q x ≡ true → can_perform (labels_of w) (entry.Op at op ∷ w.work) q x ≡ true
  can_grows q x differ e =
      let batch = batch_at (on_queue q (labels_of w)) in
      let before = host_allows (batch (length (performed q w.work))) w.work in
      let behind = host_allows (batch (length (performed q (entry.Op at op ∷ w.work)))) (entry.Op at op ∷ w.work) in
      let parts = and_parts (await_allows (labels_of w) w.work q.device x) before e in
      and_from (await_allows (labels_of w) (entry.Op at op ∷ w.work) q.device x) behind (await_grows q.device x parts.0)
      (host_stays (batch (length (performed q (entry.Op at op ∷ w.work))))
      ∙ (ap (λ (b : Bool). host_allows (batch (length (one_more b (performed q w.work) op))) w.work) differ ∙ parts.1))

  -- what another queue's operation leaves
  pub leaves_performed : (q : QueueAt) (x : OpLabel) → same_queue at q ≡ false → LeavesTest at w (with_op w q x)
  leaves_performed q x differ = record {
    config = refl;
    labels = no_more (labels_of w);
    taken = refl;
    same = ap (λ (b : Bool). one_more b (performed at w.work) x) (same_queue_turned at q differ);
    done = λ r. more (same_queue q r) (performed r w.work);
    items = λ host. omega arith;
    unasked = λ e. e;
  }
    where
      more : (b : Bool) (ops : List OpLabel) → length ops ≤ length (one_more b ops x)
      more true ops = omega (arith, length_push ops x)
      more false ops = omega arith

  -- behind the operation and before it, another queue's next one leaves logs that are alike
  abbrev pub LogsTurned : QueueAt → OpLabel → Type 0
  LogsTurned q x = AlikeLogs w.config.arrays (entry.Op q x ∷ entry.Op at op ∷ w.work) (entry.Op at op ∷ entry.Op q x ∷ w.work)

  perform_there : (q : QueueAt) → same_queue at q ≡ false → is_there w q ≡ true → (ops : List OpLabel) → ops_left w (labels_of w) q ≡ ops
      → ((x : OpLabel) (later : List OpLabel) → ops_left w (labels_of w) q ≡ x ∷ later → can_perform (labels_of w) w.work q x ≡ true → LogsTurned q x) → Turns at w op (event.Perform q)
  perform_there q differ there [] e turned = idle_by at w op (event.Perform q) (there_step q there (λ v ops. perform_step v (labels_of w) q ops) w [] (ops_left w (labels_of w) q) e)
  perform_there q differ there (x ∷ ops) e turned = by (can_perform (labels_of w) w.work q x) refl
    where
      one : step false w (event.Perform q) ≡ cond (can_perform (labels_of w) w.work q x) (did (with_op w q x)) (idle w)
      one = there_step q there (λ v ops. perform_step v (labels_of w) q ops) w (x ∷ ops) (ops_left w (labels_of w) q) e

      two : step false (with_op w at op) (event.Perform q) ≡ cond (can_perform (labels_of w) (entry.Op at op ∷ w.work) q x) (did (with_op (with_op w at op) q x)) (idle (with_op w at op))
      two = there_step q there (λ v ops. perform_step v (labels_of w) q ops) (with_op w at op) (x ∷ ops) (ops_left (with_op w at op) (labels_of w) q) (left_stays_of q differ ∙ e)

      by : (b : Bool) → can_perform (labels_of w) w.work q x ≡ b → Turns at w op (event.Perform q)
      by false cannot = idle_by at w op (event.Perform q) (one ∙ ap (λ (b : Bool). cond b (did (with_op w q x)) (idle w)) cannot)
      by true can =
          turns_by at w op (event.Perform q) (did (with_op w q x)) (did (with_op (with_op w at op) q x))
          (one ∙ ap (λ (b : Bool). cond b (did (with_op w q x)) (idle w)) can)
          (two ∙ ap (λ (b : Bool). cond b (did (with_op (with_op w at op) q x)) (idle (with_op w at op))) (can_grows q x differ can))
          (record { new = entry.Op q x ∷ entry.Op at op ∷ w.work; moved = refl; logs = turned x ops e can; leaves = leaves_performed q x differ })

  pub perform_turns : (q : QueueAt)
      → ((x : OpLabel) (later : List OpLabel) → same_queue at q ≡ false → is_there w q ≡ true → ops_left w (labels_of w) q ≡ x ∷ later → can_perform (labels_of w) w.work q x ≡ true → LogsTurned q x)
      → (event.Perform q ≡ event.Perform at) ⊎ Turns at w op (event.Perform q)
  perform_turns q turned = elim (cases_Bool (same_queue at q)) [
    | inl same ↦ inl (ap event.Perform (sym (same_queue_is at q same)))
    | inr differ ↦ elim (cases_Bool (is_there w q)) [
      | inl there ↦ inr (perform_there q differ there (ops_left w (labels_of w) q) refl (λ x later left can. turned x later differ there left can))
      | inr none ↦ inr (idle_by at w op (event.Perform q) (ap (λ (b : Bool). queue_step b w (perform_step w (labels_of w) q (ops_left w (labels_of w) q))) none))
    ]
  ]
