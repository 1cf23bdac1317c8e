-- A take commutes with what a host does, as no directive is refused for want of room.
use Rattle.std.proofs.Common.{inl, inr, ◌≡◌, ℕ, ◌+◌, ◌-◌, ◌<◌, ◌≤◌, Bool, true, false, ◌&&◌, not, List, [], ◌++◌, length, refl, sym, ap, ◌∙◌, subst, Some, None, Option, Ok, Err, Result, slice_get, slice_set, arith}
use Rattle.std.specs.Prelude.{◌==◌, slice_index_or}
use Rattle.std.proofs.lemmas.Bool.{cases_Bool, ne_eqb}
use Rattle.std.proofs.lemmas.List.{append-nil}
use Rattle.acc_base.specs.declared.fault.Fault.{Fault}
use Rattle.acc_base.specs.declared.ids.QueueAt.{QueueAt}
use Rattle.acc_base.specs.declared.ids.TheConstants.{QUEUES}
use Rattle.acc_base.specs.Queues.{same_queue, seat}
use Rattle.acc_base.proofs.SameQueue.{same_queue_is}
use Rattle.acc_batch.specs.declared.label.Label.{Label}
use Rattle.acc_batch.specs.declared.entry.Told.{Told}
use Rattle.acc_batch.specs.declared.entry.Told.TheVariants as told
use Rattle.acc_batch.specs.Labels.{on_queue}
use Rattle.acc_core.specs.Machine.{State, Outcome, step, standing_of, labels_of, is_empty, batches_held, place_fault, queue_fault, place_answer, placed_state, with_directive, told_of, with_item, item_answer, item_state, unless, wait_answer, waited_state, host_outcome, host_step, named_step}
use Rattle.acc_host.specs.declared.event.Event.TheVariants as event
use Rattle.acc_host.specs.declared.state.After.{After}
use Rattle.acc_host.specs.declared.state.After.TheVariants as go
use Rattle.acc_host.specs.Hosts.{HostView, wants, after_place, after_wait, after_answer, host_after, owing}
use Rattle.acc_host.specs.Steps.{Owed, nothing_owed, owes_seen, owes_test, owed_by, Want, stays, sets, refuses, places, awaits, records}
use Rattle.acc_place.specs.declared.directive.Placed.{Placed}
use Rattle.acc_place.specs.Accepting.{refusal}
use Rattle.acc_place.specs.Batches.{answer_of, batch_of, walk_at}
use Rattle.acc_place.specs.Directives.{Directive}
use Rattle.acc_place.specs.Standings.{walk_of}
use Rattle.acc_place.proofs.LabelsSound.{walk_low}
use Rattle.acc_work.specs.declared.item.ItemLabel.{ItemLabel}
use Rattle.acc_work.specs.declared.item.ItemLabel.TheVariants as to_record
use Rattle.acc_work.specs.declared.item.Shown.{Shown}
use Rattle.acc_work.specs.Logs.{performed}
use Rattle.acc_explore.specs.Takes.{unplaced, unplaced_by}
use Rattle.acc_explore.proofs.AddedBatches.{on_queue_adds, on_queue_few, placed_adds}
use Rattle.acc_explore.proofs.UnplacedDirectives.{had_before, had_one_more, left_behind, unplaced_of, unplaced_set}
use Rattle.acc_explore.proofs.FreeTakes.{with_taken, one_taken, behind_take, IsFree, low_queue, taken_other, holds_less, Keeps, finish, is_idle}

-- a directive isn't refused for want of room, before the take or behind it
room_same : (w : State) (at other : QueueAt) → IsFree w at → 0 < unplaced w.hosts → other.queue < QUEUES
    → (batches_held (behind_take w at) (labels_of w) other == w.config.room) ≡ (batches_held w (labels_of w) other == w.config.room)
room_same w at other f some low = elim (cases_Bool (same_queue at other)) [
  | inl same ↦
      subst (λ q. (batches_held (behind_take w at) (labels_of w) q == w.config.room) ≡ (batches_held w (labels_of w) q == w.config.room)) (same_queue_is at other same)
      (ne_eqb (batches_held (behind_take w at) (labels_of w) at) w.config.room (λ e. absurd (omega (arith, e, f.room, some, holds_less w at (labels_of w))))
      ∙ sym (ne_eqb (batches_held w (labels_of w) at) w.config.room (λ e. absurd (omega (arith, e, f.room, some)))))
  | inr differ ↦ ap (λ n. (length (on_queue other (labels_of w)) - n) == w.config.room) (taken_other w at other (low_queue w at f.there) low differ)
]

fault_same : (w : State) (at : QueueAt) (k : ℕ) (d : Directive) → IsFree w at → 0 < unplaced w.hosts → (fault : Option Fault)
    → place_fault false (behind_take w at) k d fault ≡ place_fault false w k d fault
fault_same w at k d f some (Some fault) = refl
fault_same w at k d f some None =
    let walk = walk_of (standing_of w) k d in
    ap (λ b. queue_fault (not (is_empty (batch_of (standing_of w) walk)) && b)) (room_same w at (walk_at walk) f some (walk_low (standing_of w) k d))

place_same : (w : State) (at : QueueAt) (k : ℕ) (d : Directive) → IsFree w at → 0 < unplaced w.hosts → place_answer false (behind_take w at) k d ≡ place_answer false w k d
place_same w at k d f some =
    ap (λ fault. unless fault (answer_of (standing_of w) d (walk_of (standing_of w) k d))) (fault_same w at k d f some (refusal w.config (standing_of w) k d))

-- what a host tells, and is answered, doesn't depend on what was taken
told_taken : (w : State) (at : QueueAt) (item : ItemLabel) → told_of (behind_take w at) item ≡ told_of w item
told_taken w at (to_record.Write array cell new_value) = refl
told_taken w at (to_record.Print range) = refl
told_taken w at (to_record.Seen device counts) = refl
told_taken w at (to_record.Test device counts) = refl

answer_taken : (w : State) (at : QueueAt) (item : ItemLabel) → item_answer false (behind_take w at) item ≡ item_answer false w item
answer_taken w at (to_record.Write array cell new_value) = refl
answer_taken w at (to_record.Print range) = refl
answer_taken w at (to_record.Seen device counts) = refl
answer_taken w at (to_record.Test device counts) = refl

-- What a host's call leaves, before the host goes on: the same but for what was taken, and so many batches more.
record Calls (w : State) (at : QueueAt) (count : ℕ) (s t : State) : Type 0 where
  pub same : t ≡ with_taken s (one_taken w.taken at)
  pub taken : s.taken ≡ w.taken
  pub config : s.config ≡ w.config
  pub done : performed at s.work ≡ performed at w.work
  pub hosts : s.hosts ≡ w.hosts
  pub more : List Label
  pub few : length more ≤ count
  pub placed : on_queue at (labels_of s) ≡ on_queue at (labels_of w) ++ more

no_call : (w : State) (at : QueueAt) → Calls w at 0 w (behind_take w at)
no_call w at = record { same = refl; taken = refl; config = refl; done = refl; hosts = refl; more = []; few = omega arith; placed = sym (append-nil (on_queue at (labels_of w))) }

tells : (w : State) (at : QueueAt) (k : ℕ) (what : Told) → Calls w at 0 (with_item w k what) (with_item (behind_take w at) k what)
tells w at k what = record { same = refl; taken = refl; config = refl; done = refl; hosts = refl; more = []; few = omega arith; placed = sym (append-nil (on_queue at (labels_of w))) }

abbrev goes_on : Owed → Result After Fault
goes_on owed = Ok (owing owed)

no_idle : (owed : Owed) → goes_on owed ≡ Ok go.Idle → ⊥
no_idle nothing_owed e = cc
no_idle (owes_seen device counts) e = cc
no_idle (owes_test device counts) e = cc

module _ (w : State) (at : QueueAt) (f : IsFree w at) (k : ℕ) (host : HostView) (here : slice_get w.hosts k ≡ Some host) where
  host_moves : (goes : Result After Fault) (count : ℕ) (s t : State) → Calls w at count s t → step false w (event.Host k) ≡ host_outcome s k host goes
      → step false (behind_take w at) (event.Host k) ≡ host_outcome t k host goes → count + unplaced_by (host_after goes host) ≤ unplaced_by host → Keeps w at (event.Host k)
  host_moves goes count s t c one two within =
      let new = host_after goes host in
      let v : State = record s { hosts = slice_set s.hosts k new } in
      let others = ap (λ hosts. unplaced (slice_set hosts k new)) c.hosts in
      inr (inr (finish w v at (event.Host k) f (ap (λ (o : Outcome). o.state) one)
      (record {
        config = c.config;
        taken = ap (λ taken. slice_index_or taken (seat at) 0) c.taken;
        done = c.done;
        more = c.more;
        placed = c.placed;
        within = omega (arith, within, c.few, others, unplaced_set w.hosts k host new here);
      })
      (ap (λ (o : Outcome). o.state) two
      ∙ (ap (λ (u : State). let x : State = record u { hosts = slice_set u.hosts k new } in x) c.same
      ∙ ap (λ taken. with_taken v (one_taken taken at)) (sym c.taken)))))

  module _ (want : Want) (wanted : wants w.config.devices host ≡ want) where
    first : step false w (event.Host k) ≡ host_step false w k host want
    first = ap (named_step false w k) here ∙ ap (host_step false w k host) wanted

    second : step false (behind_take w at) (event.Host k) ≡ host_step false (behind_take w at) k host want
    second = ap (named_step false (behind_take w at) k) here ∙ ap (host_step false (behind_take w at) k host) wanted

    -- a host that goes on without placing anything
    low_behind : (goes : Result After Fault) → (goes ≡ Ok go.Idle → ⊥) → (want ≡ stays → ⊥) → 0 + unplaced_by (host_after goes host) ≤ unplaced_by host
    low_behind goes busy moves = omega (arith, left_behind goes host busy, had_before w.config.devices host (λ e. moves (sym wanted ∙ e)))

  by_place : (d : Directive) (answer : Result Placed Fault) → wants w.config.devices host ≡ places d → place_answer false w k d ≡ answer → Keeps w at (event.Host k)
  by_place d answer wanted is =
      let before = had_one_more w.config.devices host d wanted in
      let some : 0 < unplaced w.hosts = omega (arith, before, unplaced_of w.hosts k host here) in
      by answer
      (first (places d) wanted ∙ ap (λ a. host_outcome (placed_state w k d a) k host (after_place d a)) is)
      (second (places d) wanted ∙ ap (λ a. host_outcome (placed_state (behind_take w at) k d a) k host (after_place d a)) (place_same w at k d f some ∙ is))
    where
      by : (answer : Result Placed Fault) → step false w (event.Host k) ≡ host_outcome (placed_state w k d answer) k host (after_place d answer)
          → step false (behind_take w at) (event.Host k) ≡ host_outcome (placed_state (behind_take w at) k d answer) k host (after_place d answer) → Keeps w at (event.Host k)
      by (Ok placed) one two =
          let labels = placed_adds w k d in
          let goes = goes_on (owed_by d placed) in
          host_moves goes 1 (with_directive w k d) (with_directive (behind_take w at) k d)
          (record { same = refl; taken = refl; config = refl; done = refl; hosts = refl; more = on_queue at labels.more; few = on_queue_few at (labels_of w) (labels_of (with_directive w k d)) labels; placed = on_queue_adds at (labels_of w) (labels_of (with_directive w k d)) labels }) one two
          (omega (arith, left_behind goes host (no_idle (owed_by d placed)), had_one_more w.config.devices host d wanted))
      by (Err fault) one two = host_moves (Err fault) 0 w (behind_take w at) (no_call w at) one two (low_behind (places d) wanted (Err fault) (λ e. cc) (λ e. cc))

  by_wait : (device : ℕ) (counts : List ℕ) (answer : Result Bool Fault) → wants w.config.devices host ≡ awaits device counts
      → step false w (event.Host k) ≡ host_outcome (waited_state w k device counts answer) k host (after_wait answer)
      → step false (behind_take w at) (event.Host k) ≡ host_outcome (waited_state (behind_take w at) k device counts answer) k host (after_wait answer) → Keeps w at (event.Host k)
  by_wait device counts (Ok true) wanted one two =
      let what = told.Seen device counts in
      host_moves (Ok go.Ended) 0 (with_item w k what) (with_item (behind_take w at) k what) (tells w at k what) one two (low_behind (awaits device counts) wanted (Ok go.Ended) (λ e. cc) (λ e. cc))
  by_wait device counts (Ok false) wanted one two = inr (inl (ap (λ (o : Outcome). o.reply) one))
  by_wait device counts (Err fault) wanted one two =
      host_moves (Err fault) 0 w (behind_take w at) (no_call w at) one two (low_behind (awaits device counts) wanted (Err fault) (λ e. cc) (λ e. cc))

  by_item : (item : ItemLabel) (answer : Result Shown Fault) → wants w.config.devices host ≡ records item
      → step false w (event.Host k) ≡ host_outcome (item_state w k item answer) k host (after_answer answer)
      → step false (behind_take w at) (event.Host k) ≡ host_outcome (item_state (behind_take w at) k item answer) k host (after_answer answer) → Keeps w at (event.Host k)
  by_item item (Ok shown) wanted one two =
      host_moves (Ok go.Ended) 0 (with_item w k (told_of w item)) (with_item (behind_take w at) k (told_of (behind_take w at) item))
      (subst (λ what. Calls w at 0 (with_item w k (told_of w item)) (with_item (behind_take w at) k what)) (sym (told_taken w at item)) (tells w at k (told_of w item)))
      one two (low_behind (records item) wanted (Ok go.Ended) (λ e. cc) (λ e. cc))
  by_item item (Err fault) wanted one two =
      host_moves (Err fault) 0 w (behind_take w at) (no_call w at) one two (low_behind (records item) wanted (Err fault) (λ e. cc) (λ e. cc))

  by_want : (want : Want) → wants w.config.devices host ≡ want → Keeps w at (event.Host k)
  by_want stays wanted = inr (inl (ap (λ (o : Outcome). o.reply) (first stays wanted)))
  by_want (sets ids) wanted =
      host_moves (Ok (go.Set ids)) 0 w (behind_take w at) (no_call w at) (first (sets ids) wanted) (second (sets ids) wanted)
      (low_behind (sets ids) wanted (Ok (go.Set ids)) (λ e. cc) (λ e. cc))
  by_want (refuses fault) wanted =
      host_moves (Err fault) 0 w (behind_take w at) (no_call w at) (first (refuses fault) wanted) (second (refuses fault) wanted)
      (low_behind (refuses fault) wanted (Err fault) (λ e. cc) (λ e. cc))
  by_want (places d) wanted = by_place d (place_answer false w k d) wanted refl
  by_want (awaits device counts) wanted = by_wait device counts (wait_answer false w device counts) wanted (first (awaits device counts) wanted) (second (awaits device counts) wanted)
  by_want (records item) wanted =
      by_item item (item_answer false w item) wanted (first (records item) wanted)
      (second (records item) wanted ∙ ap (λ a. host_outcome (item_state (behind_take w at) k item a) k host (after_answer a)) (answer_taken w at item))

pub keeps_host : (w : State) (at : QueueAt) (k : ℕ) → IsFree w at → Keeps w at (event.Host k)
keeps_host w at k f = by (slice_get w.hosts k) refl
  where
    by : (o : Option HostView) → slice_get w.hosts k ≡ o → Keeps w at (event.Host k)
    by None none = is_idle w at (event.Host k) (ap (named_step false w k) none)
    by (Some host) here = by_want w at f k host here (wants w.config.devices host) refl
