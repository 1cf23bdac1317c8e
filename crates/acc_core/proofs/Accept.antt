-- A directive is accepted, and its batch placed on the queue.
use Rattle.std.proofs.Common.{◌≡◌, ℕ, ◌<◌, true, false, List, [], ◌∷◌, ◌++◌, length, refl, sym, ap, subst, ◌∙◌, arith, Option, None, Some}
use Rattle.std.specs.Prelude.{◌==◌, ◌&&◌, not, All, Ok, Err}
use Rattle.std.proofs.lemmas.Bool.{eq-eqb, ne_eqb}
use Rattle.std.proofs.lemmas.List.{append_assoc, append-nil, length-append, length-set}
use Rattle.std.proofs.lemmas.List.Elements.{All-head, All-push}
use Rattle.acc_base.proofs.Lists.{All-behind}
use Rattle.acc_base.specs.declared.config.TheConstants.{MAX_HOSTS}
use Rattle.acc_place.specs.Directives.{Directive}
use Rattle.acc_batch.specs.declared.label.Label.{Label}
use Rattle.acc_batch.specs.declared.label.OpLabel.{OpLabel}
use Rattle.acc_base.specs.declared.fault.Fault.{Fault}
use Rattle.acc_base.specs.declared.fault.Fault.TheVariants.{Memory, QueueFull}
use Rattle.acc_base.specs.declared.ids.QueueAt.{QueueAt}
use Rattle.acc_base.specs.declared.ids.TheConstants.{QUEUES}
use Rattle.acc_base.specs.Queues.{same_queue, seat}
use Rattle.acc_place.specs.Accepting.{refusal}
use Rattle.acc_core.specs.inner.Answers.{Places}
use Rattle.acc_place.specs.declared.directive.Placed.{Placed}
use Rattle.acc_place.specs.Batches.{batch_of, answer_of, next_number, walk_at}
use Rattle.acc_place.specs.Histories.{standing}
use Rattle.acc_place.specs.Plans.{PlaceView, PlanView, standing_in, Fits, label_for, label_in}
use Rattle.acc_batch.specs.Labels.{on_queue}
use Rattle.acc_core.specs.Legality.{IsLegalState}
use Rattle.acc_work.specs.Logs.{items_of}
use Rattle.acc_core.specs.Machine.{State, standing_of, with_directive, fault_of_place, place_fault, queue_fault, is_empty, is_full, batches_held, labels_of}
use Rattle.acc_place.specs.Standings.{walk_of}
use Rattle.acc_core.specs.inner.Queues.{QueueView, no_queue, queue_in, queues_with, held_with}
use Rattle.acc_core.specs.inner.Ties.{QueueIs, Queued, IsAccelerator}
use Rattle.acc_work.specs.Works.{WorkView, KeepsOrder, lane_at}
use Rattle.acc_core.proofs.LegalSteps.{legal_accepted, labels_accepted}
use Rattle.acc_base.proofs.SameQueue.{same_queue_itself}
use Rattle.acc_batch.proofs.Labels.{on_queue-append}
use Rattle.acc_batch.proofs.Seats.{each_seat}
use Rattle.acc_core.proofs.AddedLabels.{added}
use Rattle.acc_place.proofs.LabelsThere.{labels_there}
use Rattle.acc_core.proofs.Seats.{IsSeated, seated}
use Rattle.acc_core.proofs.TakeBatch.{with_taken, held_is}

-- an empty batch adds no label
labels_empty : (w : State) (host : ℕ) (d : Directive) → batch_of (standing_of w) (walk_of (standing_of w) host d) ≡ [] → labels_of (with_directive w host d) ≡ labels_of w
labels_empty w host d e =
    let at = walk_at (walk_of (standing_of w) host d) in
    labels_accepted w host d
    ∙ (ap (λ ops. labels_of w ++ added at (next_number at (labels_of w)) host (items_of host w.work) ops) e ∙ append-nil (labels_of w))

-- a batch that isn't empty adds one label
added_one : (at : QueueAt) (number host items_done : ℕ) (ops : List OpLabel) → 0 < length ops
    → added at number host items_done ops ≡ record { at = at; number = number; host = host; items_done = items_done; ops = ops } ∷ []
added_one at number host items_done [] some = absurd (omega (arith, some))
added_one at number host items_done (op ∷ ops) some = refl

-- the label that a directive's batch gets
abbrev next_label : State → ℕ → Directive → Label
next_label w host d =
    let at = walk_at (walk_of (standing_of w) host d) in
    record { at = at; number = next_number at (labels_of w); host = host; items_done = items_of host w.work; ops = batch_of (standing_of w) (walk_of (standing_of w) host d) }

-- a directive's batch that isn't empty adds that label behind all others
labels_more : (w : State) (host : ℕ) (d : Directive) → 0 < length (batch_of (standing_of w) (walk_of (standing_of w) host d)) → labels_of (with_directive w host d) ≡ labels_of w ++ next_label w host d ∷ []
labels_more w host d some =
    let at = walk_at (walk_of (standing_of w) host d) in
    labels_accepted w host d
    ∙ ap (λ ls. labels_of w ++ ls) (added_one at (next_number at (labels_of w)) host (items_of host w.work) (batch_of (standing_of w) (walk_of (standing_of w) host d)) some)

-- the queues and their lanes depend on the labels alone
pub queued_same : (w w' : State) (v : WorkView) (queues : List QueueView) → w'.config ≡ w.config → labels_of w' ≡ labels_of w → Queued w v queues → Queued w' v queues
queued_same w w' v queues c e q = record {
  each = λ at. subst (λ ls. QueueIs w'.config ls at (lane_at v at) (queue_in queues at)) (sym e) (subst (λ x. QueueIs x (labels_of w) at (lane_at v at) (queue_in queues at)) (sym c) (q.each at));
  count = rw c q.count;
  devices = rw c q.devices;
  filled = rw e q.filled;
  hosts = rw e q.hosts;
}

-- a queue's labels, where one more is placed on it, and where it is placed on another
placed_here : (labels : List Label) (b : Label) → on_queue b.at (labels ++ b ∷ []) ≡ on_queue b.at labels ++ b ∷ []
placed_here labels b = on_queue-append b.at labels (b ∷ []) ∙ rw (same_queue_itself b.at) refl

placed_elsewhere : (labels : List Label) (b : Label) (other : QueueAt) → same_queue b.at other ≡ false → on_queue other (labels ++ b ∷ []) ≡ on_queue other labels
placed_elsewhere labels b other differ = on_queue-append other labels (b ∷ []) ∙ rw differ (append-nil (on_queue other labels))

-- One more batch joins its queue.
pub queued_more : (w w' : State) (v : WorkView) (queues : List QueueView) (b : Label) (new : QueueView) → new.held ≡ held_with (queue_in queues b.at) b → IsSeated w.config.devices v queues b.at → Queued w v queues → w'.config ≡ w.config → labels_of w' ≡ labels_of w ++ b ∷ [] → b.host < MAX_HOSTS
    → 0 < length b.ops → length (queue_in queues b.at).held < w.config.room → Queued w' v (queues_with queues b.at new)
queued_more w w' v queues b new pushed s q c e host some fits =
    let at = b.at in
    let ls = labels_of w in
    let queue = queue_in queues at in
    let h = q.each at in
    let each =
    each_seat (λ other x. QueueIs w.config ls other (lane_at v other) x) (λ other x. QueueIs w.config (ls ++ b ∷ []) other (lane_at v other) x) no_queue queues at new s.queue s.held q.each
    (record {
      split = placed_here ls b ∙ (ap (λ r. r ++ b ∷ []) h.split ∙ (append_assoc (lane_at v at).taken queue.held (b ∷ []) ∙ ap (λ r. (lane_at v at).taken ++ r) (sym pushed)));
      held_low = omega (arith, fits, length-append queue.held (b ∷ []), ap length pushed);
      in_place = h.in_place;
    })
    (λ other differ x same. record { split = placed_elsewhere ls b other differ ∙ same.split; held_low = same.held_low; in_place = same.in_place }) in
    record {
      each = λ other. subst (λ x. QueueIs w'.config x other (lane_at v other) (queue_in (queues_with queues at new) other)) (sym e) (subst (λ x. QueueIs x (ls ++ b ∷ []) other (lane_at v other) (queue_in (queues_with queues at new) other)) (sym c) (each other));
      count = rw c (length-set queues (seat at) new ∙ q.count);
      devices = rw c q.devices;
      filled = rw e (All-push (λ (x : Label). 0 < length x.ops) ls b q.filled some);
      hosts = rw e (All-push (λ (x : Label). x.host < MAX_HOSTS) ls b q.hosts host);
    }

-- An accelerator that accepted a directive with an empty batch.
pub keeps_empty : (w w' : State) (v : WorkView) (queues : List QueueView) (host : ℕ) (d : Directive) → IsAccelerator w v queues → refusal w.config (standing_of w) host d ≡ None
    → batch_of (standing_of w) (walk_of (standing_of w) host d) ≡ [] → w' ≡ with_directive w host d → IsAccelerator w' v queues
keeps_empty w w' v queues host d a e none is =
    rw is (record {
      legal = legal_accepted w host d a.legal e;
      few_items = a.few_items;
      parts = queued_same w (with_directive w host d) v queues refl (labels_empty w host d none) a.parts;
      opening = a.opening;
    })

no_ops : (at : QueueAt) (number host items_done : ℕ) (ops : List OpLabel) → None ≡ label_for at number host items_done ops → ops ≡ []
no_ops at number host items_done [] is = refl
no_ops at number host items_done (op ∷ ops) is = absurd (cc)

-- a directive without a label has an empty batch
pub batch_empty : (w : State) (host items_done : ℕ) (d : Directive) → None ≡ label_in (standing_of w) host items_done (walk_of (standing_of w) host d) → batch_of (standing_of w) (walk_of (standing_of w) host d) ≡ []
batch_empty w host items_done d is = no_ops (walk_at (walk_of (standing_of w) host d)) (next_number (walk_at (walk_of (standing_of w) host d)) (labels_of w)) host items_done (batch_of (standing_of w) (walk_of (standing_of w) host d)) is

some_ops : (at : QueueAt) (number host items_done : ℕ) (ops : List OpLabel) (b : Label) → Some b ≡ label_for at number host items_done ops
    → (0 < length ops) × (b ≡ record { at = at; number = number; host = host; items_done = items_done; ops = ops })
some_ops at number host items_done [] b is = absurd (cc)
some_ops at number host items_done (op ∷ ops) b is = (omega arith, cc)

-- one with a label has a batch with that label
pub record IsPlaced (w : State) (host : ℕ) (d : Directive) (b : Label) : Type 0 where
  pub some : 0 < length (batch_of (standing_of w) (walk_of (standing_of w) host d))
  pub same : b ≡ next_label w host d

pub batch_placed : (w : State) (host : ℕ) (d : Directive) (b : Label) → Some b ≡ label_in (standing_of w) host (items_of host w.work) (walk_of (standing_of w) host d) → IsPlaced w host d b
batch_placed w host d b is =
    let at = walk_at (walk_of (standing_of w) host d) in
    let made = some_ops at (next_number at (labels_of w)) host (items_of host w.work) (batch_of (standing_of w) (walk_of (standing_of w) host d)) b is in
    record { some = made.0; same = made.1 }

-- the last of a list has what all have
last_has : (P : Label → Type 0) (ls : List Label) (l : Label) → All P (ls ++ l ∷ []) → P l
last_has P ls l h = All-head P l [] (All-behind P ls (l ∷ []) h)

-- its queue is there
pub placed_there : (w : State) (host : ℕ) (d : Directive) (b : Label) → IsLegalState w → refusal w.config (standing_of w) host d ≡ None → IsPlaced w host d b → (b.at.device < w.config.devices) × (b.at.queue < QUEUES)
placed_there w host d b l e p =
    let new = with_directive w host d in
    let all = labels_there new.config new.history new.counts (legal_accepted w host d l e).accepted in
    let labels : labels_of new ≡ labels_of w ++ b ∷ [] = rw p.same (labels_more w host d p.some) in
    let there = last_has (λ (x : Label). (x.at.device < w.config.devices) × (x.at.queue < QUEUES) × (0 < length x.ops)) (labels_of w) b (rw labels at all) in
    (there.0, there.1)

-- An accelerator that accepted a directive and put its batch on its queue.
pub keeps_batch : (w w' : State) (v : WorkView) (queues : List QueueView) (b : Label) (new : QueueView) (host : ℕ) (d : Directive) → new.held ≡ held_with (queue_in queues b.at) b → IsAccelerator w v queues → IsSeated w.config.devices v queues b.at → refusal w.config (standing_of w) host d ≡ None
    → w' ≡ with_directive w host d → IsPlaced w host d b → host < MAX_HOSTS → length (queue_in queues b.at).held < w.config.room → IsAccelerator w' v (queues_with queues b.at new)
keeps_batch w w' v queues b new host d pushed a s e is l low fits =
    let labels : labels_of (with_directive w host d) ≡ labels_of w ++ b ∷ [] = rw l.same (labels_more w host d l.some) in
    rw is (record {
      legal = legal_accepted w host d a.legal e;
      few_items = a.few_items;
      parts = queued_more w (with_directive w host d) v queues b new pushed s a.parts refl labels (rw l.same low) (rw l.same l.some) fits;
      opening = a.opening;
    })

-- operations that are there aren't none
not_empty : (ops : List OpLabel) → 0 < length ops → is_empty ops ≡ false
not_empty [] some = absurd (omega (arith, some))
not_empty (op ∷ ops) some = refl

-- a batch that isn't empty finds its queue full where that holds its room
full_at : (w : State) (v : WorkView) (queues : List QueueView) (host : ℕ) (d : Directive) (b : Label) → Queued w v queues → IsSeated w.config.devices v queues b.at → IsPlaced w host d b
    → is_full (with_taken w v) (standing_of w) (walk_of (standing_of w) host d) ≡ (length (queue_in queues b.at).held == w.config.room)
full_at w v queues host d b q s p =
    let ops = batch_of (standing_of w) (walk_of (standing_of w) host d) in
    let at = walk_at (walk_of (standing_of w) host d) in
    let here : at ≡ b.at = ap (λ (x : Label). x.at) (sym p.same) in
    ap (λ e. not e && (batches_held (with_taken w v) (labels_of w) at == w.config.room)) (not_empty ops p.some)
    ∙ (ap (λ other. batches_held (with_taken w v) (labels_of w) other == w.config.room) here ∙ ap (λ n. n == w.config.room) (held_is w v queues b.at (queue_in queues b.at) s (q.each b.at)))

-- the fault is by that
fault_is : (w : State) (v : WorkView) (queues : List QueueView) (host : ℕ) (d : Directive) (b : Label) → Queued w v queues → IsSeated w.config.devices v queues b.at → refusal w.config (standing_of w) host d ≡ None
    → IsPlaced w host d b → fault_of_place false (with_taken w v) host d ≡ queue_fault (length (queue_in queues b.at).held == w.config.room)
fault_is w v queues host d b q s e p = ap (place_fault false (with_taken w v) host d) e ∙ ap queue_fault (full_at w v queues host d b q s p)

-- A directive whose queue holds its room is refused.
pub places_full : (w w' : State) (v : WorkView) (queues : List QueueView) (host : ℕ) (d : Directive) (b : Label) → Queued w v queues → IsSeated w.config.devices v queues b.at → refusal w.config (standing_of w) host d ≡ None
    → IsPlaced w host d b → length (queue_in queues b.at).held ≡ w.config.room → w' ≡ with_taken w v → Places (with_taken w v) host d (Err QueueFull) w'
places_full w w' v queues host d b q s e p full is =
    (false, fault_is w v queues host d b q s e p ∙ ap queue_fault (eq-eqb (length (queue_in queues b.at).held) w.config.room full), is)

-- One that is refused memory is refused for that.
pub places_scarce : (w w' : State) (host : ℕ) (d : Directive) (fault : Fault) → refusal w.config (standing_of w) host d ≡ None → fault ≡ Memory → w' ≡ w → Places w host d (Err fault) w'
places_scarce w w' host d fault e memory is = (true, ap (place_fault true w host d) e ∙ ap Some (sym memory), is)

-- A directive with a batch is answered with the batch's queue and number.
pub places_batch : (w w' : State) (v : WorkView) (queues : List QueueView) (host : ℕ) (d : Directive) (b : Label) (placed : Placed) → Queued w v queues → IsSeated w.config.devices v queues b.at
    → refusal w.config (standing_of w) host d ≡ None → IsPlaced w host d b → ¬ length (queue_in queues b.at).held ≡ w.config.room → placed ≡ answer_of (standing_of w) d (walk_of (standing_of w) host d)
    → w' ≡ with_directive (with_taken w v) host d → Places (with_taken w v) host d (Ok placed) w'
places_batch w w' v queues host d b placed q s e p room answer is =
    (fault_is w v queues host d b q s e p ∙ ap queue_fault (ne_eqb (length (queue_in queues b.at).held) w.config.room room), answer, is)

-- What a plan says of the place before it, in which it changed nothing but spare memory.
pub record IsPlanned (p : PlaceView) (host items_done : ℕ) (d : Directive) (label : Option Label) : Type 0 where
  pub accepted : refusal p.config (standing_in p) host d ≡ None
  pub labelled : label ≡ label_in (standing_in p) host items_done (walk_of (standing_in p) host d)

pub planned : (p after : PlaceView) (q : PlanView) (host items_done : ℕ) (d : Directive) → after.config ≡ p.config → after.history ≡ p.history → after.counts ≡ p.counts → Fits after q
    → q.host ≡ host → q.items_done ≡ items_done → q.directive ≡ d → IsPlanned p host items_done d q.label
planned p after q host items_done d config history counts fits same_host same_items same =
    let st : standing_in after ≡ standing_in p = ap (λ c. standing c after.history after.counts) config ∙ (ap (λ xs. standing p.config xs after.counts) history ∙ ap (standing p.config p.history) counts) in
    record {
      accepted =
          sym (ap (λ x. refusal x (standing_in after) q.host q.directive) config
          ∙ (ap (λ s. refusal p.config s q.host q.directive) st
          ∙ (ap (λ h. refusal p.config (standing_in p) h q.directive) same_host ∙ ap (refusal p.config (standing_in p) host) same))) ∙ fits.accepted;
      labelled =
          fits.labelled
          ∙ (ap (λ s. label_in s q.host q.items_done (walk_of s q.host q.directive)) st
          ∙ (ap (λ h. label_in (standing_in p) h q.items_done (walk_of (standing_in p) h q.directive)) same_host
          ∙ (ap (λ n. label_in (standing_in p) host n (walk_of (standing_in p) host q.directive)) same_items
          ∙ ap (λ e. label_in (standing_in p) host items_done (walk_of (standing_in p) host e)) same)));
    }

-- Where a directive's batch goes: it is placed, and its queue is there.
pub record Goes (w : State) (v : WorkView) (queues : List QueueView) (host : ℕ) (d : Directive) (b : Label) : Type 0 where
  pub placed : IsPlaced w host d b
  pub seat : IsSeated w.config.devices v queues b.at

pub batch_goes : (w : State) (v : WorkView) (queues : List QueueView) (host items_done : ℕ) (d : Directive) (b : Label) → IsAccelerator w v queues → KeepsOrder v → refusal w.config (standing_of w) host d ≡ None
    → items_done ≡ items_of host w.work → Some b ≡ label_in (standing_of w) host items_done (walk_of (standing_of w) host d) → Goes w v queues host d b
batch_goes w v queues host items_done d b a k e items named =
    let p = batch_placed w host d b (named ∙ ap (λ n. label_in (standing_of w) host n (walk_of (standing_of w) host d)) items) in
    let there = placed_there w host d b a.legal e p in
    record { placed = p; seat = seated w v queues b.at a.parts k there.0 there.1 }
