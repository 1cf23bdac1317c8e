-- An operation that comes next on a queue and can be performed goes on to do so, whatever else comes.
use Rattle.std.proofs.Common.{inl, inr, ◌⊎◌, ◌||◌, ◌≡◌, ℕ, ◌+◌, ◌<◌, ◌≤◌, Bool, true, false, ◌&&◌, cond, List, [], ◌∷◌, ◌++◌, length, refl, sym, ap, subst, ◌∙◌, nat_lt, arith}
use Rattle.std.proofs.lemmas.Bool.{cases_Bool, eq-eqb, eqb-true}
use Rattle.std.proofs.lemmas.List.{append-nil, length_push}
use Rattle.acc_base.proofs.SameQueue.{same_queue_is, same_queue_itself}
use Rattle.acc_base.specs.Configurations.{Configuration}
use Rattle.acc_base.specs.declared.ids.QueueAt.{QueueAt}
use Rattle.acc_base.specs.declared.ids.TheConstants.{QUEUES}
use Rattle.acc_base.specs.Queues.{same_queue}
use Rattle.acc_batch.specs.declared.entry.WorkEntry.{WorkEntry}
use Rattle.acc_batch.specs.declared.entry.WorkEntry.TheVariants as entry
use Rattle.acc_batch.specs.declared.label.Label.{Label}
use Rattle.acc_batch.specs.declared.label.OpLabel.{OpLabel}
use Rattle.acc_batch.specs.Labels.{on_queue, ops_of, whole_batches}
use Rattle.acc_core.specs.Machine.{State, can_perform, did, idle, is_there, labels_of, ops_left, perform_step, queue_step, step, taken_on, with_op}
use Rattle.acc_host.specs.declared.event.Event.TheVariants as event
use Rattle.acc_work.specs.Logs.{batches_done, items_of, one_more, performed}
use Rattle.acc_explore.specs.UnseenOperations.{ends_no_batch, nobody_asks}
use Rattle.acc_explore.proofs.MoreBatches.{not_last, whole_grows, whole_stays}
use Rattle.acc_explore.proofs.NextKept.{ComesNext, next_kept, next_placed}

-- The next operation of a queue is this one, it can be performed, and it ends no batch, or nobody asks.
pub record StandsNext (at : QueueAt) (w : State) (op : OpLabel) : Type 0 where
  pub later : List OpLabel
  pub there : is_there w at ≡ true
  pub left : ops_left w (labels_of w) at ≡ op ∷ later
  pub can : can_perform (labels_of w) w.work at op ≡ true
  pub quiet : (ends_no_batch (labels_of w) w.work at op ≡ true) ⊎ (nobody_asks w ≡ true)

-- it is performed
pub step_next : (at : QueueAt) (w : State) (op : OpLabel) → StandsNext at w op → step false w (event.Perform at) ≡ did (with_op w at op)
step_next at w op u =
    ap (λ (b : Bool). queue_step b w (perform_step w (labels_of w) at (ops_left w (labels_of w) at))) u.there
    ∙ (ap (λ (ops : List OpLabel). perform_step w (labels_of w) at ops) u.left
    ∙ ap (λ (b : Bool). cond b (did (with_op w at op)) (idle w)) u.can)

pub or_from : (x y : Bool) → (x ≡ true) ⊎ (y ≡ true) → (x || y) ≡ true
or_from true y e = refl
or_from false y (inl e) = cc
or_from false y (inr e) = e

pub one_longer : (at : QueueAt) (op : OpLabel) (work : List WorkEntry) → length (performed at (entry.Op at op ∷ work)) ≡ length (performed at work) + 1
one_longer at op work = rw (same_queue_itself at) (length_push (performed at work) op)

-- behind it each queue has performed no fewer batches, and as many where it ends none
pub batches_grow : (at : QueueAt) (w : State) (op : OpLabel) (q : QueueAt) → batches_done (labels_of w) w.work q ≤ batches_done (labels_of w) (entry.Op at op ∷ w.work) q
batches_grow at w op q = whole_grows (on_queue q (labels_of w)) (length (performed q w.work)) (length (performed q (entry.Op at op ∷ w.work))) (more (same_queue at q) (performed q w.work))
  where
    more : (b : Bool) (ops : List OpLabel) → length ops ≤ length (one_more b ops op)
    more true ops = omega (arith, length_push ops op)
    more false ops = omega arith

pub batches_stay : (at : QueueAt) (w : State) (op : OpLabel) → ends_no_batch (labels_of w) w.work at op ≡ true → (q : QueueAt) → batches_done (labels_of w) (entry.Op at op ∷ w.work) q ≡ batches_done (labels_of w) w.work q
batches_stay at w op none q = elim (cases_Bool (same_queue at q)) [
  | inl same ↦
      subst (λ (q : QueueAt). batches_done (labels_of w) (entry.Op at op ∷ w.work) q ≡ batches_done (labels_of w) w.work q) (same_queue_is at q same)
      (eqb-true (batches_done (labels_of w) (entry.Op at op ∷ w.work) at) (batches_done (labels_of w) w.work at) none)
  | inr differ ↦ rw differ refl
]

-- ## What other events leave of what the test sees

-- The configuration, what was taken and performed of the queue, all batches with maybe more behind them, no fewer operations and items,
-- and that nobody asks.
pub record LeavesTest (at : QueueAt) (w s : State) : Type 0 where
  pub config : s.config ≡ w.config
  pub labels : (q : QueueAt) → (more : List Label) × (on_queue q (labels_of s) ≡ on_queue q (labels_of w) ++ more)
  pub taken : taken_on s at ≡ taken_on w at
  pub same : performed at s.work ≡ performed at w.work
  pub done : (q : QueueAt) → length (performed q w.work) ≤ length (performed q s.work)
  pub items : (host : ℕ) → items_of host w.work ≤ items_of host s.work
  pub unasked : nobody_asks w ≡ true → nobody_asks s ≡ true

pub no_more : (labels : List Label) (q : QueueAt) → (more : List Label) × (on_queue q labels ≡ on_queue q labels ++ more)
no_more labels q = ([], sym (append-nil (on_queue q labels)))

pub leaves_itself : (at : QueueAt) (w : State) → LeavesTest at w w
leaves_itself at w = record {
  config = refl;
  labels = no_more (labels_of w);
  taken = refl;
  same = refl;
  done = λ q. omega arith;
  items = λ host. omega arith;
  unasked = λ e. e;
}

-- The operation goes on to come next.
module _ (at : QueueAt) (w s : State) (op : OpLabel) (u : StandsNext at w op) (l : LeavesTest at w s) where
  abbrev first : List Label
  first = on_queue at (labels_of w)

  abbrev now : List Label
  now = on_queue at (labels_of s)

  abbrev n : ℕ
  n = length (performed at w.work)

  next : ComesNext at w op
  next = record { later = u.later; left = u.left; can = u.can }

  placed : n < length (ops_of first)
  placed = next_placed at w op next

  kept : ComesNext at s op
  kept = next_kept at w op next s (record { labels = l.labels; taken = l.taken; same = l.same; done = l.done; items = l.items })

  counted : (k : ℕ) → k < length (ops_of first) → whole_batches now k ≡ whole_batches first k
  counted k few = ap (λ (ls : List Label). whole_batches ls k) (l.labels at).1 ∙ whole_stays first (l.labels at).0 k few

  none_kept : ends_no_batch (labels_of w) w.work at op ≡ true → ends_no_batch (labels_of s) s.work at op ≡ true
  none_kept none =
      let as_many = batches_stay at w op none at in
      -- it isn't the last of what was placed, which would end a batch
      let low = not_last first n placed (ap (whole_batches first) (sym (one_longer at op w.work)) ∙ as_many) in
      eq-eqb (batches_done (labels_of s) (entry.Op at op ∷ s.work) at) (batches_done (labels_of s) s.work at)
      (ap (whole_batches now) (one_longer at op s.work ∙ ap (λ (ops : List OpLabel). length ops + 1) l.same)
      ∙ (counted (n + 1) low
      ∙ (ap (whole_batches first) (sym (one_longer at op w.work))
      ∙ (as_many
      ∙ (sym (counted n placed) ∙ ap (λ (ops : List OpLabel). whole_batches now (length ops)) (sym l.same))))))

  quiet_kept : (ends_no_batch (labels_of w) w.work at op ≡ true) ⊎ (nobody_asks w ≡ true) → (ends_no_batch (labels_of s) s.work at op ≡ true) ⊎ (nobody_asks s ≡ true)
  quiet_kept (inl none) = inl (none_kept none)
  quiet_kept (inr nobody) = inr (l.unasked nobody)

  pub standing_kept : StandsNext at s op
  standing_kept = record {
    later = kept.later;
    there = ap (λ (c : Configuration). nat_lt at.device c.devices && nat_lt at.queue QUEUES) l.config ∙ u.there;
    left = kept.left;
    can = kept.can;
    quiet = quiet_kept u.quiet;
  }
