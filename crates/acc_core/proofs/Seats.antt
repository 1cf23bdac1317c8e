-- The queues and their lanes, of which those of one queue change.
use Rattle.std.proofs.Common.{inl, inr, ◌≡◌, ℕ, zero, suc, ◌<◌, true, false, List, [], ◌∷◌, length, refl, sym, ap, subst, arith}
use Rattle.std.specs.Prelude.{nat_lt, slice_index_or, slice_set}
use Rattle.std.proofs.lemmas.Bool.{cases_Bool, and_parts, ltb-true}
use Rattle.acc_base.specs.declared.ids.QueueAt.{QueueAt}
use Rattle.acc_base.specs.declared.ids.TheConstants.{QUEUES}
use Rattle.acc_base.specs.Queues.{same_queue, seat}
use Rattle.acc_base.proofs.SameQueue.{same_queue_is}
use Rattle.acc_batch.proofs.Seats.{seat_kept, seat_set}
use Rattle.acc_core.specs.Machine.{State, is_there}
use Rattle.acc_core.specs.inner.Queues.{QueueView, no_queue, queue_in, queues_with}
use Rattle.acc_core.specs.inner.Ties.{Queued}
use Rattle.acc_work.specs.Lanes.{LaneView, no_lane, lane_in, lanes_with}
use Rattle.acc_work.specs.Works.{WorkView, HasQueue, KeepsOrder}

-- A queue of a device that is there has a seat among the lanes and among the queues.
pub record IsSeated (devices : ℕ) (v : WorkView) (queues : List QueueView) (at : QueueAt) : Type 0 where
  pub device : at.device < devices
  pub queue : at.queue < QUEUES
  pub has : HasQueue v at
  pub lane : seat at < length v.lanes
  pub held : seat at < length queues

pub seated : (w : State) (v : WorkView) (queues : List QueueView) (at : QueueAt) → Queued w v queues → KeepsOrder v → at.device < w.config.devices → at.queue < QUEUES → IsSeated w.config.devices v queues at
seated w v queues at q k device queue = record {
  device = device;
  queue = queue;
  has = (omega (arith, device, q.devices), queue);
  lane = omega (arith, device, queue, q.devices, k.count);
  held = omega (arith, device, queue, q.count);
}

pub seated_there : (w : State) (v : WorkView) (queues : List QueueView) (at : QueueAt) → Queued w v queues → KeepsOrder v → is_there w at ≡ true → IsSeated w.config.devices v queues at
seated_there w v queues at q k there =
    let both = and_parts (nat_lt at.device w.config.devices) (nat_lt at.queue QUEUES) there in
    seated w v queues at q k (ltb-true at.device w.config.devices both.0) (ltb-true at.queue QUEUES both.1)

-- What holds of each queue and its lane, where those of one queue change.
pub both_changed : (P Q : QueueAt → LaneView → QueueView → Type 0) (lanes : List LaneView) (queues : List QueueView) (at : QueueAt) (lane : LaneView) (queue : QueueView)
    → at.queue < QUEUES → seat at < length lanes → seat at < length queues → ((other : QueueAt) → P other (lane_in lanes other) (queue_in queues other)) → Q at lane queue
    → ((other : QueueAt) → same_queue at other ≡ false → (l : LaneView) (q : QueueView) → P other l q → Q other l q)
    → (other : QueueAt) → Q other (lane_in (lanes_with lanes at lane) other) (queue_in (queues_with queues at queue) other)
both_changed P Q lanes queues at lane queue low there held all mine others other = elim (cases_Bool (same_queue at other)) [
  | inl same ↦
      subst (λ q. Q q (lane_in (lanes_with lanes at lane) q) (queue_in (queues_with queues at queue) q)) (same_queue_is at other same)
      (subst (λ l. Q at l (queue_in (queues_with queues at queue) at)) (sym (seat_set no_lane lanes at lane low there)) (subst (Q at lane) (sym (seat_set no_queue queues at queue low held)) mine))
  | inr differ ↦
      subst (λ l. Q other l (queue_in (queues_with queues at queue) other)) (sym (seat_kept no_lane lanes at other lane low differ))
      (subst (Q other (lane_in lanes other)) (sym (seat_kept no_queue queues at other queue low differ)) (others other differ (lane_in lanes other) (queue_in queues other) (all other)))
]

-- what stands there already changes nothing
pub set_found : {X : Type 0} (xs : List X) (i : ℕ) (x : X) → x ≡ slice_index_or xs i x → slice_set xs i x ≡ xs
set_found [] i x found = refl
set_found (y ∷ ys) zero x found = ap (λ z. z ∷ ys) found
set_found (y ∷ ys) (suc i) x found = ap (λ zs. y ∷ zs) (set_found ys i x found)
