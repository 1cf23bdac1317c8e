-- An accelerator before the first event.
use Rattle.std.proofs.Common.{◌≡◌, ℕ, zero, suc, ◌<◌, ◌≤◌, true, false, cond, List, [], ◌∷◌, length, map, refl, ap, ◌∙◌, arith}
use Rattle.std.specs.Prelude.{All, nat_lt, replicate, slice_index_or}
use Rattle.std.proofs.lemmas.List.Elements.{All-nil, All-head, All-tail}
use Rattle.acc_base.specs.declared.config.TheConstants.{MAX_HOSTS}
use Rattle.acc_base.specs.declared.ids.QueueAt.{QueueAt}
use Rattle.acc_base.specs.declared.ids.TheConstants.{QUEUES}
use Rattle.acc_base.specs.Configurations.{Configuration}
use Rattle.acc_base.specs.Queues.{queue_count, seat}
use Rattle.acc_batch.specs.declared.label.Label.{Label}
use Rattle.acc_place.specs.Histories.{standing}
use Rattle.acc_core.specs.Machine.{State, state_at_first}
use Rattle.acc_core.specs.inner.Queues.{QueueView, empty_queue, no_queue, queue_in}
use Rattle.acc_core.specs.inner.Ties.{QueueIs, Queued, IsAccelerator}
use Rattle.acc_work.specs.Lanes.{LaneView, IsFresh}
use Rattle.acc_work.specs.Works.{WorkView, lane_at}
use Rattle.acc_work.proofs.Lanes.{fresh_lane}
use Rattle.acc_core.proofs.LegalSteps.{legal_start}

-- each queue is empty
none_held : (queues : List QueueView) (at : QueueAt) → All (λ (q : QueueView). q ≡ empty_queue) queues → (queue_in queues at).held ≡ []
none_held queues at h =
    elim (nat_lt at.queue QUEUES) as (λ b. (cond b (slice_index_or queues (seat at) no_queue) no_queue).held ≡ []) [ true ↦ each queues (seat at) h | false ↦ refl ]
  where
    each : (qs : List QueueView) (n : ℕ) → All (λ (q : QueueView). q ≡ empty_queue) qs → (slice_index_or qs n no_queue).held ≡ []
    each [] n all = refl
    each (q ∷ qs) zero all = ap (λ (x : QueueView). x.held) (All-head (λ (x : QueueView). x ≡ empty_queue) q qs all)
    each (q ∷ qs) (suc n) all = each qs n (All-tail (λ (x : QueueView). x ≡ empty_queue) q qs all)

-- so many queues have taken nothing
pub none_taken : (lanes : List LaneView) → All IsFresh lanes → map (λ (l : LaneView). length l.taken) lanes ≡ replicate (length lanes) 0
none_taken [] h = refl
none_taken (l ∷ ls) h =
    let first = All-head IsFresh l ls h in
    ap (λ n. n ∷ map (λ (k : LaneView). length k.taken) ls) (ap length first.taken) ∙ ap (λ r. 0 ∷ r) (none_taken ls (All-tail IsFresh l ls h))

-- empty queues and lanes hold what is placed
queued_opening : (config : Configuration) (v : WorkView) (queues : List QueueView) → All IsFresh v.lanes → length v.memory.devices ≡ config.devices → length queues ≡ queue_count config → All (λ (q : QueueView). q ≡ empty_queue) queues
    → Queued (state_at_first config []) v queues
unfolding standing
queued_opening config v queues fresh devices count empty = record {
  each = each;
  count = count;
  devices = devices;
  filled = All-nil (λ (l : Label). 0 < length l.ops);
  hosts = All-nil (λ (l : Label). l.host < MAX_HOSTS);
}
  where
    each : (at : QueueAt) → QueueIs config [] at (lane_at v at) (queue_in queues at)
    each at =
        let lane = fresh_lane v.lanes at fresh in
        let held = none_held queues at empty in
        record {
          split = rw (lane.taken, held) refl;
          held_low = rw held (omega arith);
          in_place = lane.in_place;
        }

-- What holds of an accelerator holds before the first event.
pub is_opening : (config : Configuration) (w : State) (v : WorkView) (queues : List QueueView) → w ≡ state_at_first config [] → v.arrays ≡ config.arrays → All IsFresh v.lanes → length v.memory.devices ≡ config.devices
    → length queues ≡ queue_count config → All (λ (q : QueueView). q ≡ empty_queue) queues → IsAccelerator w v queues
is_opening config w v queues is opening fresh devices count empty =
    rw is (record {
      legal = legal_start (state_at_first config []) refl refl;
      few_items = omega arith;
      parts = queued_opening config v queues fresh devices count empty;
      opening = opening;
    })
