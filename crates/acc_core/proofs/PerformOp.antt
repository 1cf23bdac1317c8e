-- A queue performs an operation.
use Rattle.std.proofs.Common.{inl, inr, ◌≡◌, ◌<◌, ◌≤◌, Bool, true, false, List, [], ◌∷◌, length, refl, sym, ap, subst, ◌∙◌, arith}
use Rattle.std.specs.Prelude.{not, nat_lt, ◌&&◌, ◌==◌}
use Rattle.std.proofs.lemmas.Bool.{cases_Bool, ltb-false, ltb-true}
use Rattle.std.proofs.lemmas.List.{get_or_past}
use Rattle.acc_base.specs.declared.ids.QueueAt.{QueueAt}
use Rattle.acc_base.specs.declared.ids.TheConstants.{QUEUES}
use Rattle.acc_base.specs.Queues.{seat}
use Rattle.acc_batch.specs.declared.label.OpLabel.{OpLabel}
use Rattle.acc_batch.specs.Labels.{on_queue, batch_at}
use Rattle.acc_batch.specs.Lives.{UsesLive}
use Rattle.acc_batch.proofs.Seats.{each_seat, seat_there}
use Rattle.acc_host.specs.declared.event.Event.TheVariants as event
use Rattle.acc_core.specs.Machine.{State, is_there, perform_step, queue_step, step, idle, did, ops_left, can_perform, with_op, labels_of}
use Rattle.acc_core.specs.inner.Queues.{QueueView, queue_in}
use Rattle.acc_core.specs.inner.Ties.{IsAccelerator, QueueIs, Queued}
use Rattle.acc_batch.specs.declared.entry.WorkEntry.TheVariants as entry
use Rattle.acc_work.specs.Lanes.{LaneView, no_lane, lane_with_left, last_of}
use Rattle.acc_work.specs.Logs.{performed, device_ops, await_allows, host_allows}
use Rattle.acc_work.specs.Kept.{IsKept}
use Rattle.acc_work.specs.Remembering.{Remembers}
use Rattle.acc_work.specs.Works.{WorkView, lane_at, taken_counts, taken_labels, goes_on, is_due, can_go, KeepsOrder, HasPerformed, Performs}
use Rattle.acc_work.specs.declared.work.Done.{Done}
use Rattle.acc_work.specs.declared.work.Done.TheVariants as done
use Rattle.acc_work.proofs.LaneChanges.{count_kept}
use Rattle.acc_core.proofs.BatchesDone.{awaits_taken}
use Rattle.acc_core.proofs.LegalSteps.{legal_performed, legal_taken}
use Rattle.acc_work.proofs.KeptSteps.{Advanced, Waited, has_advanced, has_waited, next_batch}
use Rattle.acc_work.proofs.RemembersWork.{can_go_on}
use Rattle.acc_core.proofs.NextOfQueue.{next_uses_live}
use Rattle.acc_core.proofs.Seats.{IsSeated, seated_there}
use Rattle.acc_core.proofs.TakeBatch.{with_taken, lane_is_rest, no_element}

-- What a work side keeps, by `Work::keeps`.
pub record KeepsWork (v : WorkView) : Type 0 where
  pub order : KeepsOrder v
  pub kept : IsKept v.arrays (taken_labels v) v.work
  pub memory : Remembers v.arrays v.work v.memory

-- a queue that isn't there performs none
pub performs_absent : (w : State) (at : QueueAt) → is_there w at ≡ false → step false w (event.Perform at) ≡ idle w
performs_absent w at e = ap (λ there. queue_step there w (perform_step w (labels_of w) at (ops_left w (labels_of w) at))) e

lane_absent : (w : State) (v : WorkView) (queues : List QueueView) (at : QueueAt) → Queued w v queues → KeepsOrder v → is_there w at ≡ false → lane_at v at ≡ no_lane
lane_absent w v queues at q k absent = elim (cases_Bool (nat_lt at.queue QUEUES)) [
  | inl low ↦
      let device : nat_lt at.device w.config.devices ≡ false = sym (and_true (nat_lt at.device w.config.devices) low) ∙ absent in
      let past : length v.lanes ≤ seat at = omega (arith, ltb-false at.device w.config.devices device, q.devices, k.count) in
      seat_there no_lane v.lanes at (ltb-true at.queue QUEUES low) ∙ get_or_past v.lanes (seat at) no_lane past
  | inr high ↦ rw high refl
]
  where
    and_true : (b : Bool) → nat_lt at.queue QUEUES ≡ true → (b && nat_lt at.queue QUEUES) ≡ b
    and_true true low = low
    and_true false low = refl

-- one whose lane has an operation left is there
pub lane_there : (w : State) (v : WorkView) (queues : List QueueView) (at : QueueAt) (op : OpLabel) (ops : List OpLabel) → Queued w v queues → KeepsOrder v → (lane_at v at).left ≡ op ∷ ops → IsSeated w.config.devices v queues at × (is_there w at ≡ true)
lane_there w v queues at op ops q k e = elim (cases_Bool (is_there w at)) [
  | inl there ↦ (seated_there w v queues at q k there, there)
  | inr absent ↦ absurd (let no : [] ≡ op ∷ ops = sym (ap (λ (lane : LaneView). lane.left) (lane_absent w v queues at q k absent)) ∙ e in cc)
]

-- the state with this log
abbrev pub with_work : State → WorkView → State
with_work w v = record w { work = v.work }

-- the machine lets the next operation be performed where the work side does
pub goes_next : (w : State) (v : WorkView) (queues : List QueueView) (at : QueueAt) (op : OpLabel) (ops : List OpLabel) → Queued w v queues → KeepsOrder v → (lane_at v at).left ≡ op ∷ ops → v.work ≡ w.work
    → can_perform (labels_of w) w.work at op ≡ goes_on v at (op ∷ ops)
goes_next w v queues at op ops q k e same =
    let lane = lane_at v at in
    let o = k.order at in
    let some : 0 < length lane.left = omega (arith, ap length e) in
    let next = next_batch lane (queue_in queues at).held (performed at v.work) o.batches o.in_order some in
    let batch = ap (λ work. batch_at (on_queue at (labels_of w)) (length (performed at work))) (sym same) ∙ (ap (λ ls. batch_at ls (length (performed at v.work))) (q.each at).split ∙ next) in
    ap (λ b. b && host_allows (batch_at (on_queue at (labels_of w)) (length (performed at w.work))) w.work) (sym (awaits_taken w v queues at.device op q k same))
    ∙ ap (λ b. await_allows (taken_labels v) v.work at.device op && b) (ap (λ l. host_allows l w.work) batch ∙ ap (host_allows (last_of lane.taken)) (sym same))
    ∙ sym (ap (λ out. not out && is_due v at op) (q.each at).in_place)

-- The work side performs it at the same time: as it uses live blocks, it is never held back for want of one.
can_next : (w : State) (v : WorkView) (queues : List QueueView) (at : QueueAt) (op : OpLabel) (ops : List OpLabel) → IsSeated w.config.devices v queues at → IsAccelerator (with_taken w v) v queues → KeepsWork v → v.work ≡ w.work
    → (lane_at v at).left ≡ op ∷ ops → can_perform (labels_of w) w.work at op ≡ can_go v at (op ∷ ops)
can_next w v queues at op ops s a k same e =
    let next = lane_is_rest (with_taken w v) v queues at (queue_in queues at) s (a.parts.each at) k.order same ∙ e in
    let uses : UsesLive v.arrays op (device_ops at.device v.work) = rw (a.opening, same) (next_uses_live (with_taken w v) at op ops a.legal next) in
    goes_next (with_taken w v) v queues at op ops a.parts k.order e same ∙ sym (can_go_on v.arrays v at op ops k.memory k.kept.live_blocks uses)

-- as many batches are taken where one more operation is performed
taken_stays : (v v' : WorkView) (queues : List QueueView) (w : State) (at : QueueAt) (op : OpLabel) (ops : List OpLabel) → IsSeated w.config.devices v queues at → HasPerformed v v' at op ops → taken_counts v' ≡ taken_counts v
taken_stays v v' queues w at op ops s h = ap (λ lanes. taken_counts (record v { lanes = lanes })) h.lanes ∙ count_kept v.lanes at (lane_with_left (lane_at v at) ops) s.queue s.lane refl

pub performs_did : (w : State) (v v' : WorkView) (queues : List QueueView) (at : QueueAt) → IsAccelerator (with_taken w v) v queues → KeepsWork v → v.work ≡ w.work → Advanced v v' at
    → step false (with_taken w v) (event.Perform at) ≡ did (with_work (with_taken w v') v')
performs_did w v v' queues at a k same d =
    let (s, there) = lane_there (with_taken w v) v queues at d.op d.ops a.parts k.order d.left in
    let next = lane_is_rest (with_taken w v) v queues at (queue_in queues at) s (a.parts.each at) k.order same ∙ d.left in
    let allowed = can_next w v queues at d.op d.ops s a k same d.left ∙ d.can in
    rw (there, next, allowed, taken_stays v v' queues w at d.op d.ops s d.performed, d.performed.work, same) refl

performed_more : (w : State) (v v' : WorkView) (queues : List QueueView) (at : QueueAt) → IsAccelerator (with_taken w v) v queues → KeepsWork v → v.work ≡ w.work → Advanced v v' at
    → IsAccelerator (with_work (with_taken w v') v') v' queues
performed_more w v v' queues at a k same d =
    let w0 = with_taken w v in
    let q = a.parts in
    let (s, there) = lane_there w0 v queues at d.op d.ops q k.order d.left in
    let lane = lane_at v at in
    let h = q.each at in
    let labels = labels_of w in
    let next = lane_is_rest w0 v queues at (queue_in queues at) s h k.order same ∙ d.left in
    let allowed = can_next w v queues at d.op d.ops s a k same d.left ∙ d.can in
    let work : v'.work ≡ entry.Op at d.op ∷ w.work = d.performed.work ∙ ap (λ r. entry.Op at d.op ∷ r) same in
    let each =
    each_seat (λ other l. QueueIs w.config labels other l (queue_in queues other)) (λ other l. QueueIs w.config labels other l (queue_in queues other)) no_lane v.lanes at (lane_with_left lane d.ops) s.queue s.lane q.each
    (record { split = h.split; held_low = h.held_low; in_place = refl }) (λ other differ l kept. kept) in
    subst (λ log. IsAccelerator (record w { taken = taken_counts v'; work = log }) v' queues) (sym work) (record {
      legal = legal_taken (with_op w0 at d.op) (taken_counts v') (legal_performed w0 at d.op d.ops a.legal next allowed);
      few_items = a.few_items;
      parts = record {
        each = rw d.performed.lanes each;
        count = q.count;
        devices = d.performed.memory.devices ∙ q.devices;
        filled = q.filled;
        hosts = q.hosts;
      };
      opening = d.performed.opening ∙ a.opening;
    })

-- Where the work side performed none, the machine is idle.
pub performs_idle : (w : State) (v v' : WorkView) (queues : List QueueView) (at : QueueAt) → IsAccelerator (with_taken w v) v queues → KeepsWork v → v.work ≡ w.work → Waited v v' at
    → step false (with_taken w v) (event.Perform at) ≡ idle (with_taken w v)
performs_idle w v v' queues at a k same none = elim (cases_Bool (is_there w at)) [
  | inl there ↦
      let s = seated_there (with_taken w v) v queues at a.parts k.order there in
      rw (there, lane_is_rest (with_taken w v) v queues at (queue_in queues at) s (a.parts.each at) k.order same) (by_left s (lane_at v at).left refl)
  | inr absent ↦ performs_absent (with_taken w v) at absent
]
  where
    by_left : IsSeated w.config.devices v queues at → (left : List OpLabel) → (lane_at v at).left ≡ left → perform_step (with_taken w v) (labels_of w) at left ≡ idle (with_taken w v)
    by_left s [] e = refl
    by_left s (op ∷ ops) e =
        let allowed = can_next w v queues at op ops s a k same e ∙ rw e at none.cannot in
        rw allowed refl

-- Whatever it answers, what holds of an accelerator goes on to hold.
pub keeps_performed : (w : State) (v v' : WorkView) (queues : List QueueView) (at : QueueAt) (answer : Done) → IsAccelerator (with_taken w v) v queues → KeepsWork v → v.work ≡ w.work → Performs v at answer v'
    → IsAccelerator (with_work (with_taken w v') v') v' queues
keeps_performed w v v' queues at done.Op a k same p = performed_more w v v' queues at a k same (has_advanced v v' at p)
keeps_performed w v v' queues at done.Idle a k same p =
    subst (λ x. IsAccelerator (with_work (with_taken w x) x) x queues) (sym (has_waited v v' at p).same) (subst (λ log. IsAccelerator (record (with_taken w v) { work = log }) v queues) (sym same) a)

-- Where nothing is left in its lane it is idle, whether it is there or not.
pub performs_nothing : (w : State) (v : WorkView) (queues : List QueueView) (at : QueueAt) → Queued w v queues → KeepsOrder v → v.work ≡ w.work → (length (lane_at v at).left == 0) ≡ true → step false (with_taken w v) (event.Perform at) ≡ idle (with_taken w v)
performs_nothing w v queues at q k same none = elim (cases_Bool (is_there w at)) [
  | inl there ↦
      let now = with_taken w v in
      let s = seated_there w v queues at q k there in
      let left : ops_left now (labels_of w) at ≡ [] = lane_is_rest w v queues at (queue_in queues at) s (q.each at) k same ∙ no_element (lane_at v at).left none in
      ap (λ x. queue_step x now (perform_step now (labels_of w) at (ops_left now (labels_of w) at))) there ∙ ap (perform_step now (labels_of w) at) left
  | inr absent ↦ performs_absent (with_taken w v) at absent
]
