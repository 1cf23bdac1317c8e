-- What a work side keeps where one of its lanes changes.
use Rattle.std.proofs.Common.{◌≡◌, ◌+◌, ◌<◌, ◌≤◌, Bool, false, List, [], ◌∷◌, ◌++◌, length, map, refl, sym, ap, ◌∙◌, arith}
use Rattle.std.proofs.Math.Seq.{map-set_same}
use Rattle.std.proofs.lemmas.List.{append_assoc}
use Rattle.std.proofs.lemmas.List.Sums.{sum_by-set}
use Rattle.acc_base.specs.declared.config.TheConstants.{MAX_HOSTS}
use Rattle.acc_base.specs.declared.ids.QueueAt.{QueueAt}
use Rattle.acc_base.specs.declared.ids.TheConstants.{QUEUES}
use Rattle.acc_base.specs.Queues.{same_queue, seat}
use Rattle.acc_base.proofs.SameQueue.{same_queue_itself}
use Rattle.acc_batch.specs.declared.label.Label.{Label}
use Rattle.acc_batch.specs.declared.label.OpLabel.{OpLabel}
use Rattle.acc_batch.specs.declared.entry.WorkEntry.{WorkEntry}
use Rattle.acc_batch.specs.declared.entry.WorkEntry.TheVariants as entry
use Rattle.acc_work.specs.Lanes.{LaneView, all_left, no_lane, lane_in, lanes_with, lane_with_batch, lane_with_left, lane_with_out}
use Rattle.acc_work.specs.Logs.{performed}
use Rattle.acc_work.specs.Works.{IsInOrder}
use Rattle.acc_work.proofs.Lanes.{lane_there, each_lane}
use Rattle.acc_work.proofs.TakenLabels.{all_at_more, lane_filled, order_filled}

-- as many batches were taken where a lane has as many
pub count_kept : (lanes : List LaneView) (at : QueueAt) (new : LaneView) → at.queue < QUEUES → seat at < length lanes → length new.taken ≡ length (lane_in lanes at).taken
    → map (λ (l : LaneView). length l.taken) (lanes_with lanes at new) ≡ map (λ (l : LaneView). length l.taken) lanes
count_kept lanes at new low there same =
    map-set_same (λ (l : LaneView). length l.taken) lanes (seat at) new no_lane (same ∙ ap (λ (l : LaneView). length l.taken) (lane_there lanes at low))

-- in all lanes there is more or less left by as much as in the one that changes
pub left_with : (lanes : List LaneView) (at : QueueAt) (new : LaneView) → at.queue < QUEUES → seat at < length lanes → all_left (lanes_with lanes at new) + length (lane_in lanes at).left ≡ all_left lanes + length new.left
left_with lanes at new low there =
    ap (λ (l : LaneView). all_left (lanes_with lanes at new) + length l.left) (lane_there lanes at low)
    ∙ sum_by-set (λ (l : LaneView). length l.left) lanes (seat at) new no_lane there

-- Each queue's order, where one takes a batch.
pub order_offered : (work : List WorkEntry) (lanes : List LaneView) (at : QueueAt) (l : Label) → at.queue < QUEUES → seat at < length lanes → ((other : QueueAt) → IsInOrder work other (lane_in lanes other))
    → l.at ≡ at → 0 < length l.ops → l.host < MAX_HOSTS → length (lane_in lanes at).left ≤ 0 → (other : QueueAt) → IsInOrder work other (lane_in (lanes_with lanes at (lane_with_batch (lane_in lanes at) l)) other)
order_offered work lanes at l low there all here some host none =
    let o = all at in
    let lane = lane_in lanes at in
    each_lane (IsInOrder work) (IsInOrder work) lanes at (lane_with_batch lane l) low there all (record {
      in_order = order_filled lane l (performed at work) o.in_order none;
      on_queue = all_at_more at lane.taken l o.on_queue here;
      batches = lane_filled lane l o.batches some host;
    })
    (λ other differ x h. h)

-- Each queue's order, where an operation of one goes out or comes back.
pub order_out : (work : List WorkEntry) (lanes : List LaneView) (at : QueueAt) (out : Bool) → at.queue < QUEUES → seat at < length lanes → ((other : QueueAt) → IsInOrder work other (lane_in lanes other))
    → (other : QueueAt) → IsInOrder work other (lane_in (lanes_with lanes at (lane_with_out (lane_in lanes at) out)) other)
order_out work lanes at out low there all =
    let o = all at in
    each_lane (IsInOrder work) (IsInOrder work) lanes at (lane_with_out (lane_in lanes at) out) low there all (record {
      in_order = o.in_order;
      on_queue = o.on_queue;
      batches = record { filled = o.batches.filled; hosts = o.batches.hosts; begun = o.batches.begun };
    })
    (λ other differ x h. h)

-- Each queue's order, where one performs an operation.
pub order_performed : (work : List WorkEntry) (lanes : List LaneView) (at : QueueAt) (op : OpLabel) (ops : List OpLabel) → at.queue < QUEUES → seat at < length lanes → ((other : QueueAt) → IsInOrder work other (lane_in lanes other))
    → (lane_in lanes at).left ≡ op ∷ ops → (other : QueueAt) → IsInOrder (entry.Op at op ∷ work) other (lane_in (lanes_with lanes at (lane_with_left (lane_in lanes at) ops)) other)
order_performed work lanes at op ops low there all next =
    let o = all at in
    let lane = lane_in lanes at in
    let more : performed at (entry.Op at op ∷ work) ≡ performed at work ++ op ∷ [] = rw (same_queue_itself at) refl in
    each_lane (IsInOrder work) (IsInOrder (entry.Op at op ∷ work)) lanes at (lane_with_left lane ops) low there all (record {
      in_order = rw more (append_assoc (performed at work) (op ∷ []) ops ∙ (ap (λ r. performed at work ++ r) (sym next) ∙ o.in_order));
      on_queue = o.on_queue;
      batches = record { filled = o.batches.filled; hosts = o.batches.hosts; begun = (let b = o.batches.begun in omega (arith, b, ap length next)) };
    })
    (λ other differ x h. stays other differ x h)
  where
    stays : (other : QueueAt) → same_queue at other ≡ false → (x : LaneView) → IsInOrder work other x → IsInOrder (entry.Op at op ∷ work) other x
    stays other differ x h =
        let same : performed other (entry.Op at op ∷ work) ≡ performed other work = rw differ refl in
        record { in_order = rw same h.in_order; on_queue = h.on_queue; batches = h.batches }
