-- What every work side keeps, step by step: a queue takes a batch or performs an operation, one goes out or comes back, a host
-- tells an item.
use Rattle.std.proofs.Common.{◌≡◌, ℕ, ◌+◌, ◌-◌, ◌*◌, ◌<◌, ◌≤◌, Bool, true, false, List, [], ◌∷◌, length, refl, sym, ap, ◌∙◌, arith}
use Rattle.std.specs.Prelude.{ℤ, All}
use Rattle.std.proofs.lemmas.List.{length-set}
use Rattle.std.proofs.lemmas.List.Elements.{All-head, All-nil, All-tail}
use Rattle.std.proofs.lemmas.List.Sums.{sum_by-cons}
use Rattle.acc_base.specs.declared.config.TheConstants.{MAX_CELLS, MAX_HOSTS}
use Rattle.acc_base.specs.declared.ids.QueueAt.{QueueAt}
use Rattle.acc_base.specs.declared.ids.TheConstants.{QUEUES}
use Rattle.acc_base.specs.Queues.{seat}
use Rattle.acc_batch.specs.declared.label.Label.{Label}
use Rattle.acc_batch.specs.declared.label.OpLabel.{OpLabel}
use Rattle.acc_memory.specs.Memories.{MemoryView, MayPerform, rows_on, was_made_on}
use Rattle.acc_batch.specs.declared.entry.Told.{Told}
use Rattle.acc_batch.specs.declared.entry.WorkEntry.TheVariants as entry
use Rattle.acc_work.specs.Lanes.{LaneView, IsFresh, all_left, all_taken, no_lane, lane_in, last_of, lanes_with, lane_with_batch, lane_with_left, lane_with_out}
use Rattle.acc_work.specs.Orders.{ShowsTruth}
use Rattle.acc_work.specs.Works.{WorkView, HasPerformed, HasQueue, HasTold, IsInOrder, IsWork, KeepsOrder, OutIsDue, can_go, is_due, is_live, lane_at, taken_labels}
use Rattle.acc_work.proofs.Extended.{kept_more}
use Rattle.acc_work.proofs.KeptSteps.{is_ready, kept_first, kept_performed, kept_told, taken_extends}
use Rattle.acc_work.proofs.LaneChanges.{left_with, order_offered, order_out, order_performed}
use Rattle.acc_work.proofs.Lanes.{fresh_lane, seat_low, taken_on, taken_with}
use Rattle.acc_work.proofs.OutDue.{allows_performed, allows_told, due_with, not_out}
use Rattle.acc_work.proofs.RemembersWork.{next_live, remembers_first, remembers_performed, remembers_told}

-- the order, with the labels that were taken
pub keeps_order : (w : WorkView) → ((at : QueueAt) → IsInOrder w.work at (lane_at w at)) → length w.lanes ≡ length w.memory.devices * QUEUES → KeepsOrder w
keeps_order w order count = record { order = order; taken = taken_on w.lanes (length w.memory.devices) count (λ at. (order at).on_queue); count = count }

-- lanes that took nothing have nothing left
none_left : (lanes : List LaneView) → All IsFresh lanes → all_left lanes ≡ 0
none_left [] h = refl
none_left (l ∷ ls) h = sum_by-cons (λ (x : LaneView). length x.left) l ls ∙ omega (arith, ap length (All-head IsFresh l ls h).left, none_left ls (All-tail IsFresh l ls h))

-- Nothing is taken, performed or told.
pub work_first : (arrays : List (List ℤ)) (memory : MemoryView) (lanes : List LaneView) (free : ℕ) → All (λ (cells : List ℤ). (1 ≤ length cells) × (length cells ≤ MAX_CELLS)) arrays → memory.arrays ≡ arrays → ((d : ℕ) → rows_on memory d ≡ []) → ((d b : ℕ) → was_made_on memory d b ≡ false) → All IsFresh lanes
    → length lanes ≡ length memory.devices * QUEUES → IsWork (record { arrays = arrays; memory = memory; work = []; lanes = lanes }) free 0
work_first arrays memory lanes free limits same rows none fresh count = record {
  limits = limits;
  order = λ at. (let lane = fresh_lane lanes at fresh in record {
    in_order = rw (lane.taken, lane.left) refl;
    on_queue = rw lane.taken tt;
    batches = record {
      filled = rw lane.taken (All-nil (λ (l : Label). 0 < length l.ops));
      hosts = rw lane.taken (All-nil (λ (l : Label). l.host < MAX_HOSTS));
      begun = rw lane.left (omega arith);
    };
  });
  out_due = λ at. not_out [] (lane_in lanes at) (fresh_lane lanes at fresh).in_place;
  count = count;
  kept = kept_first arrays (all_taken lanes);
  memory = remembers_first arrays memory same rows none;
  room = omega (arith, none_left lanes fresh);
}

-- A queue took a batch, and for its operations room was claimed.
pub work_offered : {free unclaimed : ℕ} (w : WorkView) (at : QueueAt) (b : Label) (new_free new_unclaimed : ℕ) → IsWork w free unclaimed → HasQueue w at → b.at ≡ at → 0 < length b.ops → b.host < MAX_HOSTS → length (lane_at w at).left ≤ 0
    → free + new_unclaimed + length b.ops ≡ new_free + unclaimed → IsWork (record w { lanes = lanes_with w.lanes at (lane_with_batch (lane_at w at) b) }) new_free new_unclaimed
work_offered w at b new_free new_unclaimed i h here filled host empty claimed =
    let low = seat_low at (length w.memory.devices) (length w.lanes) h.0 h.1 i.count in
    let new = lane_with_batch (lane_at w at) b in
    let order = order_offered w.work w.lanes at b h.1 low i.order here filled host empty in
    let count = length-set w.lanes (seat at) new ∙ i.count in
    let w' : WorkView = record w { lanes = lanes_with w.lanes at new } in
    let extends = taken_extends w w' at b (keeps_order w i.order i.count) (keeps_order w' order count) h.1 low refl filled in
    record {
      limits = i.limits;
      order = order;
      out_due = due_with w.work w.work w.lanes at new h.1 low i.out_due (not_out w.work new refl) (λ last allows. allows);
      count = count;
      kept = kept_more w.arrays (taken_labels w) (taken_labels w') w.work extends i.kept;
      memory = i.memory;
      room = omega (arith, i.room, claimed, empty, left_with w.lanes at new h.1 low);
    }

-- The next operation of a queue may be performed on its device, where it can be, and the log has room for it.
pub next_allowed : {free unclaimed : ℕ} (w : WorkView) (at : QueueAt) (op : OpLabel) (ops : List OpLabel) → IsWork w free unclaimed → (lane_at w at).left ≡ op ∷ ops → can_go w at (lane_at w at).left ≡ true → MayPerform w.memory at.device op
next_allowed w at op ops i next can = (next_live w.arrays w at op ops i.memory i.kept.live_blocks (is_ready w at op ops (rw next at can)).live).may

pub has_room : {free unclaimed : ℕ} (w : WorkView) (at : QueueAt) (op : OpLabel) (ops : List OpLabel) → IsWork w free unclaimed → HasQueue w at → (lane_at w at).left ≡ op ∷ ops → 0 < free
has_room w at op ops i h next =
    let low = seat_low at (length w.memory.devices) (length w.lanes) h.0 h.1 i.count in
    omega (arith, i.room, ap length next, left_with w.lanes at no_lane h.1 low)

-- A queue performed an operation, which was due and used live blocks.
pub work_performed : {free unclaimed : ℕ} (w w' : WorkView) (at : QueueAt) (op : OpLabel) (ops : List OpLabel) → IsWork w free unclaimed → HasQueue w at → (lane_at w at).left ≡ op ∷ ops → is_due w at op ≡ true → is_live w at (op ∷ ops) ≡ true
    → HasPerformed w w' at op ops → IsWork w' (free - 1) unclaimed
work_performed w w' at op ops i h next due live p =
    let low = seat_low at (length w.memory.devices) (length w.lanes) h.0 h.1 i.count in
    let new = lane_with_left (lane_at w at) ops in
    record {
      limits = rw p.opening i.limits;
      order = λ other. rw (p.work, p.lanes) (order_performed w.work w.lanes at op ops h.1 low i.order next other);
      out_due = λ other. rw (p.work, p.lanes)
          (due_with w.work (entry.Op at op ∷ w.work) w.lanes at new h.1 low i.out_due (not_out (entry.Op at op ∷ w.work) new refl) (λ last. allows_performed last at op w.work) other);
      count = ap length p.lanes ∙ (length-set w.lanes (seat at) new ∙ (i.count ∙ ap (λ n. n * QUEUES) (sym p.memory.devices)));
      kept = rw p.opening (kept_performed w.arrays w w' at op ops h.1 (keeps_order w i.order i.count) i.memory i.kept next due live p);
      memory = rw (p.opening, p.work) (remembers_performed w.arrays w w' at op ops i.memory p);
      room = omega (arith, i.room, ap length next, ap all_left p.lanes, left_with w.lanes at new h.1 low);
    }

-- The next operation of a queue went out, being due, or came back.
pub work_out : {free unclaimed : ℕ} (w : WorkView) (at : QueueAt) (out : Bool) → IsWork w free unclaimed → HasQueue w at → OutIsDue w.work (lane_with_out (lane_at w at) out)
    → IsWork (record w { lanes = lanes_with w.lanes at (lane_with_out (lane_at w at) out) }) free unclaimed
work_out w at out i h due =
    let low = seat_low at (length w.memory.devices) (length w.lanes) h.0 h.1 i.count in
    let new = lane_with_out (lane_at w at) out in
    record {
      limits = i.limits;
      order = order_out w.work w.lanes at out h.1 low i.order;
      out_due = due_with w.work w.work w.lanes at new h.1 low i.out_due due (λ last allows. allows);
      count = length-set w.lanes (seat at) new ∙ i.count;
      kept = rw (taken_with w.lanes at new h.1 refl) i.kept;
      memory = i.memory;
      room = omega (arith, i.room, left_with w.lanes at new h.1 low);
    }

-- A host told an item that is so, and for it room was claimed.
pub work_told : {free unclaimed : ℕ} (w w' : WorkView) (host : ℕ) (what : Told) (new_free new_unclaimed : ℕ) → IsWork w free unclaimed → HasTold w w' host what → ShowsTruth w.arrays (taken_labels w) what w.work
    → free + new_unclaimed + 1 ≡ new_free + unclaimed → IsWork w' (new_free - 1) new_unclaimed
work_told w w' host what new_free new_unclaimed i t truth claimed = record {
  limits = rw t.opening i.limits;
  order = λ at. rw (t.work, t.lanes) (let o = i.order at in record { in_order = o.in_order; on_queue = o.on_queue; batches = o.batches });
  out_due = λ at. rw (t.work, t.lanes) (λ out. allows_told (last_of (lane_at w at).taken) host what w.work (i.out_due at out));
  count = ap length t.lanes ∙ (i.count ∙ ap (λ ds. length ds * QUEUES) (sym t.devices));
  kept = rw (t.opening, t.work, t.lanes) (kept_told w.arrays (taken_labels w) w.work host what i.kept truth);
  memory = rw (t.opening, t.work) (remembers_told w.arrays w w' host what i.memory t);
  room = omega (arith, i.room, claimed, ap all_left t.lanes);
}
