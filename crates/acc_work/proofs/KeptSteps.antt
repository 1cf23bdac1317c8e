-- A work side keeps what its log keeps: where a queue takes a batch, where it performs an operation, and where a host tells an
-- item.
use Rattle.std.proofs.Common.{◌≡◌, ℕ, ◌+◌, ◌-◌, ◌<◌, ◌≤◌, true, false, Bool, List, [], ◌∷◌, ◌++◌, length, refl, sym, ap, ◌∙◌, arith, inl, inr, Some}
use Rattle.std.specs.Prelude.{ℤ, MatchBool, IsTrue, not}
use Rattle.std.proofs.lemmas.Bool.{and_parts, cases_Bool, not-true}
use Rattle.std.proofs.lemmas.List.{append_assoc, length-append, append-nil}
use Rattle.std.proofs.lemmas.List.Elements.{All-nil, All-cons}
use Rattle.acc_base.specs.declared.ids.QueueAt.{QueueAt}
use Rattle.acc_base.specs.declared.ids.TheConstants.{QUEUES}
use Rattle.acc_base.specs.Queues.{same_queue, seat}
use Rattle.acc_base.proofs.SameQueue.{same_queue_is}
use Rattle.acc_batch.specs.declared.label.Label.{Label}
use Rattle.acc_batch.specs.declared.label.OpLabel.{OpLabel}
use Rattle.acc_batch.specs.Labels.{on_queue, ops_of, batch_at}
use Rattle.acc_batch.proofs.Labels.{ops_of-append, batch_at-append}
use Rattle.acc_batch.proofs.NextOperation.{NextOp}
use Rattle.acc_batch.specs.declared.entry.Told.{Told}
use Rattle.acc_batch.specs.declared.entry.WorkEntry.{WorkEntry}
use Rattle.acc_batch.specs.declared.entry.WorkEntry.TheVariants as entry
use Rattle.acc_work.specs.declared.item.ItemLabel.{ItemLabel}
use Rattle.acc_work.specs.declared.item.ItemLabel.TheVariants as to_record
use Rattle.acc_work.specs.declared.work.Done.TheVariants as done
use Rattle.acc_work.specs.Kept.{IsKept, Extended, Extends}
use Rattle.acc_work.specs.Lanes.{LaneView, IsLane, lane_in, lanes_with, lane_with_batch, lane_with_left, last_of, all_taken}
use Rattle.acc_work.specs.Logs.{performed, device_ops, await_allows, host_allows, value}
use Rattle.acc_work.specs.Orders.{InOrder, ShowsTruth}
use Rattle.acc_work.specs.Remembering.{Remembers}
use Rattle.acc_work.specs.Works.{WorkView, KeepsOrder, Performs, PerformsNext, HasPerformed, CanTell, Tells, lane_at, taken_labels, can_go, goes_on, is_due, is_live}
use Rattle.acc_work.proofs.AwaitedKept.{awaited_performed}
use Rattle.acc_work.proofs.Extended.{extended_same}
use Rattle.acc_work.proofs.Lanes.{each_lane, taken_with}
use Rattle.acc_work.proofs.RemembersWork.{next_live}
use Rattle.acc_work.proofs.TakenLabels.{Last, last_is}
use Rattle.acc_batch.specs.Lives.{UsesLive}

-- ## A queue takes a batch

-- The labels that were taken before are those that were, and behind those of its queue the batch.
pub taken_extends : (w w' : WorkView) (at : QueueAt) (b : Label) → KeepsOrder w → KeepsOrder w' → at.queue < QUEUES → seat at < length w.lanes
    → w'.lanes ≡ lanes_with w.lanes at (lane_with_batch (lane_at w at) b) → 0 < length b.ops → Extends (taken_labels w) (taken_labels w')
taken_extends w w' at b k k' low there is filled other =
    let before = k.taken other in
    let after = k'.taken other in
    let lanes : Extended (lane_in w.lanes other).taken (lane_in w'.lanes other).taken = rw is (each other) in
    rw (before, after) lanes
  where
    one : Extended (lane_in w.lanes at).taken ((lane_in w.lanes at).taken ++ b ∷ [])
    one = record { more = b ∷ []; is = refl; filled = All-cons (λ (l : Label). 0 < length l.ops) b [] filled (All-nil (λ (l : Label). 0 < length l.ops)) }

    each : (q : QueueAt) → Extended (lane_in w.lanes q).taken (lane_in (lanes_with w.lanes at (lane_with_batch (lane_at w at) b)) q).taken
    each = each_lane (λ q l. l ≡ lane_in w.lanes q) (λ q l. Extended (lane_in w.lanes q).taken l.taken) w.lanes at (lane_with_batch (lane_at w at) b) low there (λ q. refl) one
        (λ q differ l e. rw (← e) (extended_same l.taken))

-- ## A queue performs an operation

-- the next operation is one of the last batch that was taken
pub next_batch : (lane : LaneView) (queue : List Label) (done : List OpLabel) → IsLane lane → done ++ lane.left ≡ ops_of lane.taken → 0 < length lane.left → batch_at (lane.taken ++ queue) (length done) ≡ last_of lane.taken
next_batch lane queue done h e some = by_taken lane.taken refl
  where
    count : length done + length lane.left ≡ length (ops_of lane.taken)
    count = sym (length-append done lane.left) ∙ ap length e

    by_taken : (taken : List Label) → lane.taken ≡ taken → batch_at (lane.taken ++ queue) (length done) ≡ last_of lane.taken
    by_taken [] none = absurd (omega (arith, count, some, ap (λ ls. length (ops_of ls)) none))
    by_taken (l ∷ ls) is =
        let s : Last (l ∷ ls) = last_is l ls in
        let split : lane.taken ≡ s.earlier ++ s.label ∷ [] = is ∙ s.split in
        let last : last_of lane.taken ≡ Some s.label = ap last_of is ∙ s.last in
        let all : length (ops_of lane.taken) ≡ length (ops_of s.earlier) + length s.label.ops =
        ap (λ r. length (ops_of r)) split ∙ (ap length (ops_of-append s.earlier (s.label ∷ []) ∙ ap (λ r. ops_of s.earlier ++ r) (append-nil s.label.ops)) ∙ length-append (ops_of s.earlier) s.label.ops) in
        let few : length lane.left ≤ length s.label.ops = rw last at h.begun in
        let k = length done - length (ops_of s.earlier) in
        let short : k < length s.label.ops = omega (arith, count, all, few, some) in
        let place : length done ≡ length (ops_of s.earlier) + k = omega (arith, count, all, few) in
        let at : batch_at (s.earlier ++ s.label ∷ queue) (length (ops_of s.earlier) + k) ≡ Some s.label = batch_at-append s.earlier s.label queue k short in
        let whole : lane.taken ++ queue ≡ s.earlier ++ s.label ∷ queue = ap (λ r. r ++ queue) split ∙ append_assoc s.earlier (s.label ∷ []) queue in
        ap (λ r. batch_at r (length done)) whole ∙ (ap (λ m. batch_at (s.earlier ++ s.label ∷ queue) m) place ∙ (at ∙ sym last))

-- What a call to perform did, where it performed an operation.
pub record Advanced (v v' : WorkView) (at : QueueAt) : Type 0 where
  pub op : OpLabel
  pub ops : List OpLabel
  pub left : (lane_at v at).left ≡ op ∷ ops
  pub can : can_go v at (op ∷ ops) ≡ true
  pub performed : HasPerformed v v' at op ops

pub has_advanced : (v v' : WorkView) (at : QueueAt) → Performs v at done.Op v' → Advanced v v' at
has_advanced v v' at h = by_left (lane_at v at).left refl h
  where
    by_test : (op : OpLabel) (ops : List OpLabel) (b : Bool) → (lane_at v at).left ≡ op ∷ ops → can_go v at (op ∷ ops) ≡ b → MatchBool b ((done.Op ≡ done.Op) × HasPerformed v v' at op ops) ((done.Op ≡ done.Idle) × (v' ≡ v)) → Advanced v v' at
    by_test op ops true e f g = record { op = op; ops = ops; left = e; can = f; performed = g.1 }
    by_test op ops false e f g = absurd (let no : done.Op ≡ done.Idle = g.0 in cc)

    by_left : (left : List OpLabel) → (lane_at v at).left ≡ left → PerformsNext v at left done.Op v' → Advanced v v' at
    by_left [] e g = absurd (let no : done.Op ≡ done.Idle = g.0 in cc)
    by_left (op ∷ ops) e g = by_test op ops (can_go v at (op ∷ ops)) e refl g

-- The next operation of a queue that can be performed isn't out, is due, and uses live blocks.
pub record Ready (v : WorkView) (at : QueueAt) (op : OpLabel) (ops : List OpLabel) : Type 0 where
  pub in_place : (lane_at v at).out ≡ false
  pub due : is_due v at op ≡ true
  pub live : is_live v at (op ∷ ops) ≡ true

pub is_ready : (v : WorkView) (at : QueueAt) (op : OpLabel) (ops : List OpLabel) → can_go v at (op ∷ ops) ≡ true → Ready v at op ops
is_ready v at op ops can =
    let both = and_parts (goes_on v at (op ∷ ops)) (is_live v at (op ∷ ops)) can in
    let goes = and_parts (not (lane_at v at).out) (is_due v at op) both.0 in
    record { in_place = not-true (lane_at v at).out goes.0; due = goes.1; live = both.1 }

-- What it did where it performed none: nothing has changed, and the next operation can't be performed.
pub record Waited (v v' : WorkView) (at : QueueAt) : Type 0 where
  pub same : v' ≡ v
  pub cannot : can_go v at (lane_at v at).left ≡ false

pub has_waited : (v v' : WorkView) (at : QueueAt) → Performs v at done.Idle v' → Waited v v' at
has_waited v v' at h = by_left (lane_at v at).left refl h
  where
    by_test : (op : OpLabel) (ops : List OpLabel) (b : Bool) → (lane_at v at).left ≡ op ∷ ops → can_go v at (op ∷ ops) ≡ b → MatchBool b ((done.Idle ≡ done.Op) × HasPerformed v v' at op ops) ((done.Idle ≡ done.Idle) × (v' ≡ v)) → Waited v v' at
    by_test op ops true e f g = absurd (let no : done.Idle ≡ done.Op = g.0 in cc)
    by_test op ops false e f g = record { same = g.1; cannot = ap (can_go v at) e ∙ f }

    by_left : (left : List OpLabel) → (lane_at v at).left ≡ left → PerformsNext v at left done.Idle v' → Waited v v' at
    by_left [] e g = record { same = g.1; cannot = ap (can_go v at) e }
    by_left (op ∷ ops) e g = by_test op ops (can_go v at (op ∷ ops)) e refl g

-- as many batches are taken
pub taken_stays : (v v' : WorkView) (at : QueueAt) (op : OpLabel) (ops : List OpLabel) → at.queue < QUEUES → HasPerformed v v' at op ops → taken_labels v' ≡ taken_labels v
taken_stays v v' at op ops low h = ap all_taken h.lanes ∙ taken_with v.lanes at (lane_with_left (lane_at v at) ops) low refl

-- the queue that performs it has its prefix still, and so has each other queue
pub in_order_performed : (labels : List Label) (work : List WorkEntry) (at : QueueAt) (op : OpLabel) → InOrder labels work
    → NextOp (performed at work) op (ops_of (on_queue at labels)) → InOrder labels (entry.Op at op ∷ work)
in_order_performed labels work at op h next = λ other. elim (cases_Bool (same_queue at other)) [
  | inl same ↦
      let there : NextOp (performed other work) op (ops_of (on_queue other labels)) = rw (same_queue_is at other same) at next in
      rw same (there.later, append_assoc (performed other work) (op ∷ []) there.later ∙ sym there.split)
  | inr differ ↦ rw differ (h other)
]

-- One more operation, the next of those that were placed on its queue: what it awaits is performed, its host has the items
-- before it, and it uses live blocks.
pub kept_next : (arrays : List (List ℤ)) (labels : List Label) (work : List WorkEntry) (at : QueueAt) (op : OpLabel) → IsKept arrays labels work → NextOp (performed at work) op (ops_of (on_queue at labels))
    → await_allows labels work at.device op ≡ true → IsTrue (host_allows (batch_at (on_queue at labels) (length (performed at work))) work) → UsesLive arrays op (device_ops at.device work) → IsKept arrays labels (entry.Op at op ∷ work)
kept_next arrays labels work at op h next awaits allowed uses = record {
  prefix = in_order_performed labels work at op h.prefix next;
  awaited = awaited_performed labels work at op h.awaited awaits;
  host_order = (allowed, h.host_order);
  live_blocks = (uses, h.live_blocks);
}

-- So it is with the next of a lane, which is due and uses live blocks.
pub kept_performed : (arrays : List (List ℤ)) (v v' : WorkView) (at : QueueAt) (op : OpLabel) (ops : List OpLabel) → at.queue < QUEUES → KeepsOrder v → Remembers arrays v.work v.memory → IsKept arrays (taken_labels v) v.work
    → (lane_at v at).left ≡ op ∷ ops → is_due v at op ≡ true → is_live v at (op ∷ ops) ≡ true → HasPerformed v v' at op ops → IsKept arrays (taken_labels v') v'.work
kept_performed arrays v v' at op ops low k m h left due live p =
    let labels = taken_labels v in
    let lane = lane_at v at in
    let o = k.order at in
    let done = performed at v.work in
    let split : ops_of (on_queue at labels) ≡ done ++ op ∷ ops = ap ops_of (k.taken at) ∙ (sym o.in_order ∙ ap (λ r. done ++ r) left) in
    let next : NextOp done op (ops_of (on_queue at labels)) = record { later = ops; split = split } in
    let both = and_parts (await_allows labels v.work at.device op) (host_allows (last_of lane.taken) v.work) due in
    let uses = (next_live arrays v at op ops m h.live_blocks live).uses in
    let some : 0 < length lane.left = omega (arith, ap length left) in
    let batch : batch_at (on_queue at labels) (length done) ≡ last_of lane.taken =
    ap (λ ls. batch_at ls (length done)) (k.taken at ∙ sym (append-nil lane.taken)) ∙ next_batch lane [] done o.batches o.in_order some in
    let allowed : IsTrue (host_allows (batch_at (on_queue at labels) (length done)) v.work) = rw batch both.1 in
    rw (taken_stays v v' at op ops low p, p.work) (kept_next arrays labels v.work at op h next both.0 allowed uses)

-- ## A host tells an item

-- What an item tells is so.
pub tells_so : (arrays : List (List ℤ)) (v : WorkView) (item : ItemLabel) (what : Told) → Remembers arrays v.work v.memory → CanTell v item → Tells v item what → ShowsTruth arrays (taken_labels v) what v.work
tells_so arrays v (to_record.Write array cell new_value) what r can t = rw t tt
tells_so arrays v (to_record.Print range) what r can t = rw t.1 (t.2 (value arrays v.work) r.shows)
tells_so arrays v (to_record.Seen device counts) what r can t = rw t can
tells_so arrays v (to_record.Test device counts) what r can t = rw t refl

pub kept_told : (arrays : List (List ℤ)) (labels : List Label) (work : List WorkEntry) (host : ℕ) (what : Told) → IsKept arrays labels work → ShowsTruth arrays labels what work → IsKept arrays labels (entry.Item host what ∷ work)
kept_told arrays labels work host what h truth = record {
  prefix = h.prefix;
  awaited = h.awaited;
  host_order = (truth, h.host_order);
  live_blocks = h.live_blocks;
}

-- ## Nothing is taken or performed

pub kept_first : (arrays : List (List ℤ)) (labels : List Label) → IsKept arrays labels []
kept_first arrays labels = record {
  prefix = λ at. (ops_of (on_queue at labels), refl);
  awaited = tt;
  host_order = tt;
  live_blocks = tt;
}
