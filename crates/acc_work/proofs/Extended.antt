-- More labels behind those of each queue change nothing of what a work log keeps.
use Rattle.std.proofs.Common.{◌≡◌, ℕ, ◌+◌, ◌-◌, ◌<◌, ◌≤◌, true, false, cond, List, [], ◌∷◌, ◌++◌, length, refl, sym, ap, ◌∙◌, arith, Some}
use Rattle.std.specs.Prelude.{ℤ, All, IsTrue, nat_lt, nat_le, ◌&&◌}
use Rattle.std.proofs.lemmas.List.{append_assoc, append-nil, length-append}
use Rattle.std.proofs.lemmas.List.Elements.{All-filter, All-nil, All-weaker}
use Rattle.acc_base.specs.Queues.{same_queue}
use Rattle.acc_base.specs.declared.ids.QueueAt.{QueueAt}
use Rattle.acc_batch.specs.declared.label.Label.{Label}
use Rattle.acc_batch.specs.declared.label.OpLabel.{OpLabel}
use Rattle.acc_batch.specs.declared.label.OpLabel.TheVariants.{Make, CopyIn, CopyOut, Release, Run, Await, Close}
use Rattle.acc_batch.specs.Labels.{on_queue, ops_of, batch_at}
use Rattle.acc_batch.proofs.Labels.{ops_of-append, on_queue-append}
use Rattle.acc_batch.proofs.WholeBatches.{whole_taken, whole-more}
use Rattle.acc_batch.specs.declared.entry.Told.{Told}
use Rattle.acc_batch.specs.declared.entry.Told.TheVariants as shown
use Rattle.acc_batch.specs.declared.entry.WorkEntry.{WorkEntry}
use Rattle.acc_batch.specs.declared.entry.WorkEntry.TheVariants as entry
use Rattle.acc_work.specs.Kept.{IsKept, Extended, Extends}
use Rattle.acc_work.specs.Logs.{one_more, performed, batches_done, all_done, host_allows}
use Rattle.acc_work.specs.Orders.{IsPrefix, InOrder, ShowsTruth, InHostOrder, IsReached, AllAwaited}

abbrev AllFilled : List Label → Type 0
AllFilled labels = All (λ (l : Label). 0 < length l.ops) labels

-- the same labels
pub extended_same : (labels : List Label) → Extended labels labels
extended_same labels = record { more = []; is = sym (append-nil labels); filled = All-nil (λ (l : Label). 0 < length l.ops) }

-- labels behind all others are behind those of each queue
pub extends_behind : (labels more : List Label) → AllFilled more → Extends labels (labels ++ more)
extends_behind labels more filled at = record {
  more = on_queue at more;
  is = on_queue-append at labels more;
  filled = All-filter (λ (l : Label). same_queue l.at at) (λ (l : Label). 0 < length l.ops) more filled;
}

-- an operation that its batch allows is still allowed
host_allows-more : (ls more : List Label) (n : ℕ) (work : List WorkEntry) → IsTrue (host_allows (batch_at ls n) work) → IsTrue (host_allows (batch_at (ls ++ more) n) work)
host_allows-more [] more n work h = cc
host_allows-more (l ∷ ls) more n work h =
    elim (nat_lt n (length l.ops))
    as (λ v. IsTrue (host_allows (cond v (Some l) (batch_at ls (n - length l.ops))) work) → IsTrue (host_allows (cond v (Some l) (batch_at (ls ++ more) (n - length l.ops))) work))
    [ true ↦ (λ k. k) | false ↦ (λ k. host_allows-more ls more (n - length l.ops) work k) ] h

-- as many batches are performed as before
done_same : (old new : List Label) (work : List WorkEntry) (at : QueueAt) → Extends old new → IsPrefix (performed at work) (ops_of (on_queue at old)) → batches_done new work at ≡ batches_done old work at
done_same old new work at e p =
    let low : length (performed at work) ≤ length (ops_of (on_queue at old)) = omega (arith, length-append (performed at work) p.0, ap length p.1) in
    let x = e at in
    rw x.is (whole_taken (on_queue at old) x.more (length (performed at work)) low x.filled)

pub all_done_same : (old new : List Label) (work : List WorkEntry) (device q : ℕ) (counts : List ℕ) → Extends old new → InOrder old work → all_done new work device q counts ≡ all_done old work device q counts
all_done_same old new work device q [] e h = refl
all_done_same old new work device q (n ∷ ns) e h =
    let at : QueueAt = record { device = device; queue = q } in
    ap (λ d. nat_le n d && all_done new work device (q + 1) ns) (done_same old new work at e (h at))
    ∙ ap (λ b. nat_le n (batches_done old work at) && b) (all_done_same old new work device (q + 1) ns e h)

-- what an item shows is still so
shows-more : (arrays : List (List ℤ)) (old new : List Label) (s : Told) (before : List WorkEntry) → Extends old new → InOrder old before → ShowsTruth arrays old s before → ShowsTruth arrays new s before
shows-more arrays old new (shown.Write a c v) before e order h = tt
shows-more arrays old new (shown.Print r vs) before e order h = h
shows-more arrays old new (shown.Seen device counts) before e order h = rw (all_done_same old new before device 0 counts e order) h
shows-more arrays old new (shown.Test device answer counts) before e order h = h ∙ sym (all_done_same old new before device 0 counts e order)

-- what was performed earlier is a prefix, too
in_order-before : (labels : List Label) (at : QueueAt) (op : OpLabel) (before : List WorkEntry) → InOrder labels (entry.Op at op ∷ before) → InOrder labels before
in_order-before labels at op before h = λ q.
    (elim (same_queue at q) as (λ b. IsPrefix (one_more b (performed q before) op) (ops_of (on_queue q labels)) → IsPrefix (performed q before) (ops_of (on_queue q labels)))
    [ true ↦ (λ p. (op ∷ p.0, sym (append_assoc (performed q before) (op ∷ []) p.0) ∙ p.1)) | false ↦ (λ p. p) ]) (h q)

-- each operation of the log is still allowed, and each item still shows what is so
host_order-more : (arrays : List (List ℤ)) (old new : List Label) (work : List WorkEntry) → Extends old new → InOrder old work → InHostOrder arrays old work → InHostOrder arrays new work
host_order-more arrays old new [] e order h = tt
host_order-more arrays old new (entry.Op at op ∷ before) e order h =
    let x = e at in (
      rw x.is (host_allows-more (on_queue at old) x.more (length (performed at before)) before h.0),
      host_order-more arrays old new before e (in_order-before old at op before order) h.1,
    )
host_order-more arrays old new (entry.Item host s ∷ before) e order h = (shows-more arrays old new s before e order h.0, host_order-more arrays old new before e order h.1)

-- what was performed is still a prefix of what was placed
in_order-more : (old new : List Label) (work : List WorkEntry) → Extends old new → InOrder old work → InOrder new work
in_order-more old new work e h = λ at.
    let p = h at in
    let x = e at in
    let second = ops_of x.more in
    let all : (performed at work ++ p.0) ++ second ≡ ops_of (on_queue at old ++ x.more) =
    ap (λ r. r ++ second) p.1 ∙ sym (ops_of-append (on_queue at old) x.more) in
    rw x.is (p.0 ++ second, sym (append_assoc (performed at work) p.0 second) ∙ all)

-- what is awaited is still performed
reached_with : (old new : List Label) (work : List WorkEntry) (device : ℕ) (op : OpLabel) → Extends old new → IsReached old work device op → IsReached new work device op
reached_with old new work device (Await q n) e h =
    let at : QueueAt = record { device = device; queue = q } in
    let x = e at in
    let grows = whole-more (on_queue at old) x.more (length (performed at work)) in
    rw x.is (omega (arith, h, grows))
reached_with old new work device (Make r b) e h = tt
reached_with old new work device (CopyIn r b) e h = tt
reached_with old new work device (CopyOut r b) e h = tt
reached_with old new work device (Release b) e h = tt
reached_with old new work device (Run k uses) e h = tt
reached_with old new work device Close e h = tt

awaited-more : (old new : List Label) (work : List WorkEntry) → Extends old new → AllAwaited old work → AllAwaited new work
awaited-more old new [] e h = tt
awaited-more old new (entry.Op at op ∷ before) e h =
    (All-weaker (IsReached old before at.device) (IsReached new before at.device) (λ o. reached_with old new before at.device o e) (performed at before ++ op ∷ []) h.0, awaited-more old new before e h.1)
awaited-more old new (entry.Item host s ∷ before) e h = awaited-more old new before e h

-- All of it.
pub kept_more : (arrays : List (List ℤ)) (old new : List Label) (work : List WorkEntry) → Extends old new → IsKept arrays old work → IsKept arrays new work
kept_more arrays old new work e k = record {
  prefix = in_order-more old new work e k.prefix;
  awaited = awaited-more old new work e k.awaited;
  host_order = host_order-more arrays old new work e k.prefix k.host_order;
  live_blocks = k.live_blocks;
}
