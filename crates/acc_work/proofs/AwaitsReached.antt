-- What awaits say once they are performed.
use Rattle.std.proofs.Common.{inl, inr, ◌≡◌, ℕ, ◌≤◌, Bool, true, false, List, [], ◌∷◌, ◌++◌, length, take, refl, sym, ap, ◌∙◌, arith}
use Rattle.std.specs.Prelude.{All, Contains}
use Rattle.std.proofs.lemmas.Bool.{cases_Bool}
use Rattle.std.proofs.lemmas.List.{append_assoc, length-append, take_at}
use Rattle.std.proofs.lemmas.List.Elements.{All-nil, All-weaker, All-contains, Contains-append_left, Contains-append_cases}
use Rattle.acc_base.specs.declared.ids.QueueAt.{QueueAt}
use Rattle.acc_base.specs.Queues.{same_queue}
use Rattle.acc_base.proofs.SameQueue.{same_queue_is, same_queue_itself}
use Rattle.acc_batch.specs.declared.label.Label.{Label}
use Rattle.acc_batch.specs.declared.label.OpLabel.{OpLabel}
use Rattle.acc_batch.specs.declared.label.OpLabel.TheVariants.{Make, CopyIn, CopyOut, Release, Run, Await, Close}
use Rattle.acc_batch.specs.Labels.{on_queue, ops_of, whole_batches}
use Rattle.acc_batch.proofs.Labels.{on_queue-append}
use Rattle.acc_batch.proofs.WholeBatches.{whole_covers, whole_reaches}
use Rattle.acc_batch.specs.declared.entry.WorkEntry.{WorkEntry}
use Rattle.acc_batch.specs.declared.entry.WorkEntry.TheVariants as entry
use Rattle.acc_work.specs.Logs.{one_more, performed, batches_done}
use Rattle.acc_batch.specs.Awaits.{is_await, AwaitsFirst, IsOrdered}
use Rattle.acc_work.specs.Orders.{IsReached, AllAwaited}
use Rattle.acc_work.proofs.Splits.{cut_at, split_member}

-- where more is performed no fewer batches are
whole_rises : (ls : List Label) (n k : ℕ) → n ≤ k → whole_batches ls n ≤ whole_batches ls k
whole_rises ls n k h =
    let c = whole_covers ls (whole_batches ls n) n (omega arith) in
    whole_reaches ls (whole_batches ls n) k c.0 (omega (arith, c.1, h))

one_more_long : (b : Bool) (ops : List OpLabel) (o : OpLabel) → length ops ≤ length (one_more b ops o)
one_more_long true ops o = omega (arith, length-append ops (o ∷ []))
one_more_long false ops o = omega arith

done_rises : (labels : List Label) (work : List WorkEntry) (q : QueueAt) (o : OpLabel) (at : QueueAt) → batches_done labels work at ≤ batches_done labels (entry.Op q o ∷ work) at
done_rises labels work q o at = whole_rises (on_queue at labels) (length (performed at work)) (length (performed at (entry.Op q o ∷ work))) (one_more_long (same_queue q at) (performed at work) o)

reached_more : (labels : List Label) (work more : List WorkEntry) (device : ℕ) → ((at : QueueAt) → batches_done labels work at ≤ batches_done labels more at) → (op : OpLabel) → IsReached labels work device op → IsReached labels more device op
reached_more labels work more device grows (Await q n) h = omega (arith, h, grows (record { device = device; queue = q }))
reached_more labels work more device grows (Make r b) h = tt
reached_more labels work more device grows (CopyIn r b) h = tt
reached_more labels work more device grows (CopyOut r b) h = tt
reached_more labels work more device grows (Release b) h = tt
reached_more labels work more device grows (Run k uses) h = tt
reached_more labels work more device grows Close h = tt

-- what a queue's performed awaits name is performed
pub reached_now : (labels : List Label) (work : List WorkEntry) → AllAwaited labels work → (at : QueueAt) → All (IsReached labels work at.device) (performed at work)
reached_now labels [] h at = All-nil (IsReached labels [] at.device)
reached_now labels (entry.Op q o ∷ before) h at =
    let after = entry.Op q o ∷ before in
    let up = λ (x : OpLabel). reached_more labels before after at.device (done_rises labels before q o) x in
    elim (cases_Bool (same_queue q at)) [
      | inl same ↦
          let here : All (IsReached labels before at.device) (performed at before ++ o ∷ []) = rw (same_queue_is q at same) at h.0 in
          rw same (All-weaker (IsReached labels before at.device) (IsReached labels after at.device) up (performed at before ++ o ∷ []) here)
      | inr differ ↦ rw differ (All-weaker (IsReached labels before at.device) (IsReached labels after at.device) up (performed at before) (reached_now labels before h.1 at))
    ]
reached_now labels (entry.Item host s ∷ before) h at =
    All-weaker (IsReached labels before at.device) (IsReached labels (entry.Item host s ∷ before) at.device)
    (λ x. reached_more labels before (entry.Item host s ∷ before) at.device (λ q. omega arith) x) (performed at before) (reached_now labels before h at)

-- an await of a batch stands before each of its other operations
pub await_before : (ops here : List OpLabel) (op : OpLabel) (later : List OpLabel) (q n : ℕ) → AwaitsFirst ops → ops ≡ here ++ op ∷ later → is_await op ≡ false → Contains ops (Await q n) → Contains here (Await q n)
await_before ops here op later q n f e other c = elim (cut_at f.first f.second here op later (sym f.split ∙ e)) [
  | inl g ↦
      let yes : is_await op ≡ true = All-contains (λ o. is_await o ≡ true) f.first op f.all_await (rw g.split (split_member here op g.later)) in
      let wrong : true ≡ false = sym yes ∙ other in cc
  | inr s ↦ elim (Contains-append_cases f.first f.second (Await q n) (rw f.split at c)) [
    | inl first ↦ rw s.place (Contains-append_left f.first s.behind (Await q n) first)
    | inr second ↦ (let wrong : true ≡ false = All-contains (λ o. is_await o ≡ false) f.second (Await q n) f.none_awaits second in cc)
  ]
]

-- a queue has performed all up to a label's last operation
abbrev pub IsWholeOn : QueueAt → List Label → Label → List WorkEntry → Type 0
IsWholeOn at before l work = length (ops_of (on_queue at (before ++ l ∷ []))) ≤ length (performed at work)

-- all operations of a label are performed
abbrev pub IsWhole : List Label → Label → List WorkEntry → Type 0
IsWhole before l work = IsWholeOn l.at before l work

-- so it is of a label that is counted as performed
pub whole_done : (labels : List Label) (work : List WorkEntry) (before : List Label) (l : Label) (more : List Label) → labels ≡ before ++ l ∷ more → IsOrdered before l → l.number ≤ batches_done labels work l.at → IsWhole before l work
whole_done labels work before l more e o h =
    let first = on_queue l.at (before ++ l ∷ []) in
    let all : on_queue l.at labels ≡ first ++ on_queue l.at more = ap (on_queue l.at) (e ∙ sym (append_assoc before (l ∷ []) more)) ∙ on_queue-append l.at (before ++ l ∷ []) more in
    let one : on_queue l.at (l ∷ []) ≡ l ∷ [] = rw (same_queue_itself l.at) refl in
    let count : length first ≡ l.number = omega (arith, ap length (on_queue-append l.at before (l ∷ []) ∙ ap (λ r. on_queue l.at before ++ r) one), length-append (on_queue l.at before) (l ∷ []), o.numbered) in
    let c = whole_covers (on_queue l.at labels) l.number (length (performed l.at work)) h in
    let cut : take l.number (on_queue l.at labels) ≡ first = ap (take l.number) all ∙ take_at first (on_queue l.at more) l.number count in
    omega (arith, c.1, ap (λ ls. length (ops_of ls)) cut)
