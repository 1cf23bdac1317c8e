-- No operation is placed on a queue behind its close.
use Rattle.std.proofs.Common.{inl, inr, ◌≡◌, ℕ, ◌<◌, Bool, true, false, cond, List, [], ◌∷◌, ◌++◌, length, drop, refl, sym, ap, subst, ◌∙◌, Option, Some, None, arith}
use Rattle.std.specs.Prelude.{All, slice_index_or}
use Rattle.std.proofs.lemmas.Bool.{cases_Bool}
use Rattle.std.proofs.lemmas.List.{append-nil}
use Rattle.std.proofs.lemmas.List.Elements.{All-nil, All-cons, All-head, All-tail, All-append}
use Rattle.acc_base.specs.declared.ids.QueueAt.{QueueAt}
use Rattle.acc_base.specs.Configurations.{Configuration}
use Rattle.acc_base.specs.Queues.{same_queue}
use Rattle.acc_base.proofs.SameQueue.{same_queue_is}
use Rattle.acc_batch.specs.declared.label.Label.{Label}
use Rattle.acc_batch.specs.declared.label.OpLabel.{OpLabel}
use Rattle.acc_batch.specs.declared.label.OpLabel.TheVariants.{Make, CopyIn, CopyOut, Release, Run, Await, Close}
use Rattle.acc_batch.specs.Awaits.{close_label, is_await}
use Rattle.acc_batch.specs.Labels.{on_queue, ops_of}
use Rattle.acc_batch.proofs.Labels.{on_queue-append, ops_of-append}
use Rattle.acc_batch.proofs.OrderedBatches.{behind_is}
use Rattle.acc_kernel.specs.Kernels.{Loop}
use Rattle.acc_present.specs.Marks.{Mark}
use Rattle.acc_place.specs.declared.directive.DataItem.{DataItem}
use Rattle.acc_place.specs.declared.directive.PlaceEntry.{PlaceEntry}
use Rattle.acc_place.specs.declared.directive.PlaceEntry.TheVariants.{Accepted, Closing, Closed}
use Rattle.acc_place.specs.Batches.{walk_at, runs, runs_by, operations_of, batch_of, next_number, labels_with}
use Rattle.acc_place.specs.Histories.{AllAccepted, IsQueue, is_closed, standing}
use Rattle.acc_place.specs.Sound.{is_close, AcceptedCloseLast, CloseLast}
use Rattle.acc_place.specs.Standings.{Standing, Walk, all_visits, walk_of}
use Rattle.acc_place.proofs.AcceptedDirective.{accepted_open}
use Rattle.acc_place.proofs.GroupedOperations.{HoldsOfBlocks, grouped_all}

-- ## No batch of a directive closes

abbrev pub Goes : OpLabel → Type 0
Goes op = is_close op ≡ false

of_blocks : HoldsOfBlocks Goes
of_blocks = record { make = λ r b. refl; copy_in = λ r b. refl; copy_out = λ r b. refl; release = λ b. refl }

run_each : (k : Option Loop) (items : List DataItem) (ms : List Mark) → All Goes (runs_by k items ms)
run_each None items ms = All-nil Goes
run_each (Some k) items ms = All-cons Goes (Run k _) [] refl (All-nil Goes)

await_goes : (op : OpLabel) → is_await op ≡ true → Goes op
await_goes (Await q n) h = refl
await_goes (Make r b) h = refl
await_goes (CopyIn r b) h = refl
await_goes (CopyOut r b) h = refl
await_goes (Release b) h = refl
await_goes (Run k uses) h = refl
await_goes Close h = (let w : false ≡ true = h in absurd cc)

awaits_go : (ops : List OpLabel) → All (λ op. is_await op ≡ true) ops → All Goes ops
awaits_go [] h = All-nil Goes
awaits_go (op ∷ ops) h =
    All-cons Goes op ops (await_goes op (All-head (λ op. is_await op ≡ true) op ops h)) (awaits_go ops (All-tail (λ op. is_await op ≡ true) op ops h))

batch_goes : (st : Standing) (walk : Walk) → All Goes (batch_of st walk)
unfolding batch_of
batch_goes st walk =
    let ms = st.marks walk.device in
    let ops = operations_of st walk in
    let b = behind_is walk.alone walk.waits (walk_at walk) st.labels ops in
    rw b.split (All-append Goes b.first ops (awaits_go b.first b.all_await) (grouped_all Goes of_blocks (runs walk ms) (all_visits ms walk) (run_each walk.runs _ _)))

-- ## Each queue

-- a batch that has an operation, and doesn't close
abbrev pub IsPlain : Label → Type 0
IsPlain l = (0 < length l.ops) × All Goes l.ops

abbrev pub last_of : Bool → Label → List Label
last_of closed l = cond closed (l ∷ []) []

-- Behind batches that don't close comes the close, where the queue is closed.
pub record EndsBy (closed : Bool) (ls : List Label) : Type 0 where
  pub first : List Label
  pub close : Label
  pub plain : All IsPlain first
  pub closes : close.ops ≡ Close ∷ []
  pub split : ls ≡ first ++ last_of closed close

one_on : (at : QueueAt) (labels : List Label) (l : Label) → on_queue at (labels ++ l ∷ []) ≡ on_queue at labels ++ last_of (same_queue l.at at) l
one_on at labels l =
    on_queue-append at labels (l ∷ [])
    ∙ ap (λ ls. on_queue at labels ++ ls) (elim (cases_Bool (same_queue l.at at)) [ inl same ↦ rw same refl | inr differ ↦ rw differ refl ])

one_plain : (b : Bool) (l : Label) → IsPlain l → All IsPlain (last_of b l)
one_plain true l h = All-cons IsPlain l [] h (All-nil IsPlain)
one_plain false l h = All-nil IsPlain

more_on : (at own : QueueAt) (host items_done : ℕ) (labels : List Label) (ops : List OpLabel) → EndsBy false (on_queue at labels) → All Goes ops → EndsBy false (on_queue at (labels_with own host items_done labels ops))
more_on at own host items_done labels [] h go = h
more_on at own host items_done labels (op ∷ ops) h go =
    let l : Label = record { at = own; number = next_number own labels; host = host; items_done = items_done; ops = op ∷ ops } in
    let more = last_of (same_queue own at) l in
    let before : on_queue at labels ≡ h.first = h.split ∙ append-nil h.first in
    record {
      first = h.first ++ more;
      close = h.close;
      plain = All-append IsPlain h.first more h.plain (one_plain (same_queue own at) l (omega arith, go));
      closes = h.closes;
      split = one_on at labels l ∙ (ap (λ ls. ls ++ more) before ∙ sym (append-nil (h.first ++ more)));
    }

pub none_closed : (config : Configuration) (history : List PlaceEntry) (counts : List ℕ) → AllAccepted config history counts → (standing config history counts).closing ≡ false → (standing config history counts).closed ≡ []
unfolding standing
none_closed config [] counts h early = refl
none_closed config (Accepted host d ∷ before) counts h early = none_closed config before (drop 1 counts) h.1 early
none_closed config (Closing ∷ before) counts h early = absurd cc
none_closed config (Closed at ∷ before) counts h early = (let w : true ≡ false = sym h.0.begun ∙ early in absurd cc)

pub ends_by : (config : Configuration) (history : List PlaceEntry) (counts : List ℕ) (at : QueueAt) → AllAccepted config history counts
    → EndsBy (is_closed (standing config history counts) at) (on_queue at (standing config history counts).labels)
unfolding standing
ends_by config [] counts at h = record { first = []; close = close_label at []; plain = All-nil IsPlain; closes = refl; split = refl }
ends_by config (Accepted host d ∷ before) counts at h =
    let st = standing config before (drop 1 counts) in
    let none : st.closed ≡ [] = none_closed config before (drop 1 counts) h.1 (accepted_open config st host d h.0) in
    let early : is_closed st at ≡ false = rw none refl in
    let walk = walk_of st host d in
    let ends : EndsBy false (on_queue at st.labels) = subst (λ b. EndsBy b (on_queue at st.labels)) early (ends_by config before (drop 1 counts) at h.1) in
    rw early (more_on at (walk_at walk) host (slice_index_or counts 0 0) st.labels (batch_of st walk) ends (batch_goes st walk))
ends_by config (Closing ∷ before) counts at h = ends_by config before counts at h.1
ends_by config (Closed own ∷ before) counts at h =
    let st = standing config before counts in
    let ends = ends_by config before counts at h.1 in
    let close = close_label own st.labels in
    let more = one_on at st.labels close in
    elim (cases_Bool (same_queue own at)) [
      | inl same ↦
          let early : is_closed st at ≡ false = subst (λ q. is_closed st q ≡ false) (same_queue_is own at same) h.0.unplaced in
          let before : on_queue at st.labels ≡ ends.first = ends.split ∙ (ap (λ b. ends.first ++ last_of b ends.close) early ∙ append-nil ends.first) in
          rw same (record { first = ends.first; close = close; plain = ends.plain; closes = refl; split = more ∙ (ap (λ b. on_queue at st.labels ++ last_of b close) same ∙ ap (λ ls. ls ++ close ∷ []) before) })
      | inr differ ↦
          rw differ (record { first = ends.first; close = ends.close; plain = ends.plain; closes = ends.closes; split = more ∙ (ap (λ b. on_queue at st.labels ++ last_of b close) differ ∙ (append-nil (on_queue at st.labels) ∙ ends.split)) })
    ]

-- ## Their operations

plain_go : (ls : List Label) → All IsPlain ls → All Goes (ops_of ls)
plain_go [] h = All-nil Goes
plain_go (l ∷ ls) h = All-append Goes l.ops (ops_of ls) (All-head IsPlain l ls h).1 (plain_go ls (All-tail IsPlain l ls h))

abbrev pub last_ops : Bool → List OpLabel
last_ops true = Close ∷ []
last_ops false = []

-- Behind operations that don't close comes the close, where the queue is closed.
pub record OpsEndBy (closed : Bool) (ops : List OpLabel) : Type 0 where
  pub first : List OpLabel
  pub go : All Goes first
  pub split : ops ≡ first ++ last_ops closed

pub ops_end_by : (closed : Bool) (ls : List Label) → EndsBy closed ls → OpsEndBy closed (ops_of ls)
ops_end_by closed ls h =
    record {
      first = ops_of h.first;
      go = plain_go h.first h.plain;
      split = ap ops_of h.split ∙ (ops_of-append h.first (last_of closed h.close) ∙ ap (λ ops. ops_of h.first ++ ops) (last closed));
    }
  where
    last : (b : Bool) → ops_of (last_of b h.close) ≡ last_ops b
    last true = ap (λ ops. ops ++ []) h.closes
    last false = refl

-- ## The law

close_last : (first : List OpLabel) (closed : Bool) → All Goes first → CloseLast (first ++ last_ops closed)
close_last [] true h = (λ e. refl, tt)
close_last [] false h = tt
close_last (op ∷ first) closed h = (
  λ closes. (let w : false ≡ true = sym (All-head Goes op first h) ∙ closes in absurd cc),
  close_last first closed (All-tail Goes op first h),
)

pub closes_last : AcceptedCloseLast
closes_last config history counts at h =
    let st = standing config history counts in
    let ends = ops_end_by (is_closed st at) (on_queue at st.labels) (ends_by config history counts at h) in
    rw ends.split (close_last ends.first (is_closed st at) ends.go)

-- ## Which queues are closed

-- a queue that is closed is there
pub closed_there : (config : Configuration) (history : List PlaceEntry) (counts : List ℕ) (at : QueueAt) → AllAccepted config history counts → is_closed (standing config history counts) at ≡ true → IsQueue config at
unfolding standing
closed_there config [] counts at h closed = absurd cc
closed_there config (Accepted host d ∷ before) counts at h closed = closed_there config before (drop 1 counts) at h.1 closed
closed_there config (Closing ∷ before) counts at h closed = closed_there config before counts at h.1 closed
closed_there config (Closed own ∷ before) counts at h closed = elim (cases_Bool (same_queue own at)) [
  | inl same ↦ subst (λ q. IsQueue config q) (same_queue_is own at same) h.0.there
  | inr differ ↦ closed_there config before counts at h.1 (rw differ at closed)
]
