-- What is published of the queues, after each change under the work lock.
use Rattle.std.proofs.Common.{Bool, Option, Some, None, ◌≡◌, ℕ, zero, suc, ◌+◌, ◌-◌, ◌^◌, ◌<◌, ◌≤◌, true, false, List, [], ◌∷◌, length, refl, sym, ap, subst, ◌∙◌, arith, inl, inr}
use Rattle.std.specs.Prelude.{All, IfErr, IfNone, IfSome, OnOk, Result, Ok, Err, nat_le, ◌==◌, replicate, if◌then◌else◌, nat_lt, slice_index, slice_index_or}
use Rattle.std.proofs.lemmas.Bool.{cases_lt, lt-ltb}
use Rattle.std.proofs.lemmas.Bool.Decides.{nat_tests}
use Rattle.std.proofs.lemmas.List.{length-append, length-set, length-replicate}
use Rattle.acc_base.specs.declared.ids.QueueAt.{QueueAt}
use Rattle.acc_base.specs.declared.ids.TheConstants.{QUEUES}
use Rattle.acc_base.specs.Queues.{same_queue, seat}
use Rattle.acc_batch.specs.declared.label.Label.{Label}
use Rattle.acc_batch.specs.declared.label.OpLabel.{OpLabel}
use Rattle.acc_batch.specs.declared.label.OpLabel.TheVariants as op_label
use Rattle.acc_batch.proofs.Seats.{each_seat, seat_absent, seat_kept, seat_set, seat_there}
use Rattle.acc_queue.specs.Seen.{HasWord, Raised}
use Rattle.acc_run.specs.WorkSides.{IsPublished, queue_number, published_by, raised_by}
use Rattle.acc_run.proofs.WorkSideSteps.{filled_with, seat_lane}
use Rattle.acc_work.specs.declared.work.Done.{Done}
use Rattle.acc_work.specs.declared.work.Done.TheVariants as done
use Rattle.acc_work.specs.Jobs.{JobView, Commits, HasStarted, IsJobNext, IsOut, StartsLoop, given_back, performed_now}
use Rattle.acc_kernel.specs.Jobs.{Computation, Use}
use Rattle.acc_kernel.specs.Kernels.{Loop}
use Rattle.acc_work.specs.Lanes.{LaneView, IsFresh, IsLane, IsLoopNext, last_of, ops_of_last, lane_done, lane_in, lanes_with, lane_with_batch, lane_with_left, lane_with_out, no_lane}
use Rattle.acc_work.specs.Logs.{batches_done}
use Rattle.acc_work.specs.Works.{WorkView, HasQueue, KeepsOrder, Performs, lane_at, taken_labels}
use Rattle.acc_work.proofs.KeptSteps.{Advanced, has_advanced, has_waited}
use Rattle.acc_work.proofs.Lanes.{each_lane, fresh_lane}
use Rattle.acc_work.proofs.TakenLabels.{done_is}

-- Where nothing is left all that were taken are performed, and else all but the last.
done_all : (lane : LaneView) → lane.left ≡ [] → lane_done lane ≡ length lane.taken
done_all lane none = ap (λ ls. lane_done (record lane { left = ls })) none

done_some : (lane : LaneView) → 0 < length lane.left → lane_done lane ≡ length lane.taken - 1
done_some lane some = ap (λ b. if b then length lane.taken - 1 else length lane.taken) (lt-ltb 0 (length lane.left) some)

done_low : (lane : LaneView) → lane_done lane ≤ length lane.taken
done_low lane = by_left lane.left refl
  where
    by_left : (left : List OpLabel) → lane.left ≡ left → lane_done lane ≤ length lane.taken
    by_left [] none = (let all = done_all lane none in omega (arith, all))
    by_left (op ∷ ops) left = (let less = done_some lane (omega (arith, ap length left)) in omega (arith, less))

-- Of a queue that is there the word is its number, which may be raised.
pub word_there : (w : WorkView) (words : List ℕ) (at : QueueAt) → IsPublished w words → KeepsOrder w → HasQueue w at → HasWord words at
word_there w words at p k h = (h.1, (let low = seat_lane w at k h in omega (arith, low, p.count)))

pub word_low : (w : WorkView) (words : List ℕ) (at : QueueAt) → IsPublished w words → KeepsOrder w → HasQueue w at → slice_index_or words (seat at) 0 < 2 ^ 62
word_low w words at p k h =
    let few = p.few at in
    let low = done_low (lane_at w at) in
    let word : slice_index_or words (seat at) 0 ≡ lane_done (lane_at w at) = sym (seat_there 0 words at h.1) ∙ (p.each at ∙ done_is w at k) in
    omega (arith, word, low, few)

-- ## An item is recorded

-- ## A queue takes a batch

-- where nothing is left, and a count that a queue hasn't reached
pub none_left : (n : ℕ) → (n == 0) ≡ true → n ≤ 0
none_left n none = grind (arith, nat_tests, none)

pub not_reached : (n : ℕ) → nat_le 4611686018427387903 n ≡ false → n < 2 ^ 62 - 1
not_reached n low = grind (arith, nat_tests, low)

pub published_taken : (w w' : WorkView) (words : List ℕ) (at : QueueAt) (b : Label) → IsPublished w words → KeepsOrder w → KeepsOrder w' → HasQueue w at → w' ≡ filled_with w at b → 0 < length b.ops → length (lane_at w at).left ≤ 0
    → batches_done (taken_labels w) w.work at < 2 ^ 62 - 1 → IsPublished w' words
published_taken w w' words at b p k k' h is filled empty few = record {
  each = λ q. p.each q ∙ (done_is w q k ∙ (sym (tells q) ∙ sym (done_is w' q k')));
  few = λ q. rw is (each_lane (λ o x. length x.taken < 2 ^ 62) (λ o x. length x.taken < 2 ^ 62) w.lanes at lane h.1 there p.few mine (λ o differ x low. low) q);
  count = p.count ∙ (sym (length-set w.lanes (seat at) lane) ∙ ap (λ (v : WorkView). length v.lanes) (sym is));
}
  where
    lane : LaneView
    lane = lane_with_batch (lane_at w at) b

    there : seat at < length w.lanes
    there = seat_lane w at k h

    no_op : (xs : List OpLabel) → length xs ≤ 0 → xs ≡ []
    no_op [] low = refl
    no_op (x ∷ xs) low = absurd (omega (arith, low))

    -- it had performed all that it took
    whole : lane_done (lane_at w at) ≡ length (lane_at w at).taken
    whole = done_all (lane_at w at) (no_op (lane_at w at).left empty)

    same : lane_done lane ≡ lane_done (lane_at w at)
    same = (let less = done_some lane filled in omega (arith, less, whole, length-append (lane_at w at).taken (b ∷ [])))

    tells : (q : QueueAt) → lane_done (lane_at w' q) ≡ lane_done (lane_at w q)
    tells q = ap (λ (v : WorkView). lane_done (lane_at v q)) is
        ∙ each_lane (λ o x. x ≡ lane_in w.lanes o) (λ o x. lane_done x ≡ lane_done (lane_in w.lanes o)) w.lanes at lane h.1 there (λ o. refl) same (λ o differ x e. ap lane_done e) q

    mine : length lane.taken < 2 ^ 62
    mine =
        let done = done_is w at k in
        omega (arith, whole, done, few, length-append (lane_at w at).taken (b ∷ []))

-- ## A queue performs an operation

lane_now : (w w' : WorkView) (at : QueueAt) (lane : LaneView) → at.queue < QUEUES → seat at < length w.lanes → w'.lanes ≡ lanes_with w.lanes at lane → lane_at w' at ≡ lane
lane_now w w' at lane low there is = ap (λ ls. lane_in ls at) is ∙ seat_set no_lane w.lanes at lane low there

lane_other : (w w' : WorkView) (at other : QueueAt) (lane : LaneView) → at.queue < QUEUES → same_queue at other ≡ false → w'.lanes ≡ lanes_with w.lanes at lane → lane_at w' other ≡ lane_at w other
lane_other w w' at other lane low differ is = ap (λ ls. lane_in ls other) is ∙ seat_kept no_lane w.lanes at other lane low differ

few_gone : (w w' : WorkView) (words : List ℕ) (at : QueueAt) (ops : List OpLabel) → IsPublished w words → at.queue < QUEUES → seat at < length w.lanes → w'.lanes ≡ lanes_with w.lanes at (lane_with_left (lane_at w at) ops)
    → (q : QueueAt) → length (lane_at w' q).taken < 2 ^ 62
few_gone w w' words at ops p low there is q =
    rw is (each_lane (λ o x. length x.taken < 2 ^ 62) (λ o x. length x.taken < 2 ^ 62) w.lanes at (lane_with_left (lane_at w at) ops) low there p.few (p.few at) (λ o differ x low. low) q)

-- a queue with an operation left took a batch
begun : (lane : LaneView) (op : OpLabel) (ops : List OpLabel) → IsLane lane → lane.left ≡ op ∷ ops → 0 < length lane.taken
begun lane op ops l left = by_taken lane.taken l.begun
  where
    by_taken : (taken : List Label) → length lane.left ≤ ops_of_last (last_of taken) → 0 < length taken
    by_taken [] low = absurd (omega (arith, low, ap length left))
    by_taken (t ∷ ts) low = omega arith

-- Behind the last operation of a batch one batch more is performed, and else as many as before.
pub published_gone : (w w' : WorkView) (p : Raised) (at : QueueAt) (op : OpLabel) (ops : List OpLabel) → IsPublished w p.numbers → KeepsOrder w → KeepsOrder w' → HasQueue w at → (lane_at w at).left ≡ op ∷ ops
    → w'.lanes ≡ lanes_with w.lanes at (lane_with_left (lane_at w at) ops) → IsPublished w' (raised_by ops p at).numbers
published_gone w w' p at op [] before k k' h left is = record {
  each = λ q. each_seat (λ o n. n ≡ lane_done (lane_at w o)) (λ o n. n ≡ lane_done (lane_at w' o)) 0 p.numbers at next h.1 word (λ o. before.each o ∙ done_is w o k) mine others q ∙ sym (done_is w' q k');
  few = few_gone w w' p.numbers at [] before h.1 there is;
  count = length-set p.numbers (seat at) next ∙ (before.count ∙ (sym (length-set w.lanes (seat at) lane) ∙ ap length (sym is)));
}
  where
    lane : LaneView
    lane = lane_with_left (lane_at w at) []

    next : ℕ
    next = slice_index p.numbers (seat at) + 1

    there : seat at < length w.lanes
    there = seat_lane w at k h

    word : seat at < length p.numbers
    word = (word_there w p.numbers at before k h).1

    mine : next ≡ lane_done (lane_at w' at)
    mine =
        let found : slice_index p.numbers (seat at) ≡ lane_done (lane_at w at) = sym (seat_there 0 p.numbers at h.1) ∙ (before.each at ∙ done_is w at k) in
        let was = done_some (lane_at w at) (omega (arith, ap length left)) in
        let some = begun (lane_at w at) op [] (k.order at).batches left in
        let all : lane_done (lane_at w' at) ≡ length (lane_at w at).taken = ap lane_done (lane_now w w' at lane h.1 there is) ∙ done_all lane refl in
        omega (arith, found, was, some, all)

    others : (q : QueueAt) → same_queue at q ≡ false → (n : ℕ) → n ≡ lane_done (lane_at w q) → n ≡ lane_done (lane_at w' q)
    others q differ n e = e ∙ sym (ap lane_done (lane_other w w' at q lane h.1 differ is))
published_gone w w' p at op (o ∷ os) before k k' h left is = record {
  each = λ q. before.each q ∙ (done_is w q k ∙ (sym (tells q) ∙ sym (done_is w' q k')));
  few = few_gone w w' p.numbers at (o ∷ os) before h.1 there is;
  count = before.count ∙ (sym (length-set w.lanes (seat at) lane) ∙ ap length (sym is));
}
  where
    lane : LaneView
    lane = lane_with_left (lane_at w at) (o ∷ os)

    there : seat at < length w.lanes
    there = seat_lane w at k h

    same : lane_done lane ≡ lane_done (lane_at w at)
    same = done_some lane (omega arith) ∙ sym (done_some (lane_at w at) (omega (arith, ap length left)))

    tells : (q : QueueAt) → lane_done (lane_at w' q) ≡ lane_done (lane_at w q)
    tells q = ap (λ ls. lane_done (lane_in ls q)) is
        ∙ each_lane (λ o x. x ≡ lane_in w.lanes o) (λ o x. lane_done x ≡ lane_done (lane_in w.lanes o)) w.lanes at lane h.1 there (λ o. refl) same (λ o differ x e. ap lane_done e) q

-- where each lane has the batches that it had, and as many operations are left, as many are performed
pub published_same : (w w' : WorkView) (words : List ℕ) → IsPublished w words → KeepsOrder w → KeepsOrder w' → ((q : QueueAt) → (lane_at w' q).taken ≡ (lane_at w q).taken) → ((q : QueueAt) → (lane_at w' q).left ≡ (lane_at w q).left)
    → length w'.lanes ≡ length w.lanes → IsPublished w' words
published_same w w' words p k k' taken left count = record {
  each = λ q. p.each q ∙ (done_is w q k ∙ (sym (tells q) ∙ sym (done_is w' q k')));
  few = λ q. (let same = ap length (taken q) in let few = p.few q in omega (arith, same, few));
  count = p.count ∙ sym count;
}
  where
    done_by : List Label → List OpLabel → ℕ
    done_by ts ls = if nat_lt 0 (length ls) then length ts - 1 else length ts

    tells : (q : QueueAt) → lane_done (lane_at w' q) ≡ lane_done (lane_at w q)
    tells q = ap (λ ts. done_by ts (lane_at w' q).left) (taken q) ∙ ap (λ ls. done_by (lane_at w q).taken ls) (left q)

-- what the call to perform did
pub published_next : (w w' : WorkView) (p : Raised) (at : QueueAt) (answer : Done) → IsPublished w p.numbers → KeepsOrder w → KeepsOrder w' → HasQueue w at → Performs w at answer w'
    → IsPublished w' (published_by answer (lane_at w' at).left p at).numbers
published_next w w' p at done.Idle before k k' h does = rw (has_waited w w' at does).same before
published_next w w' p at done.Op before k k' h does =
    let a : Advanced w w' at = has_advanced w w' at does in
    let now : (lane_at w' at).left ≡ a.ops = ap (λ (x : LaneView). x.left) (lane_now w w' at (lane_with_left (lane_at w at) a.ops) h.1 (seat_lane w at k h) a.performed.lanes) in
    rw now (published_gone w w' p at a.op a.ops before k k' h a.left a.performed.lanes)

-- ## A loop goes out, and comes back

-- a lane whose loop is out, or back, has the batches and the operations that it had
out_same : (w : WorkView) (at other : QueueAt) (out : Bool) → KeepsOrder w → HasQueue w at → (lane_in (lanes_with w.lanes at (lane_with_out (lane_at w at) out)) other).taken ≡ (lane_at w other).taken
out_same w at other out k h =
    each_lane (λ o x. x ≡ lane_in w.lanes o) (λ o x. x.taken ≡ (lane_in w.lanes o).taken) w.lanes at (lane_with_out (lane_at w at) out) h.1 (seat_lane w at k h) (λ o. refl) refl (λ o differ x e. ap (λ (y : LaneView). y.taken) e) other

out_left : (w : WorkView) (at other : QueueAt) (out : Bool) → KeepsOrder w → HasQueue w at → (lane_in (lanes_with w.lanes at (lane_with_out (lane_at w at) out)) other).left ≡ (lane_at w other).left
out_left w at other out k h =
    each_lane (λ o x. x ≡ lane_in w.lanes o) (λ o x. x.left ≡ (lane_in w.lanes o).left) w.lanes at (lane_with_out (lane_at w at) out) h.1 (seat_lane w at k h) (λ o. refl) refl (λ o differ x e. ap (λ (y : LaneView). y.left) e) other

published_out : (w w' : WorkView) (words : List ℕ) (at : QueueAt) (out : Bool) → IsPublished w words → KeepsOrder w → KeepsOrder w' → HasQueue w at
    → w' ≡ record w { lanes = lanes_with w.lanes at (lane_with_out (lane_at w at) out) } → IsPublished w' words
published_out w w' words at out p k k' h is =
    published_same w w' words p k k'
    (λ q. ap (λ (v : WorkView). (lane_at v q).taken) is ∙ out_same w at q out k h)
    (λ q. ap (λ (v : WorkView). (lane_at v q).left) is ∙ out_left w at q out k h)
    (ap (λ (v : WorkView). length v.lanes) is ∙ length-set w.lanes (seat at) (lane_with_out (lane_at w at) out))

pub published_started : (w w' : WorkView) (words : List ℕ) (at : QueueAt) (job : JobView) → IsPublished w words → KeepsOrder w → KeepsOrder w' → HasQueue w at → HasStarted w w' at job → IsPublished w' words
published_started w w' words at job p k k' h s = published_out w w' words at true p k k' h s.new_is

pub published_gone_out : (r : Option JobView) (w w' : WorkView) (words : List ℕ) (at : QueueAt) → IsPublished w words → KeepsOrder w → KeepsOrder w' → HasQueue w at
    → IfSome r (λ job. HasStarted w w' at job) → IfNone r ((w' ≡ w) × (StartsLoop w at → ⊥)) → IsPublished w' words
published_gone_out None w w' words at p k k' h started none = rw none.0 p
published_gone_out (Some job) w w' words at p k k' h started none = published_started w w' words at job p k k' h started

-- a job that is out has its loop before it
abbrev IsLeft : List OpLabel → Type 0
IsLeft left = (op : OpLabel) × (ops : List OpLabel) × (left ≡ op ∷ ops)

job_left : (w : WorkView) (job : JobView) → IsOut w job → IsLeft (lane_at w job.at).left
job_left w job o = by_left (lane_at w job.at).left refl
  where
    no_loop : (k : Loop) (uses : List Use) → IsLoopNext k uses [] → ⊥
    no_loop k uses next = cc

    by_job : (c : Option Computation) → IsJobNext c [] → ⊥
    by_job None next = no_loop next.0 next.1 next.2
    by_job (Some c) next = no_loop c.kernel c.uses next

    by_left : (left : List OpLabel) → (lane_at w job.at).left ≡ left → IsLeft (lane_at w job.at).left
    by_left [] none = absurd (by_job job.job (subst (IsJobNext job.job) none o.loop))
    by_left (op ∷ ops) is = (op, ops, is)

kept_by : (left : List OpLabel) (p : Raised) (at : QueueAt) → IsLeft left → raised_by left p at ≡ p
kept_by left p at (op, ops, is) = ap (λ ls. raised_by ls p at) is

pub published_back : (w w' : WorkView) (p : Raised) (job : JobView) → IsPublished w p.numbers → KeepsOrder w → KeepsOrder w' → HasQueue w job.at → IsOut w job → Commits w w' job.at
    → IsPublished w' (raised_by (lane_at w' job.at).left p job.at).numbers
published_back w w' p job before k k' h out (performed_now kernel uses ops left live done) =
    let now : (lane_at w' job.at).left ≡ ops = ap (λ (x : LaneView). x.left) (lane_now w w' job.at (lane_with_left (lane_at w job.at) ops) h.1 (seat_lane w job.at k h) done.lanes) in
    rw now (published_gone w w' p job.at (op_label.Run kernel uses) ops before k k' h left done.lanes)
published_back w w' p job before k k' h out (given_back gone same) =
    let left : (lane_at w' job.at).left ≡ (lane_at w job.at).left = ap (λ (v : WorkView). (lane_at v job.at).left) same ∙ out_left w job.at job.at false k h in
    let stays : raised_by (lane_at w' job.at).left p job.at ≡ p = ap (λ ls. raised_by ls p job.at) left ∙ kept_by (lane_at w job.at).left p job.at (job_left w job out) in
    rw stays (published_out w w' p.numbers job.at false before k k' h same)

pub published_job : {A B : Type 0} (r : Result A B) (Same Stray : B → Type 0) (w w' : WorkView) (p p' : Raised) (job : JobView) → IsPublished w p.numbers → KeepsOrder w → KeepsOrder w' → HasQueue w job.at
    → OnOk r (IsOut w job × Commits w w' job.at) → OnOk r (p' ≡ raised_by (lane_at w' job.at).left p job.at) → IfErr r (λ b. Same b × (w' ≡ w) × (p' ≡ p) × Stray b) → IsPublished w' p'.numbers
published_job (Ok a) Same Stray w w' p p' job before k k' h done raised back = rw raised (published_back w w' p job before k k' h done.0 done.1)
published_job (Err b) Same Stray w w' p p' job before k k' h done raised back = rw (back.1, back.2) before

-- ## The first of all

no_numbers : (n i : ℕ) → slice_index_or (replicate {A = ℕ} n 0) i 0 ≡ zero
no_numbers zero i = refl
no_numbers (suc n) zero = refl
no_numbers (suc n) (suc i) = no_numbers n i

pub published_first : (w : WorkView) (words : List ℕ) (n : ℕ) → KeepsOrder w → All IsFresh w.lanes → words ≡ replicate n 0 → length w.lanes ≡ n → IsPublished w words
published_first w words n k fresh none count = record {
  each = λ at. zero_at at ∙ (sym (idle at) ∙ sym (done_is w at k));
  few = λ at. (let empty = ap length (fresh_lane w.lanes at fresh).taken in omega (arith, empty));
  count = ap length none ∙ (length-replicate n 0 ∙ sym count);
}
  where
    zero_at : (at : QueueAt) → queue_number words at ≡ 0
    zero_at at = elim (cases_lt at.queue QUEUES) [
      | inl low ↦ seat_there 0 words at low ∙ (ap (λ ws. slice_index_or ws (seat at) 0) none ∙ no_numbers n (seat at))
      | inr past ↦ seat_absent 0 words at past
    ]

    idle : (at : QueueAt) → lane_done (lane_at w at) ≡ 0
    idle at = (let f = fresh_lane w.lanes at fresh in ap (λ ls. lane_done (record (lane_at w at) { left = ls })) f.left ∙ ap length f.taken)
