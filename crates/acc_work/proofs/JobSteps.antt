-- A loop goes out of its lane, and comes back.
use Rattle.std.proofs.Common.{◌≡◌, ℕ, true, false, List, [], ◌∷◌, refl, sym, ap, subst, ◌∙◌, Option, Some, None}
use Rattle.std.specs.Prelude.{is_some, IfSome, IfNone}
use Rattle.std.proofs.lemmas.Bool.{and_parts}
use Rattle.acc_base.specs.declared.ids.QueueAt.{QueueAt}
use Rattle.acc_batch.specs.declared.label.OpLabel.{OpLabel}
use Rattle.acc_batch.specs.declared.label.OpLabel.TheVariants.{Make, CopyIn, CopyOut, Release, Run, Await, Close}
use Rattle.acc_batch.specs.Ops.{loop_of}
use Rattle.acc_kernel.specs.Jobs.{Use, Computation}
use Rattle.acc_kernel.specs.Kernels.{Loop}
use Rattle.acc_memory.specs.Memories.{MemoryView, MayPerform}
use Rattle.acc_work.specs.inner.Jobs.{IsStarted, MayStart}
use Rattle.acc_work.specs.Jobs.{JobView, IsJobNext, Commits, performed_now}
use Rattle.acc_work.specs.Lanes.{LaneView, lane_with_out, last_of, next_loop}
use Rattle.acc_work.specs.Logs.{await_allows, host_allows}
use Rattle.acc_work.specs.Works.{WorkView, HasPerformed, IsWork, can_go, is_due, is_live, lane_at, taken_labels}
use Rattle.acc_work.proofs.KeptSteps.{is_ready}
use Rattle.acc_work.proofs.RemembersWork.{next_live}

-- ## It goes out

no_loop : {X : Type 0} → false ≡ true → X
no_loop e = absurd (let no : false ≡ true = e in cc)

-- a loop that can be performed has its ranges
pub may_start : {free unclaimed : ℕ} (w : WorkView) (at : QueueAt) → IsWork w free unclaimed → can_go w at (lane_at w at).left ≡ true → is_some (next_loop (lane_at w at).left) ≡ true → MayStart w.memory at.device (lane_at w at).left
may_start w at i can some = by_left (lane_at w at).left can some
  where
    by_op : (op : OpLabel) (ops : List OpLabel) → can_go w at (op ∷ ops) ≡ true → is_some (loop_of op) ≡ true → MayStart w.memory at.device (op ∷ ops)
    by_op (Make r b) ops can some = no_loop some
    by_op (CopyIn r b) ops can some = no_loop some
    by_op (CopyOut r b) ops can some = no_loop some
    by_op (Release b) ops can some = no_loop some
    by_op (Run k uses) ops can some = record {
      kernel = k;
      uses = uses;
      next = refl;
      held = (next_live w.arrays w at (Run k uses) ops i.memory i.kept.live_blocks (is_ready w at (Run k uses) ops can).live).may;
    }
    by_op (Await q n) ops can some = no_loop some
    by_op Close ops can some = no_loop some

    by_left : (left : List OpLabel) → can_go w at left ≡ true → is_some (next_loop left) ≡ true → MayStart w.memory at.device left
    by_left [] can some = no_loop some
    by_left (op ∷ ops) can some = by_op op ops can some

-- and there is a batch of which it is left, whose host has its items
pub host_allowed : (w : WorkView) (at : QueueAt) → can_go w at (lane_at w at).left ≡ true → host_allows (last_of (lane_at w at).taken) w.work ≡ true
host_allowed w at can = by_left (lane_at w at).left can
  where
    by_left : (left : List OpLabel) → can_go w at left ≡ true → host_allows (last_of (lane_at w at).taken) w.work ≡ true
    by_left [] can = no_loop can
    by_left (op ∷ ops) can = (and_parts (await_allows (taken_labels w) w.work at.device op) (host_allows (last_of (lane_at w at).taken) w.work) (is_ready w at op ops can).due).1

pub some_batch : (w : WorkView) (at : QueueAt) → can_go w at (lane_at w at).left ≡ true → last_of (lane_at w at).taken ≡ None → ⊥
some_batch w at can none = no_loop (sym (ap (λ l. host_allows l w.work) none) ∙ host_allowed w at can)

-- its lane knows
pub lane_out : (m : MemoryView) (old new : LaneView) (at : QueueAt) (answer : Option JobView) → IfSome answer (λ job. IsStarted m old new at job) → IfNone answer ((new ≡ old) × (last_of old.taken ≡ None)) → (last_of old.taken ≡ None → ⊥)
    → new ≡ lane_with_out old true
lane_out m old new at None some none never = absurd (never none.1)
lane_out m old new at (Some job) some none never = some.lane_is

-- ## It comes back

-- An operation that is a loop.
pub record Looping (op : OpLabel) : Type 0 where
  pub kernel : Loop
  pub uses : List Use
  pub is : op ≡ Run kernel uses

run_is : (op : OpLabel) (k : Loop) (uses : List Use) → loop_of op ≡ Some (k, uses) → op ≡ Run k uses
run_is (Run k' uses') k uses e =
    let pair : (k', uses') ≡ (k, uses) = cc in
    ap (λ (p : Loop × List Use). Run p.0 p.1) pair
run_is (Make r b) k uses e = absurd (let no : None ≡ Some (k, uses) = e in cc)
run_is (CopyIn r b) k uses e = absurd (let no : None ≡ Some (k, uses) = e in cc)
run_is (CopyOut r b) k uses e = absurd (let no : None ≡ Some (k, uses) = e in cc)
run_is (Release b) k uses e = absurd (let no : None ≡ Some (k, uses) = e in cc)
run_is (Await q n) k uses e = absurd (let no : None ≡ Some (k, uses) = e in cc)
run_is Close k uses e = absurd (let no : None ≡ Some (k, uses) = e in cc)

-- the job's loop is the next operation
pub job_of_next : (job : Option Computation) (left ops : List OpLabel) (op : OpLabel) → left ≡ op ∷ ops → IsJobNext job left → IsJobNext job (op ∷ [])
job_of_next None left ops op e h = (h.0, h.1, sym (ap next_loop e) ∙ h.2)
job_of_next (Some c) left ops op e h = sym (ap next_loop e) ∙ h

pub is_looping : (job : Option Computation) (op : OpLabel) → IsJobNext job (op ∷ []) → Looping op
is_looping None op h = record { kernel = h.0; uses = h.1; is = run_is op h.0 h.1 h.2 }
is_looping (Some c) op h = record { kernel = c.kernel; uses = c.uses; is = run_is op c.kernel c.uses h }

-- a loop awaits nothing, and its host has the items
pub loop_due : {free unclaimed : ℕ} (w : WorkView) (at : QueueAt) (op : OpLabel) → IsWork w free unclaimed → (lane_at w at).out ≡ true → Looping op → is_due w at op ≡ true
loop_due w at op i out l = rw l.is (i.out_due at out)

-- it may be performed, where what it uses is live
pub loop_allowed : {free unclaimed : ℕ} (w : WorkView) (at : QueueAt) (op : OpLabel) (ops : List OpLabel) → IsWork w free unclaimed → is_live w at (op ∷ ops) ≡ true → MayPerform w.memory at.device op
loop_allowed w at op ops i live = (next_live w.arrays w at op ops i.memory i.kept.live_blocks live).may

pub commits_now : (old new : WorkView) (at : QueueAt) (op : OpLabel) (ops : List OpLabel) → (lane_at old at).left ≡ op ∷ ops → is_live old at (lane_at old at).left ≡ true → Looping op → HasPerformed old new at op ops → Commits old new at
commits_now old new at op ops left live l p =
    performed_now l.kernel l.uses ops (left ∙ ap (λ o. o ∷ ops) l.is) live (subst (λ (o : OpLabel). HasPerformed old new at o ops) l.is p)
