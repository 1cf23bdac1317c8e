-- The test whether two queues are one.
use Rattle.std.proofs.Common.{◌≡◌, true, false, refl, sym, ap, ◌∙◌, inl, inr}
use Rattle.std.specs.Prelude.{◌==◌}
use Rattle.std.proofs.lemmas.Bool.{cases_Bool, and_parts, and_from, eq-eqb, eqb-true}
use Rattle.acc_base.specs.declared.ids.QueueAt.{QueueAt}
use Rattle.acc_base.specs.Queues.{same_queue}

-- a queue is the same as itself
pub same_queue_itself : (at : QueueAt) → same_queue at at ≡ true
same_queue_itself at = and_from (at.device == at.device) (at.queue == at.queue) (eq-eqb at.device at.device refl) (eq-eqb at.queue at.queue refl)

-- the test of two queues says that they are one
pub same_queue_is : (a b : QueueAt) → same_queue a b ≡ true → a ≡ b
same_queue_is a b h =
    let parts = and_parts (a.device == b.device) (a.queue == b.queue) h in
    let same_a : a ≡ record { device = b.device; queue = a.queue } = ap (λ x. record { device = x; queue = a.queue }) (eqb-true a.device b.device parts.0) in
    let same_b : record { device = b.device; queue = a.queue } ≡ b = ap (λ x. record { device = b.device; queue = x }) (eqb-true a.queue b.queue parts.1) in
    same_a ∙ same_b

-- it doesn't matter which is named first
pub same_queue_turned : (a b : QueueAt) → same_queue a b ≡ false → same_queue b a ≡ false
same_queue_turned a b differ = elim (cases_Bool (same_queue b a)) [
  | inl same ↦
      let e : true ≡ false = sym (same_queue_itself b) ∙ (ap (λ q. same_queue q b) (same_queue_is b a same) ∙ differ) in cc
  | inr other ↦ other
]
