use Rattle.std.proofs.Common.{inl, inr, ◌≡◌, ℕ, ◌<◌, true, false, cond, map, sym, ap, ◌∙◌, arith}
use Rattle.std.specs.Prelude.{◌==◌, max, slice_index_or}
use Rattle.std.proofs.lemmas.Bool.{cases_Bool, eq-eqb, eqb-true, ne_eqb}
use Rattle.acc_base.specs.Queues.{every_queue}
use Rattle.acc_base.specs.declared.ids.TheConstants.{QUEUES}
use Rattle.acc_base.proofs.EachQueue.{at_queue, set_queue}
use Rattle.acc_place.proofs.awaits.raise.Goals as goal

-- raising one of them sets it
raised_at : (f : ℕ → ℕ) (queue number q : ℕ) → f queue < number → max (f q) (cond (queue == q) number 0) ≡ cond (q == queue) number (f q)
raised_at f queue number q less = elim (cases_Bool (q == queue)) [
  | inl same ↦
      let e : q ≡ queue = eqb-true q queue same in
      let own : f q ≡ f queue = ap f e in
      rw (same, eq-eqb queue q (sym e)) (omega (arith, own, less))
  | inr other ↦
      let differ : queue ≡ q → ⊥ = λ e. (let w : true ≡ false = sym (eq-eqb q queue (sym e)) ∙ other in cc) in
      rw (other, ne_eqb queue q differ) (omega arith)
]

pub returns-then-numbers-at : goal.returns-then-numbers-at
returns-then-numbers-at c f old =
    let queue = c.args.queue in
    let number = c.args.number in
    let at : c.from-at.result ≡ queue = c.from-at.ensures ∙ c.number.ensures in
    let low : queue < QUEUES = omega (arith, c.if-at-from.true, c.from.ensures, at) in
    let there : slice_index_or c.args.numbers.now c.from-at.result 0 ≡ f queue =
    ap (λ ns. slice_index_or ns c.from-at.result 0) old ∙ (ap (λ k. slice_index_or (map f every_queue) k 0) at ∙ at_queue f queue low) in
    let less : f queue < number = omega (arith, there, c.if-numbers-at.true) in
    let set = set_queue f (λ q. max (f q) (cond (queue == q) number 0)) queue number low (λ q. raised_at f queue number q less) in
    rw (old, at) (sym set)
