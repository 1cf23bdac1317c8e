use Rattle.std.proofs.Common.{◌∙◌, Bool, List, [], ◌∷◌, ◌++◌, cond, sym, ap, take}
use Rattle.std.proofs.lemmas.List.{append-nil, take_all}
use Rattle.acc_base.specs.declared.range.Range.{Range}
use Rattle.acc_kernel.specs.Jobs.{Use, is_read, range_of, read_uses}
use Rattle.acc_kernel.specs.Kernels.{reach_of}
use Rattle.acc_kernel.proofs.ReadAndWritten.{next_reached}
use Rattle.acc_kernel.proofs.job.read_uses.Goals as goal
use Rattle.acc_kernel.proofs.job.read_uses.Goals.{then-reads+in_ok-push, else-reads}

pub loop-block-preserved : goal.loop-block-preserved
loop-block-preserved c =
    let k = c.args.kernel.now in
    let u = c.loop-block-item.result in
    let part : Use = (u.0, range_of u.1.array (reach_of k u.1.array)) in
    let before = take c.loop-block.block-index c.args.uses.now in
    let next = next_reached (is_read k.statements) k c.args.uses.now c.loop-block.block-index u c.loop-block-test.true c.loop-block-item.is in
    elim c.if-reads.branch [
      | then-reads+in_ok-push w ↦
          ap (λ v. v.items) w.read-is
          ∙ (w.in_ok-push.ensures.items
          ∙ (ap (λ (r : Range). c.loop-block.read.items ++ (u.0, r) ∷ []) w.reached.ensures
          ∙ (ap (λ (l : List Use). l ++ part ∷ []) c.loop-block.invariant
          ∙ sym (next ∙ ap (λ (b : Bool). read_uses k before ++ cond b (part ∷ []) []) (sym c.reads.ensures ∙ w.if-reads.true)))))
      | else-reads w ↦
          ap (λ v. v.items) w.read-is
          ∙ (c.loop-block.invariant
          ∙ sym (next ∙ (ap (λ (b : Bool). read_uses k before ++ cond b (part ∷ []) []) (sym c.reads.ensures ∙ w.if-reads.false) ∙ append-nil (read_uses k before))))
    ]

pub returns-clause-read : goal.returns-clause-read
returns-clause-read c = c.loop-block.invariant ∙ ap (read_uses c.args.kernel.now) (take_all c.loop-block.block-index c.args.uses.now c.loop-block-test.false)
