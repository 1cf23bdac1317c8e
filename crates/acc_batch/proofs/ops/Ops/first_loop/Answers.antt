use Rattle.std.proofs.Common.{◌≡◌, List, [], reverse, sym, ap, ◌∙◌, rules}
use Rattle.std.specs.Option.{option_or}
use Rattle.std.proofs.lemmas.List.{nil_from_length}
use Rattle.acc_batch.specs.declared.op.Op.{Op}
use Rattle.acc_batch.specs.Ops.{first_loop, loop_of, op_label, op_labels}
use Rattle.acc_batch.proofs.FirstLoop.{first_pushed, no_loop}
use Rattle.acc_batch.proofs.ops.Ops.first_loop.Goals as goal

pub loop-op-init : goal.loop-op-init
loop-op-init c =
    let rest : c.into_iter-op-iterator.result.iter.rest.now ≡ c.self.inside.ops = search rules in
    ap (λ (ops : List Op). first_loop (op_labels ops)) (sym c.self.view_is ∙ ap reverse (sym rest))

pub loop-op-preserved : goal.loop-op-preserved
loop-op-preserved c =
    let rest = c.next.new.self.iter.rest.now in
    c.loop-op.invariant
    ∙ (ap (λ (ops : List Op). first_loop (op_labels (reverse ops))) c.in-Some.ensures.steps
    ∙ (first_pushed rest c.in-Some.op.now ∙ ap (λ l. option_or l (first_loop (op_labels (reverse rest)))) (no_loop c.in-Some.op.now c.in_default.not-Run)))

pub returns-in-Run : goal.returns-in-Run
returns-in-Run c =
    let rest = c.next.new.self.iter.rest.now in
    sym
    (c.loop-op.invariant
    ∙ (ap (λ (ops : List Op). first_loop (op_labels (reverse ops))) c.in-Some.ensures.steps
    ∙ (first_pushed rest c.in-Some.op.now ∙ ap (λ (op : Op). option_or (loop_of (op_label op)) (first_loop (op_labels (reverse rest)))) c.in-Run.is)))

pub returns : goal.returns
returns c =
    let none : c.loop-op.op-iterator.iter.rest.now ≡ [] = nil_from_length c.loop-op.op-iterator.iter.rest.now c.in-None.ensures.steps.0 in
    sym (c.loop-op.invariant ∙ ap (λ (ops : List Op). first_loop (op_labels (reverse ops))) none)
