use Rattle.std.proofs.Common.{◌≡◌, ◌∙◌, List, ap, sym, subst}
use Rattle.std.specs.Prelude.{All, IfOk}
use Rattle.std.proofs.lemmas.Result.{IfOk-weaker}
use Rattle.std.specs.Option.{option_to_list}
use Rattle.acc_batch.specs.declared.label.OpLabel.{OpLabel}
use Rattle.acc_batch.specs.Awaits.{with_awaits}
use Rattle.acc_batch.specs.Ops.{HasItsCells}
use Rattle.acc_place.specs.inner.Noting.{awaits_from}
use Rattle.acc_place.specs.Targets.{is_alone}
use Rattle.acc_place.specs.inner.Judging.{marked_ops}
use Rattle.acc_place.proofs.PlanOf.{behind_their_awaits, have_their_cells, listed, nothing_awaited}
use Rattle.acc_place.proofs.plan.batch_ops.Goals as goal

pub returns-then-is_without_batch-clause-ops : goal.returns-then-is_without_batch-clause-ops
returns-then-is_without_batch-clause-ops c = λ notes h.
    let yes = c.if-is_without_batch.true in
    c.new.ensures ∙ sym (nothing_awaited (is_alone c.args.directive.now) _ (marked_ops (option_to_list c.args.run) c.args.steps.now) (c.is_without_batch.ensures.alone yes) (c.is_without_batch.ensures.ops yes))

pub returns-clause-cells : goal.returns-clause-cells
returns-clause-cells c =
    let k = c.args.known.now in
    let run = option_to_list c.args.run in
    let ops = marked_ops run c.args.steps.now in
    let numbers = c.awaited_numbers-numbers.result in
    let all = behind_their_awaits c.is_alone.result k.at.queue numbers ops (have_their_cells run c.args.steps.now (listed c.args.run c.requires.run)) in
    IfOk-weaker c.ops_of.result (λ (os : List OpLabel). os ≡ with_awaits c.is_alone.result (awaits_from k.at.queue 0 numbers) ops) (λ (os : List OpLabel). All HasItsCells os)
    (λ os same. subst (λ (xs : List OpLabel). All HasItsCells xs) (sym same) all) c.ops_of.ensures.ops

pub returns-clause-ops : goal.returns-clause-ops
returns-clause-ops c = λ notes h.
    let k = c.args.known.now in
    let d = c.args.directive.now in
    let ops = marked_ops (option_to_list c.args.run) c.args.steps.now in
    let numbers = c.awaited_numbers-numbers.ensures notes h in
    let alone = ap (λ alone. with_awaits alone (awaits_from k.at.queue 0 c.awaited_numbers-numbers.result) ops) c.is_alone.ensures in
    let behind = alone ∙ ap (λ ns. with_awaits (is_alone d) (awaits_from k.at.queue 0 ns) ops) numbers in
    subst (λ (os : List OpLabel). IfOk c.ops_of.result (λ made. made ≡ os)) behind c.ops_of.ensures.ops
