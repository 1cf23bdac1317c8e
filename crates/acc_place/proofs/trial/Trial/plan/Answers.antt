use Rattle.std.proofs.Common.{◌≡◌, Bool, List, length, ap, ◌∙◌, arith, subst}
use Rattle.std.specs.Prelude.{IfOk}
use Rattle.std.specs.Option.{option_to_list}
use Rattle.acc_batch.specs.declared.label.OpLabel.{OpLabel}
use Rattle.acc_present.specs.Drafts.{drafted}
use Rattle.acc_place.specs.declared.trial.Trial.TheInside.{Inside}
use Rattle.acc_place.specs.Batches.{is_answered}
use Rattle.acc_place.specs.Plans.{label_for, opened_region}
use Rattle.acc_place.specs.Standings.{loop_in}
use Rattle.acc_place.specs.declared.marked.Marked.{Marked}
use Rattle.acc_place.specs.inner.Trials.{behind_noted, held_by, items_by, next_in, placed_by, IsTried, TrialView}
use Rattle.acc_place.specs.inner.Judging.{counted_steps, holding_between, ends_of, marked_ops, all_steps, run_in}
use Rattle.acc_place.proofs.AcceptedDirective.{length-ends}
use Rattle.acc_place.proofs.TrialPlan.{run_cells, steps_cells}
use Rattle.acc_place.proofs.TriedDirective.{is_clean, run_made, steps_made}
use Rattle.acc_place.proofs.WalkItem.{entered_alike, length-marked}
use Rattle.acc_place.proofs.trial.Trial.plan.Goals as goal

abbrev seen : Inside → TrialView
seen w = record { draft = w.draft; steps = w.steps.items; items = w.items.items }

pub run_in-requires-clause-cells : goal.run_in-requires-clause-cells
run_in-requires-clause-cells c =
    let k = c.args.known.now in
    let host = c.args.host in
    let d = c.args.directive.now in
    let tried : IsTried k host d (seen c.self.inside) = rw (← c.self.view_is) at c.requires.tried in
    let own : c.as_slice-items.result.now ≡ items_by k host d = c.as_slice-items.ensures.value ∙ tried.whole in
    rw own (is_clean k host d c.requires.known tried.draft.table tried.faultless).cells

pub is_answered-present-requires : goal.is_answered-present-requires
is_answered-present-requires c =
    let k = c.args.known.now in
    let host = c.args.host in
    let d = c.args.directive.now in
    let tried : IsTried k host d (seen c.self.inside) = rw (← c.self.view_is) at c.requires.tried in
    let own : c.as_slice-items.result.now ≡ items_by k host d = c.as_slice-items.ensures.value ∙ tried.whole in
    rw own (record { cells = (is_clean k host d c.requires.known tried.draft.table tried.faultless).cells })

pub run_in-requires-clause-held : goal.run_in-requires-clause-held
run_in-requires-clause-held c =
    let k = c.args.known.now in
    let host = c.args.host in
    let d = c.args.directive.now in
    let tried : IsTried k host d (seen c.self.inside) = rw (← c.self.view_is) at c.requires.tried in
    rw (c.kind-kind.ensures, c.as_slice-items.ensures.value, tried.marks, tried.whole) (is_clean k host d c.requires.known tried.draft.table tried.faultless).held

pub leave_all-requires-clause-draft_room : goal.leave_all-requires-clause-draft_room
leave_all-requires-clause-draft_room c =
    let k = c.args.known.now in
    let host = c.args.host in
    let d = c.args.directive.now in
    let xs = c.as_slice-items.result.now in
    let tried : IsTried k host d (seen c.self.inside) = rw (← c.self.view_is) at c.requires.tried in
    let clean = is_clean k host d c.requires.known tried.draft.table tried.faultless in
    let ends : c.ends_of-ends.result.now ≡ ends_of d.kind xs = (rw c.kind-kind.ensures at c.ends_of-ends.ensures) in
    omega (arith, tried.changed, ap length tried.whole, ap length c.as_slice-items.ensures.value, clean.short, ap length ends, length-ends d.kind xs, c.self.invariant.0)

pub leave_all-requires-clause-step_room : goal.leave_all-requires-clause-step_room
leave_all-requires-clause-step_room c =
    let k = c.args.known.now in
    let host = c.args.host in
    let d = c.args.directive.now in
    let w = c.self.inside in
    let xs = c.as_slice-items.result.now in
    let tried : IsTried k host d (seen w) = rw (← c.self.view_is) at c.requires.tried in
    let clean = is_clean k host d c.requires.known tried.draft.table tried.faultless in
    let ends : c.ends_of-ends.result.now ≡ ends_of d.kind xs = (rw c.kind-kind.ensures at c.ends_of-ends.ensures) in
    let made = length-marked d.kind (held_by k) w.items.items in
    omega (arith, w.steps.ok.0, ap length tried.became, made, ap length tried.whole, ap length c.as_slice-items.ensures.value, clean.short, ap length ends, length-ends d.kind xs, c.self.invariant.1)

pub leave_all-requires-clause-cells : goal.leave_all-requires-clause-cells
leave_all-requires-clause-cells c =
    let k = c.args.known.now in
    let host = c.args.host in
    let d = c.args.directive.now in
    let tried : IsTried k host d (seen c.self.inside) = rw (← c.self.view_is) at c.requires.tried in
    let own : c.as_slice-items.result.now ≡ items_by k host d = c.as_slice-items.ensures.value ∙ tried.whole in
    let ends : c.ends_of-ends.result.now ≡ ends_of d.kind c.as_slice-items.result.now = (rw c.kind-kind.ensures at c.ends_of-ends.ensures) in
    rw (ends, own) (is_clean k host d c.requires.known tried.draft.table tried.faultless).ends_cells

pub leave_all-requires-clause-entered : goal.leave_all-requires-clause-entered
leave_all-requires-clause-entered c =
    let k = c.args.known.now in
    let host = c.args.host in
    let d = c.args.directive.now in
    let items = items_by k host d in
    let tried : IsTried k host d (seen c.self.inside) = rw (← c.self.view_is) at c.requires.tried in
    let ends : c.ends_of-ends.result.now ≡ ends_of d.kind c.as_slice-items.result.now = (rw c.kind-kind.ensures at c.ends_of-ends.ensures) in
    let clean = is_clean k host d c.requires.known tried.draft.table tried.faultless in
    rw (ends, c.as_slice-items.ensures.value, tried.marks, tried.whole) (entered_alike (holding_between d.kind (held_by k) items) 0 (ends_of d.kind items) clean.ends_entered)

pub plan_of-requires-clause-run_cells : goal.plan_of-requires-clause-run_cells
plan_of-requires-clause-run_cells c =
    let k = c.args.known.now in
    let host = c.args.host in
    let d = c.args.directive.now in
    let w = c.self.inside in
    let ps = drafted k.table.now w.draft in
    let tried : IsTried k host d (seen w) = rw (← c.self.view_is) at c.requires.tried in
    let made = (rw c.kind-kind.ensures at c.in_ok-run.ensures.run) ∙ ap (λ ys. run_in (loop_in d.kind) ys ps) (c.as_slice-items.ensures.value ∙ tried.whole) in
    rw made (run_cells (loop_in d.kind) (items_by k host d) ps (is_clean k host d c.requires.known tried.draft.table tried.faultless).cells)

pub plan_of-requires-clause-cells : goal.plan_of-requires-clause-cells
plan_of-requires-clause-cells c =
    let k = c.args.known.now in
    let host = c.args.host in
    let d = c.args.directive.now in
    let w = c.self.inside in
    let items = items_by k host d in
    let h = held_by k in
    let tried : IsTried k host d (seen w) = rw (← c.self.view_is) at c.requires.tried in
    let ps = drafted k.table.now w.draft in
    let clean = is_clean k host d c.requires.known tried.draft.table tried.faultless in
    let ends : c.ends_of-ends.result.now ≡ ends_of d.kind w.items.items = (rw c.kind-kind.ensures at c.ends_of-ends.ensures) ∙ ap (ends_of d.kind) c.as_slice-items.ensures.value in
    let steps : c.as_slice.result.now ≡ all_steps d.kind h items =
    steps_made d.kind h ps w.items.items items c.ends_of-ends.result.now w.steps.items c.as_slice.result.now
    tried.became tried.marks ends tried.whole (c.as_slice.ensures.value ∙ c.leave_all.ensures.steps) in
    rw steps (steps_cells d.kind h items clean.cells clean.ends_cells)

pub returns-clause-label : goal.returns-clause-label
returns-clause-label c = λ notes noted.
    let k = c.args.known.now in
    let host = c.args.host in
    let d = c.args.directive.now in
    let w = c.self.inside in
    let items = items_by k host d in
    let h = held_by k in
    let here = c.as_slice-items.ensures.value in
    let tried : IsTried k host d (seen w) = rw (← c.self.view_is) at c.requires.tried in
    let ps = drafted k.table.now w.draft in
    let ends : c.ends_of-ends.result.now ≡ ends_of d.kind w.items.items = (rw c.kind-kind.ensures at c.ends_of-ends.ensures) ∙ ap (ends_of d.kind) here in
    let steps : c.as_slice.result.now ≡ all_steps d.kind h items =
    steps_made d.kind h ps w.items.items items c.ends_of-ends.result.now w.steps.items c.as_slice.result.now
    tried.became tried.marks ends tried.whole (c.as_slice.ensures.value ∙ c.leave_all.ensures.steps) in
    let made = (rw c.kind-kind.ensures at c.in_ok-run.ensures.run) ∙ ap (λ ys. run_in (loop_in d.kind) ys ps) here in
    let run : option_to_list c.in_ok-run.run' ≡ run_in (loop_in d.kind) items (holding_between d.kind h items).presences =
    run_made d.kind h ps w.items.items items (option_to_list c.in_ok-run.run') tried.marks tried.whole made in
    let behind : List OpLabel → List Marked → Type 0 =
    λ run_ops ts. IfOk c.plan_of.result (λ q. q.label ≡ label_for k.at (next_in k) host c.args.items_done (behind_noted k notes d (marked_ops run_ops ts) ts)) in
    let loop = run_in (loop_in d.kind) items (holding_between d.kind h items).presences in
    subst (λ (ts : List Marked). behind loop ts) steps (subst (λ (os : List OpLabel). behind os c.as_slice.result.now) run (c.plan_of.ensures.label notes noted))

pub returns-clause-answer : goal.returns-clause-answer
returns-clause-answer c =
    let k = c.args.known.now in
    let host = c.args.host in
    let d = c.args.directive.now in
    let tried : IsTried k host d (seen c.self.inside) = rw (← c.self.view_is) at c.requires.tried in
    let own : c.as_slice-items.result.now ≡ items_by k host d = c.as_slice-items.ensures.value ∙ tried.whole in
    let present : c.is_answered-present.result ≡ is_answered d.kind k.table.now.presences (items_by k host d) =
    (rw c.kind-kind.ensures at c.is_answered-present.ensures) ∙ ap (is_answered d.kind k.table.now.presences) own in
    subst (λ (b : Bool). IfOk c.plan_of.result (λ q. q.answer ≡ placed_by k d q.label b)) present c.plan_of.ensures.answer

pub returns-clause-region : goal.returns-clause-region
returns-clause-region c =
    let k = c.args.known.now in
    let host = c.args.host in
    let d = c.args.directive.now in
    let w = c.self.inside in
    let items = items_by k host d in
    let h = held_by k in
    let tried : IsTried k host d (seen w) = rw (← c.self.view_is) at c.requires.tried in
    let ps = drafted k.table.now w.draft in
    let ends : c.ends_of-ends.result.now ≡ ends_of d.kind w.items.items = (rw c.kind-kind.ensures at c.ends_of-ends.ensures) ∙ ap (ends_of d.kind) c.as_slice-items.ensures.value in
    let steps : c.as_slice.result.now ≡ all_steps d.kind h items =
    steps_made d.kind h ps w.items.items items c.ends_of-ends.result.now w.steps.items c.as_slice.result.now
    tried.became tried.marks ends tried.whole (c.as_slice.ensures.value ∙ c.leave_all.ensures.steps) in
    subst (λ (ts : List Marked). IfOk c.plan_of.result (λ q. q.region ≡ opened_region host d d.kind (counted_steps ts))) steps c.plan_of.ensures.region
