use Rattle.std.proofs.Common.{◌≡◌, true, false, length, take, sym, ap, ◌∙◌, arith}
use Rattle.std.specs.Prelude.{is_some}
use Rattle.acc_present.specs.declared.entry.TheConstants.{COUNTER_LIMIT}
use Rattle.acc_present.specs.Drafts.{drafted, IsDraft}
use Rattle.acc_base.specs.Configurations.{lengths_of}
use Rattle.acc_place.specs.Standings.{loop_in}
use Rattle.acc_place.specs.inner.Trials.{held_by, items_by, items_fault, IsTried}
use Rattle.acc_place.specs.inner.Judging.{holding, holding_after_all, limit_fault, first_fault_in, past_fault, StaysBy}
use Rattle.acc_place.proofs.AcceptedDirective.{is_within}
use Rattle.acc_place.proofs.EnteredRanges.{entered_subject}
use Rattle.acc_place.proofs.TriedDirective.{all_put, first_or, given_none, if_none, limit_put, none_first, none_of}
use Rattle.acc_place.proofs.WalkItem.{AllLow-fewer}
use Rattle.acc_place.proofs.trial.Trial.judge.Goals as goal

pub returns-then-is_some-clause-fault : goal.returns-then-is_some-clause-fault
returns-then-is_some-clause-fault c =
    let k = c.args.known.now in
    let host = c.args.host in
    let d = c.args.directive.now in
    let xs = c.as_slice-items.result.now in
    let put : xs ≡ take 17 (items_by k host d) = c.as_slice-items.ensures.value ∙ c.put_items.ensures.items in
    let limit = limit_fault k.accepted k.regions.now host d (length (items_by k host d)) in
    let some : is_some c.limit_fault-limit.result ≡ true = cc in
    first_or c.limit_fault-limit.result limit (items_fault k host d) (c.limit_fault-limit.ensures ∙ limit_put k host d xs put) some

pub judge_all-found-requires-clause-low : goal.judge_all-found-requires-clause-low
judge_all-found-requires-clause-low c =
    let k = c.args.known.now in
    let xs = c.as_slice-items.result.now in
    let none : is_some c.limit_fault-limit.result ≡ false = cc in
    let within = is_within k.accepted k.regions.now c.args.host c.args.directive.now (length xs) (sym c.limit_fault-limit.ensures ∙ none_of c.limit_fault-limit.result none) in
    rw c.begin.ensures.drafted (AllLow-fewer COUNTER_LIMIT COUNTER_LIMIT 16 (length xs) k.table.now.presences (omega (arith, within.short)) c.requires.known.low)

pub judge_all-found-requires-clause-few : goal.judge_all-found-requires-clause-few
judge_all-found-requires-clause-few c =
    let k = c.args.known.now in
    let xs = c.as_slice-items.result.now in
    let none : is_some c.limit_fault-limit.result ≡ false = cc in
    let within = is_within k.accepted k.regions.now c.args.host c.args.directive.now (length xs) (sym c.limit_fault-limit.ensures ∙ none_of c.limit_fault-limit.result none) in
    omega (arith, within.short, c.requires.known.few)

pub judge_all-found-requires-clause-entered : goal.judge_all-found-requires-clause-entered
judge_all-found-requires-clause-entered c =
    let k = c.args.known.now in
    let host = c.args.host in
    let d = c.args.directive.now in
    let xs = c.as_slice-items.result.now in
    let put : xs ≡ take 17 (items_by k host d) = c.as_slice-items.ensures.value ∙ c.put_items.ensures.items in
    let none : is_some c.limit_fault-limit.result ≡ false = cc in
    let own = all_put k host d xs put (sym c.limit_fault-limit.ensures ∙ none_of c.limit_fault-limit.result none) in
    rw (c.kind-kind.ensures, c.begin.ensures.drafted, own)
    (entered_subject (lengths_of k.config.now.arrays) k.regions.now host d d.kind k.table.now.presences k.opened c.begin.ensures.draft.table
    (rw (← c.requires.device) c.requires.known.entered))

pub returns-then-is_some-2-clause-fault : goal.returns-then-is_some-2-clause-fault
returns-then-is_some-2-clause-fault c =
    let k = c.args.known.now in
    let host = c.args.host in
    let d = c.args.directive.now in
    let xs = c.as_slice-items.result.now in
    let items = items_by k host d in
    let put : xs ≡ take 17 items = c.as_slice-items.ensures.value ∙ c.put_items.ensures.items in
    let no_limit : is_some c.limit_fault-limit.result ≡ false = cc in
    let none = sym c.limit_fault-limit.ensures ∙ none_of c.limit_fault-limit.result no_limit in
    let own = all_put k host d xs put none in
    let some : is_some c.judge_all-found.result ≡ true = cc in
    let found : c.judge_all-found.result ≡ first_fault_in k.config.now d.kind (held_by k) items = rw (c.kind-kind.ensures, c.begin.ensures.drafted, own) at c.judge_all-found.ensures.fault in
    first_or c.judge_all-found.result (first_fault_in k.config.now d.kind (held_by k) items) (past_fault (loop_in d.kind) items) found some
    ∙ sym (none_first (limit_fault k.accepted k.regions.now host d (length items)) (items_fault k host d) (sym (limit_put k host d xs put) ∙ none))

pub returns-clause-fault : goal.returns-clause-fault
returns-clause-fault c =
    let k = c.args.known.now in
    let host = c.args.host in
    let d = c.args.directive.now in
    let xs = c.as_slice-items.result.now in
    let items = items_by k host d in
    let put : xs ≡ take 17 items = c.as_slice-items.ensures.value ∙ c.put_items.ensures.items in
    let no_limit : is_some c.limit_fault-limit.result ≡ false = cc in
    let none = sym c.limit_fault-limit.ensures ∙ none_of c.limit_fault-limit.result no_limit in
    let own = all_put k host d xs put none in
    let no_fault : is_some c.judge_all-found.result ≡ false = cc in
    let found : c.judge_all-found.result ≡ first_fault_in k.config.now d.kind (held_by k) items = rw (c.kind-kind.ensures, c.begin.ensures.drafted, own) at c.judge_all-found.ensures.fault in
    let past : c.past_fault.result ≡ past_fault (loop_in d.kind) items = (rw c.kind-kind.ensures at c.past_fault.ensures.fault) ∙ ap (past_fault (loop_in d.kind)) own in
    past
    ∙ (sym (none_first (first_fault_in k.config.now d.kind (held_by k) items) (past_fault (loop_in d.kind) items) (sym found ∙ none_of c.judge_all-found.result no_fault))
    ∙ sym (none_first (limit_fault k.accepted k.regions.now host d (length items)) (items_fault k host d) (sym (limit_put k host d xs put) ∙ none)))

pub returns-clause-tried : goal.returns-clause-tried
returns-clause-tried c =
    let k = c.args.known.now in
    let host = c.args.host in
    let d = c.args.directive.now in
    let t = k.table.now in
    let xs = c.as_slice-items.result.now in
    let items = items_by k host d in
    let here = c.as_slice-items.ensures.value in
    let put : xs ≡ take 17 items = here ∙ c.put_items.ensures.items in
    let no_limit : is_some c.limit_fault-limit.result ≡ false = cc in
    let none = sym c.limit_fault-limit.ensures ∙ none_of c.limit_fault-limit.result no_limit in
    let own = all_put k host d xs put none in
    let no_fault : is_some c.judge_all-found.result ≡ false = cc in
    let found = none_of c.judge_all-found.result no_fault in
    let walked = c.judge_all-found.ensures in
    let after = c.judge_all-found.new.draft in
    let before = holding (drafted t c.begin.new.self) k.opened in
    let marks = given_none (drafted t after ≡ (holding_after_all d.kind before xs).presences) c.judge_all-found.result found (rw c.kind-kind.ensures at walked.drafted) in
    let changed = given_none _ c.judge_all-found.result found walked.changed in
    let became = given_none _ c.judge_all-found.result found (rw c.kind-kind.ensures at walked.steps) in
    if_none (IsTried k host d (record { draft = after; steps = c.judge_all-found.new.steps.items; items = c.put_items.new.into.items })) c.past_fault.result
    (λ no_past. record {
      faultless = sym (returns-clause-fault c) ∙ no_past;
      whole = sym here ∙ own;
      stays = rw (← here) (given_none (StaysBy d.kind xs) c.past_fault.result no_past (rw c.kind-kind.ensures at c.past_fault.ensures.stays));
      draft = given_none (IsDraft t after) c.judge_all-found.result found walked.draft;
      marks = rw (← here) (rw c.begin.ensures.drafted at marks);
      changed = omega (arith, changed, ap length c.begin.ensures.changed, ap length here);
      became = rw (← here) (rw (c.begin.ensures.drafted, c.clear.ensures.items) at became);
    })
