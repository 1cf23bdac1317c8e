use Rattle.std.proofs.Common.{◌≡◌, List, [], ◌∷◌, ◌++◌, length, get_or, drop, Option, Some, None, sym, ap, ◌∙◌, arith, rules, append_assoc}
use Rattle.std.specs.Prelude.{is_some, IfNone}
use Rattle.acc_present.specs.Drafts.{drafted}
use Rattle.acc_present.specs.declared.entry.TheConstants.{COUNTER_LIMIT}
use Rattle.acc_place.specs.declared.directive.Clause.TheVariants.{Copy}
use Rattle.acc_place.specs.declared.directive.DataItem.{DataItem}
use Rattle.acc_place.specs.declared.marked.Marked.{Marked}
use Rattle.acc_present.specs.Presences.{Presence}
use Rattle.acc_place.specs.inner.Judging.{Holding, change_in, holding, holding_with, holding_after_all, first_fault_in, marked_in, all_marked, AllEntered, AllLow}
use Rattle.acc_place.proofs.WalkItem.{rest_of, rest_is, length-rest, holding_is, holding-next, first_fault-next, all_marked-next, entered-next, AllLow-fewer, low_rest, opened-most}
use Rattle.acc_place.proofs.judge.+judge_all.Goals as goal

abbrev no_item : DataItem
no_item = record { clause = Copy; range = record { array = 0; lo = 0; len = 0 } }

pub visit-requires-clause-low : goal.visit-requires-clause-low
visit-requires-clause-low t c =
    let n = length c.args.items.now in
    AllLow-fewer COUNTER_LIMIT COUNTER_LIMIT n 1 (drafted c.args.known.now.table.now c.args.draft.now) (omega (arith, c.in-len1-up.len_at_least)) c.requires.low

pub judge_all-requires : goal.judge_all-requires
judge_all-requires t c =
    let k = c.args.kind.now in
    let items = c.args.items.now in
    let item = get_or items 0 no_item in
    let ps = drafted c.args.known.now.table.now c.args.draft.now in
    let change = change_in k ps item in
    let qs = drafted c.args.known.now.table.now c.visit.new.draft in
    let h = holding ps c.args.opened in
    let next = c.opened_after-next.result in
    let some = c.in-len1-up.len_at_least in
    let made = c.in-Ok.ensures.drafted in
    let low : AllLow COUNTER_LIMIT (length (rest_of items)) qs = rw (rest_is items) (low_rest change ps qs item.range items c.args.opened c.requires.low some c.requires.few made) in
    let after = holding_is change ps qs c.args.opened next item c.in-Ok.marked made c.in-Ok.ensures.marked c.opened_after-next.ensures in
    let entered : AllEntered k (holding qs next) (rest_of items) = rw (after, rest_is items) (entered-next k h items no_item some c.requires.entered) in
    let fewer = length-rest items some in
    let most = opened-most (is_some c.in-Ok.marked.opened) c.args.opened in (
      search rules,
      (
        c.requires.capacity,
        (
          c.in-Ok.ensures.draft,
          (
            omega (arith, fewer, c.in-Ok.ensures.changed, c.in-Ok.ensures.draft_room, c.requires.draft_room),
            (
              low,
              (
                omega (arith, fewer, most, c.opened_after-next.ensures, c.requires.few),
                (entered, omega (arith, fewer, c.push_reserved.ensures.len, c.push_reserved.ensures.capacity)),
              ),
            ),
          ),
        ),
      ),
    )

drafted_on : {X : Type 0} (fault : Option X) (ps : List Presence) (h g : Holding) → h ≡ g → IfNone fault (ps ≡ h.presences) → IfNone fault (ps ≡ g.presences)
drafted_on None ps h g same is = is ∙ ap (λ (x : Holding). x.presences) same
drafted_on (Some x) ps h g same is = tt

pub returns-in-Ok-clause-drafted : goal.returns-in-Ok-clause-drafted
returns-in-Ok-clause-drafted t c =
    let k = c.args.kind.now in
    let items = c.args.items.now in
    let item = get_or items 0 no_item in
    let ps = drafted c.args.known.now.table.now c.args.draft.now in
    let change = change_in k ps item in
    let qs = drafted c.args.known.now.table.now c.visit.new.draft in
    let h = holding ps c.args.opened in
    let next = c.opened_after-next.result in
    let after = holding_is change ps qs c.args.opened next item c.in-Ok.marked c.in-Ok.ensures.drafted c.in-Ok.ensures.marked c.opened_after-next.ensures in
    let same : holding_after_all k (holding qs next) (rest_of items) ≡ holding_after_all k h items =
    ap (λ g. holding_after_all k g (rest_of items)) after
    ∙ (ap (holding_after_all k (holding_with k item h)) (rest_is items) ∙ sym (holding-next k h items no_item c.in-len1-up.len_at_least)) in
    drafted_on c.judge_all.result (drafted c.args.known.now.table.now c.judge_all.new.draft) (holding_after_all k (holding qs next) (rest_of items)) (holding_after_all k h items) same c.judge_all.ensures.drafted

pub returns-in-Ok-clause-fault : goal.returns-in-Ok-clause-fault
returns-in-Ok-clause-fault t c =
    let k = c.args.kind.now in
    let config = c.args.known.now.config.now in
    let items = c.args.items.now in
    let item = get_or items 0 no_item in
    let ps = drafted c.args.known.now.table.now c.args.draft.now in
    let change = change_in k ps item in
    let qs = drafted c.args.known.now.table.now c.visit.new.draft in
    let h = holding ps c.args.opened in
    let after = holding_is change ps qs c.args.opened c.opened_after-next.result item c.in-Ok.marked c.in-Ok.ensures.drafted c.in-Ok.ensures.marked c.opened_after-next.ensures in
    c.judge_all.ensures.fault
    ∙ (ap (λ g. first_fault_in config k g (rest_of items)) after
    ∙ (ap (first_fault_in config k (holding_with k item h)) (rest_is items)
    ∙ sym (first_fault-next config k h items no_item c.in-len1-up.len_at_least c.in-Ok.ensures.fine)))

-- where the others have no fault, their steps stand behind the first item's
steps_on : {X : Type 0} (fault : Option X) (had pushed made rest all : List Marked) (first : Marked) → pushed ≡ had ++ first ∷ [] → IfNone fault (made ≡ pushed ++ rest) → all ≡ first ∷ rest → IfNone fault (made ≡ had ++ all)
steps_on None had pushed made rest all first push is split = is ∙ (ap (λ xs. xs ++ rest) push ∙ (append_assoc had (first ∷ []) rest ∙ ap (λ xs. had ++ xs) (sym split)))
steps_on (Some x) had pushed made rest all first push is split = tt

pub returns-in-Ok-clause-steps : goal.returns-in-Ok-clause-steps
returns-in-Ok-clause-steps t c =
    let k = c.args.kind.now in
    let items = c.args.items.now in
    let item = get_or items 0 no_item in
    let ps = drafted c.args.known.now.table.now c.args.draft.now in
    let change = change_in k ps item in
    let qs = drafted c.args.known.now.table.now c.visit.new.draft in
    let h = holding ps c.args.opened in
    let next = c.opened_after-next.result in
    let after = holding_is change ps qs c.args.opened next item c.in-Ok.marked c.in-Ok.ensures.drafted c.in-Ok.ensures.marked c.opened_after-next.ensures in
    let rest = all_marked k (holding qs next) (rest_of items) in
    let same : rest ≡ all_marked k (holding_with k item h) (drop 1 items) =
    ap (λ g. all_marked k g (rest_of items)) after ∙ ap (all_marked k (holding_with k item h)) (rest_is items) in
    let split : all_marked k h items ≡ c.in-Ok.marked ∷ rest =
    all_marked-next k h items no_item c.in-len1-up.len_at_least
    ∙ (ap (λ xs. marked_in change h item ∷ xs) (sym same) ∙ ap (λ x. x ∷ rest) (sym c.in-Ok.ensures.marked)) in
    steps_on c.judge_all.result c.args.steps.now.items c.push_reserved.new.self.items c.judge_all.new.steps.items rest (all_marked k h items) c.in-Ok.marked
    c.push_reserved.ensures.items c.judge_all.ensures.steps split
