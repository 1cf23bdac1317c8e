use Rattle.std.proofs.Common.{◌≡◌, ◌<◌, List, [], ◌∷◌, ◌++◌, get_or, drop, Some, sym, ap, ◌∙◌, arith, rules, append_assoc}
use Rattle.acc_present.specs.Drafts.{drafted}
use Rattle.acc_present.specs.declared.change.Change.TheVariants.{StructuredDown}
use Rattle.acc_place.specs.declared.directive.Clause.TheVariants.{Copy}
use Rattle.acc_place.specs.declared.directive.DataItem.{DataItem}
use Rattle.acc_place.specs.declared.directive.Kind.TheVariants.{EndData}
use Rattle.acc_place.specs.declared.marked.Marked.{Marked}
use Rattle.acc_place.specs.inner.Judging.{holding, holding_with, marked_in, all_marked, AllEntered}
use Rattle.acc_place.proofs.WalkItem.{rest_of, rest_is, length-rest, left_is, all_rest, all_marked-next, entered-next}
use Rattle.acc_place.proofs.judge.+leave_all.Goals as goal

abbrev no_item : DataItem
no_item = record { clause = Copy; range = record { array = 0; lo = 0; len = 0 } }

pub leave_all-requires : goal.leave_all-requires
leave_all-requires t c =
    let down = EndData in
    let items = c.args.items.now in
    let item = get_or items 0 no_item in
    let ps = drafted c.args.table.now c.args.draft.now in
    let qs = drafted c.args.table.now c.mark.new.draft in
    let some = c.in-len1-up.len_at_least in
    let after = left_is ps qs 0 item.range c.mark.ensures.drafted in
    let entered : AllEntered down (holding qs 0) (rest_of items) = rw (after, rest_is items) (entered-next down (holding ps 0) items no_item some c.requires.entered) in
    let fewer = length-rest items some in (
      search rules,
      (
        c.mark.ensures.draft,
        (
          omega (arith, fewer, c.mark.ensures.changed, c.mark.ensures.draft_room, c.requires.draft_room),
          (
            all_rest (λ (i : DataItem). 0 < i.range.len) items c.requires.cells,
            (entered, omega (arith, fewer, c.push_reserved.ensures.len, c.push_reserved.ensures.capacity, c.requires.step_room)),
          ),
        ),
      ),
    )

-- the steps of the others stand behind the first item's
steps_on : (had pushed made rest all : List Marked) (first : Marked) → pushed ≡ had ++ first ∷ [] → made ≡ pushed ++ rest → all ≡ first ∷ rest → made ≡ had ++ all
steps_on had pushed made rest all first push is split = is ∙ (ap (λ xs. xs ++ rest) push ∙ (append_assoc had (first ∷ []) rest ∙ ap (λ xs. had ++ xs) (sym split)))

pub returns-in-len1-up-clause-steps : goal.returns-in-len1-up-clause-steps
returns-in-len1-up-clause-steps t c =
    let down = EndData in
    let items = c.args.items.now in
    let item = get_or items 0 no_item in
    let ps = drafted c.args.table.now c.args.draft.now in
    let qs = drafted c.args.table.now c.mark.new.draft in
    let h = holding ps 0 in
    let after = left_is ps qs 0 item.range c.mark.ensures.drafted in
    let rest = all_marked down (holding qs 0) (rest_of items) in
    let same : rest ≡ all_marked down (holding_with down item h) (drop 1 items) =
    ap (λ g. all_marked down g (rest_of items)) after ∙ ap (all_marked down (holding_with down item h)) (rest_is items) in
    let split : all_marked down h items ≡ c.mark.result ∷ rest =
    all_marked-next down h items no_item c.in-len1-up.len_at_least
    ∙ (ap (λ xs. marked_in (Some StructuredDown) h item ∷ xs) (sym same) ∙ ap (λ x. x ∷ rest) (sym c.mark.ensures.result)) in
    steps_on c.args.steps.now.items c.push_reserved.new.self.items c.leave_all.new.steps.items rest (all_marked down h items) c.mark.result
    c.push_reserved.ensures.items c.leave_all.ensures.steps split
