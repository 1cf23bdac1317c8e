use Rattle.std.proofs.Common.{◌≡◌, ◌+◌, true, false, ap, ◌∙◌, arith}
use Rattle.acc_present.specs.Drafts.{drafted}
use Rattle.acc_base.specs.Configurations.{has_range}
use Rattle.acc_place.specs.Standings.{asked_item, change_where}
use Rattle.acc_place.specs.inner.Judging.{change_in, holding, marked_in, presences_by}
use Rattle.acc_place.proofs.FaultIn.{fault-outside, found_is, found_present, fine_item}
use Rattle.acc_place.proofs.WalkItem.{can_mark}
use Rattle.acc_place.proofs.judge.visit.Goals as goal

pub returns-then-not-has_range-clause-refused : goal.returns-then-not-has_range-clause-refused
returns-then-not-has_range-clause-refused c =
    let outside : has_range c.args.known.now.config.now.arrays c.args.item.now.range ≡ false = cc in
    fault-outside c.args.known.now.config.now c.args.kind.now (drafted c.args.known.now.table.now c.args.draft.now) c.args.item.now outside

pub mark-requires-clause-can : goal.mark-requires-clause-can
mark-requires-clause-can c =
    let config = c.args.known.now.config.now in
    let k = c.args.kind.now in
    let t = c.args.known.now.table.now in
    let d = c.args.draft.now in
    let item = c.args.item.now in
    let inside : has_range config.arrays item.range ≡ true = cc in
    let fault =
    found_is config k t d item c.look-found.result c.capacity.result c.used_cells.result c.found_fault.result inside c.look-found.ensures
    c.requires.draft c.requires.capacity c.capacity.ensures c.used_cells.ensures c.found_fault.ensures in
    let fine = fine_item config k (drafted t d) item (fault ∙ c.in-None.is) in
    let change : c.change_where-change.result ≡ change_in k (drafted t d) item =
    c.change_where-change.ensures ∙ ap (change_where (asked_item k item)) (c.is_found.ensures ∙ found_present c.look-found.result (drafted t d) item.range c.look-found.ensures) in
    rw (c.requires.capacity, change) (can_mark (change_in k (drafted t d) item) (drafted t d) item.range config.capacity 1 fine c.requires.entered c.requires.low (omega arith))

pub returns-in-Some-clause-refused : goal.returns-in-Some-clause-refused
returns-in-Some-clause-refused c =
    let config = c.args.known.now.config.now in
    let item = c.args.item.now in
    let inside : has_range config.arrays item.range ≡ true = cc in
    found_is config c.args.kind.now c.args.known.now.table.now c.args.draft.now item c.look-found.result c.capacity.result c.used_cells.result c.found_fault.result inside c.look-found.ensures
    c.requires.draft c.requires.capacity c.capacity.ensures c.used_cells.ensures c.found_fault.ensures
    ∙ c.in-Some.is

pub returns-in-None-clause-fine : goal.returns-in-None-clause-fine
returns-in-None-clause-fine c =
    let config = c.args.known.now.config.now in
    let item = c.args.item.now in
    let inside : has_range config.arrays item.range ≡ true = cc in
    found_is config c.args.kind.now c.args.known.now.table.now c.args.draft.now item c.look-found.result c.capacity.result c.used_cells.result c.found_fault.result inside c.look-found.ensures
    c.requires.draft c.requires.capacity c.capacity.ensures c.used_cells.ensures c.found_fault.ensures
    ∙ c.in-None.is

pub returns-in-None-clause-marked : goal.returns-in-None-clause-marked
returns-in-None-clause-marked c =
    let k = c.args.kind.now in
    let item = c.args.item.now in
    let ps = drafted c.args.known.now.table.now c.args.draft.now in
    let change : c.change_where-change.result ≡ change_in k ps item =
    c.change_where-change.ensures ∙ ap (change_where (asked_item k item)) (c.is_found.ensures ∙ found_present c.look-found.result ps item.range c.look-found.ensures) in
    c.mark.ensures.result ∙ ap (λ made. marked_in made (holding ps c.args.opened) item) change

pub returns-in-None-clause-drafted : goal.returns-in-None-clause-drafted
returns-in-None-clause-drafted c =
    let k = c.args.kind.now in
    let item = c.args.item.now in
    let ps = drafted c.args.known.now.table.now c.args.draft.now in
    let change : c.change_where-change.result ≡ change_in k ps item =
    c.change_where-change.ensures ∙ ap (change_where (asked_item k item)) (c.is_found.ensures ∙ found_present c.look-found.result ps item.range c.look-found.ensures) in
    c.mark.ensures.drafted ∙ ap (λ made. presences_by made item.range (c.args.opened + 1) ps) change
