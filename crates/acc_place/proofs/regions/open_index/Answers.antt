use Rattle.std.proofs.Common.{rules, tests}
use Rattle.std.proofs.lemmas.Iterator.{YieldsList-from_slice}
use Rattle.std.proofs.lemmas.Iterator.Search.{position_from_yields_List}
use Rattle.acc_place.proofs.OpenRegion.{is_of, open_at, without_at}
use Rattle.acc_place.proofs.regions.open_index.Goals as goal

pub returns-clause-found : goal.returns-clause-found
returns-clause-found c =
    let rs = c.args.regions.now in
    open_at c.args.host rs c.position.result
    (position_from_yields_List (is_of c.args.host) _ _ _ c.position.ensures.ran (YieldsList-from_slice rs cc) (λ x b q k. search (rules, tests)))

pub returns-clause-without : goal.returns-clause-without
returns-clause-without c =
    let rs = c.args.regions.now in
    without_at c.args.host rs c.position.result
    (position_from_yields_List (is_of c.args.host) _ _ _ c.position.ensures.ran (YieldsList-from_slice rs cc) (λ x b q k. search (rules, tests)))
