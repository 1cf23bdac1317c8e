use Rattle.std.proofs.Common.{rules, tests}
use Rattle.std.proofs.lemmas.Iterator.{YieldsList-from_slice}
use Rattle.std.proofs.lemmas.Iterator.Search.{position_from_yields_List}
use Rattle.acc_present.proofs.DraftShows.{holds_counted, counted_at_first}
use Rattle.acc_present.proofs.draft.counted_index.Goals as goal

pub returns-clause-held : goal.returns-clause-held
returns-clause-held c =
    let es = c.args.changed.now in
    counted_at_first es c.args.range c.position.result
    (position_from_yields_List (holds_counted c.args.range) _ _ _ c.position.ensures.ran (YieldsList-from_slice es cc) (λ x b q k. search (rules, tests)))
