use Rattle.std.proofs.Common.{◌∙◌, sym, rules, tests}
use Rattle.std.specs.Prelude.{◌&&◌}
use Rattle.std.proofs.lemmas.Iterator.{YieldsList-from_slice}
use Rattle.std.proofs.lemmas.Iterator.Search.{any_from_yields_List}
use Rattle.acc_base.specs.Ranges.{range_overlaps}
use Rattle.acc_present.specs.declared.held.Held.{Held}
use Rattle.acc_present.specs.Tables.{held_presence, has_count}
use Rattle.acc_present.proofs.DraftShows.{overlaps_any-counted}
use Rattle.acc_present.proofs.draft.overlaps_counted.Goals as goal

pub returns : goal.returns
returns c =
    let es = c.args.changed.now in
    any_from_yields_List (λ (e : Held). has_count (held_presence e) && range_overlaps e.range c.args.range) _ _ _ c.any.ensures.ran (YieldsList-from_slice es cc) (λ x b q k. search (rules, tests))
    ∙ sym (overlaps_any-counted es c.args.range)
