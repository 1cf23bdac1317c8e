use Rattle.std.proofs.Common.{◌∙◌, sym, rules, tests}
use Rattle.std.proofs.lemmas.Iterator.{YieldsList-from_slice}
use Rattle.std.proofs.lemmas.Iterator.Search.{any_from_yields_List}
use Rattle.acc_base.specs.Ranges.{range_overlaps}
use Rattle.acc_present.specs.declared.held.Held.{Held}
use Rattle.acc_present.specs.Presences.{Presence}
use Rattle.acc_present.specs.Tables.{held_presence}
use Rattle.acc_present.proofs.OverlapsBeside.{list_any-map}
use Rattle.acc_present.proofs.held.overlaps_one.Goals as goal

pub returns : goal.returns
returns c =
    let es = c.args.held.now in
    any_from_yields_List (λ (e : Held). range_overlaps e.range c.args.range) _ _ _ c.any.ensures.ran (YieldsList-from_slice es cc) (λ x b q k. search (rules, tests))
    ∙ sym (list_any-map (λ (p : Presence). range_overlaps p.range c.args.range) held_presence es)
