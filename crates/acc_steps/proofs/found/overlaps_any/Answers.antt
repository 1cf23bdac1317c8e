use Rattle.std.proofs.Common.{List, map, sym, ap, ◌∙◌}
use Rattle.acc_present.specs.declared.entry.Entry.{Entry}
use Rattle.acc_present.specs.Presences.{Presence, overlaps_any}
use Rattle.acc_present.specs.Tables.{entry_presence}
use Rattle.acc_steps.proofs.FoundRanges.{found_here, none_here}
use Rattle.acc_steps.proofs.found.overlaps_any.Goals as goal

pub returns-then-overlaps : goal.returns-then-overlaps
returns-then-overlaps c =
    let shown : List Entry → List Presence = map entry_presence in
    sym (c.loop-entry.invariant.2 ∙ found_here (entry_presence c.in-Some.entry.now) (shown c.loop-entry.entry-iterator) (shown c.next.new.self) c.args.range (ap shown c.in-Some.ensures.steps) (sym c.overlaps.ensures.bounds ∙ c.if-overlaps.true))

pub loop-entry-preserved : goal.loop-entry-preserved
loop-entry-preserved c =
    let shown : List Entry → List Presence = map entry_presence in
    (tt, tt, c.loop-entry.invariant.2 ∙ none_here (entry_presence c.in-Some.entry.now) (shown c.loop-entry.entry-iterator) (shown c.next.new.self) c.args.range (ap shown c.in-Some.ensures.steps) (sym c.overlaps.ensures.bounds ∙ c.if-overlaps.false))

pub returns : goal.returns
returns c = sym (c.loop-entry.invariant.2 ∙ ap (λ l. overlaps_any (map entry_presence l) c.args.range) c.in-None.ensures.steps.0)
