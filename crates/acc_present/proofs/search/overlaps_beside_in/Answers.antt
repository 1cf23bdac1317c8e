use Rattle.std.proofs.Common.{map, sym, subst, ◌∙◌}
use Rattle.acc_present.specs.Tables.{held_presence}
use Rattle.acc_present.proofs.OverlapsBeside.{GoesOn, stops_here}
use Rattle.acc_present.proofs.search.overlaps_beside_in.Goals as goal

pub returns-then-stands_before : goal.returns-then-stands_before
returns-then-stands_before c =
    let cs = map held_presence c.args.changed.now in let es = c.args.entries in let r = c.args.range in
    sym (stops_here cs es c.next.new.self r c.in-Some.entry.now (subst (λ l. GoesOn cs es l r) c.in-Some.ensures.steps c.loop-entry.invariant.2)
    (sym c.overlaps.ensures.bounds ∙ c.if-overlaps.false) (sym c.stands_before.ensures ∙ c.if-stands_before.true))
