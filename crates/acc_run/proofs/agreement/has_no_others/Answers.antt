use Rattle.std.proofs.Common.{sym, subst}
use Rattle.std.specs.Prelude.{All}
use Rattle.acc_run.specs.inner.Reading.{IsPlacedBelow}
use Rattle.acc_run.proofs.NoOthers.{all_below, no_others}
use Rattle.acc_run.proofs.agreement.has_no_others.Goals as goal

pub returns-then-are_placed_below : goal.returns-then-are_placed_below
returns-then-are_placed_below c =
    let p = c.args.place.now in
    let works = c.args.works.now.items in
    let hosts = c.args.hosts in
    let placed = subst (All (IsPlacedBelow hosts)) c.history.ensures.history (c.are_placed_below.ensures.0 c.if-are_placed_below.true) in
    (λ all. no_others p works hosts placed (c.are_shown_below.ensures.0 all), λ none. c.are_shown_below.ensures.1 (all_below p works hosts none).1)

pub returns-else-are_placed_below : goal.returns-else-are_placed_below
returns-else-are_placed_below c =
    let p = c.args.place.now in
    let hosts = c.args.hosts in
    let early = c.if-are_placed_below.false in (
      λ all. absurd (cc),
      λ none. c.are_placed_below.ensures.1 (subst (All (IsPlacedBelow hosts)) (sym c.history.ensures.history) (all_below p c.args.works.now.items hosts none).0),
    )
