use Rattle.std.proofs.Common.{◌≡◌, ◌∙◌, true, false, reverse, sym, arith}
use Rattle.std.proofs.lemmas.List.{length-reverse}
use Rattle.acc_core.specs.Worlds.{first_state}
use Rattle.acc_explore.specs.Runs.{after}
use Rattle.acc_explore.proofs.ArrivalPaths.{events_lead}
use Rattle.acc_explore.proofs.GoingFirst.{nobody_after, nobody_at_first}
use Rattle.acc_explore.proofs.SearchSteps.{searched}
use Rattle.acc_explore.proofs.search.explore.Goals as goal

pub returns-then-depth-deepest-clause-found : goal.returns-then-depth-deepest-clause-found
returns-then-depth-deepest-clause-found g c =
    let start = after (first_state c.args.config.now c.args.programs.now) c.args.before.now in
    let arrivals = c.loop-next.found.arrivals.items in
    rw (c.ended.ensures.arrivals, c.ended.ensures.ends, c.ended.ensures.followed, c.ended.ensures.whole)
    (searched c.args.closing c.args.most c.args.deepest start (reverse arrivals) c.loop-next.found.ends.items c.loop-next.next true
    (λ is low. omega (arith, (events_lead start (reverse arrivals) c.loop-next.next).1, rw c.as_slice.ensures.value at c.depth.ensures, c.if-depth-deepest.true)) (λ is. cc) c.loop-next.invariant.shallow c.loop-next.invariant.followed)

pub returns-then-not-branch-clause-found : goal.returns-then-not-branch-clause-found
returns-then-not-branch-clause-found g c =
    let start = after (first_state c.args.config.now c.args.programs.now) c.args.before.now in
    let no : c.in_ok-follow_enough.field-0 ≡ false = c.if-not-branch.true in
    rw (c.ended-then-not-branch.ensures.arrivals, c.ended-then-not-branch.ensures.ends, c.ended-then-not-branch.ensures.followed, c.ended-then-not-branch.ensures.whole)
    (searched c.args.closing c.args.most c.args.deepest start (reverse c.follow_enough.new.found.arrivals.items) c.follow_enough.new.found.ends.items c.loop-next.next false (λ is. cc)
    (λ is. omega (arith, c.in_ok-follow_enough.ensures.full no, length-reverse c.follow_enough.new.found.arrivals.items))
    (λ n low. omega (arith, c.in_ok-follow_enough.ensures.near n low, (events_lead start (reverse c.loop-next.found.arrivals.items) c.loop-next.next).1, rw c.as_slice.ensures.value at c.depth.ensures, c.if-depth-deepest.false))
    (rw no at c.in_ok-follow_enough.ensures.followed))

pub returns-clause-found : goal.returns-clause-found
returns-clause-found g c =
    let start = after (first_state c.args.config.now c.args.programs.now) c.args.before.now in
    let f = c.loop-next.invariant.followed in
    let arrivals = c.loop-next.found.arrivals.items in
    rw (c.ended-2.ensures.arrivals, c.ended-2.ensures.ends, c.ended-2.ensures.followed, c.ended-2.ensures.whole)
    (searched c.args.closing c.args.most c.args.deepest start (reverse arrivals) c.loop-next.found.ends.items c.loop-next.next true
    (λ is low. absurd (omega (arith, low, c.loop-next-test.false, length-reverse arrivals))) (λ is. cc) c.loop-next.invariant.shallow f)

pub follow_enough-requires-clause-asked : goal.follow_enough-requires-clause-asked
follow_enough-requires-clause-asked g c = λ unasked.
    nobody_after c.args.before.now (first_state c.args.config.now c.args.programs.now)
    (sym (nobody_at_first c.args.config.now c.args.programs.now) ∙ (sym c.nobody_asks.ensures ∙ unasked))

pub loop-next-preserved-then-next-eq0 : goal.loop-next-preserved-then-next-eq0
loop-next-preserved-then-next-eq0 g c =
    let start = after (first_state c.args.config.now c.args.programs.now) c.args.before.now in
    record {
      followed = rw c.if-not-branch.false at c.in_ok-follow_enough.ensures.followed;
      worlds = c.in_ok-follow_enough.ensures.worlds;
      shallow = λ n low. omega (arith, c.in_ok-follow_enough.ensures.near n low, (events_lead start (reverse c.loop-next.found.arrivals.items) c.loop-next.next).1, rw c.as_slice.ensures.value at c.depth.ensures, c.if-depth-deepest.false);
    }

pub loop-next-preserved : goal.loop-next-preserved
loop-next-preserved g c =
    let start = after (first_state c.args.config.now c.args.programs.now) c.args.before.now in
    record {
      followed = rw c.if-not-branch.false at c.in_ok-follow_enough.ensures.followed;
      worlds = c.in_ok-follow_enough.ensures.worlds;
      shallow = λ n low. omega (arith, c.in_ok-follow_enough.ensures.near n low, (events_lead start (reverse c.loop-next.found.arrivals.items) c.loop-next.next).1, rw c.as_slice.ensures.value at c.depth.ensures, c.if-depth-deepest.false);
    }
