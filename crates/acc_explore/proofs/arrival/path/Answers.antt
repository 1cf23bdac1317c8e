use Rattle.std.proofs.Common.{◌≡◌, ◌+◌, ◌-◌, ◌∷◌, [], ◌++◌, take, reverse, refl, sym, ap, ◌∙◌, arith}
use Rattle.std.proofs.lemmas.List.{take_more}
use Rattle.acc_explore.specs.Arrivals.{events_to}
use Rattle.acc_explore.proofs.ArrivalPaths.{path_alone, path_more, path_step, zero_there}
use Rattle.acc_explore.proofs.arrival.path.Goals as goal

pub loop-left-preserved-then-from-left : goal.loop-left-preserved-then-from-left
loop-left-preserved-then-from-left c =
    let arrivals = c.args.arrivals.now in
    let left = c.loop-left.left in
    let n = left - 1 in
    let a = c.index-arrivals-left.result in
    let i = c.loop-left.invariant in
    let next : n + 1 ≡ left = omega (arith, c.loop-left-test.true) in
    let more : take (n + 1) arrivals ≡ take n arrivals ++ a ∷ [] =
    take_more arrivals n a (omega (arith, i.low, c.loop-left-test.true)) ∙ ap (λ x. take n arrivals ++ x ∷ []) (sym c.index-arrivals-left.is) in
    let path = path_more arrivals n a (omega (arith, i.low, c.loop-left-test.true)) more a.from refl (omega (arith, c.if-from-left.true)) in
    record {
      low = omega (arith, i.low, c.if-from-left.true);
      path = path_step (events_to (reverse arrivals) a.from) (events_to (reverse arrivals) left) a.by c.loop-left.events.items c.push.new.self.items (events_to (reverse arrivals) c.args.number)
          c.in_ok-push.ensures.items (ap (events_to (reverse arrivals)) (sym next) ∙ path) i.path;
    }

pub loop-left-preserved : goal.loop-left-preserved
loop-left-preserved c =
    let arrivals = c.args.arrivals.now in
    let left = c.loop-left.left in
    let n = left - 1 in
    let a = c.index-arrivals-left.result in
    let i = c.loop-left.invariant in
    let next : n + 1 ≡ left = omega (arith, c.loop-left-test.true) in
    let more : take (n + 1) arrivals ≡ take n arrivals ++ a ∷ [] =
    take_more arrivals n a (omega (arith, i.low, c.loop-left-test.true)) ∙ ap (λ x. take n arrivals ++ x ∷ []) (sym c.index-arrivals-left.is) in
    let path = path_alone arrivals n a (omega (arith, i.low, c.loop-left-test.true)) more (omega (arith, c.if-from-left.false, c.loop-left-test.true)) in
    record {
      low = omega arith;
      path = path_step (events_to (reverse arrivals) 0) (events_to (reverse arrivals) left) a.by c.loop-left.events.items c.push.new.self.items (events_to (reverse arrivals) c.args.number)
          c.in_ok-push.ensures.items (ap (events_to (reverse arrivals)) (sym next) ∙ path) i.path;
    }

pub returns-clause-events : goal.returns-clause-events
returns-clause-events c =
    let r = reverse c.args.arrivals.now in
    let zero : c.loop-left.left ≡ 0 = omega (arith, c.loop-left-test.false) in
    c.reverse.ensures.items
    ∙ (ap (λ xs. xs ++ reverse c.loop-left.events.items) (sym (ap (events_to r) zero ∙ zero_there r)) ∙ c.loop-left.invariant.path)
