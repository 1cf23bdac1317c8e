use Rattle.std.proofs.Common.{◌≡◌, ◌+◌, ◌-◌, ◌∷◌, [], ◌++◌, length, take, reverse, refl, sym, ap, ◌∙◌, arith}
use Rattle.std.proofs.lemmas.List.{length-append, take_more}
use Rattle.acc_explore.specs.Arrivals.{events_to}
use Rattle.acc_explore.proofs.ArrivalPaths.{path_alone, path_more, zero_there}
use Rattle.acc_explore.proofs.arrival.depth.Goals as goal

pub loop-left-preserved-then-from-left : goal.loop-left-preserved-then-from-left
loop-left-preserved-then-from-left c =
    let arrivals = c.args.arrivals.now in
    let r = reverse arrivals in
    let left = c.loop-left.left in
    let n = left - 1 in
    let a = c.index-arrivals-left.result in
    let i = c.loop-left.invariant in
    let next : n + 1 ≡ left = omega (arith, c.loop-left-test.true) in
    let more : take (n + 1) arrivals ≡ take n arrivals ++ a ∷ [] =
    take_more arrivals n a (omega (arith, i.low, c.loop-left-test.true)) ∙ ap (λ x. take n arrivals ++ x ∷ []) (sym c.index-arrivals-left.is) in
    let path = path_more arrivals n a (omega (arith, i.low, c.loop-left-test.true)) more a.from refl (omega (arith, c.if-from-left.true)) in
    let whole : length (events_to r left) ≡ length (events_to r a.from ++ a.by ∷ []) = ap length (ap (events_to r) (sym next) ∙ path) in
    record {
      low = omega (arith, i.low, c.if-from-left.true);
      few = omega (arith, i.few, c.if-from-left.true);
      count = omega (arith, i.count, whole, length-append (events_to r a.from) (a.by ∷ []));
    }

pub loop-left-preserved : goal.loop-left-preserved
loop-left-preserved c =
    let arrivals = c.args.arrivals.now in
    let r = reverse arrivals in
    let left = c.loop-left.left in
    let n = left - 1 in
    let a = c.index-arrivals-left.result in
    let i = c.loop-left.invariant in
    let next : n + 1 ≡ left = omega (arith, c.loop-left-test.true) in
    let more : take (n + 1) arrivals ≡ take n arrivals ++ a ∷ [] =
    take_more arrivals n a (omega (arith, i.low, c.loop-left-test.true)) ∙ ap (λ x. take n arrivals ++ x ∷ []) (sym c.index-arrivals-left.is) in
    let path = path_alone arrivals n a (omega (arith, i.low, c.loop-left-test.true)) more (omega (arith, c.if-from-left.false, c.loop-left-test.true)) in
    let whole : length (events_to r left) ≡ length (events_to r 0 ++ a.by ∷ []) = ap length (ap (events_to r) (sym next) ∙ path) in
    record {
      low = omega arith;
      few = omega (arith, i.few, c.loop-left-test.true);
      count = omega (arith, i.count, whole, length-append (events_to r 0) (a.by ∷ []));
    }

pub returns : goal.returns
returns c =
    let r = reverse c.args.arrivals.now in
    let zero : c.loop-left.left ≡ 0 = omega (arith, c.loop-left-test.false) in
    let none : length (events_to r c.loop-left.left) ≡ 0 = ap length (ap (events_to r) zero ∙ zero_there r) in
    omega (arith, c.loop-left.invariant.count, none)
