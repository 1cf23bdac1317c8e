use Rattle.std.proofs.Common.{◌≡◌, subst, arith}
use Rattle.acc_explore.specs.inner.Leaves.{HaveLeaves}
use Rattle.acc_explore.proofs.ToldPrefixes.{one_leaf}
use Rattle.acc_explore.proofs.prefixes.push_leaves.Goals as goal

pub loop-number-preserved : goal.loop-number-preserved
loop-number-preserved c =
    one_leaf c.args.first c.loop-number.number c.args.numbers.now.items c.loop-number.numbers.items c.push.new.self.items c.in_ok-push.ensures.items (omega (arith, c.loop-number.auto.number))
    c.loop-number.invariant

pub returns-clause-pushed : goal.returns-clause-pushed
returns-clause-pushed c =
    let all : c.loop-number.number ≡ c.args.states = omega (arith, c.loop-number-test.false, c.loop-number.auto.number-end c.requires.there) in
    subst (λ n. HaveLeaves c.args.first n c.args.numbers.now.items c.loop-number.numbers.items) all c.loop-number.invariant
