use Rattle.std.proofs.Common.{refl, arith}
use Rattle.acc_script.proofs.Deeper.{at_the_limit, one_less}
use Rattle.acc_script.specs.Expressions.{names_in}
use Rattle.acc_script.proofs.expression.one_deeper.Goals as goal

pub returns-then-scope-eq0-clause-found : goal.returns-then-scope-eq0-clause-found
returns-then-scope-eq0-clause-found c =
    rw (at_the_limit (names_in c.args.scope) c.args.scope.deep c.if-scope-eq0.true, c.fault.ensures) refl

pub returns-else-scope-eq0-clause-found : goal.returns-else-scope-eq0-clause-found
returns-else-scope-eq0-clause-found c =
    rw (one_less (names_in c.args.scope) c.args.scope.deep (omega (arith, c.if-scope-eq0.false))) refl
