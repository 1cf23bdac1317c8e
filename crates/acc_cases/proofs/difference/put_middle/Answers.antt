use Rattle.acc_cases.proofs.JoinedLines.{rest_put}
use Rattle.acc_cases.proofs.difference.put_middle.Goals as goal

pub returns-clause-wanted : goal.returns-clause-wanted
returns-clause-wanted c = rest_put c.put_rest.result _ _ _ c.args.wanted.now c.loop-at.at c.loop-at.invariant.wanted c.put_rest.ensures.wanted

pub returns-clause-came : goal.returns-clause-came
returns-clause-came c = rest_put c.put_rest.result _ _ _ c.args.came.now c.loop-at.to c.loop-at.invariant.came c.put_rest.ensures.came
