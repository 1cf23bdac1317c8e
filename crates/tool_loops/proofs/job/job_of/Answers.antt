use Rattle.std.proofs.Common.{◌≡◌, List, subst, rules}
use Rattle.acc_kernel.specs.Jobs.{Use, HoldReached}
use Rattle.acc_kernel.specs.Kernels.{Loop}
use Rattle.tool_loops.proofs.job.job_of.Goals as goal

pub new-requires-clause-reached : goal.new-requires-clause-reached
new-requires-clause-reached c =
    let given : c.as_slice-listed.result.now ≡ c.args.uses.now = search rules in
    subst (λ (uses : List Use). HoldReached c.args.kernel.now uses) given
    (subst (λ (k : Loop). HoldReached k c.as_slice-listed.result.now) c.get-else-not-are_distinct.ensures (c.is_held_by.ensures.0 c.if-not-is_held_by.false))

pub renewed-requires-clause-reached : goal.renewed-requires-clause-reached
renewed-requires-clause-reached c =
    let given : c.as_slice-listed.result.now ≡ c.args.uses.now = search rules in
    subst (λ (uses : List Use). HoldReached c.args.kernel.now uses) given
    (subst (λ (k : Loop). HoldReached k c.as_slice-listed.result.now) c.get-else-not-are_distinct.ensures (c.is_held_by.ensures.0 c.if-not-is_held_by.false))
