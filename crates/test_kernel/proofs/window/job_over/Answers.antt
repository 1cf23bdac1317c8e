use Rattle.std.proofs.Common.{◌≡◌, rules}
use Rattle.test_kernel.proofs.window.job_over.Goals as goal

pub new-requires-4-clause-reached : goal.new-requires-4-clause-reached
new-requires-4-clause-reached c =
    let kernel : c.in_ok-new.field-0 ≡ c.in_ok-kernel.kernel = search rules in
    let uses : c.in_ok-uses.uses ≡ c.uses_of-uses.result = search rules in
    rw (kernel, uses) (c.is_held_by.ensures.0 c.if-not-is_held_by.false)
