use Rattle.std.proofs.Common.{◌≡◌, sym, subst, rules}
use Rattle.acc_kernel.specs.Faults.{is_assigned}
use Rattle.acc_kernel.specs.Jobs.{AreDistinct, is_read, read_uses, written_uses}
use Rattle.acc_kernel.proofs.ReadAndWritten.{distinct_reached}
use Rattle.acc_kernel.proofs.job.Job.new.Goals as goal

pub zeroed-requires : goal.zeroed-requires
zeroed-requires c =
    let read : c.in_ok-read_uses.field-0.items ≡ read_uses c.args.kernel.now c.args.uses.now = search rules in
    record { distinct = subst AreDistinct (sym read) (distinct_reached (is_read c.args.kernel.now.statements) c.args.kernel.now c.args.uses.now c.requires.distinct) }

pub zeroed-requires-2 : goal.zeroed-requires-2
zeroed-requires-2 c =
    let written : c.in_ok-written_uses.field-0.items ≡ written_uses c.args.kernel.now c.args.uses.now = search rules in
    record { distinct = subst AreDistinct (sym written) (distinct_reached (is_assigned c.args.kernel.now.statements) c.args.kernel.now c.args.uses.now c.requires.distinct) }

pub invariant_of-result : goal.invariant_of-result
invariant_of-result c =
    let kernel : c.in_ok-kernel.kernel ≡ c.args.kernel.now = search rules in
    let uses : c.in_ok-uses.uses ≡ c.args.uses.now = search rules in
    let read : c.in_ok-inputs.inputs.uses ≡ read_uses c.args.kernel.now c.args.uses.now = search rules in
    let written : c.in_ok-outputs.outputs.uses ≡ written_uses c.args.kernel.now c.args.uses.now = search rules in
    rw (kernel, uses) (c.requires.distinct, c.requires.reached, read, written)
