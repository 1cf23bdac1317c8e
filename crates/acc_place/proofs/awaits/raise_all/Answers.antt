use Rattle.std.proofs.Common.{ap, ◌∙◌, arith}
use Rattle.std.specs.Prelude.{max, slice_index_or}
use Rattle.acc_base.proofs.EachQueue.{at_queue, by_queue}
use Rattle.acc_place.proofs.awaits.raise_all.Goals as goal

pub returns : goal.returns
returns c f old =
    let i = c.loop-queue.invariant in
    let others = c.args.others.now in
    by_queue (λ q. max (f q) (slice_index_or others q 0)) c.loop-queue.numbers i.0
    (λ q low. i.1 q (omega (arith, low, c.loop-queue-test.false, c.from-queue-end.ensures)) ∙ ap (λ n. max n (slice_index_or others q 0)) (ap (λ ns. slice_index_or ns q 0) old ∙ at_queue f q low))
