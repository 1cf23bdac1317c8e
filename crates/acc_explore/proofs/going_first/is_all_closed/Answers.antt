use Rattle.std.proofs.Common.{◌∙◌, ap, arith}
use Rattle.std.proofs.lemmas.Bool.{ltb-true}
use Rattle.acc_base.specs.Configurations.{Configuration}
use Rattle.acc_base.specs.Queues.{queue_count}
use Rattle.acc_explore.proofs.ClosedQueues.{all_are_closed}
use Rattle.acc_explore.proofs.going_first.is_all_closed.Goals as goal

pub returns : goal.returns
returns c = λ some.
    let w = c.args.world.now in
    let count = c.queue_count-queues.ensures.count ∙ ap (λ (config : Configuration). queue_count config) (c.config.ensures ∙ c.place-place.ensures.config) in
    all_are_closed w c.keeps.ensures.legal (omega (arith, count, ltb-true 0 c.queue_count-queues.result some))
    (λ n low. c.loop-seat.invariant n (omega (arith, low, count, c.loop-seat-test.false)))
