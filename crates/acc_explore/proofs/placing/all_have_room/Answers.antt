use Rattle.std.proofs.Common.{◌≡◌, ◌∙◌, ◌+◌, ◌&&◌, ap, sym, arith}
use Rattle.acc_base.specs.Configurations.{Configuration}
use Rattle.acc_base.specs.Queues.{at_seat, queue_count}
use Rattle.acc_core.specs.Machine.{is_there}
use Rattle.acc_explore.specs.Takes.{never_fills}
use Rattle.acc_explore.proofs.PlacingStays.{all_of, lacks_room}
use Rattle.acc_explore.proofs.placing.all_have_room.Goals as goal

pub returns : goal.returns
returns c =
    let w = c.args.world.now in
    let count = c.queue_count-seat-end.ensures.count ∙ ap (λ (config : Configuration). queue_count config) (c.config-config.ensures ∙ c.place.ensures.config) in
    sym (all_of (λ n. never_fills w (at_seat n)) 0 (queue_count w.config)
    (λ n low. (let same : 0 + n ≡ n = omega arith in ap (λ m. never_fills w (at_seat m)) same ∙ c.loop-seat.invariant n (omega (arith, low, count, c.loop-seat-test.false)))))

pub returns-then-not-has_room : goal.returns-then-not-has_room
returns-then-not-has_room c =
    let w = c.args.world.now in
    let count = c.queue_count-seat-end.ensures.count ∙ ap (λ (config : Configuration). queue_count config) (c.config-config.ensures ∙ c.place.ensures.config) in
    sym (lacks_room w c.loop-seat.seat (omega (arith, count, c.loop-seat-test.true))
    (ap (λ at. is_there w at && never_fills w at) (sym c.at_seat.ensures.at) ∙ (sym c.has_room.ensures ∙ c.if-not-has_room.true)))
