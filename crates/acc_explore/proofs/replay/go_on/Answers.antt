use Rattle.std.proofs.Common.{◌≡◌, ◌+◌, ◌∷◌, [], ◌++◌, true, false, take, sym, ap, ◌∙◌}
use Rattle.std.proofs.lemmas.List.{take_more}
use Rattle.acc_core.specs.Machine.{State, Outcome, step}
use Rattle.acc_explore.proofs.AfterMore.{after_more}
use Rattle.acc_explore.proofs.AmpleSteps.{ample_unless_refused}
use Rattle.acc_explore.proofs.replay.go_on.Goals as goal

pub loop-event-preserved : goal.loop-event-preserved
loop-event-preserved c =
    let events = c.args.events.now in
    let first = c.args.world.now in
    let i = c.loop-event.event-index in
    let event = c.event-item.result in
    let further : take (i + 1) events ≡ take i events ++ event ∷ [] = take_more events i event c.loop-event-test.true ∙ ap (λ e. take i events ++ e ∷ []) (sym c.event-item.is) in
    let ample = ample_unless_refused c.loop-event.world c.step.new.self event c.step.result c.step.ensures
    (λ refused. let yes : c.is_scarce.result ≡ true = c.is_scarce.ensures.1 refused in let wrong : true ≡ false = sym yes ∙ c.if-is_scarce.false in cc) in
    rw further
    (sym (after_more first (take i events) event
    ∙ (ap (λ (w : State). (step false w event).state) (sym c.loop-event.invariant) ∙ ap (λ (o : Outcome). o.state) ample)))
