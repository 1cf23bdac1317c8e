use Rattle.std.proofs.Common.{◌≡◌, ◌+◌, ◌∷◌, [], ◌++◌, take, sym, ◌∙◌, ap, arith}
use Rattle.std.proofs.lemmas.List.{take_all, take_more}
use Rattle.acc_core.specs.Machine.{Runs}
use Rattle.acc_core.proofs.HostLaws.{HostLaws}
use Rattle.acc_core.proofs.RunParts.{Runs-more}
use Rattle.acc_core.proofs.WorldSteps.{has_run}
use Rattle.acc_core.proofs.world.World.run.Goals as goal

pub loop-event-preserved : goal.loop-event-preserved
loop-event-preserved c =
    let events = c.args.events.now in
    let i = c.loop-event.event-index in
    let event = c.event-item.result in
    let further : take (i + 1) events ≡ take i events ++ event ∷ [] = take_more events i event c.loop-event-test.true ∙ ap (λ e. take i events ++ e ∷ []) (sym c.event-item.is) in
    record {
      runs = rw (further, c.push_reserved.ensures.items) (Runs-more (take i events) c.loop-event.replies.items c.args.self.now c.loop-event.self c.step.new.self event c.step.result c.loop-event.invariant.runs c.step.ensures);
      count = omega (arith, c.push_reserved.ensures.len);
      room = omega (arith, c.push_reserved.ensures.capacity);
    }

pub returns-clause-ran : goal.returns-clause-ran
returns-clause-ran c =
    let events = c.args.events.now in
    let whole = take_all c.loop-event.event-index events c.loop-event-test.false in
    let runs : Runs c.args.self.now events c.loop-event.replies.items c.loop-event.self = rw whole at c.loop-event.invariant.runs in
    let is = rw c.self.view_is at c.self.invariant in
    let laws : HostLaws = record { first = c.hosts_follow.ensures.first; steps = c.hosts_follow.ensures.steps; follow = c.hosts_follow.ensures.follow } in
    has_run laws c.args.self.now c.loop-event.self events c.loop-event.replies.items is.legal is.stand runs
