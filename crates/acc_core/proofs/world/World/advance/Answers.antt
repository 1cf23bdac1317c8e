use Rattle.std.proofs.Common.{◌≡◌, ◌+◌, ◌∷◌, [], ◌++◌, take, refl, sym, ◌∙◌, ap}
use Rattle.std.proofs.lemmas.List.{take_all, take_more}
use Rattle.acc_host.specs.declared.state.Reply.TheVariants as reply
use Rattle.acc_core.specs.Machine.{Runs}
use Rattle.acc_core.proofs.HostLaws.{HostLaws}
use Rattle.acc_core.proofs.IdleSteps.{idle_keeps}
use Rattle.acc_core.proofs.RunParts.{Runs-more}
use Rattle.acc_core.proofs.WorldSteps.{has_run}
use Rattle.acc_core.proofs.world.World.advance.Goals.{in-Idle, in_default}
use Rattle.acc_core.proofs.world.World.advance.Goals as goal

pub loop-event-init : goal.loop-event-init
loop-event-init c = (([], refl), λ still. refl)

pub loop-event-preserved : goal.loop-event-preserved
loop-event-preserved c =
    let events = c.args.events.now in
    let i = c.loop-event.event-index in
    let event = c.event-item.result in
    let replies = c.loop-event.invariant.0.0 in
    let further : take (i + 1) events ≡ take i events ++ event ∷ [] = take_more events i event c.loop-event-test.true ∙ ap (λ e. take i events ++ e ∷ []) (sym c.event-item.is) in (
      (
        replies ++ c.step.result ∷ [],
        rw further (Runs-more (take i events) replies c.args.self.now c.loop-event.self c.step.new.self event c.step.result c.loop-event.invariant.0.1 c.step.ensures),
      ),
      λ still.
          elim c.match-step.branch [
            | in-Idle w ↦
                idle_keeps c.loop-event.self c.step.new.self event (rw w.in-Idle.is at c.step.ensures)
                ∙ c.loop-event.invariant.1 (sym w.moves-is ∙ still)
            | in_default w ↦ absurd (let no = sym w.moves-is ∙ still in cc)
          ],
    )

-- an event that isn't possible is answered so, and nothing has changed
pub loop-event-preserved-then-is_idle : goal.loop-event-preserved-then-is_idle
loop-event-preserved-then-is_idle c =
    let events = c.args.events.now in
    let i = c.loop-event.event-index in
    let event = c.event-item.result in
    let replies = c.loop-event.invariant.0.0 in
    let further : take (i + 1) events ≡ take i events ++ event ∷ [] = take_more events i event c.loop-event-test.true ∙ ap (λ e. take i events ++ e ∷ []) (sym c.event-item.is) in (
      (
        replies ++ reply.Idle ∷ [],
        rw further (Runs-more (take i events) replies c.args.self.now c.loop-event.self c.loop-event.self event reply.Idle c.loop-event.invariant.0.1 (c.is_idle.ensures c.if-is_idle.true)),
      ),
      c.loop-event.invariant.1,
    )

pub returns-clause-ran : goal.returns-clause-ran
returns-clause-ran c =
    let events = c.args.events.now in
    let replies = c.loop-event.invariant.0.0 in
    let whole = take_all c.loop-event.event-index events c.loop-event-test.false in
    let runs : Runs c.args.self.now events replies c.loop-event.self = rw whole at c.loop-event.invariant.0.1 in
    let is = rw c.self.view_is at c.self.invariant in
    let laws : HostLaws = record { first = c.hosts_follow.ensures.first; steps = c.hosts_follow.ensures.steps; follow = c.hosts_follow.ensures.follow } in
    (replies, has_run laws c.args.self.now c.loop-event.self events replies is.legal is.stand runs)

pub returns-clause-idle : goal.returns-clause-idle
returns-clause-idle c still = c.loop-event.invariant.1 still
