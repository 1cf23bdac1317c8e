use Rattle.std.proofs.Common.{◌≡◌, true, false, reverse, refl, sym, ap, subst, ◌∙◌, Bool}
use Rattle.acc_base.specs.declared.fault.Fault.TheVariants as fault
use Rattle.acc_core.specs.Machine.{State, Outcome, Step, step}
use Rattle.acc_core.proofs.IdleSteps.{idle_keeps}
use Rattle.acc_explore.specs.Arrivals.{found_at}
use Rattle.acc_explore.specs.declared.arrival.Arrival.{Arrival}
use Rattle.acc_explore.specs.inner.Searching.{IsNoted, start_of}
use Rattle.acc_explore.specs.Scripts.{AreOfOneScript}
use Rattle.acc_explore.proofs.AmpleSteps.{ample_unless_refused}
use Rattle.acc_explore.proofs.SearchEvents.{script_behind}
use Rattle.acc_host.specs.declared.event.Event.{Event}
use Rattle.acc_host.specs.declared.state.Reply.{Reply}
use Rattle.acc_host.specs.declared.state.Reply.TheVariants as reply
use Rattle.acc_explore.proofs.search.follow.Goals as goal

-- A step of the world that is that of a state, which isn't refused for want of memory, as it was tested.
ample : (w at new : State) (e : Event) (answer : Reply) (scarce : Bool) → w ≡ at → Step w e answer new → (answer ≡ reply.Refused fault.Memory → scarce ≡ true) → scarce ≡ false
    → step false at e ≡ record { reply = answer; state = new }
ample w at new e answer scarce here steps tells isnt =
    subst (λ (v : State). step false v e ≡ record { reply = answer; state = new }) here
    (ample_unless_refused w new e answer steps (λ refused. let wrong : true ≡ false = sym (tells refused) ∙ isnt in cc))

still : (w new : State) (e : Event) (answer : Reply) → Step w e answer new → answer ≡ reply.Idle → new ≡ w
still w new e answer steps is = idle_keeps w new e (subst (λ (r : Reply). Step w e r new) is steps)

pub returns-then-is_idle-clause-course : goal.returns-then-is_idle-clause-course
returns-then-is_idle-clause-course c =
    let w = c.in_ok-world.world in
    let at = (found_at (start_of c.args.task.now) (reverse c.args.found.now.arrivals.items) c.args.number).state in
    let here : w ≡ at = rw c.as_slice.ensures.value at c.in_ok-world.ensures.world in
    let new = c.step-answer.new.self in
    let answer = c.step-answer.result in
    let idle = c.is_idle.ensures.0 c.if-is_idle.true in
    let same : new ≡ at = still w new c.args.event answer c.step-answer.ensures idle ∙ here in (
      ample w at new c.args.event answer c.is_scarce.result here c.step-answer.ensures c.is_scarce.ensures.1 c.if-is_scarce.false
          ∙ (λ i. record { reply = idle i; state = same i }),
      refl,
    )

pub returns-then-is_idle-clause-here : goal.returns-then-is_idle-clause-here
returns-then-is_idle-clause-here c =
    let w = c.in_ok-world.world in
    let at = (found_at (start_of c.args.task.now) (reverse c.args.found.now.arrivals.items) c.args.number).state in
    let here : w ≡ at = rw c.as_slice.ensures.value at c.in_ok-world.ensures.world in
    still w c.step-answer.new.self c.args.event c.step-answer.result c.step-answer.ensures (c.is_idle.ensures.0 c.if-is_idle.true) ∙ here

pub note-requires-clause-led : goal.note-requires-clause-led
note-requires-clause-led c =
    let w = c.in_ok-world.world in
    let at = (found_at (start_of c.args.task.now) (reverse c.args.found.now.arrivals.items) c.args.number).state in
    let here : w ≡ at = rw c.as_slice.ensures.value at c.in_ok-world.ensures.world in
    sym (ap (λ (o : Outcome). o.state) (ample w at c.step-answer.new.self c.args.event c.step-answer.result c.is_scarce.result here c.step-answer.ensures c.is_scarce.ensures.1 c.if-is_scarce.false))

pub note-requires-clause-script : goal.note-requires-clause-script
note-requires-clause-script c =
    let w = c.in_ok-world.world in
    let start = start_of c.args.task.now in
    let at = (found_at start (reverse c.args.found.now.arrivals.items) c.args.number).state in
    let here : w ≡ at = rw c.as_slice.ensures.value at c.in_ok-world.ensures.world in
    subst (AreOfOneScript start)
    (ap (λ (o : Outcome). o.state) (ample w at c.step-answer.new.self c.args.event c.step-answer.result c.is_scarce.result here c.step-answer.ensures c.is_scarce.ensures.1 c.if-is_scarce.false))
    (script_behind start (reverse c.args.found.now.arrivals.items) c.args.number c.args.event)

pub returns-clause-course : goal.returns-clause-course
returns-clause-course c =
    let w = c.in_ok-world.world in
    let e = c.args.event in
    let start = start_of c.args.task.now in
    let old = reverse c.args.found.now.arrivals.items in
    let at = (found_at start old c.args.number).state in
    let here : w ≡ at = rw c.as_slice.ensures.value at c.in_ok-world.ensures.world in
    let a : Arrival = record { from = c.args.number; by = e } in
    let stepped = ample w at c.step-answer.new.self e c.step-answer.result c.is_scarce.result here c.step-answer.ensures c.is_scarce.ensures.1 c.if-is_scarce.false in (
      λ idle. let yes : c.is_idle.result ≡ true = c.is_idle.ensures.1 (sym (ap (λ (o : Outcome). o.reply) stepped) ∙ idle) in let wrong : true ≡ false = sym yes ∙ c.if-is_idle.false in cc,
      subst (IsNoted c.args.task.now.most start old (reverse c.note.new.found.arrivals.items) a) (sym (ap (λ (o : Outcome). o.state) stepped))
          (c.in_ok-note.ensures.noted c.if-not-branch.false),
    )
