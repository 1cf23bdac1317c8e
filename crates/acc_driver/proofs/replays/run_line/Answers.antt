use Rattle.std.proofs.Common.{◌≡◌, ◌+◌, ◌-◌, ◌++◌, [], refl, sym, ap, subst, ◌∙◌, arith}
use Rattle.acc_core.specs.Machine.{Runs}
use Rattle.acc_schedule.specs.Schedules.{repeated, kept_events}
use Rattle.acc_schedule.proofs.RepeatedTurns.{repeated-more, repeated-next}
use Rattle.acc_driver.proofs.RunSchedule.{Runs-append, stands_still}
use Rattle.acc_driver.proofs.replays.run_line.Goals as goal

pub loop-init : goal.loop-init
loop-init c = ([], refl)

pub loop-preserved : goal.loop-preserved
loop-preserved c =
    let turn = c.events-turn.result.now in
    let before = c.loop.invariant in
    let one = c.advance.ensures.ran in (
      before.0 ++ one.0,
      rw (repeated-next turn c.loop.counter) (Runs-append (repeated c.loop.counter turn) turn before.0 one.0 c.args.world.now c.loop.world c.advance.new.self before.1 one.1.runs),
    )

-- all turns
pub returns : goal.returns
returns c =
    let before = c.loop.invariant in
    let turn = c.events-turn.result.now in
    let all : c.loop.counter ≡ c.args.line.now.times = omega (arith, c.loop.auto.counter-end, c.loop-test.false) in
    let events : repeated c.loop.counter turn ≡ kept_events c.args.round.now c.args.line.now = ap (λ n. repeated n turn) all ∙ ap (repeated c.args.line.now.times) c.events-turn.ensures in
    (before.0, subst (λ es. Runs c.args.world.now es before.0 c.loop.world) events before.1)

-- a turn in which nothing was possible: the ones that aren't made would be the same
pub returns-then-not-advance : goal.returns-then-not-advance
returns-then-not-advance c =
    let turn = c.events-turn.result.now in
    let made = c.loop.counter in
    let times = c.args.line.now.times in
    let before = c.loop.invariant in
    let one = c.advance.ensures.ran in
    let same : c.advance.new.self ≡ c.loop.world = c.advance.ensures.idle c.if-not-advance.true in
    let still : Runs c.loop.world turn one.0 c.loop.world = subst (λ w. Runs c.loop.world turn one.0 w) same one.1.runs in
    let rest = stands_still turn one.0 c.loop.world (times - made) still in
    let all : made + (times - made) ≡ times = omega (arith, c.loop-test.true) in
    let events : repeated made turn ++ repeated (times - made) turn ≡ kept_events c.args.round.now c.args.line.now =
    sym (repeated-more turn made (times - made)) ∙ ap (λ n. repeated n turn) all ∙ ap (repeated times) c.events-turn.ensures in
    let runs = Runs-append (repeated made turn) (repeated (times - made) turn) before.0 rest.0 c.args.world.now c.loop.world c.loop.world before.1 rest.1 in (
      before.0 ++ rest.0,
      subst (λ w. Runs c.args.world.now (kept_events c.args.round.now c.args.line.now) (before.0 ++ rest.0) w) (sym same)
          (subst (λ es. Runs c.args.world.now es (before.0 ++ rest.0) c.loop.world) events runs),
    )
