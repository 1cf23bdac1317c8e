use Rattle.std.proofs.Common.{◌≡◌, ◌+◌, ◌<◌, [], ◌∷◌, ◌++◌, length, take, sym, ap, subst, ◌∙◌, arith}
use Rattle.std.proofs.lemmas.List.{take_more, flat_map_more}
use Rattle.acc_core.specs.Machine.{Runs}
use Rattle.acc_schedule.specs.Schedules.{kept_events, all_events}
use Rattle.acc_driver.proofs.RunSchedule.{Runs-append}
use Rattle.acc_driver.proofs.replays.run_schedule.Goals as goal

pub loop-line-preserved : goal.loop-line-preserved
loop-line-preserved c =
    let round = c.lines.result.0.now in
    let kept = c.lines.result.1.now in
    let past = c.loop-line.line-index in
    let line = c.line-item.result in
    let below : past < length kept = omega arith in
    let lines : take (past + 1) kept ≡ take past kept ++ line ∷ [] =
    take_more kept past line below ∙ ap (λ l. take past kept ++ l ∷ []) (sym c.line-item.is) in
    let events : all_events round (take (past + 1) kept) ≡ all_events round (take past kept) ++ kept_events round line =
    ap (all_events round) lines ∙ sym (flat_map_more (kept_events round) [] (take past kept) line) in
    let before = c.loop-line.invariant in
    let one = c.run_line.ensures in (
      before.0 ++ one.0,
      subst (λ es. Runs c.args.world.now es (before.0 ++ one.0) c.run_line.new.world) (sym events)
          (Runs-append (all_events round (take past kept)) (kept_events round line) before.0 one.0 c.args.world.now c.loop-line.world c.run_line.new.world before.1 one.1),
    )
