use Rattle.std.proofs.Common.{◌≡◌, ◌-◌, length, drop, Some, rules, refl, ap, ◌∙◌}
use Rattle.acc_work.specs.Lanes.{last_of}
use Rattle.acc_work.specs.Works.{WorkView, lane_at}
use Rattle.acc_run.proofs.Discards.{all_behind, last_in_lane}
use Rattle.acc_run.proofs.abandon.left_in_lane.Goals as goal

pub returns-in-Some : goal.returns-in-Some
returns-in-Some c =
    let at = c.args.at in
    let w = c.args.work.now.work in
    let label = c.in-Some.label.now in
    let ops = c.as_slice-ops.result.now in
    let skipped = c.saturating_sub.result in
    let is : ops ≡ label.ops = c.as_slice-ops.ensures ∙ c.get.ensures in
    let left : c.ops_left-left.result ≡ length (lane_at w at).left = c.ops_left-left.ensures ∙ ap (λ (v : WorkView). length (lane_at v at).left) c.as_work.ensures in
    let last : last_of (lane_at w at).taken ≡ Some label = search rules in
    let many : skipped ≡ length label.ops - length (lane_at w at).left = c.saturating_sub.ensures ∙ rw (is, left) refl in
    all_behind ops skipped ∙ (ap (λ n. drop n ops) many ∙ (ap (drop (length label.ops - length (lane_at w at).left)) is ∙ last_in_lane w at label c.keeps.ensures.order last))
