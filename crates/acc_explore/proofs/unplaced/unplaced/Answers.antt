use Rattle.std.proofs.Common.{◌≡◌, ◌+◌, ◌<◌, ◌^◌, ◌∙◌, Some, ap, sym, arith, option_map, slice_get}
use Rattle.acc_explore.proofs.UnplacedDirectives.{unplaced_first, unplaced_more}
use Rattle.acc_explore.proofs.unplaced.unplaced.Goals as goal

pub returns-in_default-checked_add-clause-many : goal.returns-in_default-checked_add-clause-many
returns-in_default-checked_add-clause-many c = λ none.
    let hosts = c.args.world.now.hosts in
    let n = c.loop-number.number in
    let host = c.in-Some.host.now in
    let there : slice_get hosts n ≡ Some host =
    ap (slice_get hosts) (sym c.new.ensures) ∙ (sym c.host.ensures ∙ ap (λ o. option_map (λ h. h.now) o) c.in-Some.is) in
    let many : c.loop-number.count + c.unplaced_by.result < 2 ^ 64 → ⊥ = c.in_default-checked_add.ensures in
    omega (arith, many, c.unplaced_by.ensures, c.loop-number.invariant, unplaced_more hosts n host there, unplaced_first hosts (n + 1))
