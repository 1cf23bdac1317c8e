use Rattle.std.proofs.Common.{◌≡◌, ℕ, ◌+◌, List, []}
use Rattle.acc_base.specs.Configurations.{IsWithinLimits}
use Rattle.acc_report.proofs.JoinedPuts.{puts_below, puts_nothing}
use Rattle.acc_steps.specs.Lines.{cell_text}
use Rattle.acc_steps.proofs.PutSteps.{no_cell}
use Rattle.acc_steps.proofs.words.put_cells.Goals as goal
use Rattle.acc_steps.proofs.words.put_cells.Goals.{in-Some, in_default}

pub loop-index-preserved : goal.loop-index-preserved
loop-index-preserved g c =
    let w = c.args.world.now in
    let array = c.args.range.array in
    let index = c.loop-index.index in
    let text : ℕ → List ℕ = λ i. cell_text w array (c.args.range.lo + i) in
    elim c.match-checked_add.branch [
      | in-Some b ↦ (
          let cell = rw b.in-Some.ensures.1 at b.put_cell.ensures in
          rw (b.out-is, b.failed-is) (puts_below text index c.loop-index.invariant cell))
      | in_default b ↦ (
          let limits : IsWithinLimits w.config = rw (c.config.ensures, c.place.ensures.config) at c.keeps.ensures.limits in
          let none : text index ≡ [] = no_cell w array (c.args.range.lo + index) limits b.in_default.ensures in
          rw (b.out-is, b.failed-is) (puts_below text index c.loop-index.invariant (rw none (puts_nothing _))))
    ]
