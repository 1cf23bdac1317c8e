use Rattle.std.proofs.Common.{◌≡◌, List, sym, subst, rules}
use Rattle.acc_batch.specs.Ops.{HasItsCells}
use Rattle.acc_kernel.specs.Jobs.{Use, AreDistinct, HoldReached}
use Rattle.acc_kernel.specs.Kernels.{Loop}
use Rattle.acc_batch.proofs.label.OpLabel.has_its_cells.Goals as goal

pub returns-then-are_distinct : goal.returns-then-are_distinct
returns-then-are_distinct c =
    let given : c.as_slice-uses.result.now ≡ c.in-Run.uses = search rules in
    let loop : c.get-then-are_distinct.result.now ≡ c.in-Run.kernel = c.get-then-are_distinct.ensures in
    let Held : List Use → Type 0 = λ uses. HoldReached c.get-then-are_distinct.result.now uses in
    let distinct : AreDistinct c.in-Run.uses = subst AreDistinct given (c.are_distinct.ensures.0 c.if-are_distinct.true) in (
      λ yes. subst HasItsCells (sym c.in-Run.is) (distinct, subst (λ (k : Loop). HoldReached k c.in-Run.uses) loop (subst Held given (c.is_held_by.ensures.0 yes))),
      λ cells. c.is_held_by.ensures.1 (subst Held (sym given) (subst (λ (k : Loop). HoldReached k c.in-Run.uses) (sym loop) (subst HasItsCells c.in-Run.is cells).1)),
    )
