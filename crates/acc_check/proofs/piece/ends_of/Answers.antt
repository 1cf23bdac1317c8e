use Rattle.std.proofs.Common.{◌≡◌, ◌++◌, ◌-◌, length, sym, ap, ◌∙◌, arith}
use Rattle.std.proofs.lemmas.Bool.Decides.{nat_tests}
use Rattle.std.proofs.lemmas.List.{append-nil}
use Rattle.acc_check.proofs.Ends.{none_left}
use Rattle.acc_check.proofs.piece.ends_of.Goals as goal
use Rattle.acc_check.proofs.piece.ends_of.Goals.{else-loop-test, then-loop-test+then-is_empty}

pub returns-clause-ends : goal.returns-clause-ends
returns-clause-ends c =
    let all = c.args.text.now in
    let rest = c.loop.rest.now in
    let so_far = c.loop.ends.items in
    let left = c.loop.invariant.left in
    let none : length rest ≡ 0 = elim c.loop-test.branch [
      | else-loop-test w ↦ omega (arith, left, w.loop-test)
      | then-loop-test+then-is_empty w ↦ grind (arith, nat_tests, w.is_empty.ensures, w.if-is_empty.true)
    ] in
    let over = none_left (length all - c.loop.counter) (length all - length rest) rest none in
    sym (append-nil so_far) ∙ sym (ap (λ ends. so_far ++ ends) over) ∙ c.loop.invariant.same
