use Rattle.std.proofs.Common.{◌≡◌, ◌++◌, length}
use Rattle.std.specs.List.{flat_map}
use Rattle.acc_work.proofs.work_log.Pages.next.Given as goal

abbrev pub invariant-loop-page : goal.invariant-loop-page
invariant-loop-page l = flat_map (λ page. page.items) l.self-inside.full ++ l.self-inside.last.now ≡ l.fn.self

abbrev pub decreases-loop-page : goal.decreases-loop-page
decreases-loop-page l = length l.self-inside.full
