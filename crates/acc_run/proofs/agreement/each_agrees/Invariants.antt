use Rattle.std.proofs.Common.{drop}
use Rattle.std.specs.Prelude.{◌↔◌}
use Rattle.acc_run.specs.Agreement.{EachAgrees, histories_by}
use Rattle.acc_run.proofs.agreement.each_agrees.Given as goal

abbrev pub invariant-loop-index : goal.invariant-loop-index
invariant-loop-index l = EachAgrees (histories_by l.place l.works.items) l.index (drop l.index l.tokens) ↔ EachAgrees (histories_by l.place l.works.items) 0 l.tokens
