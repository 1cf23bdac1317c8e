-- What an abandoned run leaves.
use Rattle.std.proofs.Common.{◌≡◌, List, [], ◌++◌, sym, ap, subst, ◌∙◌}
use Rattle.acc_base.specs.Configurations.{Configuration}
use Rattle.acc_base.specs.declared.ids.QueueAt.{QueueAt}
use Rattle.acc_base.specs.Queues.{queue_count}
use Rattle.acc_host.specs.declared.outcome.Discarded.{Discarded}
use Rattle.acc_host.specs.Discards.{discarded_on}
use Rattle.acc_place.specs.Histories.{AllAccepted, IsQueue}
use Rattle.acc_work.specs.Logs.{performed}
use Rattle.acc_run.specs.Finishing.{Abandoned, AreOfOneRun, KeepsWork, histories_in, left_on}
use Rattle.acc_run.specs.PlaceSides.{PlaceSideView}
use Rattle.acc_run.specs.Tokens.{TokenView}
use Rattle.acc_run.specs.WorkSides.{WorkSideView}
use Rattle.acc_run.specs.inner.Discarding.{discards}
use Rattle.acc_run.proofs.Discards.{all_listed}
use Rattle.acc_run.proofs.LegalRun.{nothing_left, stopped_legal}

pub abandoned : (config : Configuration) (p : PlaceSideView) (w : WorkSideView) (tokens : List TokenView) (list : List Discarded) → AllAccepted p.place.config p.place.history p.place.counts → KeepsWork w → AreOfOneRun config p w tokens
    → list ≡ discards p w (queue_count config) → Abandoned tokens (histories_in p w) list
abandoned config p w tokens list accepted keeps one listed =
    let both = stopped_legal config p w tokens accepted keeps one in
    let none : (at : QueueAt) → (IsQueue config at → ⊥) → left_on p w at ≡ [] = λ at absent. nothing_left p w accepted both.1 at (subst (λ c. IsQueue c at → ⊥) (sym one.placed_for) absent) in
    record {
      legal = both.0;
      agree = one.agree;
      leaves = λ at. both.1 at ∙ ap (λ ops. performed at w.work.work ++ ops) (sym (ap (discarded_on at) listed ∙ all_listed config p w none at));
    }
