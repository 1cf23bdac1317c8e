use Rattle.std.proofs.Common.{subst, sym}
use Rattle.std.specs.Prelude.{All, ◌<◌}
use Rattle.acc_base.specs.declared.config.TheConstants.{MAX_HOSTS}
use Rattle.acc_batch.specs.declared.label.Label.{Label}
use Rattle.acc_work.specs.Lanes.{LaneView}
use Rattle.acc_work.proofs.work.Work.goes_on.Goals as goal

pub host_allows-requires : goal.host_allows-requires
host_allows-requires c =
    subst (λ (l : LaneView). All (λ (k : Label). k.host < MAX_HOSTS) l.taken) (sym c.in-Some.ensures.lane) ((c.keeps.ensures.order.order c.args.at).batches.hosts)
