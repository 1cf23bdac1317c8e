-- A take commutes with every other event, where its queue can't be full.
use Rattle.std.proofs.Common.{◌≡◌, false, sym, ap, ◌∙◌}
use Rattle.acc_base.specs.declared.ids.QueueAt.{QueueAt}
use Rattle.acc_core.specs.Machine.{State, Outcome}
use Rattle.acc_host.specs.declared.event.Event.{Event}
use Rattle.acc_host.specs.declared.event.Event.TheVariants as event
use Rattle.acc_host.specs.declared.state.Reply.TheVariants as reply
use Rattle.acc_explore.specs.Explorations.{IsEnd}
use Rattle.acc_explore.specs.Runs.{MayCome}
use Rattle.acc_explore.specs.Takes.{TakesCommute}
use Rattle.acc_explore.proofs.FreeTakes.{IsFree, is_free, takes, Keeps}
use Rattle.acc_explore.proofs.TakesBesideHosts.{keeps_host}
use Rattle.acc_explore.proofs.TakesBesideQueues.{keeps_take, keeps_perform}

keeps : (w : State) (at : QueueAt) (x : Event) → IsFree w at → MayCome false x → Keeps w at x
keeps w at (event.Host k) f may = keeps_host w at k f
keeps w at (event.Take other) f may = keeps_take w at other f
keeps w at (event.Perform other) f may = keeps_perform w at other f
keeps w at event.Close f may = cc

-- it is still to come
no_end : (w : State) (at : QueueAt) → IsFree w at → IsEnd w → ⊥
no_end w at f ends =
    let wrong : reply.Did ≡ reply.Idle = sym (ap (λ (o : Outcome). o.reply) (takes w at f)) ∙ ends (event.Take at) tt in
    cc

pub takes_commute : TakesCommute
takes_commute at = record {
  kept = λ w x l test may. keeps w at x (is_free w at test) may;
  waits = λ w l test ends. no_end w at (is_free w at test) ends;
}
