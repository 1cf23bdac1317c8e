-- The steps of queues leave the hosts, and what was placed.
use Rattle.std.proofs.Common.{◌≡◌, Bool, true, false, cond, List, [], ◌∷◌, refl, nat_lt}
use Rattle.acc_base.specs.declared.ids.QueueAt.{QueueAt}
use Rattle.acc_batch.specs.declared.label.OpLabel.{OpLabel}
use Rattle.acc_core.specs.Machine.{State, Outcome, batches_held, can_perform, idle, is_there, labels_of, ops_left, perform_step, queue_step, step, take_step}
use Rattle.acc_host.specs.declared.event.Event.TheVariants as event

pub record LeavesHosts (w : State) (o : Outcome) : Type 0 where
  pub hosts : o.state.hosts ≡ w.hosts
  pub labels : labels_of o.state ≡ labels_of w

none : (w : State) → LeavesHosts w (idle w)
none w = record { hosts = refl; labels = refl }

if_leaves : (w : State) (b : Bool) (x y : Outcome) → LeavesHosts w x → LeavesHosts w y → LeavesHosts w (cond b x y)
if_leaves w true x y f g = f
if_leaves w false x y f g = g

queue_leaves : (w : State) (there : Bool) (o : Outcome) → LeavesHosts w o → LeavesHosts w (queue_step there w o)
queue_leaves w true o e = e
queue_leaves w false o e = none w

pub take_leaves : (w : State) (at : QueueAt) → LeavesHosts w (step false w (event.Take at))
take_leaves w at = queue_leaves w (is_there w at) (take_step w (labels_of w) at (ops_left w (labels_of w) at)) (by (ops_left w (labels_of w) at))
  where
    by : (ops : List OpLabel) → LeavesHosts w (take_step w (labels_of w) at ops)
    by [] = if_leaves w (nat_lt 0 (batches_held w (labels_of w) at)) _ (idle w) (record { hosts = refl; labels = refl }) (none w)
    by (op ∷ ops) = none w

pub perform_leaves : (w : State) (at : QueueAt) → LeavesHosts w (step false w (event.Perform at))
perform_leaves w at = queue_leaves w (is_there w at) (perform_step w (labels_of w) at (ops_left w (labels_of w) at)) (by (ops_left w (labels_of w) at))
  where
    by : (ops : List OpLabel) → LeavesHosts w (perform_step w (labels_of w) at ops)
    by [] = none w
    by (op ∷ ops) = if_leaves w (can_perform (labels_of w) w.work at op) _ (idle w) (record { hosts = refl; labels = refl }) (none w)
