-- Events change neither the configuration nor the programs.
use Rattle.std.proofs.Common.{◌≡◌, ℕ, Bool, true, false, cond, List, [], ◌∷◌, refl, ◌∙◌, Some, None, Option, Ok, Err, Result, nat_lt, slice_get}
use Rattle.acc_base.specs.declared.fault.Fault.{Fault}
use Rattle.acc_base.specs.declared.ids.QueueAt.{QueueAt}
use Rattle.acc_batch.specs.declared.label.Label.{Label}
use Rattle.acc_batch.specs.declared.label.OpLabel.{OpLabel}
use Rattle.acc_core.specs.Machine.{State, Outcome, batches_held, can_perform, host_step, is_there, item_answer, item_state, labels_of, named_step, ops_left, perform_step, place_answer, placed_state, queue_step, step, take_step, wait_answer, waited_state}
use Rattle.acc_core.proofs.KeptPrograms.{runs_kept}
use Rattle.acc_core.specs.Worlds.{statements_in}
use Rattle.acc_explore.specs.Scripts.{EventsKeepTheScript}
use Rattle.acc_host.specs.declared.event.Event.{Event}
use Rattle.acc_host.specs.declared.event.Event.TheVariants as event
use Rattle.acc_host.specs.Hosts.{HostView, wants}
use Rattle.acc_host.specs.Steps.{Want, stays, sets, refuses, places, awaits, records}
use Rattle.acc_place.specs.declared.directive.Placed.{Placed}
use Rattle.acc_place.specs.Directives.{Directive}
use Rattle.acc_work.specs.declared.item.ItemLabel.{ItemLabel}
use Rattle.acc_work.specs.declared.item.Shown.{Shown}

abbrev HasConfig : State → State → Type 0
HasConfig w v = v.config ≡ w.config

placed : (w : State) (h : ℕ) (d : Directive) (answer : Result Placed Fault) → HasConfig w (placed_state w h d answer)
placed w h d (Ok p) = refl
placed w h d (Err fault) = refl

waited : (w : State) (h device : ℕ) (counts : List ℕ) (answer : Result Bool Fault) → HasConfig w (waited_state w h device counts answer)
waited w h device counts (Ok true) = refl
waited w h device counts (Ok false) = refl
waited w h device counts (Err fault) = refl

told : (w : State) (h : ℕ) (item : ItemLabel) (answer : Result Shown Fault) → HasConfig w (item_state w h item answer)
told w h item (Ok shown) = refl
told w h item (Err fault) = refl

wanted : (w : State) (h : ℕ) (host : HostView) (want : Want) → HasConfig w (host_step false w h host want).state
wanted w h host stays = refl
wanted w h host (sets ids) = refl
wanted w h host (refuses fault) = refl
wanted w h host (places d) = placed w h d (place_answer false w h d)
wanted w h host (awaits device counts) = waited w h device counts (wait_answer false w device counts)
wanted w h host (records item) = told w h item (item_answer false w item)

named : (w : State) (h : ℕ) (host : Option HostView) → HasConfig w (named_step false w h host).state
named w h None = refl
named w h (Some host) = wanted w h host (wants w.config.devices host)

chosen : (w : State) (b : Bool) (x y : Outcome) → HasConfig w x.state → HasConfig w y.state → HasConfig w (cond b x y).state
chosen w true x y first second = first
chosen w false x y first second = second

took : (w : State) (labels : List Label) (at : QueueAt) (ops : List OpLabel) → HasConfig w (take_step w labels at ops).state
took w labels at [] = chosen w (nat_lt 0 (batches_held w labels at)) _ _ refl refl
took w labels at (op ∷ ops) = refl

performed : (w : State) (labels : List Label) (at : QueueAt) (ops : List OpLabel) → HasConfig w (perform_step w labels at ops).state
performed w labels at [] = refl
performed w labels at (op ∷ ops) = chosen w (can_perform labels w.work at op) _ _ refl refl

of_queue : (w : State) (there : Bool) (o : Outcome) → HasConfig w o.state → HasConfig w (queue_step there w o).state
of_queue w true o same = same
of_queue w false o same = refl

config_step : (w : State) (e : Event) → HasConfig w (step false w e).state
config_step w (event.Host h) = named w h (slice_get w.hosts h)
config_step w (event.Take at) = of_queue w (is_there w at) _ (took w (labels_of w) at (ops_left w (labels_of w) at))
config_step w (event.Perform at) = of_queue w (is_there w at) _ (performed w (labels_of w) at (ops_left w (labels_of w) at))
config_step w event.Close = refl

statements_step : (w : State) (e : Event) → statements_in (step false w e).state ≡ statements_in w
statements_step w e = let next = step false w e in runs_kept (e ∷ []) (next.reply ∷ []) w next.state (next.state, (false, refl), refl)

pub script_kept : EventsKeepTheScript
script_kept w [] = record { config = refl; statements = refl }
script_kept w (e ∷ events) =
    let rest = script_kept (step false w e).state events in
    record { config = rest.config ∙ config_step w e; statements = rest.statements ∙ statements_step w e }
