-- No step changes what a host's program is.
use Rattle.std.proofs.Common.{◌≡◌, ℕ, zero, suc, Bool, true, false, cond, List, [], ◌∷◌, map, refl, sym, ap, ◌∙◌, Some, None, Option, Result, Ok, Err}
use Rattle.std.specs.Prelude.{nat_lt, slice_get, slice_set}
use Rattle.acc_base.specs.declared.fault.Fault.{Fault}
use Rattle.acc_base.specs.declared.ids.QueueAt.{QueueAt}
use Rattle.acc_batch.specs.declared.label.Label.{Label}
use Rattle.acc_batch.specs.declared.label.OpLabel.{OpLabel}
use Rattle.acc_host.specs.declared.event.Event.{Event}
use Rattle.acc_host.specs.declared.event.Event.TheVariants as event
use Rattle.acc_host.specs.declared.program.Statement.{Statement}
use Rattle.acc_host.specs.declared.state.After.{After}
use Rattle.acc_host.specs.declared.state.After.TheVariants as go
use Rattle.acc_host.specs.declared.state.Reply.{Reply}
use Rattle.acc_host.specs.Hosts.{HostView, wants, host_after, after_place, after_wait, after_answer}
use Rattle.acc_host.specs.Steps.{Want, stays, sets, refuses, places, awaits, records}
use Rattle.acc_core.specs.Machine.{State, Outcome, Step, Runs, labels_of, is_there, batches_held, ops_left, can_perform, place_answer, placed_state, wait_answer, waited_state, item_answer, item_state, host_outcome, host_step, named_step, take_step, perform_step, queue_step, step}
use Rattle.acc_core.specs.Worlds.{statements_in}
use Rattle.acc_core.proofs.StandingHosts.{placed_hosts, recorded_hosts, waited_hosts}

abbrev statements_of : HostView → List Statement
statements_of host = host.statements

-- a host that goes on keeps its statements
goes_on : (hosts : List HostView) (h : ℕ) (host : HostView) (goes : Result After Fault) → slice_get hosts h ≡ Some host → map statements_of (slice_set hosts h (host_after goes host)) ≡ map statements_of hosts
goes_on [] zero host goes at = refl
goes_on [] (suc h) host goes at = refl
goes_on (x ∷ hosts) zero host goes at =
    let same : x ≡ host = cc in
    ap (λ (y : HostView). y.statements ∷ map statements_of hosts) (sym same)
goes_on (x ∷ hosts) (suc h) host goes at = ap (λ (ss : List (List Statement)). x.statements ∷ ss) (goes_on hosts h host goes at)

outcome_kept : (w mid : State) (h : ℕ) (host : HostView) (goes : Result After Fault) → mid.hosts ≡ w.hosts → slice_get w.hosts h ≡ Some host → statements_in (host_outcome mid h host goes).state ≡ statements_in w
outcome_kept w mid h host goes same at =
    ap (λ (hosts : List HostView). map statements_of (slice_set hosts h (host_after goes host))) same ∙ goes_on w.hosts h host goes at

host_kept : (b : Bool) (w : State) (h : ℕ) (host : HostView) (want : Want) → slice_get w.hosts h ≡ Some host → statements_in (host_step b w h host want).state ≡ statements_in w
host_kept b w h host stays at = outcome_kept w w h host (Ok go.Idle) refl at
host_kept b w h host (sets ids) at = outcome_kept w w h host (Ok (go.Set ids)) refl at
host_kept b w h host (refuses fault) at = outcome_kept w w h host (Err fault) refl at
host_kept b w h host (places d) at =
    outcome_kept w (placed_state w h d (place_answer b w h d)) h host (after_place d (place_answer b w h d)) (placed_hosts w h d (place_answer b w h d)) at
host_kept b w h host (awaits device counts) at =
    outcome_kept w (waited_state w h device counts (wait_answer b w device counts)) h host (after_wait (wait_answer b w device counts)) (waited_hosts w h device counts (wait_answer b w device counts)) at
host_kept b w h host (records item) at =
    outcome_kept w (item_state w h item (item_answer b w item)) h host (after_answer (item_answer b w item)) (recorded_hosts w h item (item_answer b w item)) at

named_kept : (b : Bool) (w : State) (h : ℕ) (named : Option HostView) → slice_get w.hosts h ≡ named → statements_in (named_step b w h named).state ≡ statements_in w
named_kept b w h None at = refl
named_kept b w h (Some host) at = host_kept b w h host (wants w.config.devices host) at

choice_kept : (b : Bool) (w : State) (x y : Outcome) → statements_in x.state ≡ statements_in w → statements_in y.state ≡ statements_in w → statements_in (cond b x y).state ≡ statements_in w
choice_kept true w x y first second = first
choice_kept false w x y first second = second

queue_kept : (there : Bool) (w : State) (o : Outcome) → statements_in o.state ≡ statements_in w → statements_in (queue_step there w o).state ≡ statements_in w
queue_kept true w o same = same
queue_kept false w o same = refl

take_kept : (w : State) (labels : List Label) (at : QueueAt) (ops : List OpLabel) → statements_in (take_step w labels at ops).state ≡ statements_in w
take_kept w labels at [] = choice_kept (nat_lt 0 (batches_held w labels at)) w _ _ refl refl
take_kept w labels at (op ∷ ops) = refl

perform_kept : (w : State) (labels : List Label) (at : QueueAt) (ops : List OpLabel) → statements_in (perform_step w labels at ops).state ≡ statements_in w
perform_kept w labels at [] = refl
perform_kept w labels at (op ∷ ops) = choice_kept (can_perform labels w.work at op) w _ _ refl refl

step_kept : (b : Bool) (w : State) (e : Event) → statements_in (step b w e).state ≡ statements_in w
step_kept b w (event.Host h) = named_kept b w h (slice_get w.hosts h) refl
step_kept b w (event.Take at) = queue_kept (is_there w at) w _ (take_kept w (labels_of w) at (ops_left w (labels_of w) at))
step_kept b w (event.Perform at) = queue_kept (is_there w at) w _ (perform_kept w (labels_of w) at (ops_left w (labels_of w) at))
step_kept b w event.Close = refl

-- Each step of the machine keeps them.
Step_kept : (old new : State) (e : Event) (r : Reply) → Step old e r new → statements_in new ≡ statements_in old
Step_kept old new e r (b, same) = ap (λ (o : Outcome). statements_in o.state) (sym same) ∙ step_kept b old e

-- So does a run.
pub runs_kept : (events : List Event) (replies : List Reply) (old new : State) → Runs old events replies new → statements_in new ≡ statements_in old
runs_kept [] [] old new runs = ap statements_in runs
runs_kept [] (r ∷ replies) old new runs = absurd runs
runs_kept (e ∷ events) [] old new runs = absurd runs
runs_kept (e ∷ events) (r ∷ replies) old new (mid, first, rest) = runs_kept events replies mid new rest ∙ Step_kept old mid e r first
