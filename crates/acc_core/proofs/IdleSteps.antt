-- A step that isn't possible changes nothing.
use Rattle.std.proofs.Common.{◌≡◌, ℕ, zero, suc, Bool, true, false, cond, List, [], ◌∷◌, refl, sym, ap, ◌∙◌, Some, None, Option, Result, Ok, Err}
use Rattle.std.specs.Prelude.{nat_lt, slice_get, slice_set}
use Rattle.acc_base.specs.declared.fault.Fault.{Fault}
use Rattle.acc_base.specs.declared.ids.QueueAt.{QueueAt}
use Rattle.acc_batch.specs.declared.label.Label.{Label}
use Rattle.acc_batch.specs.declared.label.OpLabel.{OpLabel}
use Rattle.acc_place.specs.Directives.{Directive}
use Rattle.acc_place.specs.declared.directive.Placed.{Placed}
use Rattle.acc_work.specs.declared.item.ItemLabel.{ItemLabel}
use Rattle.acc_work.specs.declared.item.Shown.{Shown}
use Rattle.acc_host.specs.declared.event.Event.{Event}
use Rattle.acc_host.specs.declared.event.Event.TheVariants as event
use Rattle.acc_host.specs.declared.state.After.{After}
use Rattle.acc_host.specs.declared.state.After.TheVariants as go
use Rattle.acc_host.specs.declared.state.Reply.TheVariants as reply
use Rattle.acc_host.specs.Hosts.{HostView, wants, after_place, after_wait, after_answer, owing}
use Rattle.acc_host.specs.Steps.{Owed, nothing_owed, owes_seen, owes_test, owed_by, Want, stays, sets, refuses, places, awaits, records}
use Rattle.acc_core.specs.Machine.{State, Outcome, Step, labels_of, is_there, batches_held, ops_left, can_perform, place_answer, placed_state, wait_answer, waited_state, item_answer, item_state, host_outcome, host_step, named_step, take_step, perform_step, queue_step, step}

-- what an outcome that isn't possible leaves
abbrev Keeps : State → Outcome → Type 0
Keeps w o = o.reply ≡ reply.Idle → o.state ≡ w

-- a host that stays is put back
put_back : (hosts : List HostView) (h : ℕ) (host : HostView) → slice_get hosts h ≡ Some host → slice_set hosts h host ≡ hosts
put_back [] zero host at = refl
put_back [] (suc h) host at = refl
put_back (x ∷ hosts) zero host at =
    let same : x ≡ host = cc in
    ap (λ (y : HostView). y ∷ hosts) (sym same)
put_back (x ∷ hosts) (suc h) host at = ap (λ (ys : List HostView). x ∷ ys) (put_back hosts h host at)

stays_put : (w : State) (h : ℕ) (host : HostView) → slice_get w.hosts h ≡ Some host → Keeps w (host_outcome w h host (Ok go.Idle))
stays_put w h host at is = ap (λ (hosts : List HostView). let v : State = record w { hosts = hosts } in v) (put_back w.hosts h host at)

-- a host that goes on is answered by another reply
goes_on : (w mid : State) (h : ℕ) (host : HostView) (goes : After) → (goes ≡ go.Idle → mid ≡ w) → slice_get w.hosts h ≡ Some host → Keeps w (host_outcome mid h host (Ok goes))
goes_on w mid h host go.Idle same at is =
    ap (λ (v : State). (host_outcome v h host (Ok go.Idle)).state) (same refl) ∙ stays_put w h host at refl
goes_on w mid h host go.Ended same at is = absurd cc
goes_on w mid h host (go.Set ids) same at is = absurd cc
goes_on w mid h host (go.Waits what) same at is = absurd cc
goes_on w mid h host (go.Asks what) same at is = absurd cc

refused : (w mid : State) (h : ℕ) (host : HostView) (fault : Fault) → Keeps w (host_outcome mid h host (Err fault))
refused w mid h host fault is = absurd cc

owes : (what : Owed) → owing what ≡ go.Idle → ⊥
owes nothing_owed is = absurd cc
owes (owes_seen device counts) is = absurd cc
owes (owes_test device counts) is = absurd cc

place_keeps : (w : State) (h : ℕ) (host : HostView) (d : Directive) (answer : Result Placed Fault) → slice_get w.hosts h ≡ Some host → Keeps w (host_outcome (placed_state w h d answer) h host (after_place d answer))
place_keeps w h host d (Ok placed) at = goes_on w _ h host (owing (owed_by d placed)) (λ is. absurd (owes (owed_by d placed) is)) at
place_keeps w h host d (Err fault) at = refused w w h host fault

wait_keeps : (w : State) (h device : ℕ) (counts : List ℕ) (host : HostView) (answer : Result Bool Fault) → slice_get w.hosts h ≡ Some host → Keeps w (host_outcome (waited_state w h device counts answer) h host (after_wait answer))
wait_keeps w h device counts host (Ok true) at is = absurd cc
wait_keeps w h device counts host (Ok false) at is = stays_put w h host at refl
wait_keeps w h device counts host (Err fault) at is = absurd cc

item_keeps : (w : State) (h : ℕ) (host : HostView) (item : ItemLabel) (answer : Result Shown Fault) → Keeps w (host_outcome (item_state w h item answer) h host (after_answer answer))
item_keeps w h host item (Ok shown) is = absurd cc
item_keeps w h host item (Err fault) is = absurd cc

host_keeps : (b : Bool) (w : State) (h : ℕ) (host : HostView) (want : Want) → slice_get w.hosts h ≡ Some host → Keeps w (host_step b w h host want)
host_keeps b w h host stays at = stays_put w h host at
host_keeps b w h host (sets ids) at = λ is. absurd cc
host_keeps b w h host (refuses fault) at = λ is. absurd cc
host_keeps b w h host (places d) at = place_keeps w h host d (place_answer b w h d) at
host_keeps b w h host (awaits device counts) at = wait_keeps w h device counts host (wait_answer b w device counts) at
host_keeps b w h host (records item) at = item_keeps w h host item (item_answer b w item)

named_keeps : (b : Bool) (w : State) (h : ℕ) (named : Option HostView) → slice_get w.hosts h ≡ named → Keeps w (named_step b w h named)
named_keeps b w h None at = λ is. refl
named_keeps b w h (Some host) at = host_keeps b w h host (wants w.config.devices host) at

choice_keeps : (b : Bool) (w : State) (x y : Outcome) → Keeps w x → Keeps w y → Keeps w (cond b x y)
choice_keeps true w x y first second = first
choice_keeps false w x y first second = second

queue_keeps : (there : Bool) (w : State) (o : Outcome) → Keeps w o → Keeps w (queue_step there w o)
queue_keeps true w o keeps = keeps
queue_keeps false w o keeps = λ is. refl

take_keeps : (w : State) (labels : List Label) (at : QueueAt) (ops : List OpLabel) → Keeps w (take_step w labels at ops)
take_keeps w labels at [] = choice_keeps (nat_lt 0 (batches_held w labels at)) w _ _ (λ is. absurd cc) (λ is. refl)
take_keeps w labels at (op ∷ ops) = λ is. refl

perform_keeps : (w : State) (labels : List Label) (at : QueueAt) (ops : List OpLabel) → Keeps w (perform_step w labels at ops)
perform_keeps w labels at [] = λ is. refl
perform_keeps w labels at (op ∷ ops) = choice_keeps (can_perform labels w.work at op) w _ _ (λ is. absurd cc) (λ is. refl)

step_keeps : (b : Bool) (w : State) (e : Event) → Keeps w (step b w e)
step_keeps b w (event.Host h) = named_keeps b w h (slice_get w.hosts h) refl
step_keeps b w (event.Take at) = queue_keeps (is_there w at) w _ (take_keeps w (labels_of w) at (ops_left w (labels_of w) at))
step_keeps b w (event.Perform at) = queue_keeps (is_there w at) w _ (perform_keeps w (labels_of w) at (ops_left w (labels_of w) at))
step_keeps b w event.Close = λ is. absurd cc

-- Where the machine answers that a step isn't possible, it is as it was.
pub idle_keeps : (old new : State) (e : Event) → Step old e reply.Idle new → new ≡ old
idle_keeps old new e (b, same) =
    ap (λ (o : Outcome). o.state) (sym same) ∙ step_keeps b old e (ap (λ (o : Outcome). o.reply) same)
