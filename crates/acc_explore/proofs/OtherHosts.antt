-- What queues, other hosts and the owner do beside a host: they see nothing of it.
use Rattle.std.proofs.Common.{◌≡◌, ℕ, zero, suc, Bool, true, false, cond, List, [], ◌∷◌, ◌++◌, refl, sym, ap, subst, Ok, Err, Result, slice_set, nat_lt}
use Rattle.acc_base.specs.declared.fault.Fault.{Fault}
use Rattle.acc_base.specs.declared.ids.QueueAt.{QueueAt}
use Rattle.acc_base.specs.Queues.{at_seat, queue_count}
use Rattle.acc_batch.specs.declared.label.Label.{Label}
use Rattle.acc_batch.specs.declared.label.OpLabel.{OpLabel}
use Rattle.acc_core.specs.Machine.{State, Outcome, batches_held, place_answer, placed_state, told_of, with_item, item_answer, item_state, wait_answer, waited_state, idle, did, host_outcome, host_step, take_step, can_perform, perform_step, with_op, can_close, closes, with_closing, close_step, queue_step}
use Rattle.acc_host.specs.declared.state.After.{After}
use Rattle.acc_host.specs.declared.state.After.TheVariants as go
use Rattle.acc_host.specs.Hosts.{HostView, after_place, after_wait, after_answer, host_after}
use Rattle.acc_host.specs.Steps.{Want, stays, sets, refuses, places, awaits, records}
use Rattle.acc_place.specs.declared.directive.PlaceEntry.{PlaceEntry}
use Rattle.acc_place.specs.declared.directive.PlaceEntry.TheVariants as noted
use Rattle.acc_place.specs.declared.directive.Placed.{Placed}
use Rattle.acc_place.specs.Directives.{Directive}
use Rattle.acc_place.specs.Standings.{Standing}
use Rattle.acc_work.specs.declared.item.ItemLabel.{ItemLabel}
use Rattle.acc_work.specs.declared.item.ItemLabel.TheVariants as to_record
use Rattle.acc_work.specs.declared.item.Shown.{Shown}

abbrev pub with_hosts : State → List HostView → State
with_hosts w hosts = record w { hosts = hosts }

-- What the queues and the owner do doesn't look at the hosts, and leaves them.
pub record Apart (w : State) (hosts : List HostView) (o p : Outcome) : Type 0 where
  pub same : p.state ≡ with_hosts o.state hosts
  pub kept : o.state.hosts ≡ w.hosts
  pub config : o.state.config ≡ w.config

apart_if : (w : State) (hosts : List HostView) (b : Bool) (x y p q : Outcome) → Apart w hosts x p → Apart w hosts y q → Apart w hosts (cond b x y) (cond b p q)
apart_if w hosts true x y p q f g = f
apart_if w hosts false x y p q f g = g

pub apart_take : (w : State) (hosts : List HostView) (labels : List Label) (at : QueueAt) (ops : List OpLabel) → Apart w hosts (take_step w labels at ops) (take_step (with_hosts w hosts) labels at ops)
apart_take w hosts labels at [] =
    apart_if w hosts (nat_lt 0 (batches_held w labels at)) _ (idle w) _ (idle (with_hosts w hosts)) (record { same = refl; kept = refl; config = refl }) (record { same = refl; kept = refl; config = refl })
apart_take w hosts labels at (op ∷ ops) = record { same = refl; kept = refl; config = refl }

pub apart_perform : (w : State) (hosts : List HostView) (labels : List Label) (at : QueueAt) (ops : List OpLabel) → Apart w hosts (perform_step w labels at ops) (perform_step (with_hosts w hosts) labels at ops)
apart_perform w hosts labels at [] = record { same = refl; kept = refl; config = refl }
apart_perform w hosts labels at (op ∷ ops) =
    apart_if w hosts (can_perform labels w.work at op) (did (with_op w at op)) (idle w) (did (with_op (with_hosts w hosts) at op)) (idle (with_hosts w hosts)) (record { same = refl; kept = refl; config = refl }) (record { same = refl; kept = refl; config = refl })

pub apart_queue : (there : Bool) (w : State) (hosts : List HostView) (o p : Outcome) → Apart w hosts o p → Apart w hosts (queue_step there w o) (queue_step there (with_hosts w hosts) p)
apart_queue true w hosts o p a = a
apart_queue false w hosts o p a = record { same = refl; kept = refl; config = refl }

closes_apart : (w : State) (hosts : List HostView) (st : Standing) (n : ℕ) → closes w st n ≡ closes (with_hosts w hosts) st n
closes_apart w hosts st zero = refl
closes_apart w hosts st (suc n) = ap (λ cs. cond (can_close w st (at_seat n)) (noted.Closed (at_seat n) ∷ cs) cs) (closes_apart w hosts st n)

pub apart_close : (w : State) (hosts : List HostView) (st : Standing) → Apart w hosts (close_step w st) (close_step (with_hosts w hosts) st)
apart_close w hosts st = record {
  same = ap (λ (cs : List PlaceEntry). record w { history = cs ++ with_closing st w.history; hosts = hosts }) (sym (closes_apart w hosts st (queue_count w.config)));
  kept = refl;
  config = refl;
}

-- The step of another host.
pub record Beside (w : State) (hosts : List HostView) (k : ℕ) (o p : Outcome) : Type 0 where
  pub host : HostView
  pub first : o.state.hosts ≡ slice_set w.hosts k host
  pub same : p.state ≡ with_hosts o.state (slice_set hosts k host)
  pub config : o.state.config ≡ w.config

beside : (w : State) (hosts : List HostView) (k : ℕ) (host : HostView) (goes : Result After Fault) (s t : State) → t ≡ with_hosts s hosts → s.hosts ≡ w.hosts → s.config ≡ w.config
    → Beside w hosts k (host_outcome s k host goes) (host_outcome t k host goes)
beside w hosts k host goes s t e f g = record {
  host = host_after goes host;
  first = ap (λ (hs : List HostView). slice_set hs k (host_after goes host)) f;
  same = ap (λ (v : State). record v { hosts = slice_set v.hosts k (host_after goes host) }) e;
  config = g;
}

record Placing (w : State) (hosts : List HostView) (s t : State) : Type 0 where
  pub same : t ≡ with_hosts s hosts
  pub kept : s.hosts ≡ w.hosts
  pub config : s.config ≡ w.config

placing : (w : State) (hosts : List HostView) (k : ℕ) (d : Directive) (answer : Result Placed Fault) → Placing w hosts (placed_state w k d answer) (placed_state (with_hosts w hosts) k d answer)
placing w hosts k d (Ok placed) = record { same = refl; kept = refl; config = refl }
placing w hosts k d (Err fault) = record { same = refl; kept = refl; config = refl }

recording : (w : State) (hosts : List HostView) (k : ℕ) (item : ItemLabel) (answer : Result Shown Fault) → told_of (with_hosts w hosts) item ≡ told_of w item
    → Placing w hosts (item_state w k item answer) (item_state (with_hosts w hosts) k item answer)
recording w hosts k item (Ok shown) e = record { same = ap (λ what. with_item (with_hosts w hosts) k what) e; kept = refl; config = refl }
recording w hosts k item (Err fault) e = record { same = refl; kept = refl; config = refl }

told_apart : (w : State) (hosts : List HostView) (item : ItemLabel) → told_of (with_hosts w hosts) item ≡ told_of w item
told_apart w hosts (to_record.Write array cell new_value) = refl
told_apart w hosts (to_record.Print range) = refl
told_apart w hosts (to_record.Seen device counts) = refl
told_apart w hosts (to_record.Test device counts) = refl

answer_apart : (w : State) (hosts : List HostView) (item : ItemLabel) → item_answer false (with_hosts w hosts) item ≡ item_answer false w item
answer_apart w hosts (to_record.Write array cell new_value) = refl
answer_apart w hosts (to_record.Print range) = refl
answer_apart w hosts (to_record.Seen device counts) = refl
answer_apart w hosts (to_record.Test device counts) = refl

waiting : (w : State) (hosts : List HostView) (k device : ℕ) (counts : List ℕ) (answer : Result Bool Fault) → Placing w hosts (waited_state w k device counts answer) (waited_state (with_hosts w hosts) k device counts answer)
waiting w hosts k device counts (Ok true) = record { same = refl; kept = refl; config = refl }
waiting w hosts k device counts (Ok false) = record { same = refl; kept = refl; config = refl }
waiting w hosts k device counts (Err fault) = record { same = refl; kept = refl; config = refl }

pub beside_want : (w : State) (hosts : List HostView) (k : ℕ) (host : HostView) (want : Want) → Beside w hosts k (host_step false w k host want) (host_step false (with_hosts w hosts) k host want)
beside_want w hosts k host stays = beside w hosts k host (Ok go.Idle) w (with_hosts w hosts) refl refl refl
beside_want w hosts k host (sets ids) = beside w hosts k host (Ok (go.Set ids)) w (with_hosts w hosts) refl refl refl
beside_want w hosts k host (refuses fault) = beside w hosts k host (Err fault) w (with_hosts w hosts) refl refl refl
beside_want w hosts k host (places d) =
    let answer = place_answer false w k d in
    let p = placing w hosts k d answer in
    beside w hosts k host (after_place d answer) (placed_state w k d answer) (placed_state (with_hosts w hosts) k d answer) p.same p.kept p.config
beside_want w hosts k host (awaits device counts) =
    let answer = wait_answer false w device counts in
    let p = waiting w hosts k device counts answer in
    beside w hosts k host (after_wait answer) (waited_state w k device counts answer) (waited_state (with_hosts w hosts) k device counts answer) p.same p.kept p.config
beside_want w hosts k host (records item) =
    let answer = item_answer false w item in
    let p = recording w hosts k item answer (told_apart w hosts item) in
    subst (λ (a : Result Shown Fault). Beside w hosts k (host_step false w k host (records item)) (host_outcome (item_state (with_hosts w hosts) k item a) k host (after_answer a))) (sym (answer_apart w hosts item))
    (beside w hosts k host (after_answer answer) (item_state w k item answer) (item_state (with_hosts w hosts) k item answer) p.same p.kept p.config)
