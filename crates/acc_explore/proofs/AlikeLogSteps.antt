-- Each step of two states that differ in their work logs alone, which show the same.
use Rattle.std.proofs.Common.{◌≡◌, ℕ, ◌+◌, zero, suc, Bool, true, false, cond, ◌||◌, List, [], ◌∷◌, ◌++◌, refl, sym, ap, subst, Some, None, Option, Ok, Err, Result, nat_lt, slice_get, slice_set}
use Rattle.acc_base.specs.declared.fault.Fault.{Fault}
use Rattle.acc_base.specs.declared.ids.QueueAt.{QueueAt}
use Rattle.acc_base.specs.Queues.{at_seat, same_queue, queue_count}
use Rattle.acc_batch.specs.declared.label.Label.{Label}
use Rattle.acc_batch.specs.declared.label.OpLabel.{OpLabel}
use Rattle.acc_core.specs.Machine.{State, Outcome, step, standing_of, labels_of, is_there, batches_held, ops_left, place_answer, placed_state, with_item, told_of, item_answer, item_state, wait_answer, waited_state, idle, did, host_outcome, host_step, named_step, take_step, can_perform, perform_step, with_op, can_close, closes, stay_open, with_closing, close_step, queue_step}
use Rattle.acc_host.specs.declared.event.Event.{Event}
use Rattle.acc_host.specs.declared.event.Event.TheVariants as event
use Rattle.acc_host.specs.declared.state.After.{After}
use Rattle.acc_host.specs.declared.state.After.TheVariants as go
use Rattle.acc_host.specs.declared.state.Reply.TheVariants as reply
use Rattle.acc_host.specs.Hosts.{HostView, wants, after_place, after_wait, after_answer, host_after}
use Rattle.acc_host.specs.Steps.{Want, stays, sets, refuses, places, awaits, records}
use Rattle.acc_place.specs.declared.directive.PlaceEntry.{PlaceEntry}
use Rattle.acc_place.specs.declared.directive.PlaceEntry.TheVariants as noted
use Rattle.acc_place.specs.declared.directive.Placed.{Placed}
use Rattle.acc_place.specs.Directives.{Directive}
use Rattle.acc_place.specs.Histories.{is_closed}
use Rattle.acc_place.specs.Standings.{Standing}
use Rattle.acc_work.specs.declared.item.ItemLabel.{ItemLabel}
use Rattle.acc_work.specs.declared.item.Shown.{Shown}
use Rattle.acc_batch.specs.declared.entry.Told.{Told}
use Rattle.acc_batch.specs.declared.entry.Told.TheVariants as told
use Rattle.acc_batch.specs.declared.entry.WorkEntry.{WorkEntry}
use Rattle.std.specs.Prelude.{All}
use Rattle.std.proofs.lemmas.List.Elements.{All-nil, All-append, All-filter, All-head, All-tail}
use Rattle.acc_base.proofs.Lists.{All-behind}
use Rattle.acc_batch.specs.Labels.{on_queue, ops_of}
use Rattle.acc_batch.specs.Ops.{HasItsCells}
use Rattle.acc_core.specs.Legality.{IsLegalState}
use Rattle.acc_core.proofs.NextOfQueue.{next_of_all, next_uses_live}
use Rattle.acc_work.specs.Logs.{performed}
use Rattle.acc_place.specs.Sound.{HaveTheirCells}
use Rattle.acc_place.proofs.LoopCells.{labels_have}
use Rattle.acc_explore.specs.Alike.{AlikeLogs}
use Rattle.acc_explore.proofs.AlikeLogs.{same_op, same_item}
use Rattle.acc_explore.proofs.LogReadings.{can_perform_same, item_answer_same, items_same, ops_left_same, told_same, wait_answer_same, with_work}

-- They differ in their work logs alone, which show the same.
pub record AlikeInLog (old new : State) : Type 0 where
  pub rest : new ≡ with_work old new.work
  pub work : AlikeLogs old.config.arrays old.work new.work

pub record OutcomeInLog (old new : Outcome) : Type 0 where
  pub reply : old.reply ≡ new.reply
  pub state : AlikeInLog old.state new.state

-- The same state but for its log.
same_by : (w : State) (new : List WorkEntry) → AlikeLogs w.config.arrays w.work new → AlikeInLog w (with_work w new)
same_by w new s = record { rest = refl; work = s }

idle_same : (w : State) (new : List WorkEntry) → AlikeLogs w.config.arrays w.work new → OutcomeInLog (idle w) (idle (with_work w new))
idle_same w new s = record { reply = refl; state = same_by w new s }

-- Hosts go on alike.
hosts_same : (old new : State) (h : ℕ) (host : HostView) → AlikeInLog old new → AlikeInLog (record old { hosts = slice_set old.hosts h host }) (record new { hosts = slice_set new.hosts h host })
hosts_same old new h host s = record { rest = ap (λ (w : State). record w { hosts = slice_set w.hosts h host }) s.rest; work = s.work }

outcome_same : (old new : State) (h : ℕ) (host : HostView) (goes other : Result After Fault) → goes ≡ other → AlikeInLog old new
    → OutcomeInLog (host_outcome old h host goes) (host_outcome new h host other)
outcome_same old new h host goes other e s =
    subst (λ (o : Result After Fault). OutcomeInLog (host_outcome old h host goes) (host_outcome new h host o)) e
    (record { reply = refl; state = hosts_same old new h (host_after goes host) s })

-- A directive is answered alike, and is accepted with the same count of items.
placed_same : (w : State) (new : List WorkEntry) (h : ℕ) (d : Directive) → AlikeLogs w.config.arrays w.work new → (answer : Result Placed Fault)
    → AlikeInLog (placed_state w h d answer) (placed_state (with_work w new) h d answer)
placed_same w new h d s (Ok placed) = record {
  rest = ap (λ n. record w { history = noted.Accepted h d ∷ w.history; counts = n ∷ w.counts; work = new }) (sym (items_same w.config.arrays w.work new s h));
  work = s;
}
placed_same w new h d s (Err fault) = same_by w new s

-- What is told joins both logs.
with_item_same : (w : State) (new : List WorkEntry) (h : ℕ) (what other : Told) → what ≡ other → AlikeLogs w.config.arrays w.work new
    → AlikeInLog (with_item w h what) (with_item (with_work w new) h other)
with_item_same w new h what other e s =
    subst (λ (o : Told). AlikeInLog (with_item w h what) (with_item (with_work w new) h o)) e
    (record { rest = refl; work = same_item w.config.arrays w.work new s h what })

item_same : (w : State) (new : List WorkEntry) (h : ℕ) (item : ItemLabel) → AlikeLogs w.config.arrays w.work new → (answer : Result Shown Fault)
    → AlikeInLog (item_state w h item answer) (item_state (with_work w new) h item answer)
item_same w new h item s (Ok answer) = with_item_same w new h (told_of w item) (told_of (with_work w new) item) (told_same w new s item) s
item_same w new h item s (Err fault) = same_by w new s

waited_same : (w : State) (new : List WorkEntry) (h device : ℕ) (counts : List ℕ) → AlikeLogs w.config.arrays w.work new → (answer : Result Bool Fault)
    → AlikeInLog (waited_state w h device counts answer) (waited_state (with_work w new) h device counts answer)
waited_same w new h device counts s (Ok true) = with_item_same w new h (told.Seen device counts) (told.Seen device counts) refl s
waited_same w new h device counts s (Ok false) = same_by w new s
waited_same w new h device counts s (Err fault) = same_by w new s

-- The step of a host, by what it wants.
want_same : (no_memory : Bool) (w : State) (new : List WorkEntry) (h : ℕ) (host : HostView) → AlikeLogs w.config.arrays w.work new → (want : Want)
    → OutcomeInLog (host_step no_memory w h host want) (host_step no_memory (with_work w new) h host want)
want_same no_memory w new h host s stays = outcome_same w (with_work w new) h host (Ok go.Idle) (Ok go.Idle) refl (same_by w new s)
want_same no_memory w new h host s (sets ids) = outcome_same w (with_work w new) h host (Ok (go.Set ids)) (Ok (go.Set ids)) refl (same_by w new s)
want_same no_memory w new h host s (refuses fault) = outcome_same w (with_work w new) h host (Err fault) (Err fault) refl (same_by w new s)
want_same no_memory w new h host s (places d) =
    let answer = place_answer no_memory w h d in
    outcome_same (placed_state w h d answer) (placed_state (with_work w new) h d answer) h host (after_place d answer) (after_place d answer) refl (placed_same w new h d s answer)
want_same no_memory w new h host s (awaits device counts) =
    let answer = wait_answer no_memory w device counts in
    let other = wait_answer no_memory (with_work w new) device counts in
    let e = wait_answer_same no_memory w new s device counts in
    outcome_same (waited_state w h device counts answer) (waited_state (with_work w new) h device counts other) h host (after_wait answer) (after_wait other) (ap after_wait e)
    (subst (λ (a : Result Bool Fault). AlikeInLog (waited_state w h device counts answer) (waited_state (with_work w new) h device counts a)) e (waited_same w new h device counts s answer))
want_same no_memory w new h host s (records item) =
    let answer = item_answer no_memory w item in
    let other = item_answer no_memory (with_work w new) item in
    let e = item_answer_same no_memory w new s item in
    outcome_same (item_state w h item answer) (item_state (with_work w new) h item other) h host (after_answer answer) (after_answer other) (ap after_answer e)
    (subst (λ (a : Result Shown Fault). AlikeInLog (item_state w h item answer) (item_state (with_work w new) h item a)) e (item_same w new h item s answer))

named_same : (no_memory : Bool) (w : State) (new : List WorkEntry) (h : ℕ) → AlikeLogs w.config.arrays w.work new → (host : Option HostView)
    → OutcomeInLog (named_step no_memory w h host) (named_step no_memory (with_work w new) h host)
named_same no_memory w new h s None = idle_same w new s
named_same no_memory w new h s (Some host) = want_same no_memory w new h host s (wants w.config.devices host)

-- A choice that is made alike.
if_same : (b : Bool) (x y other_x other_y : Outcome) → OutcomeInLog x other_x → OutcomeInLog y other_y → OutcomeInLog (cond b x y) (cond b other_x other_y)
if_same true x y other_x other_y f g = f
if_same false x y other_x other_y f g = g

-- A batch is taken alike.
take_same : (w : State) (new : List WorkEntry) (labels : List Label) (at : QueueAt) → AlikeLogs w.config.arrays w.work new → (ops : List OpLabel)
    → OutcomeInLog (take_step w labels at ops) (take_step (with_work w new) labels at ops)
take_same w new labels at s [] =
    if_same (nat_lt 0 (batches_held w labels at)) _ (idle w) _ (idle (with_work w new)) (record { reply = refl; state = record { rest = refl; work = s } }) (idle_same w new s)
take_same w new labels at s (op ∷ ops) = idle_same w new s

-- each loop that was placed has its cells
ops_have : (ls : List Label) → All HaveTheirCells ls → All HasItsCells (ops_of ls)
ops_have [] h = All-nil HasItsCells
ops_have (l ∷ ls) h = All-append HasItsCells l.ops (ops_of ls) (All-head HaveTheirCells l ls h) (ops_have ls (All-tail HaveTheirCells l ls h))

loops_stay : (w : State) → IsLegalState w → (at : QueueAt) → All HasItsCells (ops_of (on_queue at (labels_of w)))
loops_stay w l at =
    ops_have (on_queue at (labels_of w))
    (All-filter (λ (l : Label). same_queue l.at at) HaveTheirCells (labels_of w) (labels_have w.config w.history w.counts l.accepted))

-- so has the operation that a queue performs next
pub next_has_cells : (w : State) (at : QueueAt) (op : OpLabel) (ops : List OpLabel) → IsLegalState w → ops_left w (labels_of w) at ≡ op ∷ ops → HasItsCells op
next_has_cells w at op ops l e =
    let next = next_of_all w at op ops l.kept.prefix e in
    let behind : All HasItsCells (op ∷ next.later) = All-behind HasItsCells (performed at w.work) (op ∷ next.later) (subst (λ (all : List OpLabel). All HasItsCells all) next.split (loops_stay w l at)) in
    All-head HasItsCells op next.later behind

-- An operation is performed alike.
perform_same : (w : State) (new : List WorkEntry) (at : QueueAt) → IsLegalState w → AlikeLogs w.config.arrays w.work new → (ops : List OpLabel) → ops_left w (labels_of w) at ≡ ops
    → OutcomeInLog (perform_step w (labels_of w) at ops) (perform_step (with_work w new) (labels_of w) at ops)
perform_same w new at l s [] e = idle_same w new s
perform_same w new at l s (op ∷ ops) e =
    let labels = labels_of w in
    let cells = next_has_cells w at op ops l e in
    let uses = next_uses_live w at op ops l e in
    subst (λ (b : Bool). OutcomeInLog (perform_step w labels at (op ∷ ops)) (cond b (did (with_op (with_work w new) at op)) (idle (with_work w new))))
    (can_perform_same w.config.arrays labels w.work new s at op)
    (if_same (can_perform labels w.work at op) (did (with_op w at op)) (idle w) (did (with_op (with_work w new) at op)) (idle (with_work w new))
    (record { reply = refl; state = record { rest = refl; work = same_op w.config.arrays w.work new s at op uses cells } }) (idle_same w new s))

queue_same : (there : Bool) (w : State) (new : List WorkEntry) (o other : Outcome) → AlikeLogs w.config.arrays w.work new → OutcomeInLog o other
    → OutcomeInLog (queue_step there w o) (queue_step there (with_work w new) other)
queue_same true w new o other s f = f
queue_same false w new o other s f = idle_same w new s

-- Closing doesn't look at the log.
pub closes_same : (w : State) (new : List WorkEntry) (st : Standing) (n : ℕ) → closes w st n ≡ closes (with_work w new) st n
closes_same w new st zero = refl
closes_same w new st (suc n) = ap (λ cs. cond (can_close w st (at_seat n)) (noted.Closed (at_seat n) ∷ cs) cs) (closes_same w new st n)

stay_same : (w : State) (new : List WorkEntry) (st : Standing) (n : ℕ) → stay_open w st n ≡ stay_open (with_work w new) st n
stay_same w new st zero = refl
stay_same w new st (suc n) = ap (λ k. cond (is_closed st (at_seat n) || can_close w st (at_seat n)) k (k + 1)) (stay_same w new st n)

close_same : (w : State) (new : List WorkEntry) (st : Standing) → AlikeLogs w.config.arrays w.work new → OutcomeInLog (close_step w st) (close_step (with_work w new) st)
close_same w new st s = record {
  reply = ap reply.Remaining (stay_same w new st (queue_count w.config));
  state = record {
    rest = ap (λ (cs : List PlaceEntry). record w { history = cs ++ with_closing st w.history; work = new }) (sym (closes_same w new st (queue_count w.config)));
    work = s;
  };
}

pub by_event : (no_memory : Bool) (w : State) (new : List WorkEntry) → IsLegalState w → AlikeLogs w.config.arrays w.work new → (e : Event) → OutcomeInLog (step no_memory w e) (step no_memory (with_work w new) e)
by_event no_memory w new l s (event.Host h) = named_same no_memory w new h s (slice_get w.hosts h)
by_event no_memory w new l s (event.Take at) =
    queue_same (is_there w at) w new _ _ s
    (subst (λ (ops : List OpLabel). OutcomeInLog (take_step w (labels_of w) at (ops_left w (labels_of w) at)) (take_step (with_work w new) (labels_of w) at ops))
    (ops_left_same w new (labels_of w) at s.done) (take_same w new (labels_of w) at s (ops_left w (labels_of w) at)))
by_event no_memory w new l s (event.Perform at) =
    queue_same (is_there w at) w new _ _ s
    (subst (λ (ops : List OpLabel). OutcomeInLog (perform_step w (labels_of w) at (ops_left w (labels_of w) at)) (perform_step (with_work w new) (labels_of w) at ops))
    (ops_left_same w new (labels_of w) at s.done) (perform_same w new at l s (ops_left w (labels_of w) at) refl))
by_event no_memory w new l s event.Close = close_same w new (standing_of w) s
