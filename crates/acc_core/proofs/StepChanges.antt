-- What a step changes: one of six changes is made, or none. What each of them keeps, each step keeps.
use Rattle.std.proofs.Common.{subst, sym, ◌≡◌, ℕ, Bool, true, false, cond, List, [], ◌∷◌, refl, Some, None, Option, Ok}
use Rattle.std.specs.Prelude.{not, nat_lt, nat_le, slice_get}
use Rattle.acc_base.specs.declared.ids.QueueAt.{QueueAt}
use Rattle.acc_base.specs.declared.fault.Fault.{Fault}
use Rattle.acc_base.specs.declared.fault.Fault.TheVariants.{BadRange, TooMany, Memory}
use Rattle.acc_place.specs.declared.directive.Placed.{Placed}
use Rattle.acc_place.specs.Directives.{Directive}
use Rattle.acc_host.specs.declared.event.Event.{Event}
use Rattle.acc_host.specs.declared.event.Event.TheVariants as event
use Rattle.acc_host.specs.declared.state.Reply.{Reply}
use Rattle.acc_host.specs.Hosts.{HostView, wants, after_place, after_wait, after_answer}
use Rattle.acc_host.specs.Steps.{Want, stays, sets, refuses, places, awaits, records}
use Rattle.acc_work.specs.declared.item.ItemLabel.{ItemLabel}
use Rattle.acc_work.specs.declared.item.ItemLabel.TheVariants as to_record
use Rattle.acc_work.specs.declared.item.Shown.{Shown}
use Rattle.acc_batch.specs.declared.entry.Told.{Told}
use Rattle.acc_batch.specs.declared.entry.Told.TheVariants as told
use Rattle.acc_work.specs.declared.log.TheConstants.{MAX_HOST_ITEMS}
use Rattle.acc_batch.specs.declared.label.OpLabel.{OpLabel}
use Rattle.acc_place.specs.Accepting.{refusal}
use Rattle.acc_place.specs.Batches.{answer_of}
use Rattle.acc_work.specs.Items.{shown_by}
use Rattle.acc_work.specs.Orders.{ShowsTruth}
use Rattle.acc_work.specs.Logs.{all_items, all_done}
use Rattle.acc_work.specs.Works.{item_fault}
use Rattle.acc_core.specs.inner.Closing.{closed_state}
use Rattle.acc_core.specs.Machine.{State, Outcome, Step, standing_of, labels_of, is_there, batches_held, ops_left, with_item, with_op, unless, place_fault, fault_of_place, with_directive, placed_state, told_of, can_tell, can_perform, item_state, waited_state, host_outcome, host_step, named_step, take_step, perform_step, queue_step, step}
use Rattle.acc_place.specs.Standings.{walk_of}
use Rattle.acc_core.proofs.CloseStep.{close_is}

-- P holds of a state, and of each state that one change may make of it.
pub record Changes (P : State → Type 0) (w : State) : Type 0 where
  pub stays : P w
  pub hosts : (hosts : List HostView) → P (record w { hosts = hosts })
  pub item : (hosts : List HostView) (h : ℕ) (what : Told) → ShowsTruth w.config.arrays (labels_of w) what w.work → P (with_item (record w { hosts = hosts }) h what)
  pub accepted : (hosts : List HostView) (h : ℕ) (d : Directive) → refusal w.config (standing_of w) h d ≡ None → P (with_directive (record w { hosts = hosts }) h d)
  pub taken : (taken : List ℕ) → P (record w { taken = taken })
  pub performed : (at : QueueAt) (op : OpLabel) (ops : List OpLabel) → ops_left w (labels_of w) at ≡ op ∷ ops
      → can_perform (labels_of w) w.work at op ≡ true → P (with_op w at op)
  pub closed : P (closed_state w)

-- P holds of a choice where it holds of both ways
if_both : (P : State → Type 0) (b : Bool) (x y : Outcome) → (b ≡ true → P x.state) → (b ≡ false → P y.state) → P (cond b x y).state
if_both P true x y f g = f refl
if_both P false x y f g = g refl

-- a directive that is answered has no fault of its own
no_fault : (no_memory : Bool) (w : State) (h : ℕ) (d : Directive) (r : Option Fault) → place_fault no_memory w h d r ≡ None → r ≡ None
no_fault no_memory w h d None e = refl
no_fault no_memory w h d (Some fault) e = cc

-- a directive is accepted, or the host is refused
by_place : (P : State → Type 0) (w : State) (h : ℕ) (host : HostView) (d : Directive) (fault : Option Fault) (placed : Placed) → Changes P w
    → (fault ≡ None → refusal w.config (standing_of w) h d ≡ None) → P (host_outcome (placed_state w h d (unless fault placed)) h host (after_place d (unless fault placed))).state
by_place P w h host d None placed c fine = c.accepted _ h d (fine refl)
by_place P w h host d (Some fault) placed c fine = c.hosts _

-- an item that is told shows what is so
can_be_told : (no_memory many cells : Bool) → cond no_memory (Some Memory) (cond many (Some TooMany) (cond (not cells) (Some BadRange) None)) ≡ None → cells ≡ true
can_be_told true many cells e = cc
can_be_told false true cells e = cc
can_be_told false false true e = refl
can_be_told false false false e = cc

pub tells_truth : (w : State) (item : ItemLabel) → can_tell w item ≡ true → ShowsTruth w.config.arrays (labels_of w) (told_of w item) w.work
tells_truth w (to_record.Write array cell new_value) e = tt
tells_truth w (to_record.Print range) e = refl
tells_truth w (to_record.Seen device counts) e = e
tells_truth w (to_record.Test device counts) e = refl

-- it joins the log, or the host is refused
by_item : (P : State → Type 0) (w : State) (h : ℕ) (host : HostView) (item : ItemLabel) (fault : Option Fault) (answer : Shown) → Changes P w
    → (fault ≡ None → can_tell w item ≡ true) → P (host_outcome (item_state w h item (unless fault answer)) h host (after_answer (unless fault answer))).state
by_item P w h host item None answer c fine = c.item _ h (told_of w item) (tells_truth w item (fine refl))
by_item P w h host item (Some fault) answer c fine = c.hosts _

-- what is waited for is seen, or the host is refused
by_seen : (P : State → Type 0) (w : State) (h : ℕ) (host : HostView) (device : ℕ) (counts : List ℕ) (fault : Option Fault) → Changes P w
    → all_done (labels_of w) w.work device 0 counts ≡ true → P (host_outcome (waited_state w h device counts (unless fault true)) h host (after_wait (unless fault true))).state
by_seen P w h host device counts None c reached = c.item _ h (told.Seen device counts) reached
by_seen P w h host device counts (Some fault) c reached = c.hosts _

by_wait : (P : State → Type 0) (w : State) (h : ℕ) (host : HostView) (device : ℕ) (counts : List ℕ) (fault : Option Fault) (reached : Bool) → Changes P w
    → (reached ≡ true → all_done (labels_of w) w.work device 0 counts ≡ true)
    → P (host_outcome (waited_state w h device counts (cond reached (unless fault true) (Ok false))) h host (after_wait (cond reached (unless fault true) (Ok false)))).state
by_wait P w h host device counts fault true c is = by_seen P w h host device counts fault c (is refl)
by_wait P w h host device counts fault false c is = c.hosts _

-- the step of a host, by what it wants
by_want : (P : State → Type 0) (no_memory : Bool) (w : State) (h : ℕ) (host : HostView) (want : Want) → Changes P w → P (host_step no_memory w h host want).state
by_want P no_memory w h host stays c = c.hosts _
by_want P no_memory w h host (sets ids) c = c.hosts _
by_want P no_memory w h host (refuses fault) c = c.hosts _
by_want P no_memory w h host (places d) c =
    by_place P w h host d (fault_of_place no_memory w h d) (answer_of (standing_of w) d (walk_of (standing_of w) h d)) c
    (no_fault no_memory w h d (refusal w.config (standing_of w) h d))
by_want P no_memory w h host (awaits device counts) c =
    by_wait P w h host device counts (item_fault no_memory w.work true) (all_done (labels_of w) w.work device 0 counts) c (λ e. e)
by_want P no_memory w h host (records item) c =
    by_item P w h host item (item_fault no_memory w.work (can_tell w item)) (shown_by (told_of w item)) c
    (can_be_told no_memory (nat_le MAX_HOST_ITEMS (all_items w.work)) (can_tell w item))

-- the step of a host that is named, if there is one
by_named : (P : State → Type 0) (no_memory : Bool) (w : State) (h : ℕ) (host : Option HostView) → Changes P w → P (named_step no_memory w h host).state
by_named P no_memory w h None c = c.stays
by_named P no_memory w h (Some host) c = by_want P no_memory w h host (wants w.config.devices host) c

-- a batch is taken, or none
by_take : (P : State → Type 0) (w : State) (at : QueueAt) (ops : List OpLabel) → Changes P w → P (take_step w (labels_of w) at ops).state
by_take P w at [] c = if_both P (nat_lt 0 (batches_held w (labels_of w) at)) _ _ (λ e. c.taken _) (λ e. c.stays)
by_take P w at (op ∷ ops) c = c.stays

-- an operation is performed, or none
by_perform : (P : State → Type 0) (w : State) (at : QueueAt) (ops : List OpLabel) → Changes P w → ops_left w (labels_of w) at ≡ ops
    → P (perform_step w (labels_of w) at ops).state
by_perform P w at [] c e = c.stays
by_perform P w at (op ∷ ops) c e =
    if_both P (can_perform (labels_of w) w.work at op) _ _ (λ f. c.performed at op ops e f) (λ f. c.stays)

-- the step of a queue, if it is there
by_queue : (P : State → Type 0) (there : Bool) (w : State) (o : Outcome) → P w → P o.state → P (queue_step there w o).state
by_queue P true w o was goes = goes
by_queue P false w o was goes = was

-- P holds after each step where it holds after each of these changes.
pub by_step : (P : State → Type 0) (no_memory : Bool) (w : State) (e : Event) → Changes P w → P (step no_memory w e).state
by_step P no_memory w (event.Host h) c = by_named P no_memory w h (slice_get w.hosts h) c
by_step P no_memory w (event.Take at) c = by_queue P (is_there w at) w _ c.stays (by_take P w at (ops_left w (labels_of w) at) c)
by_step P no_memory w (event.Perform at) c = by_queue P (is_there w at) w _ c.stays (by_perform P w at (ops_left w (labels_of w) at) c refl)
by_step P no_memory w event.Close c = subst (λ (o : Outcome). P o.state) (sym (close_is w)) c.closed

-- So it does for each answer that the machine may give.
pub Step-by : (P : State → Type 0) (old new : State) (e : Event) (r : Reply) → Changes P old → Step old e r new → P new
Step-by P old new e r c s = let after = by_step P s.0 old e c in rw s.1 at after
