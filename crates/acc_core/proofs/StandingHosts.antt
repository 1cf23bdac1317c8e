-- Each step of the machine keeps each host where it stands in its program.
use Rattle.std.proofs.Common.{inl, inr, ◌≡◌, ℕ, zero, suc, ◌+◌, ◌<◌, Bool, true, false, cond, List, [], ◌∷◌, map, refl, sym, ap, subst, arith, Some, None, Option, Result, Ok, Err}
use Rattle.std.specs.Prelude.{nat_lt, slice_get, slice_set}
use Rattle.acc_base.specs.declared.fault.Fault.{Fault}
use Rattle.acc_base.specs.declared.ids.QueueAt.{QueueAt}
use Rattle.acc_base.specs.Queues.{seat}
use Rattle.acc_batch.specs.declared.label.Label.{Label}
use Rattle.acc_batch.specs.declared.label.OpLabel.{OpLabel}
use Rattle.acc_base.specs.Configurations.{Configuration}
use Rattle.acc_host.specs.declared.program.HostProgram.{HostProgram}
use Rattle.acc_host.specs.declared.state.After.{After}
use Rattle.acc_host.specs.declared.state.After.TheVariants as go
use Rattle.acc_host.specs.declared.state.Reply.{Reply}
use Rattle.acc_host.specs.Engines.{HostEntry, Place, Wait, Record, Lists}
use Rattle.acc_host.specs.Following.{Stands}
use Rattle.acc_host.specs.Hosts.{HostView, ready, Adds, wants, host_after, after_place, after_wait, after_answer}
use Rattle.acc_host.specs.Steps.{Want, stays, sets, refuses, places, awaits, records}
use Rattle.acc_place.specs.declared.directive.Placed.{Placed}
use Rattle.acc_place.specs.Directives.{Directive}
use Rattle.acc_work.specs.declared.item.ItemLabel.{ItemLabel}
use Rattle.acc_work.specs.declared.item.Shown.{Shown}
use Rattle.acc_host.specs.declared.event.Event.{Event}
use Rattle.acc_host.specs.declared.event.Event.TheVariants as event
use Rattle.acc_core.specs.Following.{StandsIn, AllStand}
use Rattle.acc_core.specs.Legality.{CountsRise, IsLegalState, host_entries, AllFollow}
use Rattle.acc_core.specs.inner.Closing.{closed_state}
use Rattle.acc_core.specs.Machine.{State, Outcome, Step, Runs, labels_of, is_there, taken_on, batches_held, ops_left, place_answer, placed_state, wait_answer, waited_state, item_answer, item_state, can_perform, host_outcome, host_step, named_step, take_step, perform_step, queue_step, with_op, step}
use Rattle.acc_host.specs.Hosts.{AreNumbered}
use Rattle.acc_core.specs.Worlds.{first_state}
use Rattle.acc_core.proofs.CloseStep.{close_is}
use Rattle.acc_core.proofs.ClosedState.{close_config, close_hosts, entries_closed}
use Rattle.acc_core.proofs.LegalSteps.{Step-legal}
use Rattle.acc_core.proofs.HostLaws.{HostLaws}
use Rattle.acc_core.proofs.HostCalls.{KeepsOthers, Makes-lists, keeps_all, keeps_placed, keeps_waited, keeps_recorded}

-- Each host of the state stands in its program.
abbrev HostsStand : State → Type 0
HostsStand w = AllStand w 0 w.hosts

-- The hosts other than h stand as they stood.
abbrev OthersStay : State → State → ℕ → Type 0
OthersStay old new h = (k : ℕ) (host : HostView) → (h ≡ k → ⊥) → StandsIn old k host → StandsIn new k host

-- a host that is there stands so
pub stands_at : (w : State) (first i h : ℕ) (hosts : List HostView) (host : HostView) → h ≡ first + i → slice_get hosts i ≡ Some host → AllStand w first hosts → StandsIn w h host
stands_at w first zero h [] host at e a = cc
stands_at w first (suc i) h [] host at e a = cc
stands_at w first zero h (x ∷ hosts) host at e a =
    let same : x ≡ host = cc in
    let here : first ≡ h = omega (arith, at) in
    subst (λ (y : HostView). StandsIn w h y) same (subst (λ (k : ℕ). StandsIn w k x) here a.0)
stands_at w first (suc i) h (x ∷ hosts) host at e a = stands_at w (first + 1) i h hosts host (omega (arith, at)) e a.1

-- the hosts with greater numbers stay
stand_behind : (old new : State) (h first : ℕ) (hosts : List HostView) → h < first → OthersStay old new h → AllStand old first hosts → AllStand new first hosts
stand_behind old new h first [] low stay a = tt
stand_behind old new h first (x ∷ hosts) low stay a =
    (stay first x (λ same. absurd (omega (arith, same, low))) a.0, stand_behind old new h (first + 1) hosts (omega (arith, low)) stay a.1)

-- one host changes
stand_set : (old new : State) (h first i : ℕ) (hosts : List HostView) (host : HostView) → h ≡ first + i → OthersStay old new h → StandsIn new h host → AllStand old first hosts → AllStand new first (slice_set hosts i host)
stand_set old new h first zero [] host at stay s a = tt
stand_set old new h first (suc i) [] host at stay s a = tt
stand_set old new h first zero (x ∷ hosts) host at stay s a =
    let here : h ≡ first = omega (arith, at) in
    (subst (λ (k : ℕ). StandsIn new k host) here s, stand_behind old new h (first + 1) hosts (omega (arith, at)) stay a.1)
stand_set old new h first (suc i) (x ∷ hosts) host at stay s a = (
  stay first x (λ same. absurd (omega (arith, same, at))) a.0,
  stand_set old new h (first + 1) i hosts host (omega (arith, at)) stay s a.1,
)

-- no host changes
stand_same : (old new : State) (first : ℕ) (hosts : List HostView) → ((k : ℕ) (host : HostView) → StandsIn old k host → StandsIn new k host) → AllStand old first hosts → AllStand new first hosts
stand_same old new first [] stay a = tt
stand_same old new first (x ∷ hosts) stay a = (stay first x a.0, stand_same old new (first + 1) hosts stay a.1)

-- a host stands as it stood where the number of devices and its entries are what they were
still_stands : (old new : State) (k : ℕ) (host : HostView) → new.config.devices ≡ old.config.devices → host_entries new k ≡ host_entries old k → StandsIn old k host → StandsIn new k host
still_stands old new k host devices entries s =
    (s.0, subst (λ d. Stands d host (host_entries new k)) (sym devices) (subst (λ es. Stands old.config.devices host es) (sym entries) s.1))

-- A host goes on.
stand_goes : (laws : HostLaws) (w new : State) (h : ℕ) (host : HostView) (goes : Result After Fault) → HostsStand w → slice_get w.hosts h ≡ Some host → new.hosts ≡ w.hosts → KeepsOthers h w new
    → Adds (wants w.config.devices host) goes (host_entries w h) (host_entries new h) → HostsStand (host_outcome new h host goes).state
stand_goes laws w new h host goes a here same keeps adds =
    let at = stands_at w 0 h h w.hosts host (omega arith) here a in
    let after = host_after goes host in
    let stands : Stands w.config.devices after (host_entries new h) = laws.steps w.config.devices host goes (host_entries w h) (host_entries new h) adds at.1 in
    let there : StandsIn new h after = (at.0, subst (λ d. Stands d after (host_entries new h)) (sym keeps.same_devices) stands) in
    let others : OthersStay w new h = λ k other ne s. still_stands w new k other keeps.same_devices (keeps.others k (λ (e : k ≡ h). ne (sym e))) s in
    subst (λ hosts. AllStand new 0 (slice_set hosts h after)) (sym same) (stand_set w new h 0 h w.hosts after (omega arith) others there a)

-- what a host's call adds, by what the host wants
adds_placed : (d : Directive) (answer : Result Placed Fault) (old new : List HostEntry) → Lists (Place d answer) old new → Adds (places d) (after_place d answer) old new
adds_placed d (Ok placed) old new l = (placed, refl, l)
adds_placed d (Err fault) old new l = l

adds_waited : (device : ℕ) (counts : List ℕ) (answer : Result Bool Fault) (old new : List HostEntry) → Lists (Wait device counts answer) old new → Adds (awaits device counts) (after_wait answer) old new
adds_waited device counts (Ok true) old new l = inr (refl, l)
adds_waited device counts (Ok false) old new l = inl (refl, l)
adds_waited device counts (Err fault) old new l = l

adds_recorded : (item : ItemLabel) (answer : Result Shown Fault) (old new : List HostEntry) → Lists (Record item answer) old new → Adds (records item) (after_answer answer) old new
adds_recorded item (Ok answer) old new l = (refl, l.0, l.1, l.3)
adds_recorded item (Err fault) old new l = l

-- no call changes the hosts
pub placed_hosts : (w : State) (h : ℕ) (d : Directive) (answer : Result Placed Fault) → (placed_state w h d answer).hosts ≡ w.hosts
placed_hosts w h d (Ok placed) = refl
placed_hosts w h d (Err fault) = refl

pub waited_hosts : (w : State) (h device : ℕ) (counts : List ℕ) (answer : Result Bool Fault) → (waited_state w h device counts answer).hosts ≡ w.hosts
waited_hosts w h device counts (Ok true) = refl
waited_hosts w h device counts (Ok false) = refl
waited_hosts w h device counts (Err fault) = refl

pub recorded_hosts : (w : State) (h : ℕ) (item : ItemLabel) (answer : Result Shown Fault) → (item_state w h item answer).hosts ≡ w.hosts
recorded_hosts w h item (Ok answer) = refl
recorded_hosts w h item (Err fault) = refl

-- the step of a host, by what it wants
stand_want : (laws : HostLaws) (no_memory : Bool) (w : State) (h : ℕ) (host : HostView) (want : Want) → CountsRise w → HostsStand w → slice_get w.hosts h ≡ Some host → wants w.config.devices host ≡ want
    → HostsStand (host_step no_memory w h host want).state
stand_want laws no_memory w h host stays rise a here is =
    stand_goes laws w w h host (Ok go.Idle) a here refl (keeps_all w h)
    (subst (λ x. Adds x (Ok go.Idle) (host_entries w h) (host_entries w h)) (sym is) (refl, refl))
stand_want laws no_memory w h host (sets ids) rise a here is =
    stand_goes laws w w h host (Ok (go.Set ids)) a here refl (keeps_all w h)
    (subst (λ x. Adds x (Ok (go.Set ids)) (host_entries w h) (host_entries w h)) (sym is) (refl, refl))
stand_want laws no_memory w h host (refuses fault) rise a here is =
    stand_goes laws w w h host (Err fault) a here refl (keeps_all w h)
    (subst (λ x. Adds x (Err fault) (host_entries w h) (host_entries w h)) (sym is) (refl, refl))
stand_want laws no_memory w h host (places d) rise a here is =
    let answer = place_answer no_memory w h d in
    let new = placed_state w h d answer in
    stand_goes laws w new h host (after_place d answer) a here (placed_hosts w h d answer) (keeps_placed w h d answer)
    (subst (λ x. Adds x (after_place d answer) (host_entries w h) (host_entries new h)) (sym is)
    (adds_placed d answer (host_entries w h) (host_entries new h) (Makes-lists w h (Place d answer) new rise (no_memory, refl, refl))))
stand_want laws no_memory w h host (awaits device counts) rise a here is =
    let answer = wait_answer no_memory w device counts in
    let new = waited_state w h device counts answer in
    stand_goes laws w new h host (after_wait answer) a here (waited_hosts w h device counts answer) (keeps_waited w h device counts answer)
    (subst (λ x. Adds x (after_wait answer) (host_entries w h) (host_entries new h)) (sym is)
    (adds_waited device counts answer (host_entries w h) (host_entries new h) (Makes-lists w h (Wait device counts answer) new rise (no_memory, refl, refl))))
stand_want laws no_memory w h host (records item) rise a here is =
    let answer = item_answer no_memory w item in
    let new = item_state w h item answer in
    stand_goes laws w new h host (after_answer answer) a here (recorded_hosts w h item answer) (keeps_recorded w h item answer)
    (subst (λ x. Adds x (after_answer answer) (host_entries w h) (host_entries new h)) (sym is)
    (adds_recorded item answer (host_entries w h) (host_entries new h) (Makes-lists w h (Record item answer) new rise (no_memory, refl, refl))))

-- the step of the host with a number, if it is there
stand_named_step : (laws : HostLaws) (no_memory : Bool) (w : State) (h : ℕ) (found : Option HostView) → CountsRise w → HostsStand w → slice_get w.hosts h ≡ found → HostsStand (named_step no_memory w h found).state
stand_named_step laws no_memory w h None rise a e = a
stand_named_step laws no_memory w h (Some host) rise a e = stand_want laws no_memory w h host (wants w.config.devices host) rise a e refl

-- a choice keeps them where both of its ways do
stand_if : (b : Bool) (x y : Outcome) → (b ≡ true → HostsStand x.state) → (b ≡ false → HostsStand y.state) → HostsStand (cond b x y).state
stand_if true x y f g = f refl
stand_if false x y f g = g refl

-- a queue that takes a batch changes no entry of a host
stand_take_step : (w : State) (labels : List Label) (at : QueueAt) (ops : List OpLabel) → HostsStand w → HostsStand (take_step w labels at ops).state
stand_take_step w labels at [] a =
    stand_if (nat_lt 0 (batches_held w labels at)) _ _
    (λ e. stand_same w (record w { taken = slice_set w.taken (seat at) (taken_on w at + 1) }) 0 w.hosts (λ k host s. s) a)
    (λ e. a)
stand_take_step w labels at (op ∷ ops) a = a

-- nor does one that performs an operation
stand_perform_step : (w : State) (labels : List Label) (at : QueueAt) (ops : List OpLabel) → HostsStand w → HostsStand (perform_step w labels at ops).state
stand_perform_step w labels at [] a = a
stand_perform_step w labels at (op ∷ ops) a =
    stand_if (can_perform labels w.work at op) _ _
    (λ e. stand_same w (with_op w at op) 0 w.hosts (λ k host s. s) a)
    (λ e. a)

-- a queue that is not there does nothing
stand_queue_step : (there : Bool) (w : State) (o : Outcome) → HostsStand w → HostsStand o.state → HostsStand (queue_step there w o).state
stand_queue_step true w o a s = s
stand_queue_step false w o a s = a

-- nor does the owner's close
stand_close : (w : State) → HostsStand w → HostsStand (closed_state w)
stand_close w a =
    rw (close_hosts w) (stand_same w (closed_state w) 0 w.hosts (λ k host s. still_stands w (closed_state w) k host (ap (λ (c : Configuration). c.devices) (close_config w)) (entries_closed w k) s) a)

-- Each step keeps each host where it stands in its program.
stand_step : (laws : HostLaws) (no_memory : Bool) (w : State) (e : Event) → CountsRise w → AllStand w 0 w.hosts → AllStand (step no_memory w e).state 0 (step no_memory w e).state.hosts
stand_step laws no_memory w (event.Host h) rise a = stand_named_step laws no_memory w h (slice_get w.hosts h) rise a refl
stand_step laws no_memory w (event.Take at) rise a =
    stand_queue_step (is_there w at) w (take_step w (labels_of w) at (ops_left w (labels_of w) at)) a (stand_take_step w (labels_of w) at (ops_left w (labels_of w) at) a)
stand_step laws no_memory w (event.Perform at) rise a =
    stand_queue_step (is_there w at) w (perform_step w (labels_of w) at (ops_left w (labels_of w) at)) a (stand_perform_step w (labels_of w) at (ops_left w (labels_of w) at) a)
stand_step laws no_memory w event.Close rise a = subst (λ (o : Outcome). HostsStand o.state) (sym (close_is w)) (stand_close w a)

-- a step that the machine may make keeps them
pub Step-stands : (laws : HostLaws) (old new : State) (e : Event) (r : Reply) → CountsRise old → AllStand old 0 old.hosts → Step old e r new → AllStand new 0 new.hosts
Step-stands laws old new e r rise a s = subst (λ (o : Outcome). AllStand o.state 0 o.state.hosts) s.1 (stand_step laws s.0 old e rise a)

-- and so does a run
pub runs_stand : (laws : HostLaws) (events : List Event) (replies : List Reply) (old new : State) → IsLegalState old → AllStand old 0 old.hosts → Runs old events replies new → AllStand new 0 new.hosts
runs_stand laws [] [] old new legal a h = rw h a
runs_stand laws [] (r ∷ replies) old new legal a h = absurd h
runs_stand laws (e ∷ events) [] old new legal a h = absurd h
runs_stand laws (e ∷ events) (r ∷ replies) old new legal a h =
    runs_stand laws events replies h.0 new (Step-legal old h.0 e r legal h.1) (Step-stands laws old h.0 e r legal.counts a h.1) h.2

-- Before the first event each host stands at the start of its program.
stand_first : (laws : HostLaws) (w : State) (n : ℕ) (programs : List HostProgram) → w.history ≡ [] → w.work ≡ [] → AreNumbered n programs → AllStand w n (map ready programs)
stand_first laws w n [] no_history no_work numbered = tt
stand_first laws w n (program ∷ programs) no_history no_work numbered =
    ((numbered.0, rw (no_history, no_work) (laws.first w.config.devices program)), stand_first laws w (n + 1) programs no_history no_work numbered.1)

pub stands_start : (laws : HostLaws) (config : Configuration) (programs : List HostProgram) → AreNumbered 0 programs → AllStand (first_state config programs) 0 (first_state config programs).hosts
stands_start laws config programs numbered = stand_first laws (first_state config programs) 0 programs refl refl numbered

-- Where each host stands in its program, each host's entries follow it.
all_follow : (laws : HostLaws) (w : State) (h : ℕ) (hosts : List HostView) → AllStand w h hosts → AllFollow w h hosts
all_follow laws w h [] a = tt
all_follow laws w h (host ∷ hosts) a = (laws.follow w.config.devices host (host_entries w h) a.0.1, all_follow laws w (h + 1) hosts a.1)

pub AllStand-follow : (laws : HostLaws) (w : State) → AllStand w 0 w.hosts → AllFollow w 0 w.hosts
AllStand-follow laws w a = all_follow laws w 0 w.hosts a
