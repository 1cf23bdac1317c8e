-- The step of a host over the accelerator is the machine's.
use Rattle.std.proofs.Common.{◌≡◌, ℕ, Bool, true, false, List, inl, inr, refl, sym, ap, ◌∙◌, subst, Result, Ok, Err, Some, None}
use Rattle.std.specs.Prelude.{slice_get, slice_set}
use Rattle.acc_base.specs.declared.fault.Fault.{Fault}
use Rattle.acc_base.specs.declared.fault.Fault.TheVariants.{Memory}
use Rattle.acc_host.specs.declared.state.After.{After}
use Rattle.acc_host.specs.declared.state.After.TheVariants as go
use Rattle.acc_host.specs.declared.state.Reply.{Reply}
use Rattle.acc_host.specs.declared.state.Reply.TheVariants as reply
use Rattle.acc_host.specs.Hosts.{HostView, Asks, Steps, wants, after_place, after_wait, after_answer, reply_to}
use Rattle.acc_host.specs.Steps.{Want, stays, sets, refuses, places, awaits, records}
use Rattle.acc_place.specs.declared.directive.Placed.{Placed}
use Rattle.acc_place.specs.Directives.{Directive}
use Rattle.acc_work.specs.declared.item.ItemLabel.{ItemLabel}
use Rattle.acc_work.specs.declared.item.Shown.{Shown}
use Rattle.acc_host.specs.declared.event.Event.TheVariants as event
use Rattle.acc_core.specs.inner.Answers.{Makes}
use Rattle.acc_core.specs.Legality.{host_entries}
use Rattle.acc_core.specs.Machine.{State, Outcome, Step, placed_state, waited_state, item_state, host_outcome, host_step, named_step}

abbrev with_hosts : List HostView → State → State
with_hosts hosts w = record w { hosts = hosts }

-- what a call makes doesn't depend on the hosts
placed_hosts : (w : State) (hosts : List HostView) (h : ℕ) (d : Directive) (a : Result Placed Fault) → placed_state (with_hosts hosts w) h d a ≡ with_hosts hosts (placed_state w h d a)
placed_hosts w hosts h d (Ok placed) = refl
placed_hosts w hosts h d (Err fault) = refl

waited_hosts : (w : State) (hosts : List HostView) (h device : ℕ) (counts : List ℕ) (a : Result Bool Fault) → waited_state (with_hosts hosts w) h device counts a ≡ with_hosts hosts (waited_state w h device counts a)
waited_hosts w hosts h device counts (Ok true) = refl
waited_hosts w hosts h device counts (Ok false) = refl
waited_hosts w hosts h device counts (Err fault) = refl

item_hosts : (w : State) (hosts : List HostView) (h : ℕ) (item : ItemLabel) (a : Result Shown Fault) → item_state (with_hosts hosts w) h item a ≡ with_hosts hosts (item_state w h item a)
item_hosts w hosts h item (Ok answer) = refl
item_hosts w hosts h item (Err fault) = refl

-- the outcome where the accelerator has become this
abbrev went : List HostView → ℕ → HostView → Result After Fault → State → Outcome
went hosts h host goes w = host_outcome (with_hosts hosts w) h host goes

went_same : (hosts : List HostView) (h : ℕ) (host : HostView) (g goes : Result After Fault) (w new : State) → goes ≡ g → new ≡ w → went hosts h host g w ≡ went hosts h host goes new
went_same hosts h host g goes w new e f = ap (λ x. went hosts h host x w) (sym e) ∙ ap (went hosts h host goes) (sym f)

-- what a host's one call makes is the machine's step
asks_steps : (want : Want) (old new : State) (h : ℕ) (host : HostView) (goes : Result After Fault) (hosts : List HostView) → Asks Makes old h want goes new
    → (no_memory : Bool) × (host_step no_memory (with_hosts hosts old) h host want ≡ went hosts h host goes new)
asks_steps stays old new h host goes hosts a = (false, went_same hosts h host (Ok go.Idle) goes old new a.0 a.1)
asks_steps (sets ids) old new h host goes hosts a = (false, went_same hosts h host (Ok (go.Set ids)) goes old new a.0 a.1)
asks_steps (refuses fault) old new h host goes hosts a = (false, went_same hosts h host (Err fault) goes old new a.0 a.1)
asks_steps (places d) old new h host goes hosts a =
    let answer = a.0 in
    let w = with_hosts hosts old in (
      a.1.0,
      ap (λ x. host_outcome (placed_state w h d x) h host (after_place d x)) (sym a.1.1)
          ∙ (ap (λ x. host_outcome x h host (after_place d answer)) (placed_hosts old hosts h d answer)
          ∙ went_same hosts h host (after_place d answer) goes (placed_state old h d answer) new a.2 a.1.2),
    )
asks_steps (awaits device counts) old new h host goes hosts a =
    let answer = a.0 in
    let w = with_hosts hosts old in (
      a.1.0,
      ap (λ x. host_outcome (waited_state w h device counts x) h host (after_wait x)) (sym a.1.1)
          ∙ (ap (λ x. host_outcome x h host (after_wait answer)) (waited_hosts old hosts h device counts answer)
          ∙ went_same hosts h host (after_wait answer) goes (waited_state old h device counts answer) new a.2 a.1.2),
    )
asks_steps (records item) old new h host goes hosts (inl a) = (true, went_same hosts h host (Err Memory) goes old new a.1 a.2)
asks_steps (records item) old new h host goes hosts (inr a) =
    let answer = a.0 in
    let w = with_hosts hosts old in (
      a.1.0,
      ap (λ x. host_outcome (item_state w h item x) h host (after_answer x)) (sym a.1.1)
          ∙ (ap (λ x. host_outcome x h host (after_answer answer)) (item_hosts old hosts h item answer)
          ∙ went_same hosts h host (after_answer answer) goes (item_state old h item answer) new a.2 a.1.2),
    )

-- The step of `Host::next` over the accelerator is the machine's.
pub host_steps : (old new : State) (hosts : List HostView) (h : ℕ) (host after : HostView) (answer : Reply)
    → slice_get hosts h ≡ Some host → host.host ≡ h → Steps Makes host_entries old.config.devices old host answer new after
    → Step (with_hosts hosts old) (event.Host h) answer (with_hosts (slice_set hosts h after) new)
host_steps old new hosts h host after answer here is s =
    let asks : Asks Makes old h (wants old.config.devices host) s.goes new = subst (λ n. Asks Makes old n (wants old.config.devices host) s.goes new) is s.asks in
    let m = asks_steps (wants old.config.devices host) old new h host s.goes hosts asks in
    let done : Outcome = record { reply = answer; state = with_hosts (slice_set hosts h after) new } in
    let same : went hosts h host s.goes new ≡ done =
    ap (λ (a : HostView). let o : Outcome = record { reply = reply_to s.goes; state = with_hosts (slice_set hosts h a) new } in o) (sym s.host_is)
    ∙ ap (λ (r : Reply). let o : Outcome = record { reply = r; state = with_hosts (slice_set hosts h after) new } in o) (sym s.reply_is) in
    (m.0, ap (named_step m.0 (with_hosts hosts old) h) here ∙ (m.1 ∙ same))

-- a host that isn't there does nothing
pub no_host : (w : State) (h : ℕ) → slice_get w.hosts h ≡ None → Step w (event.Host h) reply.Idle w
no_host w h e = (false, ap (named_step false w h) e)
