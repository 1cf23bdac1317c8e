-- A step that isn't refused for want of memory is as where no memory is refused.
use Rattle.std.proofs.Common.{◌≡◌, ℕ, Bool, true, false, cond, List, refl, sym, ap, ◌∙◌, Some, None, Option, Ok}
use Rattle.std.specs.Prelude.{slice_get}
use Rattle.acc_base.specs.declared.fault.Fault.{Fault}
use Rattle.acc_base.specs.declared.fault.Fault.TheVariants.{Memory}
use Rattle.acc_core.specs.Machine.{State, Outcome, host_outcome, host_step, named_step, place_fault, placed_state, step, unless, waited_state}
use Rattle.acc_host.specs.declared.event.Event.{Event}
use Rattle.acc_host.specs.declared.event.Event.TheVariants as event
use Rattle.acc_host.specs.declared.state.Reply.TheVariants as reply
use Rattle.acc_host.specs.Hosts.{HostView, after_place, after_wait, wants}
use Rattle.acc_host.specs.Steps.{Want, stays, sets, refuses, places, awaits, records}
use Rattle.acc_place.specs.Accepting.{refusal}
use Rattle.acc_place.specs.Batches.{answer_of}
use Rattle.acc_place.specs.declared.directive.Placed.{Placed}
use Rattle.acc_place.specs.Directives.{Directive}
use Rattle.acc_place.specs.Standings.{walk_of}
use Rattle.acc_core.specs.Machine.{labels_of, standing_of}
use Rattle.acc_explore.specs.Runs.{AmpleUnlessRefused}
use Rattle.acc_work.specs.Logs.{all_done}
use Rattle.acc_work.specs.Works.{item_fault}

-- an outcome where memory is refused is no such refusal, and so is the outcome where it isn't
abbrev IsAmple : Outcome → Outcome → Type 0
IsAmple ample scarce = (scarce.reply ≡ reply.Refused Memory → ⊥) → ample ≡ scarce

placed : (w : State) (h : ℕ) (host : HostView) (d : Directive) (answer : Placed) (first : Option Fault)
    → IsAmple (host_outcome (placed_state w h d (unless (place_fault false w h d first) answer)) h host (after_place d (unless (place_fault false w h d first) answer)))
    (host_outcome (placed_state w h d (unless (place_fault true w h d first) answer)) h host (after_place d (unless (place_fault true w h d first) answer)))
placed w h host d answer None other = absurd (other refl)
placed w h host d answer (Some fault) other = refl

waited : (w : State) (h device : ℕ) (counts : List ℕ) (host : HostView) (done : Bool)
    → IsAmple (host_outcome (waited_state w h device counts (cond done (unless (item_fault false w.work true) true) (Ok false))) h host (after_wait (cond done (unless (item_fault false w.work true) true) (Ok false))))
    (host_outcome (waited_state w h device counts (cond done (unless (item_fault true w.work true) true) (Ok false))) h host (after_wait (cond done (unless (item_fault true w.work true) true) (Ok false))))
waited w h device counts host true other = absurd (other refl)
waited w h device counts host false other = refl

wanted : (w : State) (h : ℕ) (host : HostView) (want : Want) → IsAmple (host_step false w h host want) (host_step true w h host want)
wanted w h host stays other = refl
wanted w h host (sets ids) other = refl
wanted w h host (refuses fault) other = refl
wanted w h host (places d) other =
    placed w h host d (answer_of (standing_of w) d (walk_of (standing_of w) h d)) (refusal w.config (standing_of w) h d) other
wanted w h host (awaits device counts) other = waited w h device counts host (all_done (labels_of w) w.work device 0 counts) other
wanted w h host (records item) other = absurd (other refl)

named : (w : State) (h : ℕ) (host : Option HostView) → IsAmple (named_step false w h host) (named_step true w h host)
named w h None other = refl
named w h (Some host) other = wanted w h host (wants w.config.devices host) other

ample : (no_memory : Bool) (w : State) (e : Event) → IsAmple (step false w e) (step no_memory w e)
ample false w e other = refl
ample true w (event.Host h) other = named w h (slice_get w.hosts h) other
ample true w (event.Take at) other = refl
ample true w (event.Perform at) other = refl
ample true w event.Close other = refl

pub ample_unless_refused : AmpleUnlessRefused
ample_unless_refused old new e answer (no_memory, same) other =
    ample no_memory old e (λ refused. other (ap (λ (o : Outcome). o.reply) (sym same) ∙ refused)) ∙ same
