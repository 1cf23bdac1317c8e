-- Steps of a host that asks nothing of its engine.
use Rattle.std.proofs.Common.{◌≡◌, ℕ, List, None, Ok, refl, sym, ap, subst}
use Rattle.std.specs.Prelude.{slice_get}
use Rattle.acc_host.specs.declared.state.After.TheVariants as go
use Rattle.acc_host.specs.Engines.{HostEntry}
use Rattle.acc_host.specs.declared.state.Reply.TheVariants.{Idle}
use Rattle.acc_host.specs.Engines.{Call}
use Rattle.acc_host.specs.Hosts.{HostView, Steps, Asks, Adds, wants, wants_at}
use Rattle.acc_host.specs.Steps.{stays}

-- a host that stays makes no step
pub staying : {S : Type 0} (makes : S → ℕ → Call → S → Type 0) (entries : S → ℕ → List HostEntry) (devices : ℕ) (old : S) (host : HostView)
    → wants devices host ≡ stays → Steps makes entries devices old host Idle old host
staying makes entries devices old host e =
    record {
      goes = Ok go.Idle;
      asks = subst (λ w. Asks makes old host.host w (Ok go.Idle) old) (sym e) (refl, refl);
      adds = subst (λ w. Adds w (Ok go.Idle) (entries old host.host) (entries old host.host)) (sym e) (refl, refl);
      host_is = refl;
      reply_is = refl;
    }

-- it has ended all statements
pub at_the_end : {S : Type 0} (makes : S → ℕ → Call → S → Type 0) (entries : S → ℕ → List HostEntry) (devices : ℕ) (old : S) (host : HostView)
    → slice_get host.statements host.ended ≡ None → Steps makes entries devices old host Idle old host
at_the_end makes entries devices old host none =
    staying makes entries devices old host (ap (wants_at devices host.ids host.phase) none)
