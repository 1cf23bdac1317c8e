-- A host's own statement may go first: one that sets its ids or asks for them, and nobody else sees.
use Rattle.std.specs.Prelude.{ℕ, Bool, true, false, slice_get, Option, Some, None}
use Rattle.acc_core.specs.Machine.{State}
use Rattle.acc_explore.specs.Reductions.{Commutes}
use Rattle.acc_host.specs.declared.event.Event.TheVariants as event
use Rattle.acc_host.specs.Hosts.{HostView, wants}
use Rattle.acc_host.specs.Steps.{Want, stays, sets, refuses, places, awaits, records}

abbrev pub is_own : Want → Bool
is_own stays = false
is_own (sets ids) = true
is_own (refuses fault) = false
is_own (places d) = false
is_own (awaits device counts) = false
is_own (records item) = false

abbrev pub stands_at_own : ℕ → Option HostView → Bool
stands_at_own devices None = false
stands_at_own devices (Some host) = is_own (wants devices host)

-- a host stands at such a statement
abbrev pub is_at_own : ℕ → State → Bool
is_at_own h w = stands_at_own w.config.devices (slice_get w.hosts h)

-- Its step commutes with every other event.
abbrev pub OwnStatementsCommute : Type 0
OwnStatementsCommute = (closing : Bool) (h : ℕ) → Commutes closing (is_at_own h) (event.Host h)
