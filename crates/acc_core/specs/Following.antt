-- Where each host stands in its program between two steps.
use Rattle.std.specs.Prelude.{◌≡◌, ℕ, ◌+◌, List, [], ◌∷◌}
use Rattle.acc_host.specs.Following.{Stands}
use Rattle.acc_host.specs.Hosts.{HostView}
use Rattle.acc_core.specs.Legality.{host_entries}
use Rattle.acc_core.specs.Machine.{State}

-- A host has this number, and stands in its program with its entries.
abbrev pub StandsIn : State → ℕ → HostView → Type 0
StandsIn w h host = (host.host ≡ h) × Stands w.config.devices host (host_entries w h)

-- Each host stands so, from number h on.
abbrev pub AllStand : State → ℕ → List HostView → Type 0
AllStand w h [] = Unit {0}
AllStand w h (host ∷ hosts) = StandsIn w h host × AllStand w (h + 1) hosts
