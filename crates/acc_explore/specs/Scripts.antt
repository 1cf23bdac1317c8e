-- States of one script.
use Rattle.std.specs.Prelude.{◌≡◌, List}
use Rattle.acc_core.specs.Machine.{State}
use Rattle.acc_core.specs.Worlds.{statements_in}
use Rattle.acc_explore.specs.Runs.{after}
use Rattle.acc_host.specs.declared.event.Event.{Event}

-- They have one configuration, and the same programs.
pub record AreOfOneScript (old new : State) : Type 0 where
  pub config : new.config ≡ old.config
  pub statements : statements_in new ≡ statements_in old

-- What events lead to is of the script of the start.
abbrev pub EventsKeepTheScript : Type 0
EventsKeepTheScript = (start : State) (events : List Event) → AreOfOneScript start (after start events)
