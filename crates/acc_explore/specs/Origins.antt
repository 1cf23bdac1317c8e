-- Where an exploration begins.
use Rattle.acc_core.specs.Machine.{State}
use Rattle.acc_core.specs.Worlds.{first_state}
use Rattle.acc_script.specs.Arrays.{texts}
use Rattle.acc_explore.specs.declared.reports.Origin.{Origin}
use Rattle.acc_explore.specs.Endings.{Setting}
use Rattle.acc_explore.specs.Runs.{after}

-- the state behind the first events
abbrev pub start_of : Origin → State
start_of o = after (first_state o.config.now o.script.now.programs.items) o.events.now

abbrev pub setting_from : Origin → Setting
setting_from o =
    record { names = texts o.script.now.names.keys; programs = o.script.now.programs.items; start = start_of o; closing = o.closing }
