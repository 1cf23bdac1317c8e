-- Explorations behind prefixes, put together.
use Rattle.std.proofs.Common.{◌≡◌, false, List, [], ◌∷◌, ◌++◌, refl, ap, ◌∙◌, subst}
use Rattle.std.specs.Prelude.{Bool}
use Rattle.acc_core.specs.Machine.{State, step}
use Rattle.acc_core.specs.Worlds.{first_state}
use Rattle.acc_explore.specs.Endings.{MissesNone, Setting}
use Rattle.acc_explore.specs.Prefixes.{TogetherMissNone, behind}
use Rattle.acc_explore.specs.Runs.{after}
use Rattle.acc_host.specs.declared.event.Event.{Event}
use Rattle.acc_script.specs.Scripts.{ScriptView}
use Rattle.acc_driver.specs.declared.explorations.Exploring.{Exploring}
use Rattle.acc_driver.specs.declared.options.Options.{Options}
use Rattle.acc_driver.specs.Explorations.{PrefixesAreParts, setting_of}
use Rattle.acc_driver.specs.Replays.{configured}

after_both : (w : State) (first events : List Event) → after w (first ++ events) ≡ after (after w first) events
after_both w [] events = refl
after_both w (e ∷ first) events = after_both (step false w e).state first events

abbrev setting : Options → ScriptView → State → Bool → Setting
setting options program start closing = record { names = program.names; programs = program.programs; start = start; closing = closing }

goes_behind : (options : Options) (whole part : Exploring) (program : ScriptView) (first one : List Event) → part.closing ≡ whole.closing
    → setting_of options part program (first ++ one) ≡ behind (setting_of options whole program first) one
goes_behind options whole part program first one same =
    ap (λ start. setting options program start part.closing) (after_both (first_state (configured options program) program.programs) first one)
    ∙ ap (setting options program (after (after (first_state (configured options program) program.programs) first) one)) same

pub are_parts : TogetherMissNone → PrefixesAreParts
are_parts together options whole part program first prefixes endings same none_missed each events may end =
    together (setting_of options whole program first) prefixes endings none_missed
    (λ one listed. subst (λ (x : Setting). MissesNone x (endings one)) (goes_behind options whole part program first one same) (each one listed))
    events may end
