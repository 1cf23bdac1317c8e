-- One event more.
use Rattle.std.proofs.Common.{◌≡◌, false, List, [], ◌∷◌, ◌++◌, refl}
use Rattle.acc_core.specs.Machine.{State, step}
use Rattle.acc_host.specs.declared.event.Event.{Event}
use Rattle.acc_explore.specs.Runs.{after}

pub after_more : (w : State) (events : List Event) (e : Event) → after w (events ++ e ∷ []) ≡ (step false (after w events) e).state
after_more w [] e = refl
after_more w (x ∷ events) e = after_more (step false w x).state events e
