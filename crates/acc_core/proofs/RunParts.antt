-- A run that goes on by one step, and a run that is cut.
use Rattle.std.proofs.Common.{List, [], ◌∷◌, ◌++◌, length, take, drop, refl, sym}
use Rattle.acc_host.specs.declared.event.Event.{Event}
use Rattle.acc_host.specs.declared.state.Reply.{Reply}
use Rattle.acc_core.specs.Machine.{State, Step, Runs}

-- a run and one step behind it are a run
pub Runs-more : (events : List Event) (replies : List Reply) (old mid new : State) (e : Event) (r : Reply)
    → Runs old events replies mid → Step mid e r new → Runs old (events ++ e ∷ []) (replies ++ r ∷ []) new
Runs-more [] [] old mid new e r h s = (new, rw (sym h) s, refl)
Runs-more [] (x ∷ replies) old mid new e r h s = absurd h
Runs-more (x ∷ events) [] old mid new e r h s = absurd h
Runs-more (x ∷ events) (y ∷ replies) old mid new e r h s = (h.0, h.1, Runs-more events replies h.0 mid new e r h.2 s)

-- A run of two lists of events is a run of the first, and from there a run of the second.
pub record IsCut (old : State) (first second : List Event) (replies : List Reply) (new : State) : Type 0 where
  pub mid : State
  pub before : Runs old first (take (length first) replies) mid
  pub after : Runs mid second (drop (length first) replies) new

-- each run of two lists of events is cut so
pub Runs-cut : (first second : List Event) (replies : List Reply) (old new : State) → Runs old (first ++ second) replies new → IsCut old first second replies new
Runs-cut [] second replies old new h = record { mid = old; before = refl; after = h }
Runs-cut (e ∷ first) second [] old new h = absurd h
Runs-cut (e ∷ first) second (r ∷ replies) old new h =
    let cut = Runs-cut first second replies h.0 new h.2 in
    record { mid = cut.mid; before = (h.0, h.1, cut.before); after = cut.after }
