-- Runs behind one another.
use Rattle.std.proofs.Common.{ℕ, zero, suc, List, [], ◌∷◌, ◌++◌, refl, sym}
use Rattle.acc_host.specs.declared.event.Event.{Event}
use Rattle.acc_host.specs.declared.state.Reply.{Reply}
use Rattle.acc_core.specs.Machine.{State, Runs}
use Rattle.acc_schedule.specs.Schedules.{repeated}

-- a run, and one behind it
pub Runs-append : (first second : List Event) (r s : List Reply) (old mid new : State) → Runs old first r mid → Runs mid second s new → Runs old (first ++ second) (r ++ s) new
Runs-append [] second [] s old mid new h k = rw (sym h) k
Runs-append [] second (x ∷ r) s old mid new h k = absurd h
Runs-append (e ∷ first) second [] s old mid new h k = absurd h
Runs-append (e ∷ first) second (x ∷ r) s old mid new h k = (h.0, h.1, Runs-append first second r s h.0 mid new h.2 k)

-- Events that leave a state as it was leave it so however often they come.
pub stands_still : (turn : List Event) (replies : List Reply) (w : State) (n : ℕ) → Runs w turn replies w → (all : List Reply) × Runs w (repeated n turn) all w
stands_still turn replies w zero same = ([], refl)
stands_still turn replies w (suc n) same =
    let rest = stands_still turn replies w n same in
    (replies ++ rest.0, Runs-append turn (repeated n turn) replies rest.0 w w w same rest.1)
