-- What the core answers to the calls of a host. Only private contracts and proofs cite it.
use Rattle.std.specs.Prelude.{◌≡◌, ℕ, Bool, false, Some, None, Result, Ok, Err}
use Rattle.acc_base.specs.declared.fault.Fault.{Fault}
use Rattle.acc_host.specs.Engines.{Call, Place, Wait, Record}
use Rattle.acc_place.specs.declared.directive.Placed.{Placed}
use Rattle.acc_place.specs.Batches.{answer_of}
use Rattle.acc_place.specs.Directives.{Directive}
use Rattle.acc_place.specs.Standings.{walk_of}
use Rattle.acc_core.specs.Machine.{State, standing_of, fault_of_place, place_answer, placed_state, with_directive, wait_answer, waited_state, item_answer, item_state}

-- A call is answered as defined, where memory is refused or not, and leaves the state that goes with the answer.
abbrev pub Makes : State → ℕ → Call → State → Type 0
Makes old h (Place d answer) new =
    (no_memory : Bool) × (answer ≡ place_answer no_memory old h d) × (new ≡ placed_state old h d answer)
Makes old h (Wait device counts answer) new =
    (no_memory : Bool) × (answer ≡ wait_answer no_memory old device counts) × (new ≡ waited_state old h device counts answer)
Makes old h (Record item answer) new =
    (no_memory : Bool) × (answer ≡ item_answer no_memory old item) × (new ≡ item_state old h item answer)

-- The directive is accepted with the defined answer, or refused with the defined fault, and then nothing changes.
abbrev pub Places : State → ℕ → Directive → Result Placed Fault → State → Type 0
Places old host d (Ok placed) new =
    (fault_of_place false old host d ≡ None)
    × (placed ≡ answer_of (standing_of old) d (walk_of (standing_of old) host d))
    × (new ≡ with_directive old host d)
Places old host d (Err fault) new = (no_memory : Bool) × (fault_of_place no_memory old host d ≡ Some fault) × (new ≡ old)
