-- Which clauses a directive may have, computed.
use Rattle.std.specs.Prelude.{◌≡◌, true, false, Bool, pos, [], ◌∷◌, List, map}
use Rattle.acc_place.specs.declared.directive.Clause.{Clause}
use Rattle.acc_place.specs.declared.directive.Clause.TheVariants.{Copy, Copyin, Copyout, Create, Present, NoCreate, Delete, UpdateSelf, UpdateDevice}
use Rattle.acc_place.specs.declared.directive.Kind.{Kind}
use Rattle.acc_place.specs.declared.directive.Kind.TheVariants as kind
use Rattle.acc_place.specs.declared.directive.Target.{Target}
use Rattle.acc_place.specs.declared.directive.Target.TheVariants.{Plain, Unvalued, Value}
use Rattle.acc_place.specs.declared.directive.Waits.{Waits}
use Rattle.acc_place.specs.declared.directive.Waits.TheVariants as waits
use Rattle.acc_place.specs.Clauses.{is_well_formed}
use Rattle.acc_place.specs.worked.Directives.{item, four}

-- a directive with one range in each of these clauses
abbrev pub is_written : Kind → List Clause → Target → Waits → Bool
is_written k cs target waits =
    is_well_formed (record { kind = k; items = map (λ c. item c four) cs; target = target; waits = waits })

abbrev pub is_plain : Kind → List Clause → Bool
is_plain k cs = is_written k cs Plain waits.Nothing

-- Each data clause stands where the standard has it, and alone there.
abbrev pub DataClauses : Type 0
DataClauses =
    (is_plain kind.Data (Copy ∷ Copyin ∷ Copyout ∷ Create ∷ Present ∷ NoCreate ∷ []) ≡ true)
    × (is_plain kind.Data (Copy ∷ Delete ∷ []) ≡ false)
    × (is_plain kind.EnterData (Copyin ∷ Create ∷ []) ≡ true)
    × (is_plain kind.EnterData (Copyin ∷ Copyout ∷ []) ≡ false)
    × (is_plain (kind.ExitData true) (Copyout ∷ Delete ∷ []) ≡ true)
    × (is_plain (kind.ExitData false) (Create ∷ []) ≡ false)
    × (is_plain (kind.Update false) (UpdateSelf ∷ UpdateDevice ∷ []) ≡ true)
    × (is_plain kind.EnterData (NoCreate ∷ []) ≡ false)
    × (is_plain (kind.Update true) (Present ∷ []) ≡ false)
    × (is_plain kind.IsPresent (Copy ∷ []) ≡ false)

-- The end of a data construct has no items, a question about a range is about one, and the others need some.
abbrev pub ItemCounts : Type 0
ItemCounts =
    (is_plain kind.EndData [] ≡ true)
    × (is_plain kind.EndData (Copy ∷ []) ≡ false)
    × (is_plain kind.IsPresent (Present ∷ []) ≡ true)
    × (is_plain kind.IsPresent (Present ∷ Present ∷ []) ≡ false)
    × (is_plain kind.IsPresent [] ≡ false)
    × (is_plain kind.EnterData [] ≡ false)
    × (is_plain kind.Data [] ≡ false)

-- A data construct and a question go to no queue; a wait does.
abbrev pub AsyncClauses : Type 0
AsyncClauses =
    (is_written kind.EnterData (Create ∷ []) (Value (pos 1)) waits.Nothing ≡ true)
    × (is_written kind.Data (Create ∷ []) (Value (pos 1)) waits.Nothing ≡ false)
    × (is_written kind.EndData [] Unvalued waits.Nothing ≡ false)
    × (is_written kind.IsPresent (Present ∷ []) Unvalued waits.Nothing ≡ false)
    × (is_written kind.Wait [] Unvalued waits.All ≡ true)
    × (is_written kind.AsyncTest [] Unvalued waits.All ≡ false)

-- A wait and the question of one name queues or mean all; a data construct waits for none.
abbrev pub WaitClauses : Type 0
WaitClauses =
    (is_written kind.EnterData (Create ∷ []) Plain waits.All ≡ true)
    × (is_written kind.Data (Create ∷ []) Plain waits.All ≡ false)
    × (is_written kind.EndData [] Plain (waits.Listed (pos 1 ∷ [])) ≡ false)
    × (is_written kind.Wait [] Plain (waits.Listed (pos 1 ∷ [])) ≡ true)
    × (is_written kind.Wait [] Plain waits.Nothing ≡ false)
    × (is_written kind.Wait (Present ∷ []) Plain waits.All ≡ false)
    × (is_written kind.AsyncTest [] Plain (waits.Listed (pos 1 ∷ [])) ≡ true)
    × (is_written kind.AsyncTest [] Plain waits.Nothing ≡ false)
