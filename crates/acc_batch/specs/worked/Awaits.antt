-- Short lists of labels, of which one is in order and others aren't.
use Rattle.std.specs.Prelude.{◌≡◌, ℕ, ℤ, true, false, List, [], ◌∷◌}
use Rattle.acc_base.specs.declared.ids.QueueAt.{QueueAt}
use Rattle.acc_base.specs.declared.range.Range.{Range}
use Rattle.acc_batch.specs.declared.label.OpLabel.{OpLabel}
use Rattle.acc_batch.specs.declared.label.OpLabel.TheVariants.{Make, CopyIn, Release, Await}
use Rattle.acc_batch.specs.declared.label.Label.{Label}
use Rattle.acc_batch.specs.Awaits.{behind_awaits, IsOrdered, AllOrdered}
use Rattle.acc_batch.specs.Lives.{IsSound}

abbrev pub queue : ℕ → QueueAt
queue q = record { device = 0; queue = q }

abbrev pub cells : Range
cells = record { array = 0; lo = 0; len = 8 }

-- the first batch of a queue
abbrev pub first_batch : ℕ → List OpLabel → Label
first_batch q ops = record { at = queue q; number = 1; host = 0; items_done = 0; ops = ops }

-- block 1 is made and filled on queue 2
abbrev pub maker : Label
maker = first_batch 2 (Make cells 1 ∷ CopyIn cells 1 ∷ [])

abbrev pub user : Label
user = first_batch 4 (Await 2 1 ∷ CopyIn cells 1 ∷ [])

-- What another queue does with a block awaits its maker, and a release each use; a queue that is named is awaited, too, but
-- only with operations of its own behind it, or in a `wait` directive's batch.
abbrev pub AwaitsAsNeeded : Type 0
AwaitsAsNeeded =
    (behind_awaits false [] (queue 4) (maker ∷ []) (CopyIn cells 1 ∷ []) ≡ Await 2 1 ∷ CopyIn cells 1 ∷ [])
    × (behind_awaits false [] (queue 2) (maker ∷ []) (CopyIn cells 1 ∷ []) ≡ CopyIn cells 1 ∷ [])
    × (behind_awaits false [] (queue 3) (maker ∷ user ∷ []) (CopyIn cells 1 ∷ []) ≡ Await 2 1 ∷ CopyIn cells 1 ∷ [])
    × (behind_awaits false [] (queue 3) (maker ∷ user ∷ []) (Release 1 ∷ []) ≡ Await 2 1 ∷ Await 4 1 ∷ Release 1 ∷ [])
    × (behind_awaits false (4 ∷ []) (queue 2) (maker ∷ user ∷ []) (Make cells 2 ∷ []) ≡ Await 4 1 ∷ Make cells 2 ∷ [])
    × (behind_awaits false (4 ∷ []) (queue 2) (maker ∷ user ∷ []) [] ≡ [])
    × (behind_awaits true (4 ∷ []) (queue 2) (maker ∷ user ∷ []) [] ≡ Await 4 1 ∷ [])

-- A maker, and behind it a use that awaits it, are in order.
abbrev pub AreInOrder : Type 0
AreInOrder = AllOrdered [] (maker ∷ user ∷ [])

-- A use that awaits no maker isn't in order, nor are labels with it sound; and no batch awaits one that isn't placed.
abbrev pub AreRefused : Type 0
AreRefused =
    ¬ IsOrdered (maker ∷ []) (first_batch 4 (CopyIn cells 1 ∷ []))
    × ((arrays : List (List ℤ)) → ¬ IsSound arrays (maker ∷ first_batch 4 (CopyIn cells 1 ∷ []) ∷ []))
    × (¬ IsOrdered (maker ∷ user ∷ []) (first_batch 3 (Await 2 1 ∷ Release 1 ∷ [])))
    × (¬ IsOrdered [] user)
