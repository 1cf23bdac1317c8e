-- The batch of a directive, and its number, computed on short histories.
use Rattle.std.specs.Prelude.{◌≡◌, false, [], ◌∷◌, replicate, Some, None}
use Rattle.acc_base.specs.declared.ids.TheConstants.{QUEUES}
use Rattle.acc_batch.specs.declared.label.OpLabel.TheVariants.{Make, CopyIn, CopyOut, Release}
use Rattle.acc_place.specs.worked.Directives.{cells, first_four, copyin, copyout, batch_after, answer_after}

-- of two items, both blocks are made before the first is copied
abbrev pub GroupByGroup : Type 0
GroupByGroup =
    batch_after [] (copyin (cells 0 2 ∷ cells 4 2 ∷ []))
    ≡ Make (cells 0 2) 1 ∷ Make (cells 4 2) 2 ∷ CopyIn (cells 0 2) 1 ∷ CopyIn (cells 4 2) 2 ∷ []

-- a part that leaves is copied, the rest of the block isn't, and all of it is released
abbrev pub PartIsCopiedOut : Type 0
PartIsCopiedOut =
    batch_after (first_four ∷ []) (copyout (cells 1 2 ∷ [])) ≡ CopyOut (cells 1 2) 1 ∷ Release 1 ∷ []

-- a directive that leaves a range twice finds it absent the second time
abbrev pub LeavesOnce : Type 0
LeavesOnce =
    batch_after (first_four ∷ []) (copyout (cells 0 4 ∷ cells 0 4 ∷ [])) ≡ CopyOut (cells 0 4) 1 ∷ Release 1 ∷ []

-- a range that has left and enters again has a new block
abbrev pub EntersAgain : Type 0
EntersAgain =
    batch_after (copyout (cells 0 4 ∷ []) ∷ first_four ∷ []) first_four ≡ Make (cells 0 4) 2 ∷ CopyIn (cells 0 4) 2 ∷ []

-- an empty batch isn't placed, and takes no number
abbrev pub EmptyBatch : Type 0
EmptyBatch =
    (answer_after (first_four ∷ []) first_four ≡ record { batch = None; counts = replicate QUEUES 0; present = false })
    × (answer_after (first_four ∷ first_four ∷ []) (copyin (cells 4 2 ∷ [])) ≡ record { batch = Some (record { device = 0; queue = 0 }, 2); counts = replicate QUEUES 0; present = false })
