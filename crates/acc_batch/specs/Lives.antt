-- Blocks that are live where operations use them.
use Rattle.std.specs.Prelude.{ℕ, ℤ, ◌==◌, IsTrue, List, [], ◌∷◌, ◌++◌, map, filter, All, Contains}
use Rattle.acc_base.specs.declared.range.Range.{Range}
use Rattle.acc_base.specs.Configurations.{has_range}
use Rattle.acc_base.specs.Ranges.{Includes}
use Rattle.acc_kernel.specs.Jobs.{Use}
use Rattle.acc_batch.specs.declared.label.Label.{Label}
use Rattle.acc_batch.specs.declared.label.OpLabel.{OpLabel}
use Rattle.acc_batch.specs.declared.label.OpLabel.TheVariants.{Make, CopyIn, CopyOut, Release, Run, Await, Close}
use Rattle.acc_batch.specs.Labels.{ops_of}
use Rattle.acc_batch.specs.Awaits.{AllOrdered}

-- A block that was made, and its range.
pub record Made : Type 0 where
  pub block : ℕ
  pub range : Range

-- the blocks that were made, with their ranges, and those that were released
abbrev pub blocks_made : List OpLabel → List Made
blocks_made [] = []
blocks_made (Make r b ∷ ops) = record { block = b; range = r } ∷ blocks_made ops
blocks_made (CopyIn r b ∷ ops) = blocks_made ops
blocks_made (CopyOut r b ∷ ops) = blocks_made ops
blocks_made (Release b ∷ ops) = blocks_made ops
blocks_made (Run k uses ∷ ops) = blocks_made ops
blocks_made (Await q n ∷ ops) = blocks_made ops
blocks_made (Close ∷ ops) = blocks_made ops

abbrev pub blocks_released : List OpLabel → List ℕ
blocks_released [] = []
blocks_released (Make r b ∷ ops) = blocks_released ops
blocks_released (CopyIn r b ∷ ops) = blocks_released ops
blocks_released (CopyOut r b ∷ ops) = blocks_released ops
blocks_released (Release b ∷ ops) = b ∷ blocks_released ops
blocks_released (Run k uses ∷ ops) = blocks_released ops
blocks_released (Await q n ∷ ops) = blocks_released ops
blocks_released (Close ∷ ops) = blocks_released ops

-- A block was made and not released, and the range lies in its range.
pub record HoldsBlock (before : List OpLabel) (block : ℕ) (range : Range) : Type 0 where
  pub whole_range : Range
  pub is_made : Contains (blocks_made before) (record { block = block; range = whole_range })
  pub not_released : ¬ Contains (blocks_released before) block
  pub inside : Includes whole_range range

-- An operation of a device uses live blocks, where these operations came before it.
abbrev pub UsesLive : List (List ℤ) → OpLabel → List OpLabel → Type 0
UsesLive arrays (Make r b) before = ¬ Contains (map (λ m. m.block) (blocks_made before)) b × IsTrue (has_range arrays r)
UsesLive arrays (CopyIn r b) before = HoldsBlock before b r
UsesLive arrays (CopyOut r b) before = HoldsBlock before b r
UsesLive arrays (Release b) before = (r : Range) × HoldsBlock before b r
UsesLive arrays (Run k uses) before = All (λ (u : Use). HoldsBlock before u.0 u.1) uses
UsesLive arrays (Await q n) before = Unit {0}
UsesLive arrays Close before = Unit {0}

-- These operations, in order behind those before, each use live blocks.
abbrev pub AllUse : List (List ℤ) → List OpLabel → List OpLabel → Type 0
AllUse arrays before [] = Unit {0}
AllUse arrays before (op ∷ ops) = UsesLive arrays op before × AllUse arrays (before ++ op ∷ []) ops

abbrev pub on_device : ℕ → List Label → List Label
on_device device labels = filter (λ l. l.at.device == device) labels

-- Labels whose operations use live blocks on each device in the order of placing, and that await what they need.
pub record IsSound (arrays : List (List ℤ)) (labels : List Label) : Type 0 where
  pub use_live : (device : ℕ) → AllUse arrays [] (ops_of (on_device device labels))
  pub ordered : AllOrdered [] labels
