-- The cells of a job as its loop sees them: of an array that has outputs these, of another the inputs.
use Rattle.std.specs.Prelude.{◌≡◌, ℕ, ℤ, ◌<◌, Bool, true, [], length, slice_index_or, if◌then◌else◌}
use Rattle.acc_kernel.specs.Jobs.{no_use, uses_have, cell_in, is_used}
use Rattle.acc_kernel.specs.inner.RowTables.{RowsView}

abbrev pub has_either : RowsView → RowsView → ℕ → ℤ → Bool
has_either inputs outputs array cell =
    if is_used outputs.uses array then uses_have outputs.uses array cell else uses_have inputs.uses array cell

abbrev pub cell_in_either : RowsView → RowsView → ℕ → ℤ → ℤ
cell_in_either inputs outputs array cell =
    if is_used outputs.uses array then cell_in outputs.uses outputs.rows array cell else cell_in inputs.uses inputs.rows array cell

-- the uses stay, and so do the inputs of arrays that have outputs
pub record KeepsUses (old_inputs old_outputs new_inputs new_outputs : RowsView) : Type 0 where
  pub inputs : new_inputs.uses ≡ old_inputs.uses
  pub outputs : new_outputs.uses ≡ old_outputs.uses
  pub hidden : (place : ℕ) → place < length old_inputs.uses → is_used old_outputs.uses (slice_index_or old_inputs.uses place no_use).1.array ≡ true
      → slice_index_or new_inputs.rows place [] ≡ slice_index_or old_inputs.rows place []
