-- What a memory shows of its cells and blocks.
use Rattle.std.proofs.Common.{◌≡◌, ℕ, zero, suc, ◌+◌, ◌∷◌, refl, ap}
use Rattle.std.specs.Prelude.{ℤ}
use Rattle.acc_base.specs.declared.range.Range.{Range}
use Rattle.acc_memory.specs.Memories.{MemoryView, Shows, cell_of}
use Rattle.acc_memory.specs.Values.{Cell, Host_cell, values_from, values_of}

-- equal values of cells one after another
same_values : (f g : ℕ → ℤ) (lo n : ℕ) → ((i : ℕ) → f i ≡ g i) → values_from f lo n ≡ values_from g lo n
same_values f g lo zero same = refl
same_values f g lo (suc n) same = rw (same lo) (ap (λ zs. g lo ∷ zs) (same_values f g (lo + 1) n same))

-- The cells of a range of a host array have the values that the memory shows.
pub shows_values : (m : MemoryView) (r : Range) (was : Cell → ℤ) → Shows m was → values_of (cell_of m) r ≡ values_of was r
shows_values m r was shows =
    same_values (λ i. cell_of m (Host_cell r.array i)) (λ i. was (Host_cell r.array i)) r.lo r.len (λ i. shows (Host_cell r.array i) refl)
