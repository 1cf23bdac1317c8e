-- The counters of the hosts' items.
use Rattle.std.proofs.Common.{◌≤◌, ℕ, List, [], ◌∷◌, arith, inl, inr}
use Rattle.std.specs.Prelude.{◌==◌}
use Rattle.std.proofs.lemmas.Bool.{cases_Bool}
use Rattle.acc_batch.specs.declared.entry.WorkEntry.{WorkEntry}
use Rattle.acc_batch.specs.declared.entry.WorkEntry.TheVariants as entry
use Rattle.acc_work.specs.Logs.{items_of, all_items}

-- a host has no more items than all hosts have together
pub items_of-le-all_items : (h : ℕ) (work : List WorkEntry) → items_of h work ≤ all_items work
items_of-le-all_items h [] = omega arith
items_of-le-all_items h (entry.Op at op ∷ before) = items_of-le-all_items h before
items_of-le-all_items h (entry.Item k shown ∷ before) =
    let ih = items_of-le-all_items h before in
    elim (cases_Bool (k == h)) [ inl mine ↦ rw mine (omega (arith, ih)) | inr other ↦ rw other (omega (arith, ih)) ]
