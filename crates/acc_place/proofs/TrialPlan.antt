-- The steps of a directive, and the loop that it runs, are about ranges with cells, where its items are.
use Rattle.std.proofs.Common.{ℕ, ◌<◌, List, [], ◌∷◌, map, Option, Some, None, inl, inr}
use Rattle.std.specs.Prelude.{All, ◌==◌}
use Rattle.std.specs.List.{flat_map}
use Rattle.std.proofs.lemmas.Bool.{cases_Bool}
use Rattle.std.proofs.lemmas.List.{append-nil}
use Rattle.std.proofs.lemmas.List.Elements.{All-nil, All-cons, All-head, All-tail, All-append}
use Rattle.acc_base.specs.declared.range.Range.{Range}
use Rattle.acc_kernel.specs.Kernels.{Loop, arrays_of}
use Rattle.acc_present.specs.Presences.{Presence, holder}
use Rattle.acc_place.specs.declared.directive.DataItem.{DataItem}
use Rattle.acc_place.specs.declared.directive.Kind.{Kind}
use Rattle.acc_place.specs.declared.directive.Kind.TheVariants as kind
use Rattle.acc_place.specs.declared.marked.Marked.{Marked}
use Rattle.acc_place.specs.Batches.{found_block}
use Rattle.acc_place.specs.Implicit.{item_of}
use Rattle.acc_place.specs.Loops.{use_in, uses_among}
use Rattle.acc_place.specs.inner.Noting.{used_ranges}
use Rattle.acc_place.specs.inner.Judging.{Holding, holding_with, holding_between, all_marked, all_steps, ends_of, marked_in, run_in}
use Rattle.acc_place.proofs.AwaitedNumbers.{HasCells}

abbrev pub ItemHasCells : DataItem → Type 0
ItemHasCells i = 0 < i.range.len

abbrev pub StepHasCells : Marked → Type 0
StepHasCells t = 0 < t.item.range.len

marked_cells : (k : Kind) (h : Holding) (items : List DataItem) → All ItemHasCells items → All StepHasCells (all_marked k h items)
unfolding marked_in
marked_cells k h [] all = All-nil StepHasCells
marked_cells k h (i ∷ is) all =
    All-cons StepHasCells _ (all_marked k (holding_with k i h) is) (All-head ItemHasCells i is all) (marked_cells k (holding_with k i h) is (All-tail ItemHasCells i is all))

pub steps_cells : (k : Kind) (h : Holding) (items : List DataItem) → All ItemHasCells items → All ItemHasCells (ends_of k items) → All StepHasCells (all_steps k h items)
steps_cells k h items all ends =
    All-append StepHasCells (all_marked k h items) (all_marked kind.EndData (holding_between k h items) (ends_of k items)) (marked_cells k h items all)
    (marked_cells kind.EndData (holding_between k h items) (ends_of k items) ends)

-- the item of an array is one of the items
blocks_cells : (r : Range) (bs : List ℕ) → 0 < r.len → All HasCells (map (λ b. (b, r)) bs)
blocks_cells r [] cells = All-nil HasCells
blocks_cells r (b ∷ bs) cells = All-cons HasCells (b, r) (map (λ k. (k, r)) bs) cells (blocks_cells r bs cells)

use_cells : (ps : List Presence) (array : ℕ) (items : List DataItem) → All ItemHasCells items → All HasCells (use_in ps (item_of array items))
use_cells ps array [] all = All-nil HasCells
use_cells ps array (i ∷ is) all = elim (cases_Bool (i.range.array == array)) [
  | inl here ↦ rw here (blocks_cells i.range (found_block (holder ps i.range)) (All-head ItemHasCells i is all))
  | inr other ↦ rw other (use_cells ps array is (All-tail ItemHasCells i is all))
]

uses_cells : (ps : List Presence) (items : List DataItem) (arrays : List ℕ) → All ItemHasCells items → All HasCells (uses_among items ps arrays)
uses_cells ps items [] all = All-nil HasCells
uses_cells ps items (a ∷ others) all =
    All-append HasCells (use_in ps (item_of a items)) (uses_among items ps others) (use_cells ps a items all) (uses_cells ps items others all)

pub run_cells : (k : Option Loop) (items : List DataItem) (ps : List Presence) → All ItemHasCells items → All HasCells (flat_map used_ranges (run_in k items ps))
run_cells None items ps all = All-nil HasCells
run_cells (Some k) items ps all = rw (append-nil (uses_among items ps (arrays_of k))) (uses_cells ps items (arrays_of k) all)
