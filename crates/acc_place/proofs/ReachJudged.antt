-- A loop is past its items exactly where it reaches a cell outside the range of its array's first item.
use Rattle.std.proofs.Common.{◌≡◌, ℕ, ◌+◌, Bool, true, false, List, [], ◌∷◌, Option, Some, None, refl, sym, subst, arith}
use Rattle.std.specs.Prelude.{◌≤ℤ◌, ◌<ℤ◌, pos, int_lt, int_le, ◌||◌}
use Rattle.std.specs.List.{All, list_any}
use Rattle.std.proofs.lemmas.Int.{ints}
use Rattle.std.proofs.lemmas.List.Elements.{All-cons, All-nil}
use Rattle.std.proofs.lemmas.List.Folds.{list_any_none}
use Rattle.acc_kernel.specs.declared.reach.Reach.{Reach}
use Rattle.acc_kernel.specs.Kernels.{Loop, arrays_of, reach_of}
use Rattle.acc_kernel.proofs.ReachOf.{Tells, reach_tells}
use Rattle.acc_place.specs.declared.directive.DataItem.{DataItem}
use Rattle.acc_place.specs.Accepting.{reaches_past}
use Rattle.acc_place.specs.Implicit.{item_of}
use Rattle.acc_place.specs.Loops.{IsInside, StaysInside, StaysInsideOf, ReachIsJudged}
use Rattle.acc_place.proofs.LoopReach.{stays_in_all, stays_nowhere, stays_within}

module _ (k : Loop) (items : List DataItem) where
  -- one array

  stays_from : (array : ℕ) (o : Option Reach) (i : Option DataItem) → Tells k array o → item_of array items ≡ i → reaches_past o i ≡ false → StaysInsideOf k items array
  stays_from array None i tells found inside = stays_nowhere k items array tells
  stays_from array (Some reach) None tells found inside = cc
  stays_from array (Some reach) (Some i) tells found inside = stays_within k items array reach i tells (sym found) inside

  not_past : (array : ℕ) (o : Option Reach) (i : Option DataItem) → Tells k array o → item_of array items ≡ i → StaysInsideOf k items array → reaches_past o i ≡ false
  not_past array None i tells found stays = refl
  not_past array (Some reach) None tells found stays =
      absurd (subst (λ (o : Option DataItem). IsInside o reach.first) found (stays reach.first tells.first))
  not_past array (Some reach) (Some i) tells found stays =
      let first = subst (λ (o : Option DataItem). IsInside o reach.first) found (stays reach.first tells.first) in
      let last = subst (λ (o : Option DataItem). IsInside o reach.last) found (stays reach.last tells.last) in
      let low : pos i.range.lo ≤ℤ reach.first = first.0 in
      let high : reach.last <ℤ pos (i.range.lo + i.range.len) = last.1 in
      either (int_lt reach.first (pos i.range.lo)) (int_le (pos (i.range.lo + i.range.len)) reach.last) (grind (arith, ints)) (grind (arith, ints))
    where
      either : (a b : Bool) → a ≡ false → b ≡ false → (a || b) ≡ false
      either true b x y = cc
      either false b x y = y

  -- and all

  abbrev past : ℕ → Bool
  past array = reaches_past (reach_of k array) (item_of array items)

  all_stay : (arrays : List ℕ) → list_any past arrays ≡ false → All (StaysInsideOf k items) arrays
  all_stay [] none = All-nil (StaysInsideOf k items)
  all_stay (a ∷ rest) none =
      All-cons (StaysInsideOf k items) a rest
      (stays_from a (reach_of k a) (item_of a items) (reach_tells k a) refl (neither (past a) (list_any past rest) none).0)
      (all_stay rest (neither (past a) (list_any past rest) none).1)
    where
      neither : (a b : Bool) → (a || b) ≡ false → (a ≡ false) × (b ≡ false)
      neither true b h = cc
      neither false b h = (refl, h)

  none_past : (arrays : List ℕ) → StaysInside k items → All (λ array. past array ≡ false) arrays
  none_past [] stays = All-nil (λ array. past array ≡ false)
  none_past (a ∷ rest) stays =
      All-cons (λ array. past array ≡ false) a rest (not_past a (reach_of k a) (item_of a items) (reach_tells k a) refl (stays a)) (none_past rest stays)

pub reach_judged : ReachIsJudged
reach_judged k items = (
  λ none. stays_in_all k items (all_stay k items (arrays_of k) none),
  λ stays. list_any_none (past k items) (arrays_of k) (none_past k items (arrays_of k) stays),
)
