-- The operations of directives have their cells, where the one that runs a loop does.
use Rattle.std.proofs.Common.{◌≡◌, ℕ, ◌+◌, ◌<◌, Bool, true, false, List, [], ◌∷◌, ◌++◌, length, Option, Some, None, refl, arith}
use Rattle.std.specs.Prelude.{IfSome, if◌then◌else◌, ◌||◌, ◌==◌}
use Rattle.std.specs.List.{All, flat_map}
use Rattle.std.specs.Option.{option_and_then, option_to_list}
use Rattle.std.proofs.lemmas.List.Elements.{All-nil, All-cons, All-append}
use Rattle.acc_base.specs.declared.ids.QueueAt.{QueueAt}
use Rattle.acc_base.specs.declared.range.Range.{Range}
use Rattle.acc_batch.specs.declared.label.OpLabel.{OpLabel}
use Rattle.acc_batch.specs.declared.label.OpLabel.TheVariants as op
use Rattle.acc_batch.specs.Awaits.{await_of, with_awaits}
use Rattle.acc_batch.specs.Ops.{HasItsCells}
use Rattle.acc_place.specs.declared.directive.Clause.{Clause}
use Rattle.acc_place.specs.declared.directive.Clause.TheVariants.{UpdateSelf, UpdateDevice}
use Rattle.acc_place.specs.declared.marked.Marked.{Marked}
use Rattle.acc_place.specs.declared.ops.Group.{Group}
use Rattle.acc_place.specs.declared.ops.Group.TheVariants.{Makes, CopyIns, Updates, CopyOuts, Releases}
use Rattle.acc_place.specs.Batches.{copies_in, copies_out}
use Rattle.acc_place.specs.inner.Noting.{awaits_from}
use Rattle.acc_place.specs.Plans.{label_for}
use Rattle.acc_place.specs.inner.Judging.{op_for, update_for, op_of, group_ops, block_of, marked_ops}

copied_in : (copies : Bool) (b : ℕ) (r : Range) → IfSome (if copies then Some (op.CopyIn r b) else None) HasItsCells
copied_in true b r = tt
copied_in false b r = tt

copied_out : (copies : Bool) (b : ℕ) (r : Range) → IfSome (if copies then Some (op.CopyOut r b) else None) HasItsCells
copied_out true b r = tt
copied_out false b r = tt

updated : (c : Clause) (b : ℕ) (r : Range) → IfSome (update_for c b r) HasItsCells
updated UpdateSelf b r = tt
updated UpdateDevice b r = tt
updated c b r = tt

of_group : (g : Group) (c : Clause) (b : ℕ) (r : Range) → IfSome (op_for g c b r) HasItsCells
of_group Makes c b r = tt
of_group CopyIns c b r = copied_in (copies_in c) b r
of_group Updates c b r = updated c b r
of_group CopyOuts c b r = copied_out (copies_out c) b r
of_group Releases c b r = tt

of_block : (g : Group) (t : Marked) (block : Option ℕ) → IfSome (option_and_then (λ b. op_for g t.item.clause b t.item.range) block) HasItsCells
of_block g t None = tt
of_block g t (Some b) = of_group g t.item.clause b t.item.range

pub listed : (o : Option OpLabel) → IfSome o HasItsCells → All HasItsCells (option_to_list o)
listed None h = All-nil HasItsCells
listed (Some x) h = All-cons HasItsCells x [] h (All-nil HasItsCells)

in_group : (g : Group) (ts : List Marked) → All HasItsCells (flat_map (group_ops g) ts)
in_group g [] = All-nil HasItsCells
in_group g (t ∷ ts) =
    All-append HasItsCells (group_ops g t) (flat_map (group_ops g) ts) (listed (op_of g t) (of_block g t (block_of g t))) (in_group g ts)

both : (xs ys : List OpLabel) → All HasItsCells xs → All HasItsCells ys → All HasItsCells (xs ++ ys)
both xs ys h k = All-append HasItsCells xs ys h k

pub have_their_cells : (run : List OpLabel) (ts : List Marked) → All HasItsCells run → All HasItsCells (marked_ops run ts)
unfolding marked_ops
have_their_cells run ts runs =
    both (flat_map (group_ops Makes) ts) (flat_map (group_ops CopyIns) ts ++ (run ++ (flat_map (group_ops Updates) ts ++ (flat_map (group_ops CopyOuts) ts ++ flat_map (group_ops Releases) ts))))
    (in_group Makes ts)
    (both (flat_map (group_ops CopyIns) ts) (run ++ (flat_map (group_ops Updates) ts ++ (flat_map (group_ops CopyOuts) ts ++ flat_map (group_ops Releases) ts)))
    (in_group CopyIns ts)
    (both run (flat_map (group_ops Updates) ts ++ (flat_map (group_ops CopyOuts) ts ++ flat_map (group_ops Releases) ts))
    runs
    (both (flat_map (group_ops Updates) ts) (flat_map (group_ops CopyOuts) ts ++ flat_map (group_ops Releases) ts)
    (in_group Updates ts)
    (both (flat_map (group_ops CopyOuts) ts) (flat_map (group_ops Releases) ts)
    (in_group CopyOuts ts)
    (in_group Releases ts)))))

-- so do those of a batch's label
pub labelled_cells : (at_queue : QueueAt) (number host items_done : ℕ) (ops : List OpLabel) → All HasItsCells ops
    → IfSome (label_for at_queue number host items_done ops) (λ l. (0 < length l.ops) × All HasItsCells l.ops)
labelled_cells at_queue number host items_done [] all = tt
labelled_cells at_queue number host items_done (op ∷ ops) all = (omega arith, all)

-- awaits have no cells to have
await_alone : (own q n : ℕ) → All HasItsCells (await_of own q n)
await_alone own q n = by_test ((q == own) || (n == 0))
  where
    by_test : (none : Bool) → All HasItsCells (if none then [] else op.Await q n ∷ [])
    by_test true = All-nil HasItsCells
    by_test false = All-cons HasItsCells (op.Await q n) [] tt (All-nil HasItsCells)

awaits_all : (own q : ℕ) (numbers : List ℕ) → All HasItsCells (awaits_from own q numbers)
awaits_all own q [] = All-nil HasItsCells
awaits_all own q (n ∷ numbers) = both (await_of own q n) (awaits_from own (q + 1) numbers) (await_alone own q n) (awaits_all own (q + 1) numbers)

pub behind_their_awaits : (alone : Bool) (own : ℕ) (numbers : List ℕ) (ops : List OpLabel) → All HasItsCells ops → All HasItsCells (with_awaits alone (awaits_from own 0 numbers) ops)
behind_their_awaits true own numbers [] all = awaits_all own 0 numbers
behind_their_awaits false own numbers [] all = All-nil HasItsCells
behind_their_awaits alone own numbers (op ∷ ops) all = both (awaits_from own 0 numbers) (op ∷ ops) (awaits_all own 0 numbers) all

-- where no step has an operation, there is none but the loop's
pub idle_steps : (ts : List Marked) → ((g : Group) → flat_map (group_ops g) ts ≡ []) → marked_ops [] ts ≡ []
unfolding marked_ops
idle_steps ts none = rw (none Makes, none CopyIns, none Updates, none CopyOuts, none Releases) refl

-- and nothing behind which awaits could stand
pub nothing_awaited : (alone : Bool) (before ops : List OpLabel) → alone ≡ false → ops ≡ [] → with_awaits alone before ops ≡ []
nothing_awaited alone before ops not_alone none = rw (not_alone, none) refl
