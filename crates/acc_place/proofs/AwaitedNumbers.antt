-- The numbers that a batch awaits, as they are raised range by range.
use Rattle.std.proofs.Common.{inl, inr, ◌≡◌, ℕ, zero, suc, ◌+◌, Bool, true, false, cond, subst, ◌-◌, ◌<◌, ◌≤◌, List, [], ◌∷◌, ◌++◌, length, map, get_or, drop, take, refl, sym, ap, ◌∙◌, arith, Option, Some, None}
use Rattle.std.specs.Prelude.{All, max, ◌==◌, ◌||◌}
use Rattle.std.specs.List.{flat_map}
use Rattle.std.specs.Option.{option_to_list}
use Rattle.std.proofs.lemmas.Bool.{cases_Bool, eq-eqb, eqb-true}
use Rattle.std.proofs.Math.Seq.{take-length}
use Rattle.std.proofs.lemmas.List.Elements.{All-head}
use Rattle.std.proofs.lemmas.Grind.{flat_map-append}
use Rattle.acc_base.specs.declared.range.Range.{Range}
use Rattle.acc_base.specs.declared.ids.TheConstants.{QUEUES}
use Rattle.acc_base.specs.Queues.{every_queue, numbers_from}
use Rattle.acc_batch.specs.declared.label.Label.{Label}
use Rattle.acc_batch.specs.Labels.{has_number}
use Rattle.acc_batch.specs.declared.label.OpLabel.{OpLabel}
use Rattle.acc_batch.specs.declared.label.OpLabel.TheVariants.{CopyIn, CopyOut}
use Rattle.acc_kernel.specs.Jobs.{Use}
use Rattle.acc_present.specs.Notes.{Note}
use Rattle.acc_place.specs.declared.marked.Marked.{Marked}
use Rattle.acc_place.specs.declared.ops.Group.{Group}
use Rattle.acc_place.specs.declared.ops.Group.TheVariants.{Makes, CopyIns, Updates, CopyOuts, Releases}
use Rattle.acc_place.specs.inner.Places.{queue_in}
use Rattle.acc_place.specs.inner.Trials.{named_count}
use Rattle.acc_place.specs.inner.Noting.{last_made, last_used, made_at, used_ranges}
use Rattle.acc_place.specs.inner.Judging.{group_ops, marked_ops}

-- what a slice is, where it isn't empty
pub first_and_rest : {X : Type 0} (xs : List X) (d : X) → 1 ≤ length xs → xs ≡ get_or xs 0 d ∷ take (length xs - 1) (drop 1 xs)
first_and_rest [] d some = absurd (omega arith)
first_and_rest (x ∷ xs) d some = (let e : suc (length xs) - 1 ≡ length xs = omega arith in ap (λ r. x ∷ r) (sym (ap (λ n. take n xs) e ∙ take-length xs)))

pub same_for : (f g : ℕ → ℕ) (qs : List ℕ) → ((q : ℕ) → f q ≡ g q) → map f qs ≡ map g qs
same_for f g [] h = refl
same_for f g (q ∷ qs) h = rw (h q, same_for f g qs h) refl

-- nothing raises no number
pub none_raised : (f : ℕ → ℕ) → map f every_queue ≡ map (λ q. max (f q) 0) every_queue
none_raised f = same_for f (λ q. max (f q) 0) every_queue (λ q. omega arith)

-- ## The queues that a wait names

-- each of so many numbers is named where all are
has_each : (first count k : ℕ) → k < count → has_number (flat_map option_to_list (map Some (numbers_from first count))) (first + k) ≡ true
has_each first zero k low = absurd (omega (arith, low))
has_each first (suc count) zero low = (let here : first ≡ first + zero = omega arith in rw (eq-eqb first (first + zero) here) refl)
has_each first (suc count) (suc k) low =
    let next : (first + 1) + k ≡ first + suc k = omega arith in
    let rest = flat_map option_to_list (map Some (numbers_from (first + 1) count)) in
    or_true (first == first + suc k) (has_number rest (first + suc k)) (subst (λ n. has_number rest n ≡ true) next (has_each (first + 1) count k (omega (arith, low))))
  where
    or_true : (a b : Bool) → b ≡ true → (a || b) ≡ true
    or_true true b h = refl
    or_true false b h = h

-- a wait without arguments names each queue
pub all_named : (queue : ℕ) → queue < QUEUES → has_number (flat_map option_to_list (map Some every_queue)) queue ≡ true
all_named queue low =
    let none : 0 + queue ≡ queue = omega arith in
    subst (λ q. has_number (flat_map option_to_list (map Some every_queue)) q ≡ true) none (has_each 0 QUEUES queue low)

-- one queue's count, where it alone is named
pub named_alone : (queues : List (List Label)) (device queue q : ℕ) → cond (queue == q) (length (queue_in queues (record { device = device; queue = queue }))) 0 ≡ named_count queues device (queue ∷ []) q
named_alone queues device queue q = elim (cases_Bool (queue == q)) [
  | inl same ↦ rw (same, eqb-true queue q same) refl
  | inr other ↦ rw other refl
]

-- and those of more
pub named_both : (queues : List (List Label)) (device : ℕ) (here others : List ℕ) (q : ℕ) → named_count queues device (here ++ others) q ≡ max (named_count queues device here q) (named_count queues device others q)
named_both queues device here others q =
    let n = length (queue_in queues (record { device = device; queue = q })) in
    ap (λ b. cond b n 0) (has_both here) ∙ either (has_number here q) (has_number others q) n
  where
    or_assoc : (a b d : Bool) → ((a || b) || d) ≡ (a || (b || d))
    or_assoc true b d = refl
    or_assoc false b d = refl

    has_both : (ns : List ℕ) → has_number (ns ++ others) q ≡ (has_number ns q || has_number others q)
    has_both [] = refl
    has_both (n ∷ ns) = ap (λ b. (n == q) || b) (has_both ns) ∙ sym (or_assoc (n == q) (has_number ns q) (has_number others q))

    either : (a b : Bool) (n : ℕ) → cond (a || b) n 0 ≡ max (cond a n 0) (cond b n 0)
    either true true n = omega arith
    either true false n = omega arith
    either false true n = omega arith
    either false false n = omega arith

-- ## Two lists, one behind the other

pub made_both : (found : Range → Note) (us vs : List Use) (q : ℕ) → last_made found (us ++ vs) q ≡ max (last_made found us q) (last_made found vs q)
made_both found [] vs q = omega arith
made_both found (u ∷ us) vs q = (let ih = made_both found us vs q in omega (arith, ih))

pub used_both : (found : Range → Note) (us vs : List Use) (q : ℕ) → last_used found (us ++ vs) q ≡ max (last_used found us q) (last_used found vs q)
used_both found [] vs q = omega arith
used_both found (u ∷ us) vs q = (let ih = used_both found us vs q in omega (arith, ih))

-- ## One more range

-- the maker of a range, and then those of others
pub made_first : (found : Range → Note) (f : ℕ → ℕ) (u : Use) (us : List Use) (q : ℕ) → max (max (f q) (made_at q (found u.1))) (last_made found us q) ≡ max (f q) (last_made found (u ∷ us) q)
made_first found f u us q = omega arith

-- what is raised one after another, at once
max_assoc : (a b c : ℕ) → max (max a b) c ≡ max a (max b c)
max_assoc a b c = omega arith

pub regrouped : (n c r u o e : ℕ) → max (max (max (max (max n c) r) u) o) e ≡ max n (max (max c (max r (max u o))) e)
regrouped n c r u o e =
    ap (λ x. max x e) (max_assoc (max (max n c) r) u o ∙ (max_assoc (max n c) r (max u o) ∙ max_assoc n c (max r (max u o)))) ∙ max_assoc n (max c (max r (max u o))) e

-- ## Ranges with cells

-- a range that an operation uses has cells
abbrev pub HasCells : Use → Type 0
HasCells u = 0 < u.1.len

pub cells_of_in : (op : OpLabel) (b : ℕ) (r : Range) → op ≡ CopyIn r b → All HasCells (used_ranges op) → 0 < r.len
cells_of_in op b r is all = (let here : All HasCells ((b, r) ∷ []) = rw is at all in All-head HasCells (b, r) [] here)

pub cells_of_out : (op : OpLabel) (b : ℕ) (r : Range) → op ≡ CopyOut r b → All HasCells (used_ranges op) → 0 < r.len
cells_of_out op b r is all = (let here : All HasCells ((b, r) ∷ []) = rw is at all in All-head HasCells (b, r) [] here)

-- ## The operations of a batch

-- makes and releases use nothing
none_of_one : (g : OpLabel → List Use) (f : Marked → List OpLabel) (ts : List Marked) → ((t : Marked) → flat_map g (f t) ≡ []) → flat_map g (flat_map f ts) ≡ []
none_of_one g f [] none = refl
none_of_one g f (t ∷ ts) none = flat_map-append g (f t) (flat_map f ts) ∙ (ap (λ r. flat_map g (f t) ++ r) (none_of_one g f ts none) ∙ (ap (λ r. r ++ []) (none t)))

makes_none : (t : Marked) → flat_map used_ranges (group_ops Makes t) ≡ []
makes_none t = by_block t.opened refl
  where
    by_block : (o : Option ℕ) → t.opened ≡ o → flat_map used_ranges (group_ops Makes t) ≡ []
    by_block None e = rw e refl
    by_block (Some b) e = rw e refl

releases_none : (t : Marked) → flat_map used_ranges (group_ops Releases t) ≡ []
releases_none t = by_block t.ended refl
  where
    by_block : (o : Option ℕ) → t.ended ≡ o → flat_map used_ranges (group_ops Releases t) ≡ []
    by_block None e = rw e refl
    by_block (Some b) e = rw e refl

-- what the operations of these groups use
abbrev group_uses : Group → List Marked → List Use
group_uses g ts = flat_map used_ranges (flat_map (group_ops g) ts)

-- What a batch's operations use, raised group by group.
pub made_by_groups : (found : Range → Note) (run : List OpLabel) (ts : List Marked) (q : ℕ)
    → last_made found (flat_map used_ranges (marked_ops run ts)) q
    ≡ max (last_made found (group_uses CopyIns ts) q) (max (last_made found (flat_map used_ranges run) q) (max (last_made found (group_uses Updates ts) q) (last_made found (group_uses CopyOuts ts) q)))
unfolding marked_ops
made_by_groups found run ts q =
    let a = flat_map (group_ops Makes) ts in
    let b = flat_map (group_ops CopyIns) ts in
    let u = flat_map (group_ops Updates) ts in
    let o = flat_map (group_ops CopyOuts) ts in
    let r = flat_map (group_ops Releases) ts in
    let uses = λ (ops : List OpLabel). flat_map used_ranges ops in
    let parts : uses (a ++ (b ++ (run ++ (u ++ (o ++ r))))) ≡ uses a ++ (uses b ++ (uses run ++ (uses u ++ (uses o ++ uses r)))) =
    flat_map-append used_ranges a (b ++ (run ++ (u ++ (o ++ r))))
    ∙ ap (λ x. uses a ++ x) (flat_map-append used_ranges b (run ++ (u ++ (o ++ r)))
    ∙ ap (λ x. uses b ++ x) (flat_map-append used_ranges run (u ++ (o ++ r))
    ∙ ap (λ x. uses run ++ x) (flat_map-append used_ranges u (o ++ r)
    ∙ ap (λ x. uses u ++ x) (flat_map-append used_ranges o r)))) in
    let none_a = ap (λ x. last_made found x q) (none_of_one used_ranges (group_ops Makes) ts makes_none) in
    let none_r = ap (λ x. last_made found x q) (none_of_one used_ranges (group_ops Releases) ts releases_none) in
    ap (λ x. last_made found x q) parts
    ∙ (made_both found (uses a) (uses b ++ (uses run ++ (uses u ++ (uses o ++ uses r)))) q
    ∙ omega (
      arith,
      none_a,
      none_r,
      made_both found (uses b) (uses run ++ (uses u ++ (uses o ++ uses r))) q,
      made_both found (uses run) (uses u ++ (uses o ++ uses r)) q,
      made_both found (uses u) (uses o ++ uses r) q,
      made_both found (uses o) (uses r) q,
    ))
