-- Each group of a directive's batch uses live blocks.
use Rattle.std.proofs.Common.{inl, inr, ◌≡◌, ℕ, ◌<◌, ◌≤◌, true, false, cond, List, [], ◌∷◌, ◌++◌, length, map, refl, sym, ap, ◌∙◌, arith}
use Rattle.std.specs.Prelude.{Contains, All, not, filter, IsTrue, ℤ, Option, Some, None}
use Rattle.std.specs.List.{flat_map}
use Rattle.std.proofs.lemmas.Bool.{cases_Bool, ltb-true}
use Rattle.std.proofs.lemmas.List.{append_assoc, append-nil}
use Rattle.std.proofs.lemmas.List.Elements.{Contains-append_cases, Contains-append_left, Contains-append_right, All-nil, All-cons, All-head, All-tail, All-append, All-map, All-contains, All-contains_itself, All-weaker}
use Rattle.std.proofs.lemmas.List.Kept.{AllPairs-filter}
use Rattle.acc_base.specs.declared.range.Range.{Range}
use Rattle.acc_base.specs.Ranges.{Includes}
use Rattle.acc_base.proofs.Members.{no_member, member_first, member_rest, member_one, member_filter, member_map}
use Rattle.acc_base.proofs.ContainsAndOverlaps.{includes_from_test}
use Rattle.acc_present.specs.Marks.{Mark}
use Rattle.acc_present.specs.Lifetimes.{Lifetime, opened_lifetimes, live_lifetimes, lives}
use Rattle.acc_present.proofs.LifetimesApart.{Differ, Apart, apart_first, apart_others}
use Rattle.acc_present.proofs.LifetimeNumbers.{numbered}
use Rattle.acc_batch.specs.declared.label.OpLabel.{OpLabel}
use Rattle.acc_batch.specs.declared.label.OpLabel.TheVariants.{Make, CopyIn, CopyOut, Release, Run, Await, Close}
use Rattle.acc_kernel.specs.Jobs.{Use}
use Rattle.acc_kernel.specs.Kernels.{Loop, arrays_of}
use Rattle.acc_place.specs.Implicit.{item_of}
use Rattle.acc_place.specs.declared.directive.DataItem.{DataItem}
use Rattle.acc_place.specs.Standings.{AskedItem, Visit, visits, marked_by}
use Rattle.acc_place.specs.declared.directive.Clause.{Clause}
use Rattle.acc_place.specs.declared.directive.Clause.TheVariants.{Copy, Copyin, Copyout, Create, Present, NoCreate, Delete, UpdateSelf, UpdateDevice}
use Rattle.acc_place.specs.Batches.{opened_blocks, ended_blocks, holding_blocks, makes, copy_ins, updates, updates_by, use_by, uses_by, runs_by, copy_outs, releases, copies_in, copies_out}
use Rattle.acc_base.specs.Configurations.{has_range}
use Rattle.acc_batch.specs.Lives.{blocks_made, blocks_released, HoldsBlock, AllUse, Made}
use Rattle.acc_batch.proofs.Lives.{made-append, released-append}
use Rattle.acc_place.proofs.VisitLives.{AllUse-append, visit_is, visit, made_of, Booked, booked_more, ended_is, held_block_is, is_opened, new_made, new_is_made, live_member}

-- A block of these was made with a range that has this one, and is none of the released ones.
pub record HoldsIn (makings : List Made) (gone : List ℕ) (range : Range) (block : ℕ) : Type 0 where
  pub whole_range : Range
  pub is_made : Contains makings (record { block = block; range = whole_range })
  pub not_gone : Contains gone block → ⊥
  pub inside : Includes whole_range range

-- So is the block of a loop's use, with the use's range.
abbrev pub IsUsed : List Made → List ℕ → Use → Type 0
IsUsed makings gone u = HoldsIn makings gone u.1 u.0

-- a block that is held by what operations made and released is held by the operations
holds_block : (before : List OpLabel) (makings : List Made) (gone : List ℕ) (r : Range) (b : ℕ) → blocks_made before ≡ makings → blocks_released before ≡ gone → HoldsIn makings gone r b → HoldsBlock before b r
holds_block before makings gone r b e f h = record { whole_range = h.whole_range; is_made = rw e h.is_made; not_released = rw f h.not_gone; inside = h.inside }

-- so is each block that a loop uses
holds_uses : (before : List OpLabel) (makings : List Made) (gone : List ℕ) (uses : List Use) → blocks_made before ≡ makings → blocks_released before ≡ gone → All (IsUsed makings gone) uses → All (λ (u : Use). HoldsBlock before u.0 u.1) uses
holds_uses before makings gone uses e f h = All-weaker (IsUsed makings gone) (λ (u : Use). HoldsBlock before u.0 u.1) (λ u k. holds_block before makings gone u.1 u.0 e f k) uses h

-- An operation that makes and releases no block, and uses live ones.
abbrev pub Copies : List Made → List ℕ → OpLabel → Type 0
Copies makings gone (Make r b) = ⊥
Copies makings gone (CopyIn r b) = HoldsIn makings gone r b
Copies makings gone (CopyOut r b) = HoldsIn makings gone r b
Copies makings gone (Release b) = ⊥
Copies makings gone (Run k uses) = All (IsUsed makings gone) uses
Copies makings gone (Await q n) = Unit {0}
Copies makings gone Close = ⊥

-- an operation that makes no block leaves what was made
made_same : (before : List OpLabel) (op : OpLabel) (makings : List Made) → blocks_made (op ∷ []) ≡ [] → blocks_made before ≡ makings → blocks_made (before ++ op ∷ []) ≡ makings
made_same before op makings none e = made-append before (op ∷ []) ∙ (ap (λ r. blocks_made before ++ r) none ∙ (append-nil (blocks_made before) ∙ e))

-- an operation that releases no block leaves what was released
released_same : (before : List OpLabel) (op : OpLabel) (gone : List ℕ) → blocks_released (op ∷ []) ≡ [] → blocks_released before ≡ gone → blocks_released (before ++ op ∷ []) ≡ gone
released_same before op gone none e = released-append before (op ∷ []) ∙ (ap (λ r. blocks_released before ++ r) none ∙ (append-nil (blocks_released before) ∙ e))

-- a list of such copies uses live blocks
pub copies_use : (arrays : List (List ℤ)) (ops before : List OpLabel) (makings : List Made) (gone : List ℕ) → blocks_made before ≡ makings → blocks_released before ≡ gone → All (Copies makings gone) ops → AllUse arrays before ops
copies_use arrays [] before makings gone e f h = tt
copies_use arrays (Make r b ∷ ops) before makings gone e f h = absurd (All-head (Copies makings gone) (Make r b) ops h)
copies_use arrays (CopyIn r b ∷ ops) before makings gone e f h = (
  holds_block before makings gone r b e f (All-head (Copies makings gone) (CopyIn r b) ops h),
  copies_use arrays ops (before ++ CopyIn r b ∷ []) makings gone (made_same before (CopyIn r b) makings refl e) (released_same before (CopyIn r b) gone refl f) (All-tail (Copies makings gone) (CopyIn r b) ops h),
)
copies_use arrays (CopyOut r b ∷ ops) before makings gone e f h = (
  holds_block before makings gone r b e f (All-head (Copies makings gone) (CopyOut r b) ops h),
  copies_use arrays ops (before ++ CopyOut r b ∷ []) makings gone (made_same before (CopyOut r b) makings refl e) (released_same before (CopyOut r b) gone refl f) (All-tail (Copies makings gone) (CopyOut r b) ops h),
)
copies_use arrays (Release b ∷ ops) before makings gone e f h = absurd (All-head (Copies makings gone) (Release b) ops h)
copies_use arrays (Run k uses ∷ ops) before makings gone e f h = (
  holds_uses before makings gone uses e f (All-head (Copies makings gone) (Run k uses) ops h),
  copies_use arrays ops (before ++ Run k uses ∷ []) makings gone (made_same before (Run k uses) makings refl e) (released_same before (Run k uses) gone refl f) (All-tail (Copies makings gone) (Run k uses) ops h),
)
copies_use arrays (Await q n ∷ ops) before makings gone e f h = (
  tt,
  copies_use arrays ops (before ++ Await q n ∷ []) makings gone (made_same before (Await q n) makings refl e) (released_same before (Await q n) gone refl f) (All-tail (Copies makings gone) (Await q n) ops h),
)
copies_use arrays (Close ∷ ops) before makings gone e f h = absurd (All-head (Copies makings gone) Close ops h)

-- a list of such copies makes and releases nothing
pub no_copy_makes : (ops : List OpLabel) (makings : List Made) (gone : List ℕ) → All (Copies makings gone) ops → (blocks_made ops ≡ []) × (blocks_released ops ≡ [])
no_copy_makes [] makings gone h = (refl, refl)
no_copy_makes (Make r b ∷ ops) makings gone h = absurd (All-head (Copies makings gone) (Make r b) ops h)
no_copy_makes (CopyIn r b ∷ ops) makings gone h = no_copy_makes ops makings gone (All-tail (Copies makings gone) (CopyIn r b) ops h)
no_copy_makes (CopyOut r b ∷ ops) makings gone h = no_copy_makes ops makings gone (All-tail (Copies makings gone) (CopyOut r b) ops h)
no_copy_makes (Release b ∷ ops) makings gone h = absurd (All-head (Copies makings gone) (Release b) ops h)
no_copy_makes (Run k uses ∷ ops) makings gone h = no_copy_makes ops makings gone (All-tail (Copies makings gone) (Run k uses) ops h)
no_copy_makes (Await q n ∷ ops) makings gone h = no_copy_makes ops makings gone (All-tail (Copies makings gone) (Await q n) ops h)
no_copy_makes (Close ∷ ops) makings gone h = absurd (All-head (Copies makings gone) Close ops h)

-- what each member has, all have
pub all_from_members : {X : Type 0} (P : X → Type 0) (xs : List X) → ((x : X) → Contains xs x → P x) → All P xs
all_from_members P xs h = All-weaker (Contains xs) P h xs (All-contains_itself xs)

-- The blocks of a visit, while its directive's blocks are made and none is released.
pub record Holds (makings : List Made) (gone : List ℕ) (v : Visit) : Type 0 where
  pub opened_held : (b : ℕ) → Contains (opened_blocks v) b → HoldsIn makings gone v.item.range b
  pub ended_held : (b : ℕ) → Contains (ended_blocks v) b → HoldsIn makings gone v.item.range b
  pub held_held : (b : ℕ) → Contains (holding_blocks v.before v.item.range) b → HoldsIn makings gone v.item.range b

-- a visit's copies in are such copies
pub copy_ins_of : (makings : List Made) (gone : List ℕ) (v : Visit) → Holds makings gone v → All (Copies makings gone) (copy_ins v)
copy_ins_of makings gone v h =
    elim (copies_in v.item.clause) as (λ t. All (Copies makings gone) (cond t (map (λ b. CopyIn v.item.range b) (opened_blocks v)) [])) [
      | true ↦ All-map (Copies makings gone) (λ b. CopyIn v.item.range b) (opened_blocks v) (all_from_members (λ b. HoldsIn makings gone v.item.range b) (opened_blocks v) h.opened_held)
      | false ↦ All-nil (Copies makings gone)
    ]

-- a visit's copies out are such copies
pub copy_outs_of : (makings : List Made) (gone : List ℕ) (v : Visit) → Holds makings gone v → All (Copies makings gone) (copy_outs v)
copy_outs_of makings gone v h =
    elim (copies_out v.item.clause) as (λ t. All (Copies makings gone) (cond t (map (λ b. CopyOut v.item.range b) (ended_blocks v)) [])) [
      | true ↦ All-map (Copies makings gone) (λ b. CopyOut v.item.range b) (ended_blocks v) (all_from_members (λ b. HoldsIn makings gone v.item.range b) (ended_blocks v) h.ended_held)
      | false ↦ All-nil (Copies makings gone)
    ]

-- copies of held blocks, whichever way they go
updates_held : (c : Clause) (r : Range) (blocks : List ℕ) (makings : List Made) (gone : List ℕ) → All (HoldsIn makings gone r) blocks → All (Copies makings gone) (updates_by c r blocks)
updates_held UpdateSelf r blocks makings gone h = All-map (Copies makings gone) (λ b. CopyOut r b) blocks h
updates_held UpdateDevice r blocks makings gone h = All-map (Copies makings gone) (λ b. CopyIn r b) blocks h
updates_held Copy r blocks makings gone h = All-nil (Copies makings gone)
updates_held Copyin r blocks makings gone h = All-nil (Copies makings gone)
updates_held Copyout r blocks makings gone h = All-nil (Copies makings gone)
updates_held Create r blocks makings gone h = All-nil (Copies makings gone)
updates_held Present r blocks makings gone h = All-nil (Copies makings gone)
updates_held NoCreate r blocks makings gone h = All-nil (Copies makings gone)
updates_held Delete r blocks makings gone h = All-nil (Copies makings gone)

-- a visit's updates are such copies
pub updates_of : (makings : List Made) (gone : List ℕ) (v : Visit) → Holds makings gone v → All (Copies makings gone) (updates v)
updates_of makings gone v h =
    updates_held v.item.clause v.item.range (holding_blocks v.before v.item.range) makings gone
    (all_from_members (HoldsIn makings gone v.item.range) (holding_blocks v.before v.item.range) h.held_held)

-- a group of such copies over all visits
pub copies_of : (f : Visit → List OpLabel) (makings : List Made) (gone : List ℕ) (vs : List Visit) → ((v : Visit) → Holds makings gone v → All (Copies makings gone) (f v)) → All (Holds makings gone) vs → All (Copies makings gone) (flat_map f vs)
copies_of f makings gone [] g h = All-nil (Copies makings gone)
copies_of f makings gone (v ∷ vs) g h =
    All-append (Copies makings gone) (f v) (flat_map f vs) (g v (All-head (Holds makings gone) v vs h)) (copies_of f makings gone vs g (All-tail (Holds makings gone) v vs h))

-- what all visits of a directive make
abbrev pub makings_of : List Visit → List Made
makings_of vs = blocks_made (flat_map makes vs)

-- a range includes itself
pub includes_itself : (r : Range) → Includes r r
includes_itself r = λ array cell p. p

-- the block that a visit opened is the last of all lifetimes so far
pub opened_is : (ms : List Mark) (a : AskedItem) (b : ℕ) → Contains (opened_blocks (visit ms a)) b → (b ≡ length (opened_lifetimes (marked_by ms a))) × (length (opened_lifetimes ms) < length (opened_lifetimes (marked_by ms a)))
opened_is ms a b c =
    elim (cases_Bool (is_opened ms a)) [
      | inl is_open ↦ (sym (member_one b (length (opened_lifetimes (marked_by ms a))) (rw is_open at c)), nat_less ms a is_open)
      | inr is_shut ↦ absurd (no_member b (rw is_shut at c))
    ]
  where
    nat_less : (ms : List Mark) (a : AskedItem) → is_opened ms a ≡ true → length (opened_lifetimes ms) < length (opened_lifetimes (marked_by ms a))
    nat_less ms a h = ltb-true (length (opened_lifetimes ms)) (length (opened_lifetimes (marked_by ms a))) h

-- the block of a lifetime is held where that lifetime was made and isn't gone
held_by : (makings : List Made) (gone : List ℕ) (l : Lifetime) (r : Range) (b : ℕ) → l.block ≡ b → Contains makings (made_of l) → (Contains gone l.block → ⊥) → Includes l.range r → HoldsIn makings gone r b
held_by makings gone l r b e makes not_gone has = rw (← e) (record { whole_range = l.range; is_made = makes; not_gone = not_gone; inside = has })

-- a block that holds a range after these marks is held
pub holding_held : (ms : List Mark) (makings : List Made) (gone : List ℕ) (all : List Made) (first : List ℕ) → Booked ms makings gone → ((x : Made) → Contains makings x → Contains all x) → ((b : ℕ) → Contains first b → Contains gone b)
    → (r : Range) (b : ℕ) → Contains (holding_blocks ms r) b → HoldsIn all first r b
holding_held ms makings gone all first h sub less r b c =
    let k = held_block_is ms r b c in
    held_by all first k.lifetime r b k.named (sub (made_of k.lifetime) (h.made_all k.lifetime k.member))
    (λ g. h.gone_dead k.lifetime k.member k.lived (less k.lifetime.block g))
    (includes_from_test k.lifetime.range r k.around)

-- so is what a loop uses of one array
use_held : (makings : List Made) (gone : List ℕ) (ms : List Mark) (i : Option DataItem) → ((r : Range) (b : ℕ) → Contains (holding_blocks ms r) b → HoldsIn makings gone r b) → All (IsUsed makings gone) (use_by ms i)
use_held makings gone ms None h = All-nil (IsUsed makings gone)
use_held makings gone ms (Some i) h =
    All-map (IsUsed makings gone) (λ b. (b, i.range)) (holding_blocks ms i.range) (all_from_members (HoldsIn makings gone i.range) (holding_blocks ms i.range) (h i.range))

-- and of all these arrays
uses_held : (makings : List Made) (gone : List ℕ) (ms : List Mark) (items : List DataItem) (arrays : List ℕ) → ((r : Range) (b : ℕ) → Contains (holding_blocks ms r) b → HoldsIn makings gone r b)
    → All (IsUsed makings gone) (flat_map (λ array. use_by ms (item_of array items)) arrays)
uses_held makings gone ms items [] h = All-nil (IsUsed makings gone)
uses_held makings gone ms items (array ∷ arrays) h =
    All-append (IsUsed makings gone) (use_by ms (item_of array items)) (flat_map (λ other. use_by ms (item_of other items)) arrays)
    (use_held makings gone ms (item_of array items) h) (uses_held makings gone ms items arrays h)

-- A directive's loop, if it runs one, uses live blocks.
pub run_of : (makings : List Made) (gone : List ℕ) (ms : List Mark) (run : Option Loop) (items : List DataItem) → ((r : Range) (b : ℕ) → Contains (holding_blocks ms r) b → HoldsIn makings gone r b) → All (Copies makings gone) (runs_by run items ms)
run_of makings gone ms None items h = All-nil (Copies makings gone)
run_of makings gone ms (Some k) items h =
    All-cons (Copies makings gone) (Run k (uses_by k items ms)) [] (uses_held makings gone ms items (arrays_of k) h) (All-nil (Copies makings gone))

-- From what was made and released before a directive, each visit's blocks are held.
pub visits_hold : (asks : List AskedItem) (ms : List Mark) (makings : List Made) (gone : List ℕ) (all : List Made) (first : List ℕ) → Booked ms makings gone →
    ((x : Made) → Contains (makings ++ makings_of (visits ms asks)) x → Contains all x) → ((b : ℕ) → Contains first b → Contains gone b) → All (Holds all first) (visits ms asks)
visits_hold [] ms makings gone all first h sub less = All-nil (Holds all first)
visits_hold (a ∷ asks) ms makings gone all first h sub less =
    let v = visit_is ms a in
    let here = blocks_made (makes (visit ms a)) in
    let later = makings_of (visits (marked_by ms a) asks) in
    let split : makings_of (visits ms (a ∷ asks)) ≡ here ++ later = made-append (makes (visit ms a)) (flat_map makes (visits (marked_by ms a) asks)) in
    All-cons (Holds all first) (visit ms a) (visits (marked_by ms a) asks)
    (record {
      opened_held = λ b c.
          let n = opened_is ms a b c in
          record {
            whole_range = a.item.range;
            is_made = sub (record { block = b; range = a.item.range }) (Contains-append_right makings (makings_of (visits ms (a ∷ asks))) _ (rw (split, n.0) (Contains-append_left here later _ (new_is_made ms a n.1))));
            not_gone = λ g. absurd (omega (arith, h.gone_low b (less b g), n.0, n.1));
            inside = includes_itself a.item.range;
          };
      ended_held = λ b c.
          let e = ended_is ms a b c in
          held_by all first e.lifetime a.item.range b e.named
          (sub (made_of e.lifetime) (Contains-append_left makings (makings_of (visits ms (a ∷ asks))) (made_of e.lifetime) (h.made_all e.lifetime e.member)))
          (λ g. h.gone_dead e.lifetime e.member e.lived (less e.lifetime.block g))
          (includes_from_test e.lifetime.range a.item.range (v.ended e.lifetime e.member e.lived e.over));
      held_held = λ b c. holding_held ms makings gone all first h (λ x d. sub x (Contains-append_left makings (makings_of (visits ms (a ∷ asks))) x d)) less a.item.range b c;
    })
    (visits_hold asks (marked_by ms a) (makings ++ here) (gone ++ ended_blocks (visit ms a)) all first (booked_more ms a makings gone h)
    (λ x c. sub x (rw (split, ← append_assoc makings here later) c))
    (λ b c. Contains-append_left gone (ended_blocks (visit ms a)) b (less b c)))

-- The ranges that a directive names lie in their arrays.
abbrev pub AllInArrays : List (List ℤ) → List AskedItem → Type 0
AllInArrays arrays [] = Unit {0}
AllInArrays arrays (a ∷ asks) = IsTrue (has_range arrays a.item.range) × AllInArrays arrays asks

-- the one block that a visit makes was never made before
one_make : (arrays : List (List ℤ)) (ms : List Mark) (a : AskedItem) (before : List OpLabel) → ((x : Made) → Contains (blocks_made before) x → x.block ≤ length (opened_lifetimes ms)) → IsTrue (has_range arrays a.item.range) → AllUse arrays before (makes (visit ms a))
one_make arrays ms a before low inside =
    elim (cases_Bool (is_opened ms a)) [
      | inl is_open ↦
          let longer = ltb-true (length (opened_lifetimes ms)) (length (opened_lifetimes (marked_by ms a))) is_open in
          rw is_open (((λ c. let f = member_map (λ (x : Made). x.block) (blocks_made before) (length (opened_lifetimes (marked_by ms a))) c in absurd (omega (arith, low f.source f.member, f.same, longer))), inside), tt)
      | inr is_shut ↦ rw is_shut tt
    ]

-- the blocks that all visits of a directive make were never made before
pub makes_use : (arrays : List (List ℤ)) (asks : List AskedItem) (ms : List Mark) (before : List OpLabel) → ((x : Made) → Contains (blocks_made before) x → x.block ≤ length (opened_lifetimes ms)) → AllInArrays arrays asks → AllUse arrays before (flat_map makes (visits ms asks))
makes_use arrays [] ms before low inside = tt
makes_use arrays (a ∷ asks) ms before low inside =
    let v = visit_is ms a in
    AllUse-append arrays before (makes (visit ms a)) (flat_map makes (visits (marked_by ms a) asks)) (one_make arrays ms a before low inside.0)
    (makes_use arrays asks (marked_by ms a) (before ++ makes (visit ms a))
    (λ x c. elim (Contains-append_cases (blocks_made before) (blocks_made (makes (visit ms a))) x (rw (made-append before (makes (visit ms a))) at c)) [
      | inl old ↦ omega (arith, low x old, v.longer)
      | inr new ↦ omega (arith, (new_made ms a x new).block)
    ])
    inside.1)

-- releases make nothing
pub made_releases : (bs : List ℕ) → blocks_made (map Release bs) ≡ []
made_releases [] = refl
made_releases (b ∷ bs) = made_releases bs

-- and each releases its block
pub released_releases : (bs : List ℕ) → blocks_released (map Release bs) ≡ bs
released_releases [] = refl
released_releases (b ∷ bs) = ap (λ r. b ∷ r) (released_releases bs)

-- the releases of the lifetimes that one visit ends use live blocks
releases_all : (arrays : List (List ℤ)) (ls : List Lifetime) (before : List OpLabel) → Apart ls → ((l : Lifetime) → Contains ls l → Contains (blocks_made before) (made_of l)) → ((l : Lifetime) → Contains ls l → Contains (blocks_released before) l.block → ⊥) →
    AllUse arrays before (map Release (map (λ l. l.block) ls))
releases_all arrays [] before apart makes gone = tt
releases_all arrays (l ∷ ls) before apart makes gone = (
  (l.range, record { whole_range = l.range; is_made = makes l (member_first l ls); not_released = gone l (member_first l ls); inside = includes_itself l.range }),
  releases_all arrays ls (before ++ Release l.block ∷ []) (apart_others l ls apart)
      (λ k c. rw (made_same before (Release l.block) (blocks_made before) refl refl) (makes k (member_rest k l ls c)))
      (λ k c g. elim (Contains-append_cases (blocks_released before) (l.block ∷ []) k.block (rw (released-append before (Release l.block ∷ [])) at g)) [
        | inl old ↦ gone k (member_rest k l ls c) old
        | inr new ↦ All-contains (Differ l) ls k (apart_first l ls apart) c (member_one k.block l.block new)
      ]),
)

-- no two lifetimes that live have one block
live_apart : (ms : List Mark) → Apart (live_lifetimes ms)
unfolding live_lifetimes
live_apart ms = AllPairs-filter Differ (lives ms) (opened_lifetimes ms) (numbered ms).apart

-- The releases of all visits of a directive use live blocks.
pub releases_use : (arrays : List (List ℤ)) (asks : List AskedItem) (ms : List Mark) (makings : List Made) (before : List OpLabel) → Booked ms makings (blocks_released before) →
    ((x : Made) → Contains (makings ++ makings_of (visits ms asks)) x → Contains (blocks_made before) x) → AllUse arrays before (flat_map releases (visits ms asks))
releases_use arrays [] ms makings before h sub = tt
releases_use arrays (a ∷ asks) ms makings before h sub =
    let here = blocks_made (makes (visit ms a)) in
    let later = makings_of (visits (marked_by ms a) asks) in
    let split : makings_of (visits ms (a ∷ asks)) ≡ here ++ later = made-append (makes (visit ms a)) (flat_map makes (visits (marked_by ms a) asks)) in
    let over = filter (λ l. not (lives (marked_by ms a) l)) (live_lifetimes ms) in
    let member = λ (l : Lifetime) (c : Contains over l). live_member ms l (member_filter (λ l. not (lives (marked_by ms a) l)) (live_lifetimes ms) l c).1 in
    let gone : blocks_released (before ++ releases (visit ms a)) ≡ blocks_released before ++ ended_blocks (visit ms a) =
    released-append before (releases (visit ms a)) ∙ ap (λ r. blocks_released before ++ r) (released_releases (ended_blocks (visit ms a))) in
    let same : blocks_made (before ++ releases (visit ms a)) ≡ blocks_made before =
    made-append before (releases (visit ms a)) ∙ (ap (λ r. blocks_made before ++ r) (made_releases (ended_blocks (visit ms a))) ∙ append-nil (blocks_made before)) in
    AllUse-append arrays before (releases (visit ms a)) (flat_map releases (visits (marked_by ms a) asks))
    (releases_all arrays over before (AllPairs-filter Differ (λ l. not (lives (marked_by ms a) l)) (live_lifetimes ms) (live_apart ms))
    (λ l c. sub (made_of l) (Contains-append_left makings (makings_of (visits ms (a ∷ asks))) (made_of l) (h.made_all l (member l c).1)))
    (λ l c. h.gone_dead l (member l c).1 (member l c).0))
    (releases_use arrays asks (marked_by ms a) (makings ++ here) (before ++ releases (visit ms a))
    (rw gone (booked_more ms a makings (blocks_released before) h))
    (λ x c. rw same (sub x (rw (split, ← append_assoc makings here later) c))))
