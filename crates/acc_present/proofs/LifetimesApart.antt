-- Lists of lifetimes with different blocks.
use Rattle.std.proofs.Common.{inl, inr, ◌≡◌, zero, suc, Bool, true, false, cond, List, [], ◌∷◌, ◌++◌, sym, ap, ◌∙◌, arith}
use Rattle.std.specs.Prelude.{All, AllPairs, Contains, not, filter}
use Rattle.std.proofs.lemmas.List.Elements.{All-append, All-cons, All-contains, All-filter, All-head, All-tail}
use Rattle.std.proofs.lemmas.List.Kept.{AllPairs-cons}
use Rattle.acc_base.proofs.Members.{no_member, member_cases}
use Rattle.acc_present.specs.Lifetimes.{Lifetime}

-- Two lifetimes have different blocks.
abbrev pub Differ : Lifetime → Lifetime → Type 0
Differ l k = l.block ≡ k.block → ⊥

-- No two of these lifetimes have the same block.
abbrev pub Apart : List Lifetime → Type 0
Apart ls = AllPairs Differ ls

-- the first of them differs from the others
pub apart_first : (l : Lifetime) (ls : List Lifetime) → Apart (l ∷ ls) → All (Differ l) ls
apart_first l ls h = λ j d within. h zero (suc j) d (omega arith) (omega arith)

-- and the others are apart
pub apart_others : (l : Lifetime) (ls : List Lifetime) → Apart (l ∷ ls) → Apart ls
apart_others l ls h = λ i j d below within. h (suc i) (suc j) d (omega arith) (omega arith)

-- one more lifetime among others is apart from them where none has its block
pub apart_insert : (l : Lifetime) (xs ys : List Lifetime) → Apart (xs ++ ys) → All (Differ l) (xs ++ ys) → Apart (xs ++ l ∷ ys)
apart_insert l [] ys h new = AllPairs-cons Differ l ys new h
apart_insert l (x ∷ xs) ys h new =
    AllPairs-cons Differ x (xs ++ l ∷ ys) (differs xs (apart_first x (xs ++ ys) h))
    (apart_insert l xs ys (apart_others x (xs ++ ys) h) (All-tail (Differ l) x (xs ++ ys) new))
  where
    differs : (zs : List Lifetime) → All (Differ x) (zs ++ ys) → All (Differ x) (zs ++ l ∷ ys)
    differs [] d = All-cons (Differ x) l ys (λ e. All-head (Differ l) x (xs ++ ys) new (sym e)) d
    differs (z ∷ zs) d = All-cons (Differ x) z (zs ++ l ∷ ys) (All-head (Differ x) z (zs ++ ys) d) (differs zs (All-tail (Differ x) z (zs ++ ys) d))

-- what holds of all holds of all that a test parted
pub all_parted : (P : Lifetime → Type 0) (p : Lifetime → Bool) (ls : List Lifetime) → All P ls → All P (filter (λ x. not (p x)) ls ++ filter p ls)
all_parted P p ls h = All-append P (filter (λ x. not (p x)) ls) (filter p ls) (All-filter (λ x. not (p x)) P ls h) (All-filter p P ls h)

-- a list that a test parted is apart where it was
pub apart_parted : (p : Lifetime → Bool) (ls : List Lifetime) → Apart ls → Apart (filter (λ x. not (p x)) ls ++ filter p ls)
apart_parted p [] h = h
apart_parted p (l ∷ ls) h =
    let ih = apart_parted p ls (apart_others l ls h) in
    let new = all_parted (Differ l) p ls (apart_first l ls h) in
    elim (p l) as (λ v. Apart (cond (not v) (l ∷ filter (λ x. not (p x)) ls) (filter (λ x. not (p x)) ls) ++ cond v (l ∷ filter p ls) (filter p ls))) [
      | true ↦ apart_insert l (filter (λ x. not (p x)) ls) (filter p ls) ih new
      | false ↦ AllPairs-cons Differ l (filter (λ x. not (p x)) ls ++ filter p ls) new ih
    ]

-- Of two members with one block, both are the same.
pub apart_same : (ls : List Lifetime) → Apart ls → (l k : Lifetime) → Contains ls l → Contains ls k → l.block ≡ k.block → l ≡ k
apart_same [] h l k a b e = absurd (no_member l a)
apart_same (x ∷ xs) h l k a b e = elim (member_cases l x xs a) [
  | inl x_l ↦ elim (member_cases k x xs b) [
    | inl x_k ↦ sym x_l ∙ x_k
    | inr in_k ↦ absurd (All-contains (Differ x) xs k (apart_first x xs h) in_k (ap (λ (z : Lifetime). z.block) x_l ∙ e))
  ]
  | inr in_l ↦ elim (member_cases k x xs b) [
    | inl x_k ↦ absurd (All-contains (Differ x) xs l (apart_first x xs h) in_l (ap (λ (z : Lifetime). z.block) x_k ∙ sym e))
    | inr in_k ↦ apart_same xs (apart_others x xs h) l k in_l in_k e
  ]
]
