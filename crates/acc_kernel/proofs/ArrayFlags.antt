-- Flags of the arrays of some items, one for each array.
use Rattle.std.proofs.Common.{◌≡◌, ◌≢◌, ℕ, ◌+◌, ◌<◌, ◌≤◌, Bool, true, false, List, [], ◌∷◌, ◌++◌, length, take, get_or, set, replicate, refl, sym, ap, subst, ◌∙◌, arith}
use Rattle.std.specs.Prelude.{◌==◌, ◌||◌, nat_lt}
use Rattle.std.specs.List.{All, list_any}
use Rattle.std.proofs.Math.Bool.{or-false, or-true}
use Rattle.std.proofs.lemmas.Bool.{ltb-false}
use Rattle.std.proofs.lemmas.Bool.Decides.{Decides-eqb, Decides-ltb}
use Rattle.std.proofs.lemmas.List.{get_or-replicate, get_or_past, length-replicate, get_or_default, get_or-take, get_or-set_same, get_or-set_other, length-take-le, take_more}
use Rattle.std.proofs.lemmas.List.Folds.{Any-from_list_any, list_any_more}
use Rattle.std.proofs.lemmas.List.Quantifiers.{all_pairs_push}
use Rattle.acc_kernel.specs.Jobs.{Use, AreDistinct}
use Rattle.acc_kernel.proofs.WithinLimits.{none_passes}

unset : (n i : ℕ) (b : Bool) → nat_lt i n ≡ b → get_or (replicate n false) i false ≡ false
unset n i true e = get_or-replicate n i false false ((Decides-ltb i n).0 e)
unset n i false e =
    let past : n ≤ i = ltb-false i n e in
    let len : length (replicate n false) ≡ n = length-replicate n false in
    get_or_past (replicate n false) i false (omega arith)

-- no flag is set at first
pub unset_at : (n i : ℕ) → get_or (replicate n false) i false ≡ false
unset_at n i = unset n i (nat_lt i n) refl

-- a use of another array than those before
pub distinct_next : (uses : List Use) (k : ℕ) (u : Use) → k < length uses → u ≡ get_or uses k u → AreDistinct (take k uses)
    → list_any (λ (v : Use). v.1.array == u.1.array) (take k uses) ≡ false → AreDistinct (take (k + 1) uses)
distinct_next uses k u lt at distinct none =
    let apart : All (λ (v : Use). (v.1.array == u.1.array) ≡ false) (take k uses) = none_passes (λ (v : Use). v.1.array == u.1.array) (take k uses) none in
    let whole : take (k + 1) uses ≡ take k uses ++ u ∷ [] = take_more uses k u lt ∙ ap (λ (v : Use). take k uses ++ v ∷ []) (sym at) in
    subst AreDistinct (sym whole)
    (all_pairs_push (λ (v w : Use). v.1.array ≢ w.1.array) (take k uses) u distinct
    (λ n d below e.
    let other : ((get_or (take k uses) n d).1.array == u.1.array) ≡ false = apart n d below in
    let same : ((get_or (take k uses) n d).1.array == u.1.array) ≡ true = (Decides-eqb (get_or (take k uses) n d).1.array u.1.array).1 e in
    let never : ⊥ = cc in
    absurd never))

-- a use of an array that one before has
pub not_distinct : (uses : List Use) (k : ℕ) (u : Use) → k < length uses → u ≡ get_or uses k u
    → list_any (λ (v : Use). v.1.array == u.1.array) (take k uses) ≡ true → AreDistinct uses → ⊥
not_distinct uses k u lt at some distinct =
    let found = Any-from_list_any (λ (v : Use). v.1.array == u.1.array) (take k uses) some in
    earlier found.0 found.1 found.2 found.3 found.4
  where
    earlier : (m : ℕ) (v : Use) → m < length (take k uses) → get_or (take k uses) m v ≡ v → (v.1.array == u.1.array) ≡ true → ⊥
    earlier m v below is same =
        let len : length (take k uses) ≡ k = length-take-le k uses (omega arith) in
        let first : m < k = omega arith in
        let there : get_or uses m v ≡ v = sym (get_or-take k uses m v first) ∙ is in
        let here : get_or uses k v ≡ u = get_or_default uses k v u lt ∙ sym at in
        distinct m k v first lt
        (ap (λ (x : Use). x.1.array) there ∙ ((Decides-eqb v.1.array u.1.array).0 same ∙ ap (λ (x : Use). x.1.array) (sym here)))

-- one more item sets its array's flag
pub flag_next : {X : Type 0} (f : X → ℕ) (xs : List X) (k : ℕ) (x : X) (flags : List Bool) (array : ℕ) → k < length xs → x ≡ get_or xs k x → f x < length flags
    → get_or flags array false ≡ list_any (λ y. f y == array) (take k xs)
    → get_or (set flags (f x) true) array false ≡ list_any (λ y. f y == array) (take (k + 1) xs)
flag_next {X} f xs k x flags array lt at small before = by_array (f x == array) refl
  where
    more : list_any (λ y. f y == array) (take (k + 1) xs) ≡ (list_any (λ y. f y == array) (take k xs) || (f x == array))
    more =
        list_any_more (λ y. f y == array) xs k x lt
        ∙ ap (λ (y : X). list_any (λ z. f z == array) (take k xs) || (f y == array)) (sym at)

    by_array : (b : Bool) → (f x == array) ≡ b → get_or (set flags (f x) true) array false ≡ list_any (λ y. f y == array) (take (k + 1) xs)
    by_array true e =
        let same : f x ≡ array = (Decides-eqb (f x) array).0 e in
        ap (λ (n : ℕ). get_or (set flags (f x) true) n false) (sym same)
        ∙ (get_or-set_same flags (f x) true false small
        ∙ sym (more ∙ (ap (λ (b : Bool). list_any (λ y. f y == array) (take k xs) || b) e ∙ or-true (list_any (λ y. f y == array) (take k xs)))))
    by_array false e =
        let other : array ≢ f x = λ q. (let yes : (f x == array) ≡ true = (Decides-eqb (f x) array).1 (sym q) in let never : ⊥ = cc in absurd never) in
        get_or-set_other flags (f x) array true false other
        ∙ (before
        ∙ sym (more ∙ (ap (λ (b : Bool). list_any (λ y. f y == array) (take k xs) || b) e ∙ or-false (list_any (λ y. f y == array) (take k xs)))))
