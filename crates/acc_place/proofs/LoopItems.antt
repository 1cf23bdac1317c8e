-- The items of a loop, as far as there is room for them, and where its implicit ones come from.
use Rattle.std.proofs.Common.{◌≡◌, ℕ, suc, zero, ◌+◌, ◌<◌, ◌≤◌, false, List, [], ◌∷◌, ◌++◌, length, map, get_or, take, drop, refl, sym, ap, ◌∙◌, arith, append_assoc, inl, inr}
use Rattle.std.specs.Prelude.{nat_lt, filter, not, ◌==◌}
use Rattle.std.specs.Option.{option_or}
use Rattle.std.proofs.lemmas.Bool.{cases_Bool, lt-ltb, ltb-true, ltb-false}
use Rattle.std.proofs.lemmas.List.{take_all, take_at, at_drop_more, map-append, length-take, length-take-le, take_more}
use Rattle.std.proofs.lemmas.List.Elements.{filter-append}
use Rattle.std.proofs.lemmas.List.Folds.{find-append}
use Rattle.acc_place.specs.Directives.{Directive}
use Rattle.acc_place.specs.declared.directive.DataItem.{DataItem}
use Rattle.acc_place.specs.declared.directive.Region.{Region}
use Rattle.acc_place.specs.Implicit.{item_of, is_named, items_around, implicit_item, implicit_among}
use Rattle.acc_place.specs.Loops.{item_inside}

-- ## As far as there is room

-- a list that is full takes no more
pub take_full : {X : Type 0} (n : ℕ) (xs ys : List X) → length xs ≡ n → xs ≡ take n (xs ++ ys)
take_full n xs ys e = sym (take_at xs ys n e)

-- what is cut off stays cut off behind more
take_again : {X : Type 0} (n : ℕ) (xs ys : List X) → take n (take n xs ++ ys) ≡ take n (xs ++ ys)
take_again zero xs ys = refl
take_again (suc n) [] ys = refl
take_again (suc n) (x ∷ xs) ys = ap (λ zs. x ∷ zs) (take_again n xs ys)

pub short_taken : {X : Type 0} (n : ℕ) (xs : List X) → nat_lt n (length xs) ≡ false → take (n + 1) xs ≡ xs
short_taken n xs e = let short : length xs ≤ n = ltb-false n (length xs) e in take_all (n + 1) xs (omega arith)

pub length_taken : {X : Type 0} (n : ℕ) (xs : List X) → length (take n xs) ≤ n
length_taken n xs = omega (arith, length-take n xs)

-- one more behind what was taken
taken_next : {X : Type 0} (n : ℕ) (xs ys : List X) (y : X) → take n (take n (xs ++ ys) ++ y ∷ []) ≡ take n (xs ++ (ys ++ y ∷ []))
taken_next n xs ys y = take_again n (xs ++ ys) (y ∷ []) ∙ ap (take n) (append_assoc xs ys (y ∷ []))

pub taken_more : {X : Type 0} (n : ℕ) (xs ys : List X) (i : ℕ) (d : X) → i < length ys
    → take n (take n (xs ++ take i ys) ++ get_or ys i d ∷ []) ≡ take n (xs ++ take (i + 1) ys)
taken_more n xs ys i d lt = taken_next n xs (take i ys) (get_or ys i d) ∙ ap (λ zs. take n (xs ++ zs)) (sym (take_more ys i d lt))

-- whether a list is longer than n can be seen in its first n + 1
pub long_taken : {X : Type 0} (n : ℕ) (xs : List X) → nat_lt n (length (take (n + 1) xs)) ≡ nat_lt n (length xs)
long_taken n xs = elim (cases_Bool (nat_lt n (length xs))) [
  | inl long ↦ (
      let some : n < length xs = ltb-true n (length xs) long in
      let len : length (take (n + 1) xs) ≡ n + 1 = length-take-le (n + 1) xs (omega arith) in
      rw (long, len) (lt-ltb n (n + 1) (omega arith))
      )
  | inr short ↦ ap (λ ys. nat_lt n (length ys)) (short_taken n xs short)
]

-- ## Items of data constructs

one_around : (array host device : ℕ) (r : Region) (rs : List Region)
    → item_of array (items_around host device (r ∷ rs)) ≡ option_or (item_inside array host device r) (item_of array (items_around host device rs))
one_around array host device r rs = elim (cases_Bool (r.host == host)) [
  | inl same ↦ elim (cases_Bool (r.device == device)) [
    | inl on ↦ rw (same, on) (find-append (λ i. i.range.array == array) r.items (items_around host device rs))
    | inr off ↦ rw (same, off) refl
  ]
  | inr other ↦ rw other refl
]

pub around_from : (array host device : ℕ) (rs : List Region) (i : ℕ) (r : Region) → i < length rs → r ≡ get_or rs i r
    → item_of array (items_around host device (drop i rs)) ≡ option_or (item_inside array host device r) (item_of array (items_around host device (drop (i + 1) rs)))
around_from array host device rs i r lt at =
    at_drop_more (λ l. item_of array (items_around host device l)) rs i r lt
    ∙ (ap (λ s. item_of array (items_around host device (s ∷ drop (i + 1) rs))) (sym at) ∙ one_around array host device r (drop (i + 1) rs))

-- ## Implicit items

module _ (lengths : List ℕ) (rs : List Region) (host : ℕ) (d : Directive) where
  abbrev among : List ℕ → List DataItem
  among arrays = implicit_among lengths rs host d arrays

  abbrev implicit_at : ℕ → DataItem
  implicit_at array = implicit_item lengths array (item_of array (items_around host d.device rs))

  among_append : (xs ys : List ℕ) → among (xs ++ ys) ≡ among xs ++ among ys
  among_append xs ys =
      ap (map implicit_at) (filter-append (λ array. not (is_named d.items array)) xs ys)
      ∙ map-append implicit_at (filter (λ array. not (is_named d.items array)) xs) (filter (λ array. not (is_named d.items array)) ys)

  -- one more array
  pub among_more : (n : ℕ) (xs : List DataItem) (arrays : List ℕ) (i e : ℕ) → i < length arrays
      → take n (take n (xs ++ among (take i arrays)) ++ among (get_or arrays i e ∷ [])) ≡ take n (xs ++ among (take (i + 1) arrays))
  among_more n xs arrays i e lt =
      take_again n (xs ++ among (take i arrays)) (among (get_or arrays i e ∷ []))
      ∙ (ap (take n) (append_assoc xs (among (take i arrays)) (among (get_or arrays i e ∷ [])))
      ∙ ap (λ zs. take n (xs ++ zs)) (sym (ap among (take_more arrays i e lt) ∙ among_append (take i arrays) (get_or arrays i e ∷ []))))
