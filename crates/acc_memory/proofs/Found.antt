-- What a test finds in a list, and in the list without an item.
use Rattle.std.proofs.Common.{◌≡◌, ℕ, zero, suc, ◌<◌, ◌≤◌, Bool, true, false, cond, List, [], ◌∷◌, ◌++◌, length, get_or, take, Option, Some, None, refl, sym, ap, ◌∙◌, arith, inl, inr}
use Rattle.std.specs.Borrow.{Bor}
use Rattle.std.specs.Prelude.{find, is_some, remove}
use Rattle.std.specs.List.{position_or_len}
use Rattle.std.specs.Option.{option_copied, option_or}
use Rattle.std.proofs.lemmas.Bool.{cases_lt}
use Rattle.std.proofs.lemmas.List.{append-nil, drop_all, take_all}
use Rattle.std.proofs.lemmas.List.Folds.{find_at}
use Rattle.std.proofs.lemmas.List.Sums.{fails_before_first, passes_at_first}
use Rattle.std.proofs.lemmas.Option.{get_or_from_slice_get, slice_get-get_or, slice_get_within}

pub or_none : {X : Type 0} (o : Option X) → option_or o None ≡ o
or_none None = refl
or_none (Some x) = refl

-- a value behind a reference is there where the reference is
pub some_copied : {X : Type 0} (o : Option (Bor X)) → is_some o ≡ is_some (option_copied o)
some_copied None = refl
some_copied (Some x) = refl

module _ {X : Type 0} (p : X → Bool) where
  -- the first item that passes
  pub found_low : (xs : List X) (x : X) → find p xs ≡ Some x → position_or_len p xs < length xs
  found_low xs x found = slice_get_within xs (position_or_len p xs) x (sym (find_at p xs) ∙ found)

  pub found_is : (xs : List X) (x d : X) → find p xs ≡ Some x → get_or xs (position_or_len p xs) d ≡ x
  found_is xs x d found = get_or_from_slice_get xs (position_or_len p xs) x d (sym (find_at p xs) ∙ found)

  pub found_passes : (xs : List X) (x : X) → find p xs ≡ Some x → p x ≡ true
  found_passes xs x found = ap p (sym (found_is xs x x found)) ∙ passes_at_first p xs x (found_low xs x found)

  -- where none is found, each fails
  pub each_fails : (xs : List X) (k : ℕ) (d : X) → find p xs ≡ None → k < length xs → p (get_or xs k d) ≡ false
  each_fails xs k d none low = elim (cases_lt (position_or_len p xs) (length xs)) [
    | inl here ↦
        let some : None ≡ Some (get_or xs (position_or_len p xs) d) = sym none ∙ (find_at p xs ∙ slice_get-get_or xs (position_or_len p xs) d here) in
        let never : ⊥ = cc in absurd never
    | inr past ↦ fails_before_first p xs k d (omega arith)
  ]

  pub none_found : (xs : List X) → ((k : ℕ) (d : X) → k < length xs → p (get_or xs k d) ≡ false) → find p xs ≡ None
  none_found [] fails = refl
  none_found (x ∷ xs) fails = ap (λ t. cond t (Some x) (find p xs)) (fails 0 x (omega arith)) ∙ none_found xs (λ k d low. fails (suc k) d (omega arith))

  -- without an item that fails, the same is found
  pub find_removed : (xs : List X) (i : ℕ) (d : X) → i < length xs → p (get_or xs i d) ≡ false → find p (remove xs i) ≡ find p xs
  find_removed [] i d low fails = absurd (omega arith)
  find_removed (x ∷ xs) zero d low fails = sym (ap (λ t. cond t (Some x) (find p xs)) fails)
  find_removed (x ∷ xs) (suc i) d low fails = ap (cond (p x) (Some x)) (find_removed xs i d (omega arith) fails)

-- an item past the last isn't there to be removed
pub remove_past : {X : Type 0} (xs : List X) (i : ℕ) → length xs ≤ i → remove xs i ≡ xs
remove_past xs i past =
    ap (λ ys. take i xs ++ ys) (drop_all (suc i) xs (omega arith)) ∙ (append-nil (take i xs) ∙ take_all i xs past)
