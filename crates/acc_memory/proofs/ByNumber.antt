-- What is found by a number among some values after one is put in, removed or written, and that no two are of the same one.
use Rattle.std.proofs.Common.{◌≡◌, ℕ, ◌+◌, ◌<◌, Bool, true, false, List, [], ◌∷◌, ◌++◌, length, get_or, set, Option, Some, None, refl, sym, ap, subst, ◌∙◌, arith, inl, inr}
use Rattle.std.specs.Prelude.{◌==◌, remove}
use Rattle.std.specs.List.{position_or_len}
use Rattle.std.proofs.lemmas.Bool.{cases_eq, cases_lt, eq-eqb, eqb-true, ne_eqb}
use Rattle.std.proofs.lemmas.List.{get_or-set_other, get_or-set_same, length-set}
use Rattle.std.proofs.lemmas.List.Edits.{get_or-remove_above, get_or-remove_below, length-remove}
use Rattle.std.proofs.lemmas.List.Folds.{find-append, find-set, find_at, find_past}
use Rattle.std.proofs.lemmas.List.Quantifiers.{all_pairs_push, all_pairs_remove}
use Rattle.std.proofs.lemmas.List.Sums.{fails_before_first, passes_at_first}
use Rattle.std.proofs.lemmas.Option.{slice_get_past}
use Rattle.acc_memory.specs.inner.Buckets.{AreOnce, IsSetBy, find_by}
use Rattle.acc_memory.proofs.Found.{each_fails, find_removed, found_is, found_low, found_passes, none_found, or_none, remove_past}

module _ {X : Type 0} (key : X → ℕ) where
  abbrev is_of : ℕ → X → Bool
  is_of n x = key x == n

  abbrev pub place_of : List X → ℕ → ℕ
  place_of xs n = position_or_len (is_of n) xs

  abbrev differ : X → X → Type 0
  differ x y = key x ≡ key y → ⊥

  -- what is found has the number
  pub found-number : (xs : List X) (n : ℕ) (x : X) → find_by key xs n ≡ Some x → key x ≡ n
  found-number xs n x found = eqb-true (key x) n (found_passes (is_of n) xs x found)

  -- so has the value at a place that passes
  number_at : (xs : List X) (n : ℕ) (d : X) → place_of xs n < length xs → key (get_or xs (place_of xs n) d) ≡ n
  number_at xs n d low = eqb-true (key (get_or xs (place_of xs n) d)) n (passes_at_first (is_of n) xs d low)

  -- ## One that is set

  pub set_at : (n k : ℕ) (x : Option X) (old new : List X) → IsSetBy key n x old new → k ≡ n → find_by key new k ≡ x
  set_at n k x old new is same = (let e : (k == n) ≡ true = eq-eqb k n same in is k ∙ rw e refl)

  pub set_past : (n k : ℕ) (x : Option X) (old new : List X) → IsSetBy key n x old new → (k ≡ n → ⊥)
      → find_by key new k ≡ find_by key old k
  set_past n k x old new is other = (let e : (k == n) ≡ false = ne_eqb k n other in is k ∙ rw e refl)

  -- where what is found stays, it is set
  pub kept_set : (xs : List X) (n : ℕ) (x : Option X) → find_by key xs n ≡ x → IsSetBy key n x xs xs
  kept_set xs n x is k = elim (cases_eq k n) [
    | inl same ↦ rw (same, eq-eqb n n refl) is
    | inr other ↦ rw (ne_eqb k n other) refl
  ]

  -- ## One that is put in

  pub put_set : (xs : List X) (y : X) → find_by key xs (key y) ≡ None → IsSetBy key (key y) (Some y) xs (xs ++ y ∷ [])
  put_set xs y fresh k = find-append (is_of k) xs (y ∷ []) ∙ elim (cases_eq k (key y)) [
    | inl same ↦ rw (same, fresh, eq-eqb (key y) (key y) refl) refl
    | inr other ↦ rw (ne_eqb k (key y) other, ne_eqb (key y) k (λ e. other (sym e))) (or_none (find_by key xs k))
  ]

  pub put_once : (xs : List X) (y : X) → AreOnce key xs → find_by key xs (key y) ≡ None → AreOnce key (xs ++ y ∷ [])
  put_once xs y once fresh = all_pairs_push differ xs y once (λ k d low same.
      let fails = each_fails (is_of (key y)) xs k d fresh low in
      let passes = eq-eqb (key (get_or xs k d)) (key y) same in
      let never : ⊥ = cc in never)

  -- ## One that is removed

  -- it is found no more
  none_left : (xs : List X) (n : ℕ) → AreOnce key xs → place_of xs n < length xs
      → find_by key (remove xs (place_of xs n)) n ≡ None
  none_left xs n once low = none_found (is_of n) (remove xs (place_of xs n)) (λ k d inside. elim (cases_lt k (place_of xs n)) [
    | inl below ↦ ap (is_of n) (get_or-remove_below xs (place_of xs n) d k below low) ∙ fails_before_first (is_of n) xs k d below
    | inr above ↦
        let count = length-remove xs (place_of xs n) low in
        ap (is_of n) (get_or-remove_above xs (place_of xs n) d k above low)
        ∙ ne_eqb (key (get_or xs (k + 1) d)) n
        (λ e. once (place_of xs n) (k + 1) d (omega arith) (omega (arith, count, inside)) (number_at xs n d low ∙ sym e))
  ])

  -- each other value is found as before
  others_left : (xs : List X) (n k : ℕ) → (k ≡ n → ⊥) → place_of xs n < length xs
      → find_by key (remove xs (place_of xs n)) k ≡ find_by key xs k
  others_left [] n k other low = absurd (omega arith)
  others_left (x ∷ xs) n k other low =
      find_removed (is_of k) (x ∷ xs) (place_of (x ∷ xs) n) x low
      (ne_eqb (key (get_or (x ∷ xs) (place_of (x ∷ xs) n) x)) k (λ e. other (sym e ∙ number_at (x ∷ xs) n x low)))

  pub removed_set : (xs : List X) (n : ℕ) → AreOnce key xs → IsSetBy key n None xs (remove xs (place_of xs n))
  removed_set xs n once k = elim (cases_lt (place_of xs n) (length xs)) [
    | inl low ↦ elim (cases_eq k n) [
      | inl same ↦ rw (same, eq-eqb n n refl) (none_left xs n once low)
      | inr other ↦ rw (ne_eqb k n other) (others_left xs n k other low)
    ]
    | inr past ↦
        let none : find_by key xs n ≡ None = find_at (is_of n) xs ∙ slice_get_past xs (place_of xs n) past in
        ap (λ ys. find_by key ys k) (remove_past xs (place_of xs n) past) ∙ elim (cases_eq k n) [
          | inl same ↦ rw (same, eq-eqb n n refl) none
          | inr other ↦ rw (ne_eqb k n other) refl
        ]
  ]

  pub removed_once : (xs : List X) (i : ℕ) → AreOnce key xs → AreOnce key (remove xs i)
  removed_once xs i once = elim (cases_lt i (length xs)) [
    | inl low ↦ all_pairs_remove differ xs i low once
    | inr past ↦ subst (AreOnce key) (sym (remove_past xs i past)) once
  ]

  -- ## One that is written

  pub written_set : (xs : List X) (n : ℕ) (x y : X) → find_by key xs n ≡ Some x → key y ≡ key x
      → IsSetBy key n (Some y) xs (set xs (place_of xs n) y)
  written_set xs n x y found same k =
      let low = found_low (is_of n) xs x found in
      let name : key x ≡ n = found-number xs n x found in
      elim (cases_eq k n) [
        | inl here ↦
            rw (here, eq-eqb n n refl) (find-set (is_of n) xs (place_of xs n) y refl low (eq-eqb (key y) n (same ∙ name)))
        | inr other ↦
            rw (ne_eqb k n other) (find_past (is_of k) xs (place_of xs n) y x
            (ne_eqb (key (get_or xs (place_of xs n) x)) k (λ e. other (sym e ∙ number_at xs n x low)))
            (ne_eqb (key y) k (λ e. other (sym e ∙ (same ∙ name)))))
      ]

  pub written_once : (xs : List X) (n : ℕ) (x y : X) → AreOnce key xs → find_by key xs n ≡ Some x → key y ≡ key x
      → AreOnce key (set xs (place_of xs n) y)
  written_once xs n x y once found same i j d before inside twice =
      let low : j < length xs = omega (arith, inside, length-set xs (place_of xs n) y) in
      once i j d before low (sym (number i d) ∙ (twice ∙ number j d))
    where
      number : (k : ℕ) (d : X) → key (get_or (set xs (place_of xs n) y) k d) ≡ key (get_or xs k d)
      number k d = elim (cases_eq k (place_of xs n)) [
        | inl here ↦
            rw here (ap key (get_or-set_same xs (place_of xs n) y d (found_low (is_of n) xs x found))
            ∙ (same ∙ ap key (sym (found_is (is_of n) xs x d found))))
        | inr other ↦ ap key (get_or-set_other xs (place_of xs n) k y d other)
      ]
