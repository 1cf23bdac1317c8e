-- Values spread over chains by number: which is found, and what a change of one chain makes of all.
use Rattle.std.proofs.Common.{◌≡◌, ℕ, zero, suc, ◌+◌, ◌<◌, ◌≤◌, List, [], ◌∷◌, length, get_or, set, Option, None, refl, sym, ap, subst, ◌∙◌, arith, inl, inr}
use Rattle.std.specs.Prelude.{◌==◌}
use Rattle.std.specs.Option.{option_or}
use Rattle.std.proofs.lemmas.Bool.{cases_eq, ne_eqb}
use Rattle.std.proofs.lemmas.List.{get_or-set_other, get_or-set_same, get_or_default, length-set}
use Rattle.std.proofs.lemmas.List.Folds.{find-append}
use Rattle.acc_memory.specs.inner.Buckets.{AreOnce, AreSpread, HaveSame, IsSetBy, bucket_in, bucket_of, find_by, in_all}
use Rattle.acc_memory.proofs.ByNumber.{set_past}
use Rattle.acc_memory.proofs.Found.{or_none}

bucket_past : {X : Type 0} (buckets : List (List X)) (k : ℕ) → length buckets ≤ k → bucket_in buckets k ≡ []
bucket_past [] k past = refl
bucket_past (xs ∷ buckets) zero past = absurd (omega (arith, past))
bucket_past (xs ∷ buckets) (suc k) past = bucket_past buckets k (omega (arith, past))

module _ {X : Type 0} (key : X → ℕ) (last : ℕ) where
  -- ## What is found

  none_in_all : (buckets : List (List X)) (n : ℕ) → ((k : ℕ) → find_by key (bucket_in buckets k) n ≡ None)
      → find_by key (in_all buckets) n ≡ None
  none_in_all [] n none = refl
  none_in_all (xs ∷ buckets) n none =
      find-append (λ x. key x == n) xs (in_all buckets)
      ∙ (ap (λ o. option_or o (find_by key (in_all buckets) n)) (none 0) ∙ none_in_all buckets n (λ k. none (suc k)))

  found_in : (buckets : List (List X)) (n k : ℕ) → ((j : ℕ) → (j ≡ k → ⊥) → find_by key (bucket_in buckets j) n ≡ None)
      → find_by key (in_all buckets) n ≡ find_by key (bucket_in buckets k) n
  found_in [] n k none = refl
  found_in (xs ∷ buckets) n zero none =
      find-append (λ x. key x == n) xs (in_all buckets)
      ∙ (ap (option_or (find_by key xs n)) (none_in_all buckets n (λ j. none (suc j) (λ e. cc))) ∙ or_none (find_by key xs n))
  found_in (xs ∷ buckets) n (suc k) none =
      find-append (λ x. key x == n) xs (in_all buckets)
      ∙ (ap (λ o. option_or o (find_by key (in_all buckets) n)) (none 0 (λ e. cc))
      ∙ found_in buckets n k (λ j apart. none (suc j) (λ e. apart (let same : j ≡ k = omega (arith, e) in same))))

  -- a value is found in its own chain
  find_spread : (buckets : List (List X)) (n : ℕ) → AreSpread key last buckets
      → find_by key (in_all buckets) n ≡ find_by key (bucket_in buckets (bucket_of last n)) n
  find_spread buckets n h = found_in buckets n (bucket_of last n) (λ j apart. h.own j n (λ e. apart (sym e)))

  -- what has no chain isn't there
  pub find_past : (buckets : List (List X)) (n : ℕ) → AreSpread key last buckets → length buckets ≤ bucket_of last n
      → find_by key (in_all buckets) n ≡ None
  find_past buckets n h past = find_spread buckets n h ∙ ap (λ xs. find_by key xs n) (bucket_past buckets (bucket_of last n) past)

  -- the chain of a number, as a call reaches it
  pub record IsOwn (buckets : List (List X)) (n : ℕ) (xs : List X) : Type 0 where
    pub finds : find_by key xs n ≡ find_by key (in_all buckets) n
    pub once : AreOnce key xs
    pub is : xs ≡ bucket_in buckets (bucket_of last n)

  pub own_bucket : (buckets : List (List X)) (i n : ℕ) (xs : List X) → AreSpread key last buckets → i < length buckets → i ≡ bucket_of last n
      → xs ≡ get_or buckets i xs → IsOwn buckets n xs
  own_bucket buckets i n xs h low same is =
      let at : xs ≡ get_or buckets (bucket_of last n) xs = rw same at is in
      let here : xs ≡ bucket_in buckets (bucket_of last n) = at ∙ sym (get_or_default buckets (bucket_of last n) [] xs (rw same at low)) in
      record {
        finds = ap (λ ys. find_by key ys n) here ∙ sym (find_spread buckets n h);
        once = subst (AreOnce key) (sym here) (h.once (bucket_of last n));
        is = here;
      }

  -- ## A chain that changes

  spread_set : (buckets : List (List X)) (n : ℕ) (x : Option X) (xs : List X) → AreSpread key last buckets → bucket_of last n < length buckets
      → AreOnce key xs → IsSetBy key n x (bucket_in buckets (bucket_of last n)) xs → AreSpread key last (set buckets (bucket_of last n) xs)
  spread_set buckets n x xs h low once is = record {
    few = omega (arith, length-set buckets (bucket_of last n) xs, h.few);
    once = λ k. elim (cases_eq k (bucket_of last n)) [
      | inl same ↦ rw (same, get_or-set_same buckets (bucket_of last n) xs [] low) once
      | inr differ ↦ rw (get_or-set_other buckets (bucket_of last n) k xs [] differ) (h.once k)
    ];
    own = λ k m apart. elim (cases_eq k (bucket_of last n)) [
      | inl same ↦
          let other : m ≡ n → ⊥ = λ e. apart (ap (bucket_of last) e ∙ sym same) in
          rw (same, get_or-set_same buckets (bucket_of last n) xs [] low)
          (set_past key n m x (bucket_in buckets (bucket_of last n)) xs is other ∙ h.own (bucket_of last n) m (λ e. apart (e ∙ sym same)))
      | inr differ ↦ rw (get_or-set_other buckets (bucket_of last n) k xs [] differ) (h.own k m apart)
    ];
  }

  -- one value was set, and the chains are as they have to be
  pub record IsChanged (n : ℕ) (x : Option X) (old new : List (List X)) : Type 0 where
    pub spread : AreSpread key last new
    pub is_set : IsSetBy key n x (in_all old) (in_all new)

  pub bucket_changed : (buckets : List (List X)) (i n : ℕ) (x : Option X) (before after : List X) → AreSpread key last buckets
      → i < length buckets → i ≡ bucket_of last n → before ≡ get_or buckets i before → AreOnce key after → IsSetBy key n x before after
      → IsChanged n x buckets (set buckets i after)
  bucket_changed buckets i n x before after h there same is once change = rw same (record { spread = spread; is_set = all })
    where
      low : bucket_of last n < length buckets
      low = rw same at there

      own : IsSetBy key n x (bucket_in buckets (bucket_of last n)) after
      own = subst (λ (xs : List X). IsSetBy key n x xs after) (own_bucket buckets i n before h there same is).is change

      spread : AreSpread key last (set buckets (bucket_of last n) after)
      spread = spread_set buckets n x after h low once own

      all : IsSetBy key n x (in_all buckets) (in_all (set buckets (bucket_of last n) after))
      all k = find_spread (set buckets (bucket_of last n) after) k spread ∙ elim (cases_eq (bucket_of last k) (bucket_of last n)) [
        | inl same ↦
            let was : find_by key (in_all buckets) k ≡ find_by key (bucket_in buckets (bucket_of last n)) k =
            find_spread buckets k h ∙ ap (λ j. find_by key (bucket_in buckets j) k) same in
            rw (same, get_or-set_same buckets (bucket_of last n) after [] low, was) (own k)
        | inr differ ↦
            ap (λ xs. find_by key xs k) (get_or-set_other buckets (bucket_of last n) (bucket_of last k) after [] differ)
            ∙ (sym (find_spread buckets k h) ∙ rw (ne_eqb k n (λ e. differ (ap (bucket_of last) e))) refl)
      ]

  -- ## Chains that are added, without a value

  pub none_spread : AreSpread key last []
  none_spread = record {
    few = omega arith;
    once = λ k i j d before low. absurd (omega (arith, low));
    own = λ k n apart. refl;
  }

  pub spread_same : (old new : List (List X)) → AreSpread key last old → length new ≤ last + 1 → HaveSame old new → AreSpread key last new
  spread_same old new h few same = record {
    few = few;
    once = λ k. subst (AreOnce key) (sym (same k)) (h.once k);
    own = λ k n apart. ap (λ xs. find_by key xs n) (same k) ∙ h.own k n apart;
  }

  pub found_same : (old new : List (List X)) → AreSpread key last old → AreSpread key last new → HaveSame old new → (n : ℕ)
      → find_by key (in_all new) n ≡ find_by key (in_all old) n
  found_same old new h k same n =
      find_spread new n k ∙ (ap (λ xs. find_by key xs n) (same (bucket_of last n)) ∙ sym (find_spread old n h))
