-- Each step keeps the rule of the progress words.
use Rattle.std.proofs.Common.{◌≡◌, ◌≢◌, ℕ, zero, suc, ◌+◌, ◌%◌, ◌^◌, ◌<◌, ◌≤◌, Bool, true, false, true≢false, List, [], ◌∷◌, ◌++◌, length, set, get_or, slice_index, slice_set, max, replicate, refl, sym, ap, ◌∙◌, subst, ⊎_elim, arith}
use Rattle.std.proofs.lemmas.List.{set-get_or}
use mathlib.Core.Option.{some, none, some-injective, some-ne-none}
use lib.ListN.{get_elem?}
use Rattle.atomic_table.specs.Table.{State, Step, Me, Act, step, keeps, stepped, Allows, Splits, Joins, opening}
use Rattle.atomic_table.proofs.Lists.{at_set, set_again, at_snoc}
use Rattle.acc_queue.specs.Seen.{more, max_each}
use Rattle.acc_queue.specs.declared.knows.Knows.{Knows}
use Rattle.acc_queue.specs.Published.{knows, Below, FitsWords, Published, Raises, ReadsWord}

pub below_self : (ws : List ℕ) → Below ws ws
below_self [] = tt
below_self (w ∷ ws) = ((omega arith), below_self ws)

pub below_at : (xs ws : List ℕ) (k : ℕ) → Below xs ws → get_or xs k 0 ≤ get_or ws k 0
below_at [] ws k b = omega arith
below_at (x ∷ xs) [] k b = absurd b
below_at (x ∷ xs) (w ∷ ws) zero b = b.0
below_at (x ∷ xs) (w ∷ ws) (suc k) b = below_at xs ws k b.1

pub below_raise : (xs ws : List ℕ) (k n : ℕ) → get_or ws k 0 ≤ n → Below xs ws → Below xs (set ws k n)
below_raise [] ws k n h b = tt
below_raise (x ∷ xs) [] k n h b = absurd b
below_raise (x ∷ xs) (w ∷ ws) zero n h b = let l = b.0 in ((omega arith), b.1)
below_raise (x ∷ xs) (w ∷ ws) (suc k) n h b = (b.0, below_raise xs ws k n h b.1)

pub below_see : (xs ws : List ℕ) (k : ℕ) → Below xs ws → Below (set xs k (get_or ws k 0)) ws
below_see [] ws k b = tt
below_see (x ∷ xs) [] k b = absurd b
below_see (x ∷ xs) (w ∷ ws) zero b = ((omega arith), b.1)
below_see (x ∷ xs) (w ∷ ws) (suc k) b = (b.0, below_see xs ws k b.1)

pub below_max : (xs ys ws : List ℕ) → Below xs ws → Below ys ws → Below (max_each xs ys) ws
below_max [] ys ws b c = c
below_max (x ∷ xs) [] ws b c = b
below_max (x ∷ xs) (y ∷ ys) [] b c = absurd b
below_max (x ∷ xs) (y ∷ ys) (w ∷ ws) b c = let l = b.0 in let m = c.0 in ((omega arith), below_max xs ys ws b.1 c.1)

pub length-max_each : (xs ys : List ℕ) → length xs ≡ length ys → length (max_each xs ys) ≡ length xs
length-max_each [] ys e = sym e
length-max_each (x ∷ xs) [] e = refl
length-max_each (x ∷ xs) (y ∷ ys) e = ap suc (length-max_each xs ys (omega arith))

not_false : (b : Bool) → b ≡ false → b ≡ true → ⊥
not_false b f t = true≢false (sym t ∙ f)

module _ {S : Type 0} where
  pub begins : (ws : List ℕ) (xs : List S) → Published (opening ws xs (knows true ws 0))
  begins ws xs = (0, λ seat v at. alone seat v at)
    where
      alone : (seat : ℕ) (v : Knows) → get_elem? (knows true ws 0 ∷ []) seat ≡ some v → FitsWords 0 ws seat v
      alone zero v at = subst (λ u. FitsWords 0 ws 0 u) (some-injective _ v at) ((λ t. (refl, refl)), below_self ws)
      alone (suc seat) v at = absurd (some-ne-none v (sym at))

  pub raises : (slots id k : ℕ) (me : Me S Knows) → me.0.writes ≡ true → slice_index me.0.numbers k < 2 ^ 62
      → Allows Published slots id me k (λ n. (n + 1) % 2 ^ 64) (Raises (step slots k 1 0 none) me)
  raises slots id k me writes small s holds homes at fits =
      let v : Knows = me.0 in let mine = (holds.1 id v at).0 writes in
      let found : ℕ = slice_index s.words k in
      let same : found ≡ slice_index v.numbers k = ap (λ l. slice_index l k) (sym mine.1) in
      let whole : (found + 1) % 2 ^ 64 ≡ found + 1 = omega arith in
      let w : Knows = knows v.writes (slice_set v.numbers k (found + 1)) v.reads in
      let now : slice_set v.numbers k (found + 1) ≡ slice_set s.words k ((found + 1) % 2 ^ 64) = ap (λ l. slice_set l k (found + 1)) mine.1 ∙ ap (λ n. slice_set s.words k n) (sym whole) in
      let ws : List ℕ = slice_set s.words k ((found + 1) % 2 ^ 64) in
      let up : found ≤ (found + 1) % 2 ^ 64 = omega arith in (
        w,
        keeps,
        tt,
        (
          holds.0,
          λ j u e. ⊎_elim
              (λ (x : (j ≡ id) × (w ≡ u)). subst (λ (y : ℕ × Knows). FitsWords holds.0 ws y.0 y.1) (λ i. (sym x.0 i, x.1 i)) ((λ _. (mine.0, now)), subst (λ l. Below l ws) (sym now) (below_self ws)))
              (λ (x : (j ≢ id) × (get_elem? s.views j ≡ some u)). ((λ t. absurd (x.0 (((holds.1 j u x.1).0 t).0 ∙ sym mine.0))), below_raise u.numbers s.words k _ up (holds.1 j u x.1).1))
              (at_set s.views id j w u e),
        ),
        (same, refl),
      )

  pub reads : (slots id k : ℕ) (me : Me S Knows) → me.0.writes ≡ false → Allows Published slots id me k (λ n. n) (ReadsWord (step slots k 0 0 none) me)
  reads slots id k me writes s holds homes at fits =
      let v : Knows = me.0 in let mine = (holds.1 id v at).1 in
      let found : ℕ = slice_index s.words k in
      let w : Knows = knows v.writes (slice_set v.numbers k found) (more v.reads) in
      let kept : slice_set s.words k found ≡ s.words = set-get_or s.words k 0 in (
        w,
        keeps,
        tt,
        (
          holds.0,
          λ j u e. subst (λ l. FitsWords holds.0 l j u) (sym kept) (⊎_elim
              (λ (x : (j ≡ id) × (w ≡ u)). subst (λ (y : ℕ × Knows). FitsWords holds.0 s.words y.0 y.1) (λ i. (sym x.0 i, x.1 i)) ((λ t. absurd (not_false v.writes writes t)), below_see v.numbers s.words k mine))
              (λ (x : (j ≢ id) × (get_elem? s.views j ≡ some u)). holds.1 j u x.1)
              (at_set s.views id j w u e)),
        ),
        (below_at v.numbers s.words k mine, refl),
      )

  pub splits : (id : ℕ) (v : Knows) → Splits {S = S} Published id v v (knows false v.numbers 0)
  splits id v s holds at = (
    holds.0,
    λ j u e. ⊎_elim
        (λ (x : get_elem? (slice_set s.views id v) j ≡ some u). holds.1 j u (ap (λ l. get_elem? l j) (sym (set_again s.views id v at)) ∙ x))
        (λ (x : knows false v.numbers 0 ≡ u). subst (λ y. FitsWords holds.0 s.words j y) x ((λ t. absurd (true≢false (sym t))), (holds.1 id v at).1))
        (at_snoc (slice_set s.views id v) (knows false v.numbers 0) u j e),
  )

  pub joins : (id : ℕ) (v : Knows) (other : ℕ) (w : Knows) → v.writes ≡ false → Joins {S = S} Published id v other w (knows v.writes (max_each v.numbers w.numbers) v.reads) (knows false [] 0)
  joins id v other w writes s holds at two at' =
      let both : Knows = knows v.writes (max_each v.numbers w.numbers) v.reads in
      let theirs : get_elem? s.views other ≡ some w = ⊎_elim (λ x. absurd (two x.0)) (λ x. x.1) (at_set s.views id other both w at') in (
        holds.0,
        λ j u e. ⊎_elim
            (λ (x : (j ≡ other) × (knows false [] 0 ≡ u)). subst (λ y. FitsWords holds.0 s.words j y) x.1 ((λ t. absurd (true≢false (sym t))), tt))
            (λ (x : (j ≢ other) × (get_elem? (slice_set s.views id both) j ≡ some u)). ⊎_elim
            (λ (y : (j ≡ id) × (both ≡ u)). subst (λ z. FitsWords holds.0 s.words j z) y.1 ((λ t. absurd (not_false v.writes writes t)), below_max v.numbers w.numbers s.words (holds.1 id v at).1 (holds.1 other w theirs).1))
            (λ (y : (j ≢ id) × (get_elem? s.views j ≡ some u)). holds.1 j u y.1)
            (at_set s.views id j both u x.1))
            (at_set (slice_set s.views id both) other j (knows false [] 0) u e),
      )
