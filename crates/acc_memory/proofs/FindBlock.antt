-- Which block is found after one is inserted or released.
use Rattle.std.proofs.Common.{inl, inr, ◌≡◌, ℕ, Bool, true, false, cond, List, [], ◌∷◌, refl, sym, ap, Some, None, Option}
use Rattle.std.specs.Prelude.{not, filter, ◌==◌}
use Rattle.std.proofs.lemmas.Bool.{cases_Bool, eqb-true, eq-eqb, ne_eqb}
use Rattle.acc_memory.specs.Memories.{find_block}
use Rattle.acc_batch.specs.Lives.{Made}

-- a choice between a value and itself is that value
no_choice : (t : Bool) (o : Option Made) → o ≡ cond t o o
no_choice true o = refl
no_choice false o = refl

-- a block is found among those whose numbers pass a test, where its own passes
pub find_passed : (p : ℕ → Bool) (bs : List Made) (c : ℕ) → find_block (filter (λ k. p k.block) bs) c ≡ cond (p c) (find_block bs c) None
find_passed p [] c = no_choice (p c) None
find_passed p (x ∷ xs) c =
    let ih = find_passed p xs c in
    elim (cases_Bool (x.block == c)) [
      | inl same ↦
          let e : p x.block ≡ p c = ap p (eqb-true x.block c same) in
          elim (cases_Bool (p c)) [
            | inl passes ↦ rw (e, passes, same) refl
            | inr fails ↦ rw (e, fails) (rw fails at ih)
          ]
      | inr other ↦ elim (cases_Bool (p x.block)) [
        | inl passes ↦ rw (passes, other) ih
        | inr fails ↦ rw (fails, other) ih
      ]
    ]

-- a block that was put in is found
pub find_inserted : (b : Made) (bs : List Made) → find_block (b ∷ bs) b.block ≡ Some b
find_inserted b bs = rw (eq-eqb b.block b.block refl) refl

-- where a block was put in, each other block is found as before
pub find_beside : (b : Made) (bs : List Made) (c : ℕ) → (b.block ≡ c → ⊥) → find_block (b ∷ bs) c ≡ find_block bs c
find_beside b bs c differ = rw (ne_eqb b.block c differ) refl

-- a block other than the one that is released is found as before
pub find_kept : (b : ℕ) (bs : List Made) (c : ℕ) → (c ≡ b → ⊥) → find_block (filter (λ k. not (k.block == b)) bs) c ≡ find_block bs c
find_kept b bs c differ = rw (find_passed (λ n. not (n == b)) bs c, ne_eqb c b differ) refl

-- where a block was not found, a release of any block leaves it so
pub find_none : (b : ℕ) (bs : List Made) (c : ℕ) → find_block bs c ≡ None → find_block (filter (λ k. not (k.block == b)) bs) c ≡ None
find_none b bs c none = rw (find_passed (λ n. not (n == b)) bs c, none) (sym (no_choice (not (c == b)) None))
