-- Which blocks were made, by a bound and by marks.
use Rattle.std.proofs.Common.{inl, inr, ◌≡◌, ℕ, ◌+◌, true, false, List, [], ◌∷◌, map, Option, Some, None, refl, sym, ap, ◌∙◌, arith}
use Rattle.std.specs.Prelude.{if◌then◌else◌, ◌==◌, ◌&&◌, ◌||◌, is_some, nat_le, nat_lt}
use Rattle.std.proofs.Math.Bool.{or-true}
use Rattle.std.proofs.lemmas.Bool.{cases_eq, eq-eqb, ne_eqb}
use Rattle.std.proofs.lemmas.Bool.Decides.{nat_tests}
use Rattle.acc_batch.specs.declared.op.Mark.{Mark}
use Rattle.acc_batch.specs.Labels.{has_number}
use Rattle.acc_memory.specs.Memories.{is_made}
use Rattle.acc_memory.specs.inner.Buckets.{IsSetBy, find_by}
use Rattle.acc_memory.specs.inner.Marks.{block_of, makes_with}
use Rattle.acc_memory.proofs.ByNumber.{set_at, set_past}

-- a block has a mark where one is found
pub has_mark : (marks : List Mark) (n : ℕ) → has_number (map block_of marks) n ≡ is_some (find_by block_of marks n)
has_mark [] n = refl
has_mark (m ∷ marks) n =
    elim (m.block == n) as (λ t. (t || has_number (map block_of marks) n) ≡ is_some (if t then Some m else find_by block_of marks n))
    [ true ↦ refl | false ↦ has_mark marks n ]

-- so it was made, where the bound is before it
pub made_past : (to n : ℕ) (marks : List Mark) → (nat_lt 0 n && nat_le n to) ≡ false
    → is_made (makes_with to marks) n ≡ is_some (find_by block_of marks n)
made_past to n marks past = rw past (has_mark marks n)

-- where a block wasn't made it has no mark
pub none_marked : (to n : ℕ) (marks : List Mark) → is_made (makes_with to marks) n ≡ false → find_by block_of marks n ≡ None
none_marked to n marks none = by (find_by block_of marks n) refl
  where
    by : (o : Option Mark) → find_by block_of marks n ≡ o → o ≡ None
    by None e = refl
    by (Some m) e =
        let marked : has_number (map block_of marks) n ≡ true = has_mark marks n ∙ ap is_some e in
        let made : is_made (makes_with to marks) n ≡ true = rw marked (or-true (nat_lt 0 n && nat_le n to)) in
        cc

-- ## One more

-- the bound rises by one
made_next : (to : ℕ) (marks : List Mark) (n b : ℕ) → n ≡ to + 1
    → is_made (makes_with n marks) b ≡ ((n == b) || is_made (makes_with to marks) b)
made_next to marks n b next = elim (cases_eq n b) [
  | inl same ↦
      let within : (nat_lt 0 b && nat_le b n) ≡ true = grind (arith, nat_tests) in
      rw (within, eq-eqb n b same) refl
  | inr other ↦
      let within : (nat_lt 0 b && nat_le b n) ≡ (nat_lt 0 b && nat_le b to) = grind (arith, nat_tests) in
      rw (within, ne_eqb n b other) refl
]

module _ (to n : ℕ) (x : Option Mark) (old new : List Mark) (is : IsSetBy block_of n x old new) where
  -- where a mark is set, each other block is made as before
  made_beside : (b : ℕ) → (b ≡ n → ⊥) → is_made (makes_with to new) b ≡ is_made (makes_with to old) b
  made_beside b other = rw (has_mark new b, has_mark old b, set_past block_of n b x old new is other) refl

  -- and this one by its mark
  mark_at : has_number (map block_of new) n ≡ is_some x
  mark_at = has_mark new n ∙ ap is_some (set_at block_of n n x old new is refl)

-- a mark is put in
pub made_put : (to : ℕ) (mark : Mark) (old new : List Mark) (b : ℕ) → IsSetBy block_of mark.block (Some mark) old new
    → is_made (makes_with to new) b ≡ ((mark.block == b) || is_made (makes_with to old) b)
made_put to mark old new b is = elim (cases_eq b mark.block) [
  | inl same ↦
      rw (same, eq-eqb mark.block mark.block refl, mark_at to mark.block (Some mark) old new is)
      (or-true (nat_lt 0 mark.block && nat_le mark.block to))
  | inr other ↦ rw (ne_eqb mark.block b (λ e. other (sym e))) (made_beside to mark.block (Some mark) old new is b other)
]

-- ## Marks that go

-- the bound rises over a mark, which goes
pub made_risen : (to n : ℕ) (old new : List Mark) (b : ℕ) → n ≡ to + 1 → true ≡ is_some (find_by block_of old n) → IsSetBy block_of n None old new
    → is_made (makes_with n new) b ≡ is_made (makes_with to old) b
made_risen to n old new b next there is = made_next to new n b next ∙ elim (cases_eq b n) [
  | inl same ↦ rw (same, eq-eqb n n refl, has_mark old n, ← there) (sym (or-true (nat_lt 0 n && nat_le n to)))
  | inr other ↦ rw (ne_eqb n b (λ e. other (sym e))) (made_beside to n None old new is b other)
]

-- no mark goes where there is none
pub made_kept : (to n : ℕ) (old new : List Mark) (b : ℕ) → false ≡ is_some (find_by block_of old n) → IsSetBy block_of n None old new
    → is_made (makes_with to new) b ≡ is_made (makes_with to old) b
made_kept to n old new b none is = elim (cases_eq b n) [
  | inl same ↦ rw (same, has_mark old n, ← none, mark_at to n None old new is) refl
  | inr other ↦ made_beside to n None old new is b other
]
