-- Uses that have all cells that a loop reaches.
use Rattle.std.proofs.Common.{◌≡◌, ℕ, Bool, true, false, List, get_or, ap, subst, ◌∙◌, arith, rules}
use Rattle.std.specs.Prelude.{ℤ, pos, ◌+◌, ◌+ℤ◌, ◌-ℤ◌, ◌≤ℤ◌, ◌<ℤ◌, not, ◌&&◌, int_le, int_lt, FitsSigned}
use Rattle.std.specs.List.{list_any, Contains}
use mir.Syntax.{w64, w128}
use Rattle.std.proofs.lemmas.Bool.{and_parts, not-false}
use Rattle.std.proofs.lemmas.Int.{ints}
use Rattle.std.proofs.lemmas.List.Elements.{All-contains, Contains-get_or}
use Rattle.std.proofs.lemmas.List.Folds.{list_any_none}
use Rattle.acc_kernel.specs.Jobs.{Use, used_range, uses_have, is_lacking, HoldReached}
use Rattle.acc_kernel.specs.Kernels.{Loop, references}
use Rattle.acc_kernel.specs.Trees.{Reference}
use Rattle.acc_kernel.proofs.ValueAfter.{within, reaches_at}
use Rattle.acc_kernel.proofs.WithinLimits.{none_passes}

-- a cell between two that are there
pub has_between : (uses : List Use) (array : ℕ) (a b c : ℤ) → uses_have uses array a ≡ true → uses_have uses array b ≡ true
    → a ≤ℤ c → c ≤ℤ b → uses_have uses array c ≡ true
has_between uses array a b c has_a has_b from to =
    between (used_range uses array).lo (used_range uses array).len
    (within (pos (used_range uses array).lo) (pos ((used_range uses array).lo + (used_range uses array).len)) a has_a).0
    (within (pos (used_range uses array).lo) (pos ((used_range uses array).lo + (used_range uses array).len)) b has_b).1
  where
    between : (lo len : ℕ) → pos lo ≤ℤ a → b <ℤ pos (lo + len) → (int_le (pos lo) c && int_lt c (pos (lo + len))) ≡ true
    between lo len low high =
        let under : int_le (pos lo) c ≡ true = grind (arith, ints) in
        let over : int_lt c (pos (lo + len)) ≡ true = grind (arith, ints) in
        ap (λ (x : Bool). x && int_lt c (pos (lo + len))) under ∙ over

both_not_false : (a b : Bool) → a ≡ true → b ≡ true → not (a && b) ≡ false
both_not_false a b ea eb = ap (λ (x : Bool). not (x && b)) ea ∙ ap (λ (x : Bool). not x) eb

module _ (k : Loop) (uses : List Use) where
  pub held_if_none_lacks : list_any (is_lacking k.lo (k.hi -ℤ pos 1) uses) (references k.statements) ≡ false → HoldReached k uses
  held_if_none_lacks none = λ array cell r.
      let has : is_lacking k.lo (k.hi -ℤ pos 1) uses r.reference ≡ false =
      All-contains (λ (x : Reference). is_lacking k.lo (k.hi -ℤ pos 1) uses x ≡ false) (references k.statements) r.reference
      (none_passes (is_lacking k.lo (k.hi -ℤ pos 1) uses) (references k.statements) none) r.named in
      let ends = and_parts (uses_have uses r.reference.array (k.lo +ℤ r.reference.offset)) (uses_have uses r.reference.array ((k.hi -ℤ pos 1) +ℤ r.reference.offset))
      (not-false (uses_have uses r.reference.array (k.lo +ℤ r.reference.offset) && uses_have uses r.reference.array ((k.hi -ℤ pos 1) +ℤ r.reference.offset)) has) in
      let from : k.lo ≤ℤ r.index = r.from in
      let to : r.index <ℤ k.hi = r.to in
      let at : uses_have uses r.reference.array (r.index +ℤ r.reference.offset) ≡ true =
      has_between uses r.reference.array (k.lo +ℤ r.reference.offset) ((k.hi -ℤ pos 1) +ℤ r.reference.offset) (r.index +ℤ r.reference.offset)
      ends.0 ends.1 (omega (arith, ints)) (omega (arith, ints)) in
      subst (λ (a : ℕ). uses_have uses a cell ≡ true) r.same_array
      (subst (λ (c : ℤ). uses_have uses r.reference.array c ≡ true) r.same_cell at)

  reached : (index : ℤ) → k.lo ≤ℤ index → index <ℤ k.hi → HoldReached k uses → (r : Reference) → Contains (references k.statements) r
      → uses_have uses r.array (index +ℤ r.offset) ≡ true
  reached index from to h r named =
      h r.array (index +ℤ r.offset) (reaches_at k index from to r named)

  pub lacks_none : k.lo <ℤ k.hi → HoldReached k uses → list_any (is_lacking k.lo (k.hi -ℤ pos 1) uses) (references k.statements) ≡ false
  lacks_none some h =
      list_any_none (is_lacking k.lo (k.hi -ℤ pos 1) uses) (references k.statements)
      (λ n d lt.
      let r : Reference = get_or (references k.statements) n d in
      let named : Contains (references k.statements) (get_or (references k.statements) n d) = Contains-get_or (references k.statements) n d lt in
      both_not_false (uses_have uses (get_or (references k.statements) n d).array (k.lo +ℤ (get_or (references k.statements) n d).offset))
      (uses_have uses (get_or (references k.statements) n d).array ((k.hi -ℤ pos 1) +ℤ (get_or (references k.statements) n d).offset))
      (reached k.lo (omega (arith, ints)) some h (get_or (references k.statements) n d) named)
      (reached (k.hi -ℤ pos 1) (omega (arith, ints)) (omega (arith, ints)) h (get_or (references k.statements) n d) named))

-- a sum of two numbers of 64 bits has room in twice as many
pub wide : (a : ℤ) → FitsSigned w64 a → FitsSigned w128 a
wide a h = search rules

pub wide_sum : (a b : ℤ) → FitsSigned w64 a → FitsSigned w64 b → FitsSigned w128 (a +ℤ b)
wide_sum a b h g = search rules
