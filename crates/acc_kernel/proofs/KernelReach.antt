-- The span of a loop's offsets to an array, and what the loop reaches.
use Rattle.std.proofs.Common.{◌≡◌, ℕ, Bool, true, false, List, [], ◌∷◌, ◌++◌, refl, sym, ap, subst, ◌∙◌, inl, inr, arith, append_assoc}
use Rattle.std.specs.Prelude.{ℤ, pos, negsuc, ◌+ℤ◌, ◌-ℤ◌, ◌≤ℤ◌, ◌<ℤ◌, ◌==◌, int_lt, if◌then◌else◌, Option, Some, None, IfSome}
use Rattle.std.specs.List.{fold, Contains}
use Rattle.std.specs.Int.{int_min, int_max}
use Rattle.std.proofs.lemmas.List.{append-nil}
use Rattle.std.proofs.lemmas.Bool.Decides.{Decides-eqb}
use Rattle.std.proofs.lemmas.Int.{ints, clamps}
use Rattle.std.proofs.lemmas.List.Elements.{All-contains, Contains-append_left, Contains-push, Contains-push_cases}
use Rattle.acc_kernel.specs.declared.reach.Reach.{Reach}
use Rattle.acc_kernel.specs.Faults.{IsNear, IsLoopWithinLimits}
use Rattle.acc_kernel.specs.Kernels.{Loop, references, Reaches, IsReach, spanned, widened_span}
use Rattle.acc_kernel.specs.Trees.{Reference}

-- a reference to the array, so far from the index
pub record IsNamed (array : ℕ) (refs : List Reference) (offset : ℤ) : Type 0 where
  pub reference : Reference
  pub named : Contains refs reference
  pub same_array : reference.array ≡ array
  pub same_offset : reference.offset ≡ offset

abbrev pub IsSpan : ℕ → List Reference → Option Reach → Type 0
IsSpan array refs None = (offset : ℤ) → IsNamed array refs offset → ⊥
IsSpan array refs (Some s) =
    IsNamed array refs s.first × IsNamed array refs s.last × ((offset : ℤ) → IsNamed array refs offset → (s.first ≤ℤ offset) × (offset ≤ℤ s.last))

module _ (array : ℕ) where
  kept : (refs : List Reference) (r : Reference) (offset : ℤ) → IsNamed array refs offset → IsNamed array (refs ++ r ∷ []) offset
  kept refs r offset n =
      record { reference = n.reference; named = Contains-append_left refs (r ∷ []) n.reference n.named; same_array = n.same_array; same_offset = n.same_offset }

  -- a reference is one of those before, or the last
  cases : {P : Type 0} (refs : List Reference) (r : Reference) (offset : ℤ) → IsNamed array (refs ++ r ∷ []) offset
      → (IsNamed array refs offset → P) → (r.array ≡ array → r.offset ≡ offset → P) → P
  cases refs r offset n before last =
      elim (Contains-push_cases refs r n.reference n.named) [
        | inl old ↦ before (record { reference = n.reference; named = old; same_array = n.same_array; same_offset = n.same_offset })
        | inr e ↦ last (ap (λ (x : Reference). x.array) e ∙ n.same_array) (ap (λ (x : Reference). x.offset) e ∙ n.same_offset)
      ]

  itself : (refs : List Reference) (r : Reference) → r.array ≡ array → IsNamed array (refs ++ r ∷ []) r.offset
  itself refs r e = record { reference = r; named = Contains-push refs r; same_array = e; same_offset = refl }

  -- one more reference to another array
  other : (refs : List Reference) (r : Reference) (o : Option Reach) → (r.array ≡ array → ⊥) → IsSpan array refs o → IsSpan array (refs ++ r ∷ []) o
  other refs r None apart s = λ offset n. cases refs r offset n (s offset) (λ e same. apart e)
  other refs r (Some t) apart s = (
    kept refs r t.first s.0,
    kept refs r t.last s.1,
    λ offset n. cases refs r offset n (s.2 offset) (λ e same. absurd (apart e)),
  )

  lesser : (refs : List Reference) (x y : ℤ) → IsNamed array refs x → IsNamed array refs y → IsNamed array refs (int_min x y)
  lesser refs x y a b = elim (int_lt y x) as (λ c. IsNamed array refs (if c then y else x)) [ true ↦ b | false ↦ a ]

  greater : (refs : List Reference) (x y : ℤ) → IsNamed array refs x → IsNamed array refs y → IsNamed array refs (int_max x y)
  greater refs x y a b = elim (int_lt y x) as (λ c. IsNamed array refs (if c then x else y)) [ true ↦ a | false ↦ b ]

  -- one more reference to this array
  wider : (refs : List Reference) (r : Reference) (o : Option Reach) → r.array ≡ array → IsSpan array refs o → IsSpan array (refs ++ r ∷ []) (widened_span o r.offset)
  wider refs r None e s = (
    itself refs r e,
    itself refs r e,
    λ offset n. cases refs r offset n (λ old. absurd (s offset old)) (λ a same. (omega (arith, ints), omega (arith, ints))),
  )
  wider refs r (Some t) e s = (
    lesser (refs ++ r ∷ []) t.first r.offset (kept refs r t.first s.0) (itself refs r e),
    greater (refs ++ r ∷ []) t.last r.offset (kept refs r t.last s.1) (itself refs r e),
    λ offset n.
        cases refs r offset n
        (λ old. let within = s.2 offset old in (omega (arith, ints, clamps), omega (arith, ints, clamps)))
        (λ a same. (omega (arith, ints, clamps), omega (arith, ints, clamps))),
  )

  span_more : (refs : List Reference) (r : Reference) (o : Option Reach) (b : Bool) → (r.array == array) ≡ b → IsSpan array refs o
      → IsSpan array (refs ++ r ∷ []) (if b then widened_span o r.offset else o)
  span_more refs r o true e s = wider refs r o ((Decides-eqb r.array array).0 e) s
  span_more refs r o false e s = other refs r o (λ same. let never : ⊥ = cc ((Decides-eqb r.array array).1 same) in never) s

  spans : (seen refs : List Reference) (o : Option Reach) → IsSpan array seen o → IsSpan array (seen ++ refs) (fold (spanned array) o refs)
  spans seen [] o s = subst (λ (l : List Reference). IsSpan array l o) (sym (append-nil seen)) s
  spans seen (r ∷ refs) o s =
      subst (λ (l : List Reference). IsSpan array l (fold (spanned array) (spanned array o r) refs)) (append_assoc seen (r ∷ []) refs)
      (spans (seen ++ r ∷ []) refs (spanned array o r) (span_more seen r o (r.array == array) refl s))

  pub span_is : (refs : List Reference) → IsSpan array refs (fold (spanned array) None refs)
  span_is refs = spans [] refs None (λ offset n. no_element n.reference n.named)
    where
      no_element : (r : Reference) → Contains [] r → ⊥
      no_element r c = omega arith

-- both ends of a span are near, where all offsets are
pub span_near : (k : Loop) (array : ℕ) (s : Reach) → IsLoopWithinLimits k → IsSpan array (references k.statements) (Some s) → IsNear s.first × IsNear s.last
span_near k array s limits span = (near s.first span.0, near s.last span.1)
  where
    near : (offset : ℤ) → IsNamed array (references k.statements) offset → IsNear offset
    near offset n =
        subst IsNear n.same_offset (All-contains (λ (r : Reference). IsNear r.offset) (references k.statements) n.reference limits.offsets n.named)

module _ (k : Loop) (array : ℕ) where
  named_of : (cell : ℤ) → (r : Reaches k array cell) → IsNamed array (references k.statements) r.reference.offset
  named_of cell r = record { reference = r.reference; named = r.named; same_array = r.same_array; same_offset = refl }

  reached : (index offset : ℤ) → k.lo ≤ℤ index → index <ℤ k.hi → IsNamed array (references k.statements) offset → Reaches k array (index +ℤ offset)
  reached index offset from to n =
      record {
        index = index;
        reference = n.reference;
        from = from;
        to = to;
        named = n.named;
        same_array = n.same_array;
        same_cell = ap (λ (z : ℤ). index +ℤ z) n.same_offset;
      }

  -- the cells from the first index with the least offset to the last index with the greatest
  pub reach_is : (s : Reach) → k.lo <ℤ k.hi → IsSpan array (references k.statements) (Some s)
      → IsReach k array (record { first = k.lo +ℤ s.first; last = (k.hi -ℤ pos 1) +ℤ s.last })
  reach_is s some span =
      record {
        first = reached k.lo s.first (omega (arith, ints)) some span.0;
        last = reached (k.hi -ℤ pos 1) s.last (omega (arith, ints)) (omega (arith, ints)) span.1;
        between = λ cell r.
            let within = span.2 r.reference.offset (named_of cell r) in
            let at : r.index +ℤ r.reference.offset ≡ cell = r.same_cell in
            let from : k.lo ≤ℤ r.index = r.from in
            let to : r.index <ℤ k.hi = r.to in
            (omega (arith, ints), omega (arith, ints));
      }

  -- both ends of a reach are numbers of few bits, and the first isn't behind the last
  pub reach_fits : (o : Option Reach) → IsLoopWithinLimits k → IfSome o (IsReach k array) → IfSome o (λ r. (negsuc 131071 ≤ℤ r.first) × (r.first ≤ℤ r.last) × (r.last ≤ℤ pos 131072))
  reach_fits None limits is = tt
  reach_fits (Some r) limits is =
      let first = near r.first is.first in
      let last = near r.last is.last in
      let order = is.between r.first is.first in
      (first.0, order.1, last.1)
    where
      near : (cell : ℤ) → Reaches k array cell → (negsuc 131071 ≤ℤ cell) × (cell ≤ℤ pos 131072)
      near cell at =
          let offset = All-contains (λ (x : Reference). IsNear x.offset) (references k.statements) at.reference limits.offsets at.named in
          let lo : IsNear k.lo = limits.lo in
          let hi : IsNear k.hi = limits.hi in
          let is : at.index +ℤ at.reference.offset ≡ cell = at.same_cell in
          let from : k.lo ≤ℤ at.index = at.from in
          let to : at.index <ℤ k.hi = at.to in
          (omega (arith, ints, offset), omega (arith, ints, offset))

  pub reach_none : IsSpan array (references k.statements) None → (cell : ℤ) → Reaches k array cell → ⊥
  reach_none span cell r = span r.reference.offset (named_of cell r)
