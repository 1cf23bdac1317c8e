-- What a loop's reach tells, where it is read off the definition.
use Rattle.std.proofs.Common.{◌≡◌, ℕ, true, false, inl, inr, arith}
use Rattle.std.specs.Prelude.{ℤ, ◌+ℤ◌, ◌-ℤ◌, ◌<ℤ◌, ◌≤ℤ◌, pos, int_lt, Option, Some, None}
use Rattle.std.specs.List.{fold}
use Rattle.std.specs.Option.{option_map}
use Rattle.std.proofs.lemmas.Bool.{cases_Bool}
use Rattle.std.proofs.lemmas.Int.{ints}
use Rattle.acc_kernel.specs.declared.reach.Reach.{Reach}
use Rattle.acc_kernel.specs.Kernels.{Loop, Reaches, IsReach, reach_of, references, spanned}
use Rattle.acc_kernel.proofs.KernelReach.{IsSpan, reach_is, reach_none, span_is}

-- it is the least and the greatest cell that the loop reaches, or the loop reaches none
abbrev pub Tells : Loop → ℕ → Option Reach → Type 0
Tells k array None = (cell : ℤ) → Reaches k array cell → ⊥
Tells k array (Some r) = IsReach k array r

module _ (k : Loop) (array : ℕ) where
  abbrev between : Reach → Reach
  between r = record { first = k.lo +ℤ r.first; last = (k.hi -ℤ pos 1) +ℤ r.last }

  abbrev span : Option Reach
  span = fold (spanned array) None (references k.statements)

  told : (o : Option Reach) → k.lo <ℤ k.hi → IsSpan array (references k.statements) o → Tells k array (option_map between o)
  told None some is = reach_none k array is
  told (Some s) some is = reach_is k array s some is

  untold : int_lt k.lo k.hi ≡ false → (cell : ℤ) → Reaches k array cell → ⊥
  untold none cell r =
      let index : ℤ = r.index in
      let from : k.lo ≤ℤ index = r.from in
      let to : index <ℤ k.hi = r.to in
      let some : int_lt k.lo k.hi ≡ true = grind (arith, ints) in
      cc

  pub reach_tells : Tells k array (reach_of k array)
  reach_tells = elim (cases_Bool (int_lt k.lo k.hi)) [
    | inl some ↦ (
        let at : k.lo <ℤ k.hi = grind (arith, ints) in
        rw some (told span at (span_is array (references k.statements)))
        )
    | inr none ↦ rw none (untold none)
  ]
