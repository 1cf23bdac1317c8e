-- Where the data construct stands that a host is inside.
use Rattle.std.proofs.Common.{◌≡◌, ℕ, suc, ◌+◌, Bool, true, false, cond, List, [], ◌∷◌, length, remove, Option, Some, None, refl, sym, ap, ◌∙◌, arith, inl, inr}
use Rattle.std.specs.Prelude.{◌==◌, nat_lt, find, slice_get, IfSome}
use Rattle.std.specs.List.{position_or_len}
use Rattle.std.specs.Option.{option_and_then}
use Rattle.std.proofs.lemmas.Bool.{cases_Bool, ltb-false}
use Rattle.std.proofs.lemmas.List.Folds.{find_at}
use Rattle.std.proofs.lemmas.Option.{slice_get_past}
use Rattle.acc_place.specs.declared.directive.Region.{Region}
use Rattle.acc_place.specs.Regions.{open_region, without_open}

abbrev pub is_of : ℕ → Region → Bool
is_of host r = r.host == host

first_is : (host : ℕ) (rs : List Region) → open_region host rs ≡ find (is_of host) rs
first_is host [] = refl
first_is host (r ∷ rs) = elim (cases_Bool (r.host == host)) [ inl hit ↦ rw hit refl | inr miss ↦ rw miss (first_is host rs) ]

removed_is : (host : ℕ) (rs : List Region) → remove rs (position_or_len (is_of host) rs) ≡ without_open host rs
removed_is host [] = refl
removed_is host (r ∷ rs) = elim (cases_Bool (r.host == host)) [
  | inl hit ↦ rw hit refl
  | inr miss ↦
      let one : position_or_len (is_of host) (r ∷ rs) ≡ 1 + position_or_len (is_of host) rs = rw miss refl in
      let e : position_or_len (is_of host) (r ∷ rs) ≡ suc (position_or_len (is_of host) rs) = omega (arith, one) in
      let shut : without_open host (r ∷ rs) ≡ r ∷ without_open host rs = rw miss refl in
      ap (remove (r ∷ rs)) e ∙ (ap (λ xs. r ∷ xs) (removed_is host rs) ∙ sym shut)
]

-- the place of the first one that is the host's, if there is one
abbrev pub IsPlaceOf : ℕ → List Region → Option ℕ → Type 0
IsPlaceOf host rs o = o ≡ cond (nat_lt (position_or_len (is_of host) rs) (length rs)) (Some (position_or_len (is_of host) rs)) None

pub open_at : (host : ℕ) (rs : List Region) (o : Option ℕ) → IsPlaceOf host rs o → option_and_then (slice_get rs) o ≡ open_region host rs
open_at host rs o is =
    let k = position_or_len (is_of host) rs in
    ap (option_and_then (slice_get rs)) is
    ∙ (elim (cases_Bool (nat_lt k (length rs))) [
      | inl within ↦ rw within refl
      | inr past ↦ rw past (sym (slice_get_past rs k (ltb-false k (length rs) past)))
    ] ∙ (sym (find_at (is_of host) rs) ∙ sym (first_is host rs)))

pub without_at : (host : ℕ) (rs : List Region) (o : Option ℕ) → IsPlaceOf host rs o → IfSome o (λ i. remove rs i ≡ without_open host rs)
without_at host rs o is =
    let k = position_or_len (is_of host) rs in
    rw is (elim (nat_lt k (length rs)) as (λ v. IfSome (cond v (Some k) None) (λ i. remove rs i ≡ without_open host rs)) [ true ↦ removed_is host rs | false ↦ tt ])

pub none_without : (host : ℕ) (rs : List Region) → open_region host rs ≡ None → without_open host rs ≡ rs
none_without host [] none = refl
none_without host (r ∷ rs) none = elim (cases_Bool (r.host == host)) [
  | inl hit ↦ (let same : Some r ≡ None = rw hit at none in absurd cc)
  | inr miss ↦ rw miss (ap (λ xs. r ∷ xs) (none_without host rs (rw miss at none)))
]
