-- What depends on the data constructs of each host alone.
use Rattle.std.proofs.Common.{inl, inr, ◌≡◌, ℕ, Bool, true, false, cond, List, [], ◌∷◌, ◌++◌, length, map, drop, refl, sym, ap, ◌∙◌, nat_le, ◌==◌}
use Rattle.std.specs.Prelude.{not}
use Rattle.std.specs.List.{flat_map, filter}
use Rattle.std.proofs.lemmas.Bool.{cases_Bool, eqb-true}
use Rattle.acc_kernel.specs.Kernels.{arrays_of}
use Rattle.acc_place.specs.Accepting.{is_too_deep}
use Rattle.acc_place.specs.Directives.{Directive}
use Rattle.acc_place.specs.declared.directive.DataItem.{DataItem}
use Rattle.acc_place.specs.declared.directive.Kind.{Kind}
use Rattle.acc_place.specs.declared.directive.Kind.TheVariants as kind
use Rattle.acc_place.specs.declared.directive.Region.{Region}
use Rattle.acc_place.specs.declared.directive.TheConstants.{MAX_REGIONS}
use Rattle.acc_place.specs.Implicit.{item_of, is_named, implicit_item}
use Rattle.acc_place.specs.Regions.{regions_of, first_region, without_open, region_of, regions_after}
use Rattle.acc_place.specs.Standings.{Subject, subject_left, subject_by}

abbrev pub SameByHost : List Region → List Region → Type 0
SameByHost old new = (host : ℕ) → regions_of host old ≡ regions_of host new

pub subject_same : (lengths : List ℕ) (old new : List Region) (host : ℕ) (d : Directive) (k : Kind) → SameByHost old new → subject_by lengths old host d k ≡ subject_by lengths new host d k
subject_same lengths old new host d kind.EndData s = ap (λ (rs : List Region). subject_left d (first_region rs)) (s host)
subject_same lengths old new host d (kind.Loop k) s =
    ap (λ (rs : List Region).
    let subject : Subject = record {
      device = d.device;
      items = d.items ++ map (λ array. implicit_item lengths array (item_of array (flat_map (λ (r : Region). r.items) (filter (λ r. r.device == d.device) rs)))) (filter (λ array. not (is_named d.items array)) (arrays_of k));
    } in
    subject) (s host)
subject_same lengths old new host d kind.Data s = refl
subject_same lengths old new host d kind.EnterData s = refl
subject_same lengths old new host d (kind.ExitData finalize) s = refl
subject_same lengths old new host d (kind.Update if_present) s = refl
subject_same lengths old new host d kind.Wait s = refl
subject_same lengths old new host d kind.AsyncTest s = refl
subject_same lengths old new host d kind.IsPresent s = refl

pub deep_same : (k : Kind) (host : ℕ) (old new : List Region) → SameByHost old new → is_too_deep k host old ≡ is_too_deep k host new
deep_same kind.Data host old new s = ap (λ (rs : List Region). nat_le MAX_REGIONS (length rs)) (s host)
deep_same kind.EndData host old new s = refl
deep_same (kind.Loop k) host old new s = refl
deep_same kind.EnterData host old new s = refl
deep_same (kind.ExitData finalize) host old new s = refl
deep_same (kind.Update if_present) host old new s = refl
deep_same kind.Wait host old new s = refl
deep_same kind.AsyncTest host old new s = refl
deep_same kind.IsPresent host old new s = refl

-- what a host leaves
pub left_out : (host k : ℕ) (rs : List Region) → regions_of k (without_open host rs) ≡ cond (host == k) (drop 1 (regions_of k rs)) (regions_of k rs)
left_out host k [] = none_of (host == k)
  where
    none : List Region
    none = []

    none_of : (b : Bool) → none ≡ cond b none none
    none_of true = refl
    none_of false = refl
left_out host k (r ∷ rs) = elim (cases_Bool (r.host == host)) [
  | inl mine ↦ (
      let same : (r.host == k) ≡ (host == k) = ap (λ n. n == k) (eqb-true r.host host mine) in
      rw (mine, same) (by_mine (host == k) (regions_of k rs))
      )
  | inr other ↦ (
      let ih = left_out host k rs in elim (cases_Bool (host == k)) [
        | inl here ↦ (
            let away : (r.host == k) ≡ false = ap (λ n. r.host == n) (sym (eqb-true host k here)) ∙ other in
            rw (other, away, here) (ih ∙ ap (λ b. cond b (drop 1 (regions_of k rs)) (regions_of k rs)) here)
            )
        | inr away ↦ (
            let kept : regions_of k (without_open host rs) ≡ regions_of k rs = ih ∙ ap (λ b. cond b (drop 1 (regions_of k rs)) (regions_of k rs)) away in
            rw (other, away) (ap (λ (xs : List Region). cond (r.host == k) (r ∷ xs) xs) kept)
            )
      ]
      )
]
  where
    by_mine : (b : Bool) (xs : List Region) → xs ≡ cond b (drop 1 (cond b (r ∷ xs) xs)) (cond b (r ∷ xs) xs)
    by_mine true xs = refl
    by_mine false xs = refl

pub regions_same : (old new : List Region) (host : ℕ) (d : Directive) (k : Kind) (counted : List DataItem) → SameByHost old new
    → SameByHost (regions_after host d k counted old) (regions_after host d k counted new)
regions_same old new host d kind.Data counted s = λ h. ap (λ (rs : List Region). cond (host == h) (region_of host d counted ∷ rs) rs) (s h)
regions_same old new host d kind.EndData counted s =
    λ h. left_out host h old ∙ (ap (λ (rs : List Region). cond (host == h) (drop 1 rs) rs) (s h) ∙ sym (left_out host h new))
regions_same old new host d (kind.Loop k) counted s = s
regions_same old new host d kind.EnterData counted s = s
regions_same old new host d (kind.ExitData finalize) counted s = s
regions_same old new host d (kind.Update if_present) counted s = s
regions_same old new host d kind.Wait counted s = s
regions_same old new host d kind.AsyncTest counted s = s
regions_same old new host d kind.IsPresent counted s = s
