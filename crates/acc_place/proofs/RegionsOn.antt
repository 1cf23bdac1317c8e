-- The data constructs of one device, among those of all.
use Rattle.std.proofs.Common.{inl, inr, ◌≡◌, ℕ, true, false, cond, List, [], ◌∷◌, refl, ap, ◌∙◌, Some, None, Option}
use Rattle.std.specs.Prelude.{◌==◌}
use Rattle.std.proofs.lemmas.Bool.{cases_Bool}
use Rattle.acc_place.specs.Directives.{Directive}
use Rattle.acc_place.specs.declared.directive.DataItem.{DataItem}
use Rattle.acc_place.specs.declared.directive.Kind.{Kind}
use Rattle.acc_place.specs.declared.directive.Kind.TheVariants as kind
use Rattle.acc_place.specs.declared.directive.Region.{Region}
use Rattle.acc_place.specs.Regions.{open_region, regions_after, regions_on, without_open}
use Rattle.acc_place.specs.Standings.{subject_left, subject_by}
use Rattle.acc_place.specs.inner.Judging.{device_by}
use Rattle.acc_place.proofs.OpenRegion.{none_without}

some_is : (a b : Region) → Some a ≡ Some b → a ≡ b
some_is a b h = cc

-- a host's innermost construct is its innermost on its device
pub open_on : (device host : ℕ) (rs : List Region) (x : Region) → open_region host rs ≡ Some x → (x.device == device) ≡ true → open_region host (regions_on device rs) ≡ Some x
open_on device host [] x e here = absurd cc
open_on device host (r ∷ rs) x e here = elim (cases_Bool (r.host == host)) [
  | inl own ↦
      let same = some_is r x (rw own at e) in
      let there : (r.device == device) ≡ true = ap (λ (z : Region). z.device == device) same ∙ here in
      rw (there, own) (ap Some same)
  | inr other ↦
      let rest = open_on device host rs x (rw other at e) here in
      elim (cases_Bool (r.device == device)) [ inl there ↦ rw (there, other) rest | inr away ↦ rw away rest ]
]

-- leaving it leaves the others of the device
pub without_on : (device host : ℕ) (rs : List Region) (x : Region) → open_region host rs ≡ Some x → (x.device == device) ≡ true → without_open host (regions_on device rs) ≡ regions_on device (without_open host rs)
without_on device host [] x e here = refl
without_on device host (r ∷ rs) x e here = elim (cases_Bool (r.host == host)) [
  | inl own ↦
      let there : (r.device == device) ≡ true = ap (λ (z : Region). z.device == device) (some_is r x (rw own at e)) ∙ here in
      rw (there, own) refl
  | inr other ↦
      let rest = without_on device host rs x (rw other at e) here in
      elim (cases_Bool (r.device == device)) [ inl there ↦ rw (there, other, there) (ap (λ zs. r ∷ zs) rest) | inr away ↦ rw (away, other, away) rest ]
]

-- and all of any other device
without_away : (device host : ℕ) (rs : List Region) (x : Region) → open_region host rs ≡ Some x → (x.device == device) ≡ false → regions_on device (without_open host rs) ≡ regions_on device rs
without_away device host [] x e away = refl
without_away device host (r ∷ rs) x e away = elim (cases_Bool (r.host == host)) [
  | inl own ↦
      let there : (r.device == device) ≡ false = ap (λ (z : Region). z.device == device) (some_is r x (rw own at e)) ∙ away in
      rw (own, there) refl
  | inr other ↦
      let rest = without_away device host rs x (rw other at e) away in
      rw other (elim (r.device == device) as (λ v. cond v (r ∷ regions_on device (without_open host rs)) (regions_on device (without_open host rs)) ≡ cond v (r ∷ regions_on device rs) (regions_on device rs)) [ true ↦ ap (λ zs. r ∷ zs) rest | false ↦ rest ])
]

-- a directive leaves the constructs of every other device
pub regions_beside : (rs : List Region) (host : ℕ) (d : Directive) (k : Kind) (counted : List DataItem) (device : ℕ) → (device_by rs host d k == device) ≡ false → regions_on device (regions_after host d k counted rs) ≡ regions_on device rs
regions_beside rs host d kind.Data counted device away = rw away refl
regions_beside rs host d kind.EndData counted device away = by_open (open_region host rs) refl away
  where
    by_open : (o : Option Region) → open_region host rs ≡ o → ((subject_left d o).device == device) ≡ false → regions_on device (without_open host rs) ≡ regions_on device rs
    by_open None none away = ap (regions_on device) (none_without host rs none)
    by_open (Some x) some away = without_away device host rs x some away
regions_beside rs host d kind.EnterData counted device away = refl
regions_beside rs host d (kind.ExitData finalize) counted device away = refl
regions_beside rs host d (kind.Update if_present) counted device away = refl
regions_beside rs host d (kind.Loop kernel) counted device away = refl
regions_beside rs host d kind.Wait counted device away = refl
regions_beside rs host d kind.AsyncTest counted device away = refl
regions_beside rs host d kind.IsPresent counted device away = refl

-- what it acts on is there
pub subject_device : (lengths : List ℕ) (rs : List Region) (host : ℕ) (d : Directive) (k : Kind) → (subject_by lengths rs host d k).device ≡ device_by rs host d k
subject_device lengths rs host d kind.Data = refl
subject_device lengths rs host d kind.EndData = refl
subject_device lengths rs host d kind.EnterData = refl
subject_device lengths rs host d (kind.ExitData finalize) = refl
subject_device lengths rs host d (kind.Update if_present) = refl
subject_device lengths rs host d (kind.Loop kernel) = refl
subject_device lengths rs host d kind.Wait = refl
subject_device lengths rs host d kind.AsyncTest = refl
subject_device lengths rs host d kind.IsPresent = refl
