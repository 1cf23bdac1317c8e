-- Which faults a call is refused by.
use Rattle.std.proofs.Common.{◌≡◌, ℕ, true, false, Bool, List, [], ◌∷◌, ◌++◌, refl, ap, ◌∙◌, Some, None, Option, inl, inr, ◌⊎◌, cond}
use Rattle.std.specs.Prelude.{nat_le, map, not, IfSome}
use Rattle.acc_base.specs.declared.fault.Fault.{Fault}
use Rattle.acc_base.specs.declared.fault.Fault.TheVariants.{BadAsync, BadDevice, BadRange, Closed, Memory, NoRegion, OutsideRange, TooMany}
use Rattle.acc_base.specs.Configurations.{Configuration}
use Rattle.acc_place.specs.Accepting.{fault_at, fault_where, faults_at, first_fault, has_too_many, ends_no_region, is_past, refusal}
use Rattle.acc_place.specs.Directives.{Directive}
use Rattle.acc_place.specs.declared.directive.Kind.{Kind}
use Rattle.acc_base.specs.Configurations.{IsRefusal}
use Rattle.acc_place.specs.Plans.{standing_in}
use Rattle.acc_place.specs.Regions.{open_region}
use Rattle.acc_place.specs.Standings.{AskedItem, Standing, Visit, visits, walk_of}
use Rattle.acc_place.specs.Targets.{has_bad_queue}
use Rattle.acc_run.specs.PlaceSides.{HasRefused, PlaceSideView, is_of_ending}
use Rattle.acc_work.specs.declared.log.TheConstants.{MAX_HOST_ITEMS}
use Rattle.acc_batch.specs.declared.entry.WorkEntry.{WorkEntry}
use Rattle.acc_work.specs.Logs.{all_items}
use Rattle.acc_work.specs.Works.{item_fault}

abbrev pub IsPlain : Option Fault → Type 0
IsPlain o = IfSome o (λ f. is_of_ending f ≡ false)

abbrev EachPlain : List (Option Fault) → Type 0
EachPlain [] = Unit {0}
EachPlain (o ∷ os) = IsPlain o × EachPlain os

first_plain : (os : List (Option Fault)) → EachPlain os → IsPlain (first_fault os)
first_plain [] e = tt
first_plain (Some f ∷ os) e = e.0
first_plain (None ∷ os) e = first_plain os e.1

where_plain : (b : Bool) (f : Fault) → is_of_ending f ≡ false → IsPlain (fault_where b f)
where_plain true f h = h
where_plain false f h = tt

both_plain : (os ps : List (Option Fault)) → EachPlain os → EachPlain ps → EachPlain (os ++ ps)
both_plain [] ps e h = h
both_plain (o ∷ os) ps e h = (e.0, both_plain os ps e.1 h)

-- the faults of one item
visit_plain : (config : Configuration) (k : Kind) (v : Visit) → IsPlain (fault_at config k v)
visit_plain config k v = first_plain (faults_at config k v) (where_plain _ _ refl, (where_plain _ _ refl, (where_plain _ _ refl, (where_plain _ _ refl, tt))))

-- and of all in turn
visits_plain : (config : Configuration) (k : Kind) (vs : List Visit) → EachPlain (map (fault_at config k) vs)
visits_plain config k [] = tt
visits_plain config k (v ∷ vs) = (visit_plain config k v, visits_plain config k vs)

-- a directive's own fault is none of ending
refusal_plain : (config : Configuration) (st : Standing) (host : ℕ) (d : Directive) → IsPlain (refusal config st host d)
unfolding refusal
refusal_plain config st host d =
    let walk = walk_of st host d in
    let items = map (fault_at config d.kind) (visits (st.marks walk.device) walk.items) in
    let last = fault_where (is_past walk.runs (map (λ (a : AskedItem). a.item) walk.items)) OutsideRange in
    first_plain
    (fault_where st.closing Closed
    ∷ fault_where (nat_le config.devices d.device) BadDevice
    ∷ fault_where (has_bad_queue d) BadAsync
    ∷ fault_where (has_too_many st host d walk) TooMany
    ∷ fault_where (ends_no_region d.kind (open_region host st.regions)) NoRegion
    ∷ (items ++ last ∷ []))
    (where_plain st.closing Closed refl, (where_plain (nat_le config.devices d.device) BadDevice refl, (where_plain (has_bad_queue d) BadAsync refl, (where_plain (has_too_many st host d walk) TooMany refl, (where_plain (ends_no_region d.kind (open_region host st.regions)) NoRegion refl, both_plain items (last ∷ []) (visits_plain config d.kind (visits (st.marks walk.device) walk.items)) (where_plain (is_past walk.runs (map (λ (a : AskedItem). a.item) walk.items)) OutsideRange refl, tt))))))

refusal_is : (o : Option Fault) (f : Fault) → IsPlain o → IsRefusal o f → is_of_ending f ≡ false
refusal_is (Some g) f plain is = ap is_of_ending is ∙ plain
refusal_is None f plain is = ap is_of_ending is

pub refused_fault : (old new : PlaceSideView) (host items_done : ℕ) (d : Directive) (f : Fault) → HasRefused old new host items_done d f → is_of_ending f ≡ false
refused_fault old new host items_done d f h = elim h.why [
  | inl own ↦ refusal_is (refusal old.place.config (standing_in old.place) host d) f (refusal_plain old.place.config (standing_in old.place) host d) own
  | inr full ↦ ap is_of_ending full.0
]

-- the faults of an item, by what is tested in turn
by_tests : (lacks many outside : Bool) (f : Fault) → cond lacks (Some Memory) (cond many (Some TooMany) (cond outside (Some BadRange) None)) ≡ Some f → (f ≡ Memory) ⊎ ((f ≡ TooMany) ⊎ (f ≡ BadRange))
by_tests true many outside f e = inl cc
by_tests false true outside f e = inr (inl cc)
by_tests false false true f e = inr (inr cc)
by_tests false false false f e = absurd cc

pub item_faults : (lacks inside : Bool) (work : List WorkEntry) (f : Fault) → item_fault lacks work inside ≡ Some f → (f ≡ Memory) ⊎ ((f ≡ TooMany) ⊎ (f ≡ BadRange))
item_faults lacks inside work f e = by_tests lacks (nat_le MAX_HOST_ITEMS (all_items work)) (not inside) f e

by_two : (lacks many : Bool) (f : Fault) → cond lacks (Some Memory) (cond many (Some TooMany) None) ≡ Some f → (f ≡ Memory) ⊎ (f ≡ TooMany)
by_two true many f e = inl cc
by_two false true f e = inr cc
by_two false false f e = absurd cc

pub seen_faults : (lacks : Bool) (work : List WorkEntry) (f : Fault) → item_fault lacks work true ≡ Some f → (f ≡ Memory) ⊎ (f ≡ TooMany)
seen_faults lacks work f e = by_two lacks (nat_le MAX_HOST_ITEMS (all_items work)) f e
