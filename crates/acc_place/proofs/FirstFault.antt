-- An accepted directive has none of the faults.
use Rattle.std.proofs.Common.{◌≡◌, ℕ, Bool, true, false, List, [], ◌∷◌, ◌++◌, map, refl, None, Some, Option}
use Rattle.std.specs.Prelude.{not, nat_le}
use Rattle.acc_base.specs.declared.fault.Fault.{Fault}
use Rattle.acc_base.specs.declared.fault.Fault.TheVariants.{Closed, BadDevice, BadAsync, TooMany, OutsideRange, NoRegion}
use Rattle.acc_base.specs.Configurations.{Configuration}
use Rattle.acc_place.specs.Directives.{Directive}
use Rattle.acc_place.specs.Targets.{has_bad_queue}
use Rattle.acc_place.specs.Regions.{open_region}
use Rattle.acc_place.specs.Standings.{Standing, walk_of, visits}
use Rattle.acc_place.specs.Accepting.{first_fault, fault_where, fault_at, refusal, has_too_many, ends_no_region, is_past}

-- where no fault is found the first is none, and so are the others
pub first_fault_none : (x : Option Fault) (xs : List (Option Fault)) → first_fault (x ∷ xs) ≡ None → (x ≡ None) × (first_fault xs ≡ None)
first_fault_none None xs h = (refl, h)
first_fault_none (Some f) xs h = cc

-- where no fault is found there is none among the first of them
no_fault_among : (xs ys : List (Option Fault)) → first_fault (xs ++ ys) ≡ None → first_fault xs ≡ None
no_fault_among [] ys h = refl
no_fault_among (None ∷ xs) ys h = no_fault_among xs ys h
no_fault_among (Some f ∷ xs) ys h = cc

-- a test that would be a fault has failed where there is none
pub no_fault : (b : Bool) (f : Fault) → fault_where b f ≡ None → b ≡ false
no_fault true f h = cc
no_fault false f h = refl

-- a test whose failure would be a fault has passed where there is none
pub no_fault_at : (b : Bool) (f : Fault) → fault_where (not b) f ≡ None → b ≡ true
no_fault_at true f h = refl
no_fault_at false f h = cc

-- An accepted directive has none of the faults.
pub record HasNoFault (config : Configuration) (st : Standing) (host : ℕ) (d : Directive) : Type 0 where
  pub device : nat_le config.devices d.device ≡ false
  pub queues : has_bad_queue d ≡ false
  pub few : has_too_many st host d (walk_of st host d) ≡ false
  pub items : first_fault (map (fault_at config d.kind) (visits (st.marks (walk_of st host d).device) (walk_of st host d).items)) ≡ None

pub no_fault_of : (config : Configuration) (st : Standing) (host : ℕ) (d : Directive) → refusal config st host d ≡ None → HasNoFault config st host d
unfolding refusal
no_fault_of config st host d h =
    let walk = walk_of st host d in
    let items = map (fault_at config d.kind) (visits (st.marks walk.device) walk.items) in
    let past = fault_where (is_past walk.runs (map (λ a. a.item) walk.items)) OutsideRange ∷ [] in
    let region = fault_where (ends_no_region d.kind (open_region host st.regions)) NoRegion in
    let limits = fault_where (has_too_many st host d walk) TooMany in
    let bad = fault_where (has_bad_queue d) BadAsync in
    let device = fault_where (nat_le config.devices d.device) BadDevice in
    let early = first_fault_none (fault_where st.closing Closed) (device ∷ bad ∷ limits ∷ region ∷ (items ++ past)) h in
    let first = first_fault_none device (bad ∷ limits ∷ region ∷ (items ++ past)) early.1 in
    let second = first_fault_none bad (limits ∷ region ∷ (items ++ past)) first.1 in
    let third = first_fault_none limits (region ∷ (items ++ past)) second.1 in
    let fourth = first_fault_none region (items ++ past) third.1 in
    record {
      device = no_fault (nat_le config.devices d.device) BadDevice first.0;
      queues = no_fault (has_bad_queue d) BadAsync second.0;
      few = no_fault (has_too_many st host d walk) TooMany third.0;
      items = no_fault_among items past fourth.1;
    }
