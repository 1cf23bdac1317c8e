-- The ranges of an accepted directive lie in their arrays.
use Rattle.std.proofs.Common.{◌≡◌, ℕ, ◌<◌, List, [], ◌∷◌, ◌++◌, map, None}
use Rattle.std.specs.Prelude.{not, ℤ}
use Rattle.std.proofs.lemmas.Bool.{leb-false}
use Rattle.acc_base.specs.declared.fault.Fault.TheVariants.{BadRange}
use Rattle.acc_base.specs.Configurations.{Configuration, has_range}
use Rattle.acc_present.specs.Marks.{Mark}
use Rattle.acc_place.specs.Directives.{Directive}
use Rattle.acc_place.specs.declared.directive.DataItem.{DataItem}
use Rattle.acc_place.specs.declared.directive.Kind.{Kind}
use Rattle.acc_place.specs.declared.directive.Kind.TheVariants as kind
use Rattle.acc_place.specs.Standings.{Standing, AskedItem, all_asked, ends_by, subject_by, walk_of, visits, marked_by}
use Rattle.acc_place.specs.Accepting.{first_fault, fault_where, fault_at, refusal}
use Rattle.acc_place.proofs.FirstFault.{first_fault_none, no_fault_at, no_fault_of}
use Rattle.acc_place.proofs.AllVisits.{asks_of}
use Rattle.acc_place.proofs.VisitLives.{visit}
use Rattle.acc_place.proofs.GroupLives.{AllInArrays}

-- the ranges of a directive without a fault lie in their arrays
all_in_arrays : (config : Configuration) (k : Kind) (asks : List AskedItem) (ms : List Mark) → first_fault (map (fault_at config k) (visits ms asks)) ≡ None → AllInArrays config.arrays asks
all_in_arrays config k [] ms h = tt
all_in_arrays config k (a ∷ asks) ms h =
    let parts = first_fault_none (fault_at config k (visit ms a)) (map (fault_at config k) (visits (marked_by ms a) asks)) h in
    let here = first_fault_none (fault_where (not (has_range config.arrays a.item.range)) BadRange) _ parts.0 in
    (no_fault_at (has_range config.arrays a.item.range) BadRange here.0, all_in_arrays config k asks (marked_by ms a) parts.1)

-- two lists of items, one behind the other
in_arrays-append : (arrays : List (List ℤ)) (xs ys : List AskedItem) → AllInArrays arrays xs → AllInArrays arrays ys → AllInArrays arrays (xs ++ ys)
in_arrays-append arrays [] ys h k = k
in_arrays-append arrays (x ∷ xs) ys h k = (h.0, in_arrays-append arrays xs ys h.1 k)

-- whatever is asked of the items
in_arrays_asked : (arrays : List (List ℤ)) (one other : Kind) (items : List DataItem) → AllInArrays arrays (all_asked one items) → AllInArrays arrays (all_asked other items)
in_arrays_asked arrays one other [] h = tt
in_arrays_asked arrays one other (i ∷ items) h = (h.0, in_arrays_asked arrays one other items h.1)

-- so the ranges of items that leave again lie in their arrays too
ends_in_arrays : (arrays : List (List ℤ)) (k : Kind) (items : List DataItem) → AllInArrays arrays (all_asked k items) → AllInArrays arrays (ends_by k items)
ends_in_arrays arrays kind.Data items h = tt
ends_in_arrays arrays kind.EndData items h = tt
ends_in_arrays arrays kind.EnterData items h = tt
ends_in_arrays arrays (kind.ExitData finalize) items h = tt
ends_in_arrays arrays (kind.Update if_present) items h = tt
ends_in_arrays arrays (kind.Loop k) items h = in_arrays_asked arrays (kind.Loop k) kind.EndData items h
ends_in_arrays arrays kind.Wait items h = tt
ends_in_arrays arrays kind.AsyncTest items h = tt
ends_in_arrays arrays kind.IsPresent items h = tt

-- and so do all ranges of a walk
walk_in_arrays : (arrays : List (List ℤ)) (st : Standing) (host : ℕ) (d : Directive) → AllInArrays arrays (walk_of st host d).items → AllInArrays arrays (asks_of (walk_of st host d))
unfolding walk_of
walk_in_arrays arrays st host d h =
    let items = (subject_by st.lengths st.regions host d d.kind).items in
    in_arrays-append arrays (all_asked d.kind items) (ends_by d.kind items) h (ends_in_arrays arrays d.kind items h)

-- What an accepted directive has kept to: its device is there, and the ranges that it acts on lie in their arrays.
pub record IsFit (config : Configuration) (st : Standing) (host : ℕ) (d : Directive) : Type 0 where
  pub device : d.device < config.devices
  pub inside : AllInArrays config.arrays (asks_of (walk_of st host d))

-- an accepted directive is fit
pub accepted_fits : (config : Configuration) (st : Standing) (host : ℕ) (d : Directive) → refusal config st host d ≡ None → IsFit config st host d
accepted_fits config st host d h =
    let none = no_fault_of config st host d h in
    let walk = walk_of st host d in
    record {
      device = leb-false config.devices d.device none.device;
      inside = walk_in_arrays config.arrays st host d (all_in_arrays config d.kind walk.items (st.marks walk.device) none.items);
    }
