-- A directive that is tried: the faults of the items that were put in, what these need, and the operations that they give.
use Rattle.std.proofs.Common.{◌≡◌, ℕ, ◌≤◌, ◌<◌, true, false, List, [], ◌∷◌, ◌++◌, length, Option, Some, None, refl, sym, ap, ◌∙◌, arith}
use Rattle.std.specs.Prelude.{All, IfNone, take, is_some, nat_le, ◌||◌}
use Rattle.std.proofs.lemmas.List.{take_all}
use Rattle.acc_base.specs.declared.fault.Fault.{Fault}
use Rattle.acc_base.specs.declared.fault.Fault.TheVariants.{BadAsync, NoRegion, TooMany}
use Rattle.acc_batch.specs.declared.label.OpLabel.{OpLabel}
use Rattle.acc_present.specs.Presences.{Presence}
use Rattle.acc_present.specs.Tables.{is_table}
use Rattle.acc_place.specs.Directives.{Directive}
use Rattle.acc_place.specs.declared.directive.DataItem.{DataItem}
use Rattle.acc_place.specs.declared.directive.Kind.{Kind}
use Rattle.acc_place.specs.declared.directive.Kind.TheVariants as kind
use Rattle.acc_place.specs.declared.directive.Region.{Region}
use Rattle.acc_place.specs.declared.directive.TheConstants.{MAX_DIRECTIVES, MAX_ITEMS}
use Rattle.acc_place.specs.declared.judge.Known.{Known}
use Rattle.acc_place.specs.declared.marked.Marked.{Marked}
use Rattle.acc_place.specs.Targets.{has_bad_queue, waits_on_too_many}
use Rattle.acc_place.specs.Accepting.{first_fault, fault_where, is_too_deep, ends_no_region}
use Rattle.acc_place.specs.Counters.{entered_ranges}
use Rattle.acc_place.specs.Regions.{open_region, regions_on}
use Rattle.acc_place.specs.Standings.{loop_in}
use Rattle.acc_place.specs.inner.Trials.{fault_by, held_by, items_by, items_fault, IsKnown}
use Rattle.acc_place.specs.inner.Judging.{Holding, holding, holding_between, ends_of, all_marked, all_steps, limit_fault, fault_or, first_fault_in, past_fault, run_in, AllEntered, AllHeldFor}
use Rattle.acc_place.proofs.AcceptedDirective.{all_cells, ends_all, is_within}
use Rattle.acc_place.proofs.EnteredRanges.{entered_ends, held_between}
use Rattle.acc_place.proofs.LoopItems.{long_taken}
use Rattle.acc_place.proofs.Visits.{all_fine}
use Rattle.acc_place.proofs.WalkItem.{left_alike}

-- ## Faults, the first before the others

pub first_or : (found first rest : Option Fault) → found ≡ first → is_some found ≡ true → found ≡ fault_or first rest
first_or (Some f) first rest is some = ap (λ o. fault_or o rest) is
first_or None first rest is some = absurd (cc)

pub none_first : (first rest : Option Fault) → first ≡ None → fault_or first rest ≡ rest
none_first first rest none = ap (λ o. fault_or o rest) none

pub none_of : {X : Type 0} (o : Option X) → is_some o ≡ false → o ≡ None
none_of None none = refl
none_of (Some x) none = absurd (cc)

pub if_none : {X : Type 0} (P : Type 0) (o : Option X) → (o ≡ None → P) → IfNone o P
if_none P None given = given refl
if_none P (Some x) given = tt

pub given_none : {X : Type 0} (P : Type 0) (o : Option X) → o ≡ None → IfNone o P → P
given_none P None none h = h
given_none P (Some x) none h = absurd (cc)

none_or : (a b : Option Fault) → fault_or a b ≡ None → (a ≡ None) × (b ≡ None)
none_or None b h = (refl, h)
none_or (Some f) b h = absurd (cc)

-- ## The items that were put in

-- whether there are too many is seen in one more than there may be
limit_taken : (n : ℕ) (regions : List Region) (host : ℕ) (d : Directive) (items : List DataItem)
    → limit_fault n regions host d (length (take 17 items)) ≡ limit_fault n regions host d (length items)
unfolding limit_fault
limit_taken n regions host d items =
    ap (λ many. first_fault (
    fault_where (has_bad_queue d) BadAsync
    ∷ fault_where (many || (waits_on_too_many d.waits || (is_too_deep d.kind host regions || nat_le MAX_DIRECTIVES n))) TooMany
    ∷ fault_where (ends_no_region d.kind (open_region host regions)) NoRegion
    ∷ []
    ))
    (long_taken 16 items)

abbrev limit_by : Known → ℕ → Directive → List DataItem → Option Fault
limit_by k host d items = limit_fault k.accepted k.regions.now host d (length items)

pub limit_put : (k : Known) (host : ℕ) (d : Directive) (xs : List DataItem) → xs ≡ take 17 (items_by k host d) → limit_by k host d xs ≡ limit_by k host d (items_by k host d)
limit_put k host d xs put = ap (limit_by k host d) put ∙ limit_taken k.accepted k.regions.now host d (items_by k host d)

pub all_taken : (items : List DataItem) → length items ≤ MAX_ITEMS → take 17 items ≡ items
all_taken items short = take_all 17 items (omega arith)

-- they are all of them, where they aren't too many
pub all_put : (k : Known) (host : ℕ) (d : Directive) (xs : List DataItem) → xs ≡ take 17 (items_by k host d) → limit_by k host d xs ≡ None → xs ≡ items_by k host d
all_put k host d xs put none =
    let items = items_by k host d in
    put ∙ all_taken items (is_within k.accepted k.regions.now host d (length items) (sym (limit_put k host d xs put) ∙ none)).short

-- ## A directive without a fault

pub record IsClean (k : Known) (host : ℕ) (d : Directive) : Type 0 where
  pub short : length (items_by k host d) ≤ MAX_ITEMS
  pub cells : All (λ (i : DataItem). 0 < i.range.len) (items_by k host d)
  pub held : AllHeldFor d.kind (holding_between d.kind (held_by k) (items_by k host d)).presences (items_by k host d)
  pub ends_cells : All (λ (i : DataItem). 0 < i.range.len) (ends_of d.kind (items_by k host d))
  pub ends_entered : AllEntered kind.EndData (holding_between d.kind (held_by k) (items_by k host d)) (ends_of d.kind (items_by k host d))

pub is_clean : (k : Known) (host : ℕ) (d : Directive) → IsKnown k → is_table k.table.now.presences ≡ true → fault_by k host d ≡ None → IsClean k host d
is_clean k host d known table faultless =
    let items = items_by k host d in
    let capacity = k.config.now.capacity in
    let none = none_or (limit_by k host d items) (items_fault k host d) faultless in
    let fine = all_fine k.config.now d.kind (held_by k) items (none_or (first_fault_in k.config.now d.kind (held_by k) items) (past_fault (loop_in d.kind) items) none.1).0 in
    let cells = all_cells capacity d.kind (held_by k) items fine in
    record {
      short = (is_within k.accepted k.regions.now host d (length items) none.0).short;
      cells = cells;
      held = held_between capacity d.kind (held_by k) items (entered_ranges (regions_on k.at.device k.regions.now)) table fine known.entered;
      ends_cells = ends_all (λ (i : DataItem). 0 < i.range.len) d.kind items cells;
      ends_entered = entered_ends capacity d.kind (held_by k) items (entered_ranges (regions_on k.at.device k.regions.now)) table fine known.entered;
    }

-- the steps of its two walks
pub steps_made : (k : Kind) (h : Holding) (ps : List Presence) (xs items ends : List DataItem) (first all : List Marked) → first ≡ all_marked k h xs → ps ≡ (holding_between k h xs).presences
    → ends ≡ ends_of k xs → xs ≡ items
    → all ≡ first ++ all_marked kind.EndData (holding ps 0) ends → all ≡ all_steps k h items
steps_made k h ps xs items ends first all done drafted left own is =
    let down = kind.EndData in
    is
    ∙ (ap (λ ts. ts ++ all_marked down (holding ps 0) ends) done
    ∙ (ap (λ qs. all_marked k h xs ++ all_marked down (holding qs 0) ends) drafted
    ∙ (ap (λ es. all_marked k h xs ++ all_marked down (holding (holding_between k h xs).presences 0) es) left
    ∙ (ap (λ ts. all_marked k h xs ++ ts) (left_alike (holding_between k h xs) 0 (ends_of k xs))
    ∙ ap (all_steps k h) own))))

-- and the loop that runs between them
pub run_made : (k : Kind) (h : Holding) (ps : List Presence) (xs items : List DataItem) (run : List OpLabel) → ps ≡ (holding_between k h xs).presences → xs ≡ items
    → run ≡ run_in (loop_in k) xs ps → run ≡ run_in (loop_in k) items (holding_between k h items).presences
run_made k h ps xs items run drafted own is =
    is ∙ (ap (run_in (loop_in k) xs) drafted ∙ ap (λ ys. run_in (loop_in k) ys (holding_between k h ys).presences) own)
