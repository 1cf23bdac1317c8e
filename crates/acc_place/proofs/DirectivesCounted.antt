-- The counters after accepted directives, and a region's end.
use Rattle.std.proofs.Common.{inl, inr, subst, ◌≡◌, ℕ, ◌<◌, ◌≤◌, true, false, List, [], ◌∷◌, length, Option, Some, None, refl, ap, ◌∙◌, arith}
use Rattle.std.specs.Prelude.{All, nat_lt, nat_le, drop, slice_index_or}
use Rattle.std.proofs.lemmas.Bool.Decides.{eqb_tells, nat_tests}
use Rattle.std.proofs.lemmas.List.Elements.{All-cons, All-nil, All-head, All-tail}
use Rattle.acc_base.specs.declared.fault.Fault.{Fault}
use Rattle.acc_base.specs.Configurations.{Configuration, has_range}
use Rattle.acc_present.specs.Legality.{IsEntered}
use Rattle.acc_present.specs.Presences.{Presence, holder}
use Rattle.acc_present.specs.Tables.{TableView}
use Rattle.acc_present.specs.declared.change.Change.TheVariants.{StructuredDown}
use Rattle.acc_present.proofs.Holder.{not_partly}
use Rattle.acc_place.specs.Directives.{Directive}
use Rattle.acc_place.specs.declared.directive.DataItem.{DataItem}
use Rattle.acc_place.specs.declared.directive.Kind.{Kind}
use Rattle.acc_place.specs.declared.directive.Kind.TheVariants.{Data, EndData, EnterData, ExitData, Update, Loop, Wait, AsyncTest, IsPresent}
use Rattle.acc_place.specs.declared.directive.PlaceEntry.{PlaceEntry}
use Rattle.acc_place.specs.declared.directive.PlaceEntry.TheVariants as entry
use Rattle.acc_place.specs.declared.directive.Region.{Region}
use Rattle.acc_place.specs.declared.directive.Target.TheVariants.{Plain}
use Rattle.acc_place.specs.declared.directive.TheConstants.{MAX_ITEMS, MAX_DIRECTIVES}
use Rattle.acc_place.specs.declared.directive.Waits.TheVariants.{Nothing}
use Rattle.acc_place.specs.Counters.{AcceptedAreCounted, EnteredCanBeLeft}
use Rattle.acc_place.specs.Histories.{AllAccepted, after_directive, standing}
use Rattle.acc_place.specs.inner.Places.{IsTiedOn}
use Rattle.acc_place.specs.Regions.{open_region, region_of, regions_after}
use Rattle.acc_place.specs.Standings.{Standing, subject_left, loop_in, subject_by}
use Rattle.acc_place.specs.inner.Judging.{Holding, holding, holding_after, holding_with, holding_behind, fault_in, fault_or, first_fault_in, limit_fault, past_fault, AllEntered}
use Rattle.acc_place.proofs.AfterClose.{tied_begun, tied_closed}
use Rattle.acc_place.proofs.AcceptedDirective.{items_counted, counted_is, device_in, items_in, is_free, refused_by, entered_in, tied_after, tied_beside}
use Rattle.acc_place.proofs.EnteredRanges.{is_held, open_has, without_all}
use Rattle.acc_place.proofs.FaultIn.{inside_item}
use Rattle.acc_place.proofs.StandingIn.{first_tied}
use Rattle.acc_place.proofs.Visits.{counted_all, counted_few}

-- ## The tables of a history

pub record HasTable (config : Configuration) (st : Standing) (device : ℕ) : Type 0 where
  pub table : TableView
  pub blocks : ℕ
  pub tied : IsTiedOn config st device table blocks

pub tables : (config : Configuration) (history : List PlaceEntry) (counts : List ℕ) (device : ℕ) → AllAccepted config history counts → HasTable config (standing config history counts) device
unfolding standing
tables config [] counts device all =
    let empty : TableView = record { presences = []; notes = []; capacity = config.capacity; room = 0 } in
    record { table = empty; blocks = 0; tied = first_tied config device empty 0 refl refl refl refl }
tables config (entry.Accepted host d ∷ before) counts device all =
    let st = standing config before (drop 1 counts) in
    let h = tables config before (drop 1 counts) (device_in st host d) all.1 in
    let items_done = slice_index_or counts 0 0 in
    let free = is_free config st host d h.table h.blocks h.tied all.0 in
    let next = holding_behind d.kind (holding h.table.presences h.blocks) (items_in st host d) in
    let after : TableView = record { presences = next.presences; notes = []; capacity = h.table.capacity; room = 0 } in
    elim (eqb_tells (device_in st host d) device) [
      | inl here ↦
          let own = tied_after config st d host items_done h.table after h.blocks next.opened h.tied free refl refl (All-nil _) in
          record { table = after; blocks = next.opened; tied = subst (λ n. IsTiedOn config (after_directive st host items_done d) n after next.opened) here.1 own }
      | inr away ↦
          let other = tables config before (drop 1 counts) device all.1 in
          record { table = other.table; blocks = other.blocks; tied = tied_beside config st d host items_done device other.table other.blocks away.1 free.within.few other.tied }
    ]
tables config (entry.Closing ∷ before) counts device all =
    let h = tables config before counts device all.1 in
    record { table = h.table; blocks = h.blocks; tied = tied_begun config (standing config before counts) device h.table h.blocks h.tied }
tables config (entry.Closed at ∷ before) counts device all =
    let h = tables config before counts device all.1 in
    record { table = h.table; blocks = h.blocks; tied = tied_closed config (standing config before counts) at device h.table h.blocks h.tied }

pub accepted_counted : AcceptedAreCounted
accepted_counted config history counts device all =
    let h = tables config history counts device all in
    record { legal = h.tied.legal; entered = rw (← h.tied.presences) h.tied.entered }

-- ## The items of an open region

abbrev AllInside : Configuration → List DataItem → Type 0
AllInside config items = All (λ (i : DataItem). has_range config.arrays i.range ≡ true) items

-- a region was entered by an accepted directive
abbrev IsSound : Configuration → Region → Type 0
IsSound config r = (length r.items ≤ MAX_ITEMS) × AllInside config r.items

none_both : (a b : Option Fault) → fault_or a b ≡ None → (a ≡ None) × (b ≡ None)
none_both None b h = (refl, h)
none_both (Some f) b h = absurd (cc)

all_inside : (config : Configuration) (k : Kind) (h : Holding) (items : List DataItem) → first_fault_in config k h items ≡ None → AllInside config items
all_inside config k h [] none = All-nil (λ (i : DataItem). has_range config.arrays i.range ≡ true)
all_inside config k h (i ∷ is) none =
    let parts = none_both (fault_in config k h.presences i) (first_fault_in config k (holding_with k i h) is) none in
    All-cons (λ (i : DataItem). has_range config.arrays i.range ≡ true) i is (inside_item config k h.presences i parts.0) (all_inside config k (holding_with k i h) is parts.1)

sound_after : (config : Configuration) (host : ℕ) (d : Directive) (k : Kind) (counted : List DataItem) (rs : List Region) → length counted ≤ MAX_ITEMS → AllInside config counted
    → All (IsSound config) rs → All (IsSound config) (regions_after host d k counted rs)
sound_after config host d Data counted rs short inside all = All-cons (IsSound config) (region_of host d counted) rs (short, inside) all
sound_after config host d EndData counted rs short inside all = without_all (IsSound config) host rs all
sound_after config host d EnterData counted rs short inside all = all
sound_after config host d (ExitData finalize) counted rs short inside all = all
sound_after config host d (Update if_present) counted rs short inside all = all
sound_after config host d (Loop kernel) counted rs short inside all = all
sound_after config host d Wait counted rs short inside all = all
sound_after config host d AsyncTest counted rs short inside all = all
sound_after config host d IsPresent counted rs short inside all = all

all_sound : (config : Configuration) (history : List PlaceEntry) (counts : List ℕ) → AllAccepted config history counts → All (IsSound config) (standing config history counts).regions
unfolding standing
all_sound config [] counts all = All-nil (IsSound config)
all_sound config (entry.Accepted host d ∷ before) counts all =
    let st = standing config before (drop 1 counts) in
    let h = tables config before (drop 1 counts) (device_in st host d) all.1 in
    let free = is_free config st host d h.table h.blocks h.tied all.0 in
    let inside = all_inside config d.kind (holding h.table.presences h.blocks) (items_in st host d) free.faultless in
    let ms = st.marks (device_in st host d) in
    let is = counted_is st host d in
    let few = counted_few d.kind ms (items_in st host d) in
    sound_after config host d d.kind (items_counted st host d) st.regions (omega (arith, few, free.within.short, ap length is))
    (rw is (counted_all (λ (i : DataItem). has_range config.arrays i.range ≡ true) d.kind ms (items_in st host d) inside))
    (all_sound config before (drop 1 counts) all.1)
all_sound config (entry.Closing ∷ before) counts all = all_sound config before counts all.1
all_sound config (entry.Closed at ∷ before) counts all = all_sound config before counts all.1

-- ## A region's end

no_fault : (config : Configuration) (ps : List Presence) (i : DataItem) → has_range config.arrays i.range ≡ true → IsEntered (holder ps i.range) → fault_in config EndData ps i ≡ None
unfolding fault_in
no_fault config ps i inside entered = rw (inside, not_partly ps i.range (is_held ps i.range entered)) refl

no_faults : (config : Configuration) (h : Holding) (items : List DataItem) → AllInside config items → AllEntered EndData h items → first_fault_in config EndData h items ≡ None
no_faults config h [] inside entered = refl
no_faults config h (i ∷ is) inside entered =
    let P = λ (i : DataItem). has_range config.arrays i.range ≡ true in
    ap (λ f. fault_or f (first_fault_in config EndData (holding_after (Some StructuredDown) i.range h) is)) (no_fault config h.presences i (All-head P i is inside) entered.0)
    ∙ no_faults config (holding_after (Some StructuredDown) i.range h) is (All-tail P i is inside) entered.1

no_limit : (accepted : ℕ) (rs : List Region) (host : ℕ) (d : Directive) (count : ℕ) (r : Region) → accepted < MAX_DIRECTIVES → d.kind ≡ EndData → d.target ≡ Plain → d.waits ≡ Nothing
    → open_region host rs ≡ Some r → count ≤ MAX_ITEMS → limit_fault accepted rs host d count ≡ None
unfolding limit_fault
no_limit accepted rs host d count r few end plain nothing inside short =
    let short_test : nat_lt MAX_ITEMS count ≡ false = grind (arith, nat_tests, short) in
    let few_test : nat_le MAX_DIRECTIVES accepted ≡ false = grind (arith, nat_tests, few) in
    rw (end, plain, nothing, inside, short_test, few_test) refl

at_end : (k : Kind) (h : Holding) (items : List DataItem) → k ≡ EndData → AllEntered k h items → AllEntered EndData h items
at_end k h items is entered = rw is at entered

pub entered_left : EnteredCanBeLeft
entered_left config history counts host d r all early few end plain nothing here inside =
    let st = standing config history counts in
    let h = tables config history counts (device_in st host d) all in
    let xs = items_in st host d in
    let sound = open_has (IsSound config) host st.regions r inside (all_sound config history counts all) in
    let items : xs ≡ r.items = ap (λ k. (subject_by st.lengths st.regions host d k).items) end ∙ ap (λ o. (subject_left d o).items) inside in
    let limit = no_limit st.accepted st.regions host d (length xs) r few end plain nothing inside (rw items sound.0) in
    let held = holding h.table.presences h.blocks in
    let entered : AllEntered EndData held xs = at_end d.kind held xs end (entered_in st host d h.table h.blocks h.tied) in
    refused_by config st host d h.table h.blocks h.tied early here
    ∙ (ap (λ f. fault_or f (fault_or (first_fault_in config d.kind held xs) (past_fault (loop_in d.kind) xs))) limit
    ∙ (ap (λ k. fault_or (first_fault_in config k held xs) (past_fault (loop_in k) xs)) end
    ∙ ap (λ f. fault_or f None) (no_faults config held xs (rw items sound.1) entered)))
