-- The fault of one item, and what there is where it has none.
use Rattle.std.proofs.Common.{◌≡◌, ℕ, ◌+◌, ◌-◌, ◌<◌, ◌≤◌, Bool, true, false, cond, List, [], ◌∷◌, Option, Some, None, refl, sym, ap, ◌∙◌, arith, inl, inr}
use Rattle.std.specs.Prelude.{◌&&◌, not, nat_lt, slice_get, IfSome}
use Rattle.std.proofs.lemmas.Bool.{cases_Bool, and_parts, ltb-true, ltb-false, lt-ltb, le-ltb}
use Rattle.acc_base.specs.declared.range.Range.{Range}
use Rattle.acc_base.specs.declared.fault.Fault.{Fault}
use Rattle.acc_base.specs.declared.fault.Fault.TheVariants.{BadRange, PartlyPresent, NotPresent, DeviceFull}
use Rattle.acc_base.specs.Configurations.{Configuration, has_range, ends_within}
use Rattle.acc_present.specs.Drafts.{DraftView, drafted, IsDraft}
use Rattle.acc_present.specs.declared.held.Found.{Found}
use Rattle.acc_present.specs.declared.held.Found.TheVariants as look
use Rattle.acc_present.specs.Lifetimes.{can_open}
use Rattle.acc_present.specs.declared.change.Change.{Change}
use Rattle.acc_present.specs.Presences.{Presence, holder, overlaps_any, is_present, is_partly_present, used_cells}
use Rattle.acc_present.specs.Tables.{TableView, IsFound, held_presence}
use Rattle.acc_present.proofs.TableFilter.{none_from_absent}
use Rattle.acc_present.proofs.Holder.{is_present-some, is_present-none}
use Rattle.acc_place.specs.declared.directive.DataItem.{DataItem}
use Rattle.acc_place.specs.declared.directive.Kind.{Kind}
use Rattle.acc_place.specs.declared.directive.Kind.TheVariants as kind
use Rattle.acc_place.specs.Accepting.{fault_where, first_fault, wants_whole, wants_presence}
use Rattle.acc_place.specs.Standings.{acts_if_present, asked_item, change_by, change_where}
use Rattle.acc_place.specs.inner.Judging.{change_in, is_found, fault_in, found_fault, can_open_by, opens_one, block_found, block_held, IsFine}

and_false : (b : Bool) → (b && false) ≡ false
and_false true = refl
and_false false = refl

and_true : (b : Bool) → (b && true) ≡ b
and_true true = refl
and_true false = refl

-- ## What was found

absent_where_partly : (a b : Bool) → (a && not b) ≡ true → b ≡ false
absent_where_partly true false h = refl
absent_where_partly true true h = absurd cc
absent_where_partly false b h = absurd cc

opens_none : (change : Option Change) (ps : List Presence) (r : Range) → is_present ps r ≡ true → opens_one change ps r ≡ false
opens_none None ps r held = refl
opens_none (Some change) ps r held = rw held (and_false (can_open change))

opens_absent : (change : Option Change) (ps : List Presence) (r : Range) → is_present ps r ≡ false → opens_one change ps r ≡ can_open_by change
opens_absent None ps r absent = refl
opens_absent (Some change) ps r absent = rw absent (and_true (can_open change))

-- whether the range that was found so is present
pub found_present : (found : Found) (ps : List Presence) (r : Range) → IsFound ps r found → is_found found ≡ is_present ps r
found_present look.Absent ps r looks = sym (is_present-none ps r looks.0)
found_present look.Partly ps r looks = sym (absent_where_partly (overlaps_any ps r) (is_present ps r) looks)
found_present (look.Present e) ps r looks = sym (is_present-some ps r (held_presence e) looks.0)

-- the free cells are too few where the used ones would be too many
full_is : (free capacity used len : ℕ) → used ≤ capacity → free ≡ capacity - used → nat_lt capacity (used + len) ≡ nat_lt free len
full_is free capacity used len within is = elim (cases_Bool (nat_lt free len)) [
  | inl full ↦ (let few : free < len = ltb-true free len full in rw full (lt-ltb capacity (used + len) (omega (arith, few, within, is))))
  | inr fits ↦ (let enough : len ≤ free = ltb-false free len fits in rw fits (le-ltb capacity (used + len) (omega (arith, enough, within, is))))
]

fault-partly : (config : Configuration) (k : Kind) (ps : List Presence) (i : DataItem) → has_range config.arrays i.range ≡ true → is_partly_present ps i.range ≡ true
    → fault_where (wants_whole k) PartlyPresent ≡ fault_in config k ps i
unfolding fault_in
fault-partly config kind.Data ps i inside partly = rw (inside, partly) refl
fault-partly config kind.EndData ps i inside partly = rw (inside, partly) refl
fault-partly config kind.EnterData ps i inside partly = rw (inside, partly) refl
fault-partly config (kind.ExitData finalize) ps i inside partly = rw (inside, partly) refl
fault-partly config (kind.Update if_present) ps i inside partly = rw (inside, partly) refl
fault-partly config (kind.Loop kernel) ps i inside partly = rw (inside, partly) refl
fault-partly config kind.Wait ps i inside partly = rw (inside, partly) refl
fault-partly config kind.AsyncTest ps i inside partly = rw (inside, partly) refl
fault-partly config kind.IsPresent ps i inside partly = rw inside refl

fault-present : (config : Configuration) (k : Kind) (ps : List Presence) (i : DataItem) → has_range config.arrays i.range ≡ true → is_partly_present ps i.range ≡ false
    → is_present ps i.range ≡ true → None ≡ fault_in config k ps i
unfolding fault_in
fault-present config k ps i inside whole held =
    rw (inside, whole, and_false (wants_whole k), opens_none (change_in k ps i) ps i.range held, held, and_false (wants_presence k i.clause)) refl

fault-absent : (config : Configuration) (k : Kind) (ps : List Presence) (i : DataItem) (free : ℕ) → has_range config.arrays i.range ≡ true
    → is_partly_present ps i.range ≡ false → is_present ps i.range ≡ false
    → used_cells ps ≤ config.capacity → free ≡ config.capacity - used_cells ps → found_fault k i look.Absent free ≡ fault_in config k ps i
unfolding fault_in
fault-absent config k ps i free inside whole absent within is =
    let opens : opens_one (change_in k ps i) ps i.range ≡ can_open_by (change_where (asked_item k i) false) =
    opens_absent (change_in k ps i) ps i.range absent ∙ ap (λ p. can_open_by (change_where (asked_item k i) p)) absent in
    rw (
      inside,
      whole,
      and_false (wants_whole k),
      opens,
      absent,
      and_true (wants_presence k i.clause),
      full_is free config.capacity (used_cells ps) i.range.len within is,
    ) refl

found_alike : (config : Configuration) (k : Kind) (ps : List Presence) (i : DataItem) (found : Found) (free : ℕ) → has_range config.arrays i.range ≡ true
    → IsFound ps i.range found
    → used_cells ps ≤ config.capacity → free ≡ config.capacity - used_cells ps → found_fault k i found free ≡ fault_in config k ps i
found_alike config k ps i look.Absent free inside looks within is = fault-absent config k ps i free inside looks.1 (is_present-none ps i.range looks.0) within is
found_alike config k ps i look.Partly free inside looks within is = fault-partly config k ps i inside looks
found_alike config k ps i (look.Present e) free inside looks within is = fault-present config k ps i inside looks.1 (is_present-some ps i.range (held_presence e) looks.0)

-- the fault of what a draft has of a range, where the cells that it doesn't use are free, is the item's
pub found_is : (config : Configuration) (k : Kind) (t : TableView) (d : DraftView) (i : DataItem) (found : Found) (capacity used : ℕ) (fault : Option Fault)
    → has_range config.arrays i.range ≡ true → IsFound (drafted t d) i.range found → IsDraft t d → t.capacity ≡ config.capacity
    → capacity ≡ config.capacity → used ≡ d.used → fault ≡ found_fault k i found (capacity - used) → fault_in config k (drafted t d) i ≡ fault
found_is config k t d i found capacity used fault inside looks draft same all some is =
    let within : used_cells (drafted t d) ≤ config.capacity = omega (arith, draft.within, same) in
    let free : capacity - used ≡ config.capacity - used_cells (drafted t d) = omega (arith, all, some, draft.counted) in
    sym (is ∙ found_alike config k (drafted t d) i found (capacity - used) inside looks within free)

-- the block that was found is the one that holds the range
pub block_is : (ps : List Presence) (r : Range) (found : Found) → IsFound ps r found → block_found found ≡ block_held (holder ps r)
block_is ps r look.Absent looks = rw looks.0 refl
block_is ps r look.Partly looks = rw (none_from_absent ps r (absent_where_partly (overlaps_any ps r) (is_present ps r) looks)) refl
block_is ps r (look.Present e) looks = rw looks.0 refl

-- a range outside its array is the first fault
pub fault-outside : (config : Configuration) (k : Kind) (ps : List Presence) (i : DataItem) → has_range config.arrays i.range ≡ false
    → fault_in config k ps i ≡ Some BadRange
unfolding fault_in
fault-outside config k ps i outside = rw outside refl

pub cells_inside : (config : Configuration) (r : Range) → has_range config.arrays r ≡ true → 0 < r.len
cells_inside config r inside = ltb-true 0 r.len (and_parts (nat_lt 0 r.len) (ends_within (slice_get config.arrays r.array) (r.lo + r.len)) inside).0

-- ## An item without a fault

none_of_four : (a b c d : Bool)
    → first_fault (fault_where (not a) BadRange ∷ fault_where b PartlyPresent ∷ fault_where c NotPresent ∷ fault_where d DeviceFull ∷ []) ≡ None
    → (a ≡ true) × (b ≡ false) × (d ≡ false)
none_of_four true false false false h = (refl, refl, refl)
none_of_four true false false true h = absurd cc
none_of_four true false true d h = absurd cc
none_of_four true true c d h = absurd cc
none_of_four false b c d h = absurd cc

not_both : (a b : Bool) → (a && b) ≡ false → a ≡ true → b ≡ false
not_both true b h is = h
not_both false b h is = absurd cc

-- its range lies in its array
pub inside_item : (config : Configuration) (k : Kind) (ps : List Presence) (i : DataItem) → fault_in config k ps i ≡ None → has_range config.arrays i.range ≡ true
unfolding fault_in
inside_item config k ps i none =
    let full = nat_lt config.capacity (used_cells ps + i.range.len) in
    (none_of_four (has_range config.arrays i.range) (wants_whole k && is_partly_present ps i.range) (wants_presence k i.clause && not (is_present ps i.range)) (opens_one (change_in k ps i) ps i.range && full) none).0

-- a kind that changes something isn't about what is partly present
whole_by : (k : Kind) (partly : Bool) → (wants_whole k && partly) ≡ false → IfSome (change_by k) (λ made. partly ≡ false)
whole_by kind.Data partly h = h
whole_by kind.EndData partly h = h
whole_by kind.EnterData partly h = h
whole_by (kind.ExitData finalize) partly h = h
whole_by (kind.Update if_present) partly h = tt
whole_by (kind.Loop kernel) partly h = h
whole_by kind.Wait partly h = tt
whole_by kind.AsyncTest partly h = tt
whole_by kind.IsPresent partly h = tt

-- so does an item of it, where it changes something
whole_where : (k : Kind) (i : DataItem) (partly present : Bool) → (wants_whole k && partly) ≡ false → IfSome (change_where (asked_item k i) present) (λ made. partly ≡ false)
whole_where k i partly present h =
    elim (acts_if_present k i.clause && not present) as (λ b. IfSome (cond b None (change_by k)) (λ made. partly ≡ false)) [ true ↦ tt | false ↦ whole_by k partly h ]

-- such an item is fine
pub fine_item : (config : Configuration) (k : Kind) (ps : List Presence) (i : DataItem) → fault_in config k ps i ≡ None → IsFine config.capacity (change_in k ps i) ps i.range
unfolding fault_in
fine_item config k ps i none =
    let full = nat_lt config.capacity (used_cells ps + i.range.len) in
    let opens = opens_one (change_in k ps i) ps i.range in
    let parts =
    none_of_four (has_range config.arrays i.range) (wants_whole k && is_partly_present ps i.range) (wants_presence k i.clause && not (is_present ps i.range)) (opens && full) none in
    record {
      cells = cells_inside config i.range parts.0;
      whole = whole_where k i (is_partly_present ps i.range) (is_present ps i.range) parts.1;
      fits = λ is_opened. ltb-false config.capacity (used_cells ps + i.range.len) (not_both opens full parts.2 is_opened);
    }
