-- The visits of a directive's items, found in the marks, are what a walk over the table makes of them.
use Rattle.std.proofs.Common.{◌≡◌, ℕ, ◌+◌, ◌<◌, ◌≤◌, Bool, true, false, cond, eqb, List, [], ◌∷◌, ◌++◌, length, map, Option, Some, None, refl, sym, ap, subst, ◌∙◌, arith, inl, inr}
use Rattle.std.specs.Prelude.{⊤, All, ◌&&◌, ◌||◌, is_some, not, nat_lt}
use Rattle.std.specs.List.{flat_map}
use Rattle.std.specs.Option.{option_and_then, option_to_list}
use Rattle.std.proofs.lemmas.Bool.{cases_Bool, and_parts, lt-ltb, le-ltb, eqb-true}
use Rattle.std.proofs.lemmas.Grind.{flat_map-append}
use Rattle.std.proofs.lemmas.List.Elements.{All-cons, All-head, All-nil, All-tail}
use Rattle.acc_base.specs.declared.range.Range.{Range}
use Rattle.acc_base.specs.Ranges.{range_contains}
use Rattle.acc_base.specs.declared.fault.Fault.{Fault}
use Rattle.acc_base.specs.declared.fault.Fault.TheVariants.{BadRange, PartlyPresent, NotPresent, DeviceFull}
use Rattle.acc_base.specs.Configurations.{Configuration, has_range}
use Rattle.acc_batch.specs.declared.label.OpLabel.{OpLabel}
use Rattle.acc_batch.specs.declared.label.OpLabel.TheVariants as op
use Rattle.acc_present.specs.declared.change.Counter.TheVariants.{Structured, Dynamic}
use Rattle.acc_present.specs.Legality.{AllLegal}
use Rattle.acc_present.specs.Lifetimes.{opened_lifetimes, can_open}
use Rattle.acc_present.specs.declared.change.Change.{Change}
use Rattle.acc_present.specs.declared.change.Change.TheVariants.{StructuredUp, StructuredDown, DynamicUp, DynamicDown, DynamicZero}
use Rattle.acc_present.specs.Marks.{Mark}
use Rattle.acc_present.specs.Presences.{Presence, presences, holder, is_present, is_partly_present, used_cells}
use Rattle.acc_present.specs.Tables.{changed_counter, counter_of, stepped, has_count}
use Rattle.acc_present.proofs.LegalMarks.{can_count-balanced, legal}
use Rattle.acc_present.proofs.KeptAfter.{counted_at}
use Rattle.acc_present.proofs.OpenedAndEnded.{opened-more, ended_of, ended_in, ended-same, ended-more, ended_in-none, ended_in-some}
use Rattle.acc_present.proofs.EnterAndExit.{has_count-entered, exit_at_zero}
use Rattle.acc_present.proofs.PresencesAfter.{found_in, used_cells-opened}
use Rattle.acc_present.proofs.Presences.{CanCount, presences-more}
use Rattle.acc_place.specs.declared.directive.Clause.{Clause}
use Rattle.acc_place.specs.declared.directive.Clause.TheVariants.{Copy, Copyin, Copyout, Create, Present, NoCreate, Delete, UpdateSelf, UpdateDevice}
use Rattle.acc_place.specs.declared.directive.DataItem.{DataItem}
use Rattle.acc_place.specs.declared.directive.Kind.{Kind}
use Rattle.acc_place.specs.declared.directive.Kind.TheVariants as kind
use Rattle.acc_place.specs.declared.ops.Group.TheVariants.{Makes, CopyIns, Updates, CopyOuts, Releases}
use Rattle.acc_place.specs.declared.marked.Marked.{Marked}
use Rattle.acc_place.specs.Accepting.{fault_at, first_fault, fault_where, has_opened, wants_whole, wants_presence}
use Rattle.acc_place.specs.Batches.{opened_block, opened_blocks, ended_blocks, found_block, holding_blocks, makes, copy_ins, updates_by, updates, copy_outs, releases, grouped, copies_in, copies_out}
use Rattle.acc_place.specs.inner.Noting.{ended_range}
use Rattle.acc_place.specs.Standings.{Visit, visits, acts_if_present, asked_item, counted_among, counted_with, marked_by, marks_with, marks_after, all_asked}
use Rattle.acc_place.specs.inner.Judging.{Holding, holding, change_in, counted_steps, has_counted, holding_with, mark_by, opens_one, opened_after, holding_after, holding_after_all, fault_in, fault_or, first_fault_in, block_held, block_opened, ended_by, marked_in, all_marked, update_for, group_ops, marked_ops, HasEntered, AllEntered, IsFine, AllFine}
use Rattle.acc_place.proofs.FaultIn.{fine_item}
use Rattle.acc_place.proofs.VisitLives.{ended_uses}

-- what a device has after these marks
abbrev pub holding_of : List Mark → Holding
holding_of ms = holding (presences ms) (length (opened_lifetimes ms))

abbrev pub visit_of : Option Change → List Mark → DataItem → Visit
visit_of change ms i = record { item = i; before = ms; after = marks_with ms i.range change }

-- ## The marks after an item

abbrev pub CanCountBy : Option Change → List Mark → Type 0
CanCountBy None ms = ⊤
CanCountBy (Some change) ms = CanCount change ms

pub counts_by : (change : Option Change) (ms : List Mark) → AllLegal ms → CanCountBy change ms
counts_by None ms h = tt
counts_by (Some change) ms h = can_count-balanced change ms (legal ms h).balanced

cond-opened : (b : Bool) (n : ℕ) → cond b (n + 1) n ≡ opened_after b n
cond-opened true n = refl
cond-opened false n = refl

after_made : (change : Change) (ms : List Mark) (r : Range) → AllLegal ms → holding_of (mark_by change r ∷ ms) ≡ holding_after (Some change) r (holding_of ms)
unfolding holding_after
after_made change ms r h =
    let m = mark_by change r in
    ap (λ ps. holding ps (length (opened_lifetimes (m ∷ ms)))) (presences-more m ms (counts_by (Some change) ms h))
    ∙ ap (holding _) (opened-more m ms ∙ cond-opened (opens_one (Some change) (presences ms) r) (length (opened_lifetimes ms)))

pub after_is : (change : Option Change) (ms : List Mark) (r : Range) → AllLegal ms → holding_of (marks_with ms r change) ≡ holding_after change r (holding_of ms)
unfolding holding_after
after_is None ms r h = refl
after_is (Some change) ms r h = after_made change ms r h

pub legal_after : (change : Option Change) (ms : List Mark) (r : Range) (capacity : ℕ) → AllLegal ms → IsFine capacity change (presences ms) r
    → HasEntered change r (presences ms) → AllLegal (marks_with ms r change)
legal_after None ms r capacity h fine entered = h
legal_after (Some StructuredUp) ms r capacity h fine entered = ((fine.cells, fine.whole), h)
legal_after (Some StructuredDown) ms r capacity h fine entered = ((fine.cells, entered), h)
legal_after (Some DynamicUp) ms r capacity h fine entered = ((fine.cells, fine.whole), h)
legal_after (Some DynamicDown) ms r capacity h fine entered = ((fine.cells, tt), h)
legal_after (Some DynamicZero) ms r capacity h fine entered = ((fine.cells, tt), h)

opened_is : (change : Option Change) (ms : List Mark) (r : Range) → AllLegal ms
    → length (opened_lifetimes (marks_with ms r change)) ≡ opened_after (opens_one change (presences ms) r) (length (opened_lifetimes ms))
unfolding holding_after
opened_is change ms r h = ap (λ (g : Holding). g.opened) (after_is change ms r h)

-- ## What a visit opens and ends, and what holds its range

one_block : (b : Bool) (n : ℕ) → opened_block n (opened_after b n) ≡ option_to_list (block_opened b n)
one_block true n = rw (lt-ltb n (n + 1) (omega arith)) refl
one_block false n = rw (le-ltb n n (omega arith)) refl

opens_is : (b : Bool) (n : ℕ) → nat_lt n (opened_after b n) ≡ b
opens_is true n = lt-ltb n (n + 1) (omega arith)
opens_is false n = le-ltb n n (omega arith)

opened_blocks_are : (change : Option Change) (ms : List Mark) (i : DataItem) → AllLegal ms
    → opened_blocks (visit_of change ms i) ≡ option_to_list (block_opened (opens_one change (presences ms) i.range) (length (opened_lifetimes ms)))
opened_blocks_are change ms i h =
    ap (opened_block (length (opened_lifetimes ms))) (opened_is change ms i.range h) ∙ one_block (opens_one change (presences ms) i.range) (length (opened_lifetimes ms))

-- an entry ends nothing
entered_counts : (change : Change) (x : Presence) → can_open change ≡ true → has_count (stepped change x) ≡ true
entered_counts StructuredUp x can = has_count-entered Structured x
entered_counts StructuredDown x can = absurd cc
entered_counts DynamicUp x can = has_count-entered Dynamic x
entered_counts DynamicDown x can = absurd cc
entered_counts DynamicZero x can = absurd cc

exit_ends : (change : Change) (x : Presence) (ps : List Presence) (r : Range) → can_open change ≡ false → has_count x ≡ true → holder ps r ≡ Some x
    → cond (has_count (stepped change x)) [] (x.block ∷ []) ≡ option_to_list (ended_by (Some change) ps r)
exit_ends change x ps r cannot counted some = rw (cannot, some) (elim (cases_Bool (eqb (counter_of (changed_counter change) x) 0)) [
  | inl none ↦
      (let still : has_count (stepped change x) ≡ true = ap has_count (exit_at_zero change x cannot (eqb-true (counter_of (changed_counter change) x) 0 none)) ∙ counted in
      rw (none, still) refl)
  | inr few ↦ rw few (elim (cases_Bool (has_count (stepped change x))) [ inl still ↦ rw still refl | inr over ↦ rw over refl ])
])

entry_ends : (change : Change) (x : Presence) (ps : List Presence) (r : Range) → can_open change ≡ true
    → cond (has_count (stepped change x)) [] (x.block ∷ []) ≡ option_to_list (ended_by (Some change) ps r)
entry_ends change x ps r can = rw (can, entered_counts change x can) refl

none_ends : (change : Change) (ps : List Presence) (r : Range) → holder ps r ≡ None → [] ≡ option_to_list (ended_by (Some change) ps r)
none_ends change ps r none = rw none (elim (cases_Bool (can_open change)) [ inl can ↦ rw can refl | inr cannot ↦ rw cannot refl ])

made_ends : (change : Change) (ms : List Mark) (r : Range) → AllLegal ms → 0 < r.len
    → ended_of (mark_by change r ∷ ms) ms ≡ option_to_list (ended_by (Some change) (presences ms) r)
made_ends change ms r h cells = ended-more (mark_by change r) ms (counts_by (Some change) ms h) ∙ by_holder (holder (presences ms) r) refl
  where
    by_holder : (o : Option Presence) → holder (presences ms) r ≡ o → ended_in (mark_by change r) (presences ms) ≡ option_to_list (ended_by (Some change) (presences ms) r)
    by_holder None none = ended_in-none (mark_by change r) (presences ms) (legal ms h).table none ∙ none_ends change (presences ms) r none
    by_holder (Some x) some =
        let t = (legal ms h).table in
        let f = found_in (presences ms) r x some in
        let counted = counted_at (presences ms) f.index x t f.low f.is in
        ended_in-some (mark_by change r) (presences ms) x t cells some
        ∙ (elim (cases_Bool (can_open change)) [ inl can ↦ entry_ends change x (presences ms) r can | inr cannot ↦ exit_ends change x (presences ms) r cannot counted some ])

ended_blocks_are : (change : Option Change) (ms : List Mark) (i : DataItem) → AllLegal ms → 0 < i.range.len
    → ended_blocks (visit_of change ms i) ≡ option_to_list (ended_by change (presences ms) i.range)
ended_blocks_are None ms i h cells = ended-same ms
ended_blocks_are (Some change) ms i h cells = made_ends change ms i.range h cells

found_is_held : (o : Option Presence) → found_block o ≡ option_to_list (block_held o)
found_is_held None = refl
found_is_held (Some x) = refl

-- ## Faults

full_alike : (a b : Bool) (capacity used want : ℕ) → a ≡ b → (b ≡ true → used ≡ want) → (a && nat_lt capacity used) ≡ (b && nat_lt capacity want)
full_alike true true capacity used want same is = ap (nat_lt capacity) (is refl)
full_alike false false capacity used want same is = refl
full_alike true false capacity used want same is = absurd (cc)
full_alike false true capacity used want same is = absurd (cc)

not_so : (b : Bool) → not b ≡ true → b ≡ false
not_so true h = cc
not_so false h = refl

used_is : (change : Option Change) (ms : List Mark) (r : Range) → AllLegal ms → opens_one change (presences ms) r ≡ true
    → used_cells (presences (marks_with ms r change)) ≡ used_cells (presences ms) + r.len
unfolding holding_after
used_is None ms r h opens = absurd cc
used_is (Some change) ms r h opens =
    let parts = and_parts (can_open change) (not (is_present (presences ms) r)) opens in
    ap (λ (g : Holding). used_cells g.presences) (after_is (Some change) ms r h)
    ∙ used_cells-opened (mark_by change r) (length (opened_lifetimes ms) + 1) (presences ms) (legal ms h).table parts.0 (not_so (is_present (presences ms) r) parts.1)

pub fault_is : (config : Configuration) (k : Kind) (ms : List Mark) (i : DataItem) → AllLegal ms
    → fault_at config k (visit_of (change_in k (presences ms) i) ms i) ≡ fault_in config k (presences ms) i
unfolding fault_in
fault_is config k ms i h =
    let change = change_in k (presences ms) i in
    let v = visit_of change ms i in
    let b = opens_one change (presences ms) i.range in
    let opens : has_opened v ≡ b = ap (nat_lt (length (opened_lifetimes ms))) (opened_is change ms i.range h) ∙ opens_is b (length (opened_lifetimes ms)) in
    ap (λ full. first_fault (
    fault_where (not (has_range config.arrays i.range)) BadRange
    ∷ fault_where (wants_whole k && is_partly_present (presences ms) i.range) PartlyPresent
    ∷ fault_where (wants_presence k i.clause && not (is_present (presences ms) i.range)) NotPresent
    ∷ fault_where full DeviceFull
    ∷ []
    ))
    (full_alike (has_opened v) b config.capacity (used_cells (presences v.after)) (used_cells (presences ms) + i.range.len) opens (used_is change ms i.range h))

first_fault-cons : (f : Option Fault) (fs : List (Option Fault)) → first_fault (f ∷ fs) ≡ fault_or f (first_fault fs)
first_fault-cons (Some f) fs = refl
first_fault-cons None fs = refl

abbrev faults_of : Configuration → Kind → List Mark → List DataItem → Option Fault
faults_of config k ms items = first_fault (map (fault_at config k) (visits ms (all_asked k items)))

-- the others count only where the first has no fault
or_others : (f g others later : Option Fault) → f ≡ g → (g ≡ None → others ≡ later) → fault_or f others ≡ fault_or g later
or_others (Some f) (Some g) others later same ih = same
or_others None None others later same ih = ih refl
or_others (Some f) None others later same ih = absurd (cc)
or_others None (Some g) others later same ih = absurd (cc)

pub faults_are : (config : Configuration) (k : Kind) (ms : List Mark) (items : List DataItem) → AllLegal ms → AllEntered k (holding_of ms) items
    → first_fault (map (fault_at config k) (visits ms (all_asked k items))) ≡ first_fault_in config k (holding_of ms) items
faults_are config k ms [] h entered = refl
faults_are config k ms (i ∷ is) h entered =
    let change = change_in k (presences ms) i in
    let after = marks_with ms i.range change in
    let e = after_is change ms i.range h in
    let ih = λ (none : fault_in config k (presences ms) i ≡ None).
    (let fine = fine_item config k (presences ms) i none in
    let next : AllEntered k (holding_of after) is = rw e entered.1 in
    faults_are config k after is (legal_after change ms i.range config.capacity h fine entered.0) next ∙ ap (λ g. first_fault_in config k g is) e) in
    first_fault-cons (fault_at config k (visit_of change ms i)) (map (fault_at config k) (visits after (all_asked k is)))
    ∙ or_others (fault_at config k (visit_of change ms i)) (fault_in config k (presences ms) i) (faults_of config k after is)
    (first_fault_in config k (holding_after change i.range (holding_of ms)) is) (fault_is config k ms i h) ih

-- ## Items without a fault

none_of_both : (f g : Option Fault) → fault_or f g ≡ None → (f ≡ None) × (g ≡ None)
none_of_both None g h = (refl, h)
none_of_both (Some f) g h = absurd (cc)

pub all_fine : (config : Configuration) (k : Kind) (h : Holding) (items : List DataItem) → first_fault_in config k h items ≡ None → AllFine config.capacity k h items
all_fine config k h [] none = tt
all_fine config k h (i ∷ is) none =
    let parts = none_of_both (fault_in config k h.presences i) (first_fault_in config k (holding_with k i h) is) none in
    (fine_item config k h.presences i parts.0, all_fine config k (holding_with k i h) is parts.1)

-- what is asked of the items, once the first is marked
record NextIs (capacity : ℕ) (k : Kind) (ms : List Mark) (i : DataItem) (is : List DataItem) : Type 0 where
  same : holding_of (marked_by ms (asked_item k i)) ≡ holding_with k i (holding_of ms)
  allowed : AllLegal (marked_by ms (asked_item k i))
  entered : AllEntered k (holding_of (marked_by ms (asked_item k i))) is
  fine : AllFine capacity k (holding_of (marked_by ms (asked_item k i))) is

next_is : (capacity : ℕ) (k : Kind) (ms : List Mark) (i : DataItem) (is : List DataItem) → AllLegal ms → AllEntered k (holding_of ms) (i ∷ is)
    → AllFine capacity k (holding_of ms) (i ∷ is) → NextIs capacity k ms i is
next_is capacity k ms i is h entered fine =
    let change = change_in k (presences ms) i in
    let e = after_is change ms i.range h in
    record { same = e; allowed = legal_after change ms i.range capacity h fine.0 entered.0; entered = rw e entered.1; fine = rw e fine.1 }

pub marks_are : (capacity : ℕ) (k : Kind) (ms : List Mark) (items : List DataItem) → AllLegal ms → AllEntered k (holding_of ms) items
    → AllFine capacity k (holding_of ms) items
    → holding_of (marks_after ms (all_asked k items)) ≡ holding_after_all k (holding_of ms) items
marks_are capacity k ms [] h entered fine = refl
marks_are capacity k ms (i ∷ is) h entered fine =
    let next = next_is capacity k ms i is h entered fine in
    marks_are capacity k (marked_by ms (asked_item k i)) is next.allowed next.entered next.fine ∙ ap (λ g. holding_after_all k g is) next.same

pub legal_all : (capacity : ℕ) (k : Kind) (ms : List Mark) (items : List DataItem) → AllLegal ms → AllEntered k (holding_of ms) items
    → AllFine capacity k (holding_of ms) items
    → AllLegal (marks_after ms (all_asked k items))
legal_all capacity k ms [] h entered fine = h
legal_all capacity k ms (i ∷ is) h entered fine =
    let next = next_is capacity k ms i is h entered fine in
    legal_all capacity k (marked_by ms (asked_item k i)) is next.allowed next.entered next.fine

-- ## The items that are counted

is_held : (ps : List Presence) (r : Range) → is_some (block_held (holder ps r)) ≡ is_present ps r
is_held [] r = refl
is_held (p ∷ ps) r = elim (range_contains p.range r) as (λ v. is_some (block_held (cond v (Some p) (holder ps r))) ≡ (v || is_present ps r)) [ true ↦ refl | false ↦ is_held ps r ]

is_opened : (b : Bool) (n : ℕ) → is_some (block_opened b n) ≡ b
is_opened true n = refl
is_opened false n = refl

-- what was present, or is opened
abbrev opens_where : Option Change → Bool → Bool
opens_where None present = false
opens_where (Some change) present = can_open change && not present

opens_there : (change : Option Change) (ps : List Presence) (r : Range) → opens_one change ps r ≡ opens_where change (is_present ps r)
opens_there None ps r = refl
opens_there (Some change) ps r = refl

abbrev entry_where : Bool → Bool → Option Change
entry_where if_present present = cond (if_present && not present) None (Some StructuredUp)

counts_where : (if_present present : Bool) → (present || opens_where (entry_where if_present present) present) ≡ is_some (entry_where if_present present)
counts_where true true = refl
counts_where true false = refl
counts_where false true = refl
counts_where false false = refl

counts : (h : Holding) (i : DataItem) → has_counted (marked_in (change_in kind.Data h.presences i) h i) ≡ is_some (change_in kind.Data h.presences i)
unfolding marked_in
counts h i =
    let change = change_in kind.Data h.presences i in
    let present = is_present h.presences i.range in
    ap (λ b. b || is_some (block_opened (opens_one change h.presences i.range) h.opened)) (is_held h.presences i.range)
    ∙ (ap (λ b. present || b) (is_opened (opens_one change h.presences i.range) h.opened ∙ opens_there change h.presences i.range)
    ∙ counts_where (acts_if_present kind.Data i.clause) present)

counted_step : (t : Marked) (ts : List Marked) (change : Option Change) → has_counted t ≡ is_some change → counted_steps (t ∷ ts) ≡ counted_with change t.item (counted_steps ts)
counted_step t ts None is = rw is refl
counted_step t ts (Some change) is = rw is refl

pub counted_first : (h : Holding) (i : DataItem) (ts : List Marked) → counted_steps (marked_in (change_in kind.Data h.presences i) h i ∷ ts) ≡ counted_with (change_in kind.Data h.presences i) i (counted_steps ts)
unfolding marked_in
counted_first h i ts = (let change = change_in kind.Data h.presences i in counted_step (marked_in change h i) ts change (counts h i))

pub counted_are : (capacity : ℕ) (ms : List Mark) (items : List DataItem) → AllLegal ms → AllEntered kind.Data (holding_of ms) items → AllFine capacity kind.Data (holding_of ms) items
    → counted_among ms (all_asked kind.Data items) ≡ counted_steps (all_marked kind.Data (holding_of ms) items)
counted_are capacity ms [] h entered fine = refl
counted_are capacity ms (i ∷ is) h entered fine =
    let next = next_is capacity kind.Data ms i is h entered fine in
    let ih = counted_are capacity (marked_by ms (asked_item kind.Data i)) is next.allowed next.entered next.fine in
    ap (counted_with (change_in kind.Data (presences ms) i) i) (ih ∙ ap (λ g. counted_steps (all_marked kind.Data g is)) next.same)
    ∙ sym (counted_first (holding_of ms) i (all_marked kind.Data (holding_with kind.Data i (holding_of ms)) is))

-- they are some of the items
counted_one : (P : DataItem → Type 0) (change : Option Change) (i : DataItem) (items : List DataItem) → P i → All P items → All P (counted_with change i items)
counted_one P None i items here all = all
counted_one P (Some change) i items here all = All-cons P i items here all

pub counted_all : (P : DataItem → Type 0) (k : Kind) (ms : List Mark) (items : List DataItem) → All P items → All P (counted_among ms (all_asked k items))
counted_all P k ms [] all = All-nil P
counted_all P k ms (i ∷ is) all =
    counted_one P (change_in k (presences ms) i) i _ (All-head P i is all) (counted_all P k (marked_by ms (asked_item k i)) is (All-tail P i is all))

counted_more : (change : Option Change) (i : DataItem) (items : List DataItem) → length (counted_with change i items) ≤ length items + 1
counted_more None i items = omega arith
counted_more (Some change) i items = omega arith

pub counted_few : (k : Kind) (ms : List Mark) (items : List DataItem) → length (counted_among ms (all_asked k items)) ≤ length items
counted_few k ms [] = omega arith
counted_few k ms (i ∷ is) =
    let ms2 = marked_by ms (asked_item k i) in
    omega (arith, counted_few k ms2 is, counted_more (change_in k (presences ms) i) i (counted_among ms2 (all_asked k is)))

-- ## Operations

record OpsAlike (vs : List Visit) (ts : List Marked) : Type 0 where
  made : flat_map makes vs ≡ flat_map (group_ops Makes) ts
  filled : flat_map copy_ins vs ≡ flat_map (group_ops CopyIns) ts
  updated : flat_map updates vs ≡ flat_map (group_ops Updates) ts
  copied : flat_map copy_outs vs ≡ flat_map (group_ops CopyOuts) ts
  released : flat_map releases vs ≡ flat_map (group_ops Releases) ts
  ended : flat_map ended_uses vs ≡ flat_map ended_range ts

for_each : (f : ℕ → OpLabel) (o : Option ℕ) → map f (option_to_list o) ≡ option_to_list (option_and_then (λ b. Some (f b)) o)
for_each f None = refl
for_each f (Some b) = refl

abbrev no_op : ℕ → Option OpLabel
no_op b = None

for_none : (o : Option ℕ) → [] ≡ option_to_list (option_and_then no_op o)
for_none None = refl
for_none (Some b) = refl

op_each : (f : ℕ → OpLabel) (bs : List ℕ) (o : Option ℕ) → bs ≡ option_to_list o → map f bs ≡ option_to_list (option_and_then (λ b. Some (f b)) o)
op_each f bs o is = ap (map f) is ∙ for_each f o

op_where : (b : Bool) (f : ℕ → OpLabel) (bs : List ℕ) (o : Option ℕ) → bs ≡ option_to_list o
    → cond b (map f bs) [] ≡ option_to_list (option_and_then (λ n. cond b (Some (f n)) None) o)
op_where true f bs o is = op_each f bs o is
op_where false f bs o is = for_none o

updates_are : (c : Clause) (r : Range) (bs : List ℕ) (o : Option ℕ) → bs ≡ option_to_list o
    → updates_by c r bs ≡ option_to_list (option_and_then (λ b. update_for c b r) o)
updates_are Copy r bs o is = for_none o
updates_are Copyin r bs o is = for_none o
updates_are Copyout r bs o is = for_none o
updates_are Create r bs o is = for_none o
updates_are Present r bs o is = for_none o
updates_are NoCreate r bs o is = for_none o
updates_are Delete r bs o is = for_none o
updates_are UpdateSelf r bs o is = op_each (λ b. op.CopyOut r b) bs o is
updates_are UpdateDevice r bs o is = op_each (λ b. op.CopyIn r b) bs o is

both : {X : Type 0} (xs ys zs ws : List X) → xs ≡ ys → zs ≡ ws → xs ++ zs ≡ ys ++ ws
both xs ys zs ws e f = ap (λ us. us ++ zs) e ∙ ap (λ us. ys ++ us) f

ops_first : (change : Option Change) (ms : List Mark) (i : DataItem) (vs : List Visit) (ts : List Marked) → AllLegal ms → 0 < i.range.len → OpsAlike vs ts
    → OpsAlike (visit_of change ms i ∷ vs) (marked_in change (holding_of ms) i ∷ ts)
unfolding marked_in
ops_first change ms i vs ts h cells rest =
    let v = visit_of change ms i in
    let r = i.range in
    let opens = opened_blocks_are change ms i h in
    let ends = ended_blocks_are change ms i h cells in
    let one = block_opened (opens_one change (presences ms) r) (length (opened_lifetimes ms)) in
    let over = ended_by change (presences ms) r in
    let had = holder (presences ms) r in
    record {
      made = both (makes v) _ (flat_map makes vs) (flat_map (group_ops Makes) ts) (op_each (λ b. op.Make r b) (opened_blocks v) one opens) rest.made;
      filled = both (copy_ins v) _ (flat_map copy_ins vs) (flat_map (group_ops CopyIns) ts) (op_where (copies_in i.clause) (λ b. op.CopyIn r b) (opened_blocks v) one opens) rest.filled;
      updated = both (updates v) _ (flat_map updates vs) (flat_map (group_ops Updates) ts) (updates_are i.clause r (holding_blocks ms r) (block_held had) (found_is_held had)) rest.updated;
      copied = both (copy_outs v) _ (flat_map copy_outs vs) (flat_map (group_ops CopyOuts) ts) (op_where (copies_out i.clause) (λ b. op.CopyOut r b) (ended_blocks v) over ends) rest.copied;
      released = both (releases v) _ (flat_map releases vs) (flat_map (group_ops Releases) ts) (op_each op.Release (ended_blocks v) over ends) rest.released;
      ended = both (ended_uses v) _ (flat_map ended_uses vs) (flat_map ended_range ts) (ap (map (λ b. (b, r))) ends) rest.ended;
    }

ops_alike : (capacity : ℕ) (k : Kind) (ms : List Mark) (items : List DataItem) → AllLegal ms → AllEntered k (holding_of ms) items
    → AllFine capacity k (holding_of ms) items
    → OpsAlike (visits ms (all_asked k items)) (all_marked k (holding_of ms) items)
ops_alike capacity k ms [] h entered fine = record { made = refl; filled = refl; updated = refl; copied = refl; released = refl; ended = refl }
ops_alike capacity k ms (i ∷ is) h entered fine =
    let next = next_is capacity k ms i is h entered fine in
    let e = next.same in
    let after = marked_by ms (asked_item k i) in
    let rest = ops_alike capacity k after is next.allowed next.entered next.fine in
    ops_first (change_in k (presences ms) i) ms i (visits after (all_asked k is)) (all_marked k (holding_with k i (holding_of ms)) is) h fine.0.cells (rw e at rest)

-- one walk behind another
ops_behind : (vs ws : List Visit) (ts us : List Marked) → OpsAlike vs ts → OpsAlike ws us → OpsAlike (vs ++ ws) (ts ++ us)
ops_behind vs ws ts us first later =
    record {
      made = flat_map-append makes vs ws ∙ (both _ _ _ _ first.made later.made ∙ sym (flat_map-append (group_ops Makes) ts us));
      filled = flat_map-append copy_ins vs ws ∙ (both _ _ _ _ first.filled later.filled ∙ sym (flat_map-append (group_ops CopyIns) ts us));
      updated = flat_map-append updates vs ws ∙ (both _ _ _ _ first.updated later.updated ∙ sym (flat_map-append (group_ops Updates) ts us));
      copied = flat_map-append copy_outs vs ws ∙ (both _ _ _ _ first.copied later.copied ∙ sym (flat_map-append (group_ops CopyOuts) ts us));
      released = flat_map-append releases vs ws ∙ (both _ _ _ _ first.released later.released ∙ sym (flat_map-append (group_ops Releases) ts us));
      ended = flat_map-append ended_uses vs ws ∙ (both _ _ _ _ first.ended later.ended ∙ sym (flat_map-append ended_range ts us));
    }

ops_grouped : (run : List OpLabel) (vs : List Visit) (ts : List Marked) → OpsAlike vs ts → grouped run vs ≡ marked_ops run ts
unfolding marked_ops
ops_grouped run vs ts a =
    both (flat_map makes vs) _ _ _ a.made
    (both (flat_map copy_ins vs) _ _ _ a.filled
    (both run run _ _ refl (both (flat_map updates vs) _ _ _ a.updated (both (flat_map copy_outs vs) _ _ _ a.copied a.released))))

-- What is known of a walk: its marks are legal, it leaves only what was entered, and its items are fine.
pub record IsWalk (capacity : ℕ) (k : Kind) (ms : List Mark) (items : List DataItem) : Type 0 where
  pub allowed : AllLegal ms
  pub entered : AllEntered k (holding_of ms) items
  pub fine : AllFine capacity k (holding_of ms) items

-- a walk, and one behind it
walks_alike : (capacity : ℕ) (k other : Kind) (ms : List Mark) (items ends : List DataItem) → IsWalk capacity k ms items
    → IsWalk capacity other (marks_after ms (all_asked k items)) ends
    → OpsAlike (visits ms (all_asked k items) ++ visits (marks_after ms (all_asked k items)) (all_asked other ends))
    (all_marked k (holding_of ms) items ++ all_marked other (holding_after_all k (holding_of ms) items) ends)
walks_alike capacity k other ms items ends w v =
    let between = marks_after ms (all_asked k items) in
    let held = marks_are capacity k ms items w.allowed w.entered w.fine in
    subst (λ h. OpsAlike (visits ms (all_asked k items) ++ visits between (all_asked other ends)) (all_marked k (holding_of ms) items ++ all_marked other h ends)) held
    (ops_behind (visits ms (all_asked k items)) (visits between (all_asked other ends)) (all_marked k (holding_of ms) items) (all_marked other (holding_of between) ends)
    (ops_alike capacity k ms items w.allowed w.entered w.fine)
    (ops_alike capacity other between ends v.allowed v.entered v.fine))

-- the operations of a walk, and of one behind it
pub ops_are : (capacity : ℕ) (k other : Kind) (ms : List Mark) (items ends : List DataItem) (run : List OpLabel) → IsWalk capacity k ms items
    → IsWalk capacity other (marks_after ms (all_asked k items)) ends
    → grouped run (visits ms (all_asked k items) ++ visits (marks_after ms (all_asked k items)) (all_asked other ends))
    ≡ marked_ops run (all_marked k (holding_of ms) items ++ all_marked other (holding_after_all k (holding_of ms) items) ends)
ops_are capacity k other ms items ends run w v = ops_grouped run _ _ (walks_alike capacity k other ms items ends w v)

-- and the ranges whose blocks they end
pub ended_ranges_are : (capacity : ℕ) (k other : Kind) (ms : List Mark) (items ends : List DataItem) → IsWalk capacity k ms items
    → IsWalk capacity other (marks_after ms (all_asked k items)) ends
    → flat_map ended_uses (visits ms (all_asked k items) ++ visits (marks_after ms (all_asked k items)) (all_asked other ends))
    ≡ flat_map ended_range (all_marked k (holding_of ms) items ++ all_marked other (holding_after_all k (holding_of ms) items) ends)
ended_ranges_are capacity k other ms items ends w v = (walks_alike capacity k other ms items ends w v).ended
