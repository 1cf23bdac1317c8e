-- One item of a walk: it can be marked, and the counters stay low for the others.
use Rattle.std.proofs.Common.{inl, inr, ◌≡◌, ℕ, suc, ◌+◌, ◌-◌, ◌<◌, ◌≤◌, Bool, true, false, cond, List, [], ◌∷◌, ◌++◌, length, map, get_or, drop, take, Option, Some, None, refl, sym, ap, ◌∙◌, arith}
use Rattle.std.specs.Prelude.{All, ◌&&◌, ◌||◌, not, filter, IfSome, is_some}
use Rattle.std.specs.Option.{option_map}
use Rattle.std.proofs.Math.Seq.{take-length}
use Rattle.std.proofs.lemmas.Bool.{cases_Bool}
use Rattle.std.proofs.lemmas.List.Elements.{All-tail}
use Rattle.acc_base.specs.declared.range.Range.{Range}
use Rattle.acc_base.specs.Ranges.{range_contains}
use Rattle.acc_base.specs.Configurations.{Configuration}
use Rattle.acc_present.specs.declared.change.Counter.{Counter}
use Rattle.acc_present.specs.declared.change.Counter.TheVariants.{Structured, Dynamic}
use Rattle.acc_present.specs.declared.entry.TheConstants.{COUNTER_LIMIT}
use Rattle.acc_present.specs.declared.change.Change.{Change}
use Rattle.acc_present.specs.declared.change.Change.TheVariants.{StructuredUp, StructuredDown, DynamicUp, DynamicDown, DynamicZero}
use Rattle.acc_present.specs.Marks.{Mark}
use Rattle.acc_present.specs.Lifetimes.{can_open, is_before}
use Rattle.acc_present.specs.Presences.{Presence, holder, is_present, is_partly_present, used_cells}
use Rattle.acc_present.specs.Tables.{TableView, is_table, counter_of, entry_change, presence_after, stepped, opening, has_count, kept_after, presences_after, presence_inserted}
use Rattle.acc_present.proofs.KeptAfter.{kept_none}
use Rattle.acc_present.proofs.PresencesAfter.{length-after}
use Rattle.acc_present.proofs.Holder.{is_present-none}
use Rattle.acc_place.specs.declared.directive.DataItem.{DataItem}
use Rattle.acc_place.specs.declared.directive.Kind.{Kind}
use Rattle.acc_place.specs.declared.directive.Kind.TheVariants.{Data, EndData, EnterData, ExitData, Update, Loop, Wait, AsyncTest, IsPresent}
use Rattle.acc_place.specs.declared.marked.Marked.{Marked}
use Rattle.acc_place.specs.Standings.{asked_item, change_by, change_where, exit_by}
use Rattle.acc_place.specs.inner.Judging.{Holding, change_in, wants_look, holding_with, holding, mark_by, opens_one, opened_after, presences_by, holding_after, holding_after_all, fault_in, fault_or, first_fault_in, block_opened, marked_in, all_marked, AllLow, HasRoomFor, CanEnter, CanMark, HasEntered, AllEntered, IsFine, AllFine}

-- ## The first item, and the others

pub first_fault-next : (config : Configuration) (k : Kind) (h : Holding) (items : List DataItem) (d : DataItem) → 1 ≤ length items
    → fault_in config k h.presences (get_or items 0 d) ≡ None
    → first_fault_in config k h items ≡ first_fault_in config k (holding_with k (get_or items 0 d) h) (drop 1 items)
first_fault-next config k h [] d some none = absurd (omega arith)
first_fault-next config k h (i ∷ is) d some none = ap (λ f. fault_or f (first_fault_in config k (holding_with k i h) is)) none

pub all_marked-next : (k : Kind) (h : Holding) (items : List DataItem) (d : DataItem) → 1 ≤ length items
    → all_marked k h items ≡ marked_in (change_in k h.presences (get_or items 0 d)) h (get_or items 0 d) ∷ all_marked k (holding_with k (get_or items 0 d) h) (drop 1 items)
all_marked-next k h [] d some = absurd (omega arith)
all_marked-next k h (i ∷ is) d some = refl

pub holding-next : (k : Kind) (h : Holding) (items : List DataItem) (d : DataItem) → 1 ≤ length items
    → holding_after_all k h items ≡ holding_after_all k (holding_with k (get_or items 0 d) h) (drop 1 items)
holding-next k h [] d some = absurd (omega arith)
holding-next k h (i ∷ is) d some = refl

pub fine-first : (capacity : ℕ) (k : Kind) (h : Holding) (items : List DataItem) (d : DataItem) → 1 ≤ length items → AllFine capacity k h items
    → IsFine capacity (change_in k h.presences (get_or items 0 d)) h.presences (get_or items 0 d).range
fine-first capacity k h [] d some fine = absurd (omega arith)
fine-first capacity k h (i ∷ is) d some fine = fine.0

pub fine-next : (capacity : ℕ) (k : Kind) (h : Holding) (items : List DataItem) (d : DataItem) → 1 ≤ length items → AllFine capacity k h items
    → AllFine capacity k (holding_with k (get_or items 0 d) h) (drop 1 items)
fine-next capacity k h [] d some fine = absurd (omega arith)
fine-next capacity k h (i ∷ is) d some fine = fine.1

pub entered-first : (k : Kind) (h : Holding) (items : List DataItem) (d : DataItem) → 1 ≤ length items → AllEntered k h items
    → HasEntered (change_in k h.presences (get_or items 0 d)) (get_or items 0 d).range h.presences
entered-first k h [] d some entered = absurd (omega arith)
entered-first k h (i ∷ is) d some entered = entered.0

pub entered-next : (k : Kind) (h : Holding) (items : List DataItem) (d : DataItem) → 1 ≤ length items → AllEntered k h items
    → AllEntered k (holding_with k (get_or items 0 d) h) (drop 1 items)
entered-next k h [] d some entered = absurd (omega arith)
entered-next k h (i ∷ is) d some entered = entered.1

is_some-opened : (b : Bool) (n : ℕ) → is_some (block_opened b n) ≡ b
is_some-opened true n = refl
is_some-opened false n = refl

-- what the table and the count are, once the item is marked
pub holding_is : (change : Option Change) (ps after : List Presence) (n next : ℕ) (item : DataItem) (mark : Marked) → after ≡ presences_by change item.range (n + 1) ps
    → mark ≡ marked_in change (holding ps n) item
    → next ≡ opened_after (is_some mark.opened) n → holding after next ≡ holding_after change item.range (holding ps n)
unfolding holding_after marked_in
holding_is change ps after n next item mark is made counts =
    let b = opens_one change ps item.range in
    let e : next ≡ opened_after b n = counts ∙ (ap (λ (m : Marked). opened_after (is_some m.opened) n) made ∙ ap (λ v. opened_after v n) (is_some-opened b n)) in
    ap (λ qs. holding qs next) is ∙ ap (holding (presences_by change item.range (n + 1) ps)) e

-- ## Counters stay low

AllLow-filter : (limit n : ℕ) (p : Presence → Bool) (ps : List Presence) → AllLow limit n ps → AllLow limit n (filter p ps)
AllLow-filter limit n p [] h = tt
AllLow-filter limit n p (x ∷ xs) h =
    elim (p x) as (λ v. AllLow limit n (cond v (x ∷ filter p xs) (filter p xs)))
    [ true ↦ (h.0, AllLow-filter limit n p xs h.1) | false ↦ AllLow-filter limit n p xs h.1 ]

AllLow-append : (limit n : ℕ) (ps qs : List Presence) → AllLow limit n ps → AllLow limit n qs → AllLow limit n (ps ++ qs)
AllLow-append limit n [] qs h k = k
AllLow-append limit n (p ∷ ps) qs h k = (h.0, AllLow-append limit n ps qs h.1 k)

stepped_low : (limit n : ℕ) (change : Change) (p : Presence) → p.s + p.d + suc n ≤ limit → (stepped change p).s + (stepped change p).d + n ≤ limit
stepped_low limit n StructuredUp p h = omega arith
stepped_low limit n StructuredDown p h = omega arith
stepped_low limit n DynamicUp p h = omega arith
stepped_low limit n DynamicDown p h = omega arith
stepped_low limit n DynamicZero p h = omega arith

AllLow-stepped : (limit n : ℕ) (m : Mark) (ps : List Presence) → AllLow limit (suc n) ps → AllLow limit n (map (presence_after m) ps)
AllLow-stepped limit n m [] h = tt
AllLow-stepped limit n m (p ∷ ps) h = (
  elim (range_contains p.range m.range) as (λ v. (cond v (stepped m.change p) p).s + (cond v (stepped m.change p) p).d + n ≤ limit) [ true ↦ stepped_low limit n m.change p h.0 | false ↦ omega (arith, h.0) ],
  AllLow-stepped limit n m ps h.1,
)

opening_low : (limit n b : ℕ) (m : Mark) → suc n ≤ limit → (opening m b).s + (opening m b).d + n ≤ limit
opening_low limit n b m h = stepped_low limit n m.change (record { range = m.range; block = b; s = 0; d = 0 }) (omega arith)

pub AllLow-after : (limit n b : ℕ) (m : Mark) (ps : List Presence) → suc n ≤ limit → AllLow limit (suc n) ps → AllLow limit n (presences_after m b ps)
AllLow-after limit n b m ps some low =
    let kept : AllLow limit n (kept_after m ps) = AllLow-filter limit n has_count (map (presence_after m) ps) (AllLow-stepped limit n m ps low) in
    elim (can_open m.change && not (is_present ps m.range))
    as (λ v. AllLow limit n (cond v (presence_inserted (opening m b) (kept_after m ps)) (kept_after m ps))) [
      | true ↦
          AllLow-append limit n (filter (λ k. not (is_before m.range k.range)) (kept_after m ps)) (opening m b ∷ filter (λ k. is_before m.range k.range) (kept_after m ps))
          (AllLow-filter limit n (λ k. not (is_before m.range k.range)) (kept_after m ps) kept)
          (opening_low limit n b m some, AllLow-filter limit n (λ k. is_before m.range k.range) (kept_after m ps) kept)
      | false ↦ kept
    ]

pub AllLow-fewer : (limit limit2 n n2 : ℕ) (ps : List Presence) → limit + n2 ≤ limit2 + n → AllLow limit n ps → AllLow limit2 n2 ps
AllLow-fewer limit limit2 n n2 [] h low = tt
AllLow-fewer limit limit2 n n2 (p ∷ ps) h low = (omega (arith, low.0), AllLow-fewer limit limit2 n n2 ps h low.1)

-- each item counts a presence up once at most
pub AllLow-by : (limit n b : ℕ) (change : Option Change) (r : Range) (ps : List Presence) → suc n ≤ limit → AllLow limit (suc n) ps
    → AllLow limit n (presences_by change r b ps)
AllLow-by limit n b None r ps some low = AllLow-fewer limit limit (suc n) n ps (omega arith) low
AllLow-by limit n b (Some change) r ps some low = AllLow-after limit n b (mark_by change r) ps some low

length-by : (change : Option Change) (r : Range) (b : ℕ) (ps : List Presence) → length (presences_by change r b ps) ≤ length ps + 1
length-by None r b ps = omega arith
length-by (Some change) r b ps = length-after (mark_by change r) b ps

counter_low : (counter : Counter) (limit n : ℕ) (p : Presence) → p.s + p.d + suc n ≤ limit → counter_of counter p < limit
counter_low Structured limit n p low = omega arith
counter_low Dynamic limit n p low = omega arith

low_holder : (counter : Counter) (limit n : ℕ) (ps : List Presence) (r : Range) → AllLow limit (suc n) ps → IfSome (holder ps r) (λ p. counter_of counter p < limit)
low_holder counter limit n [] r low = tt
low_holder counter limit n (p ∷ ps) r low =
    elim (range_contains p.range r) as (λ v. IfSome (cond v (Some p) (holder ps r)) (λ q. counter_of counter q < limit))
    [ true ↦ counter_low counter limit n p low.0 | false ↦ low_holder counter limit n ps r low.1 ]

-- ## It can be marked

opens_where_none : (counter : Counter) (ps : List Presence) (r : Range) → holder ps r ≡ None → opens_one (Some (entry_change counter)) ps r ≡ true
opens_where_none Structured ps r none = rw (is_present-none ps r none) refl
opens_where_none Dynamic ps r none = rw (is_present-none ps r none) refl

can_enter : (counter : Counter) (ps : List Presence) (r : Range) (capacity n : ℕ) → 0 < r.len → is_partly_present ps r ≡ false
    → (opens_one (Some (entry_change counter)) ps r ≡ true → used_cells ps + r.len ≤ capacity)
    → AllLow COUNTER_LIMIT n ps → 1 ≤ n → CanEnter counter r ps capacity
can_enter counter ps r capacity n cells whole fits low some =
    record {
      cells = cells;
      whole = whole;
      low = low_holder counter COUNTER_LIMIT 0 ps r (AllLow-fewer COUNTER_LIMIT COUNTER_LIMIT n 1 ps (omega arith) low);
      fits = λ none. fits (opens_where_none counter ps r none);
    }

pub can_mark : (change : Option Change) (ps : List Presence) (r : Range) (capacity n : ℕ) → IsFine capacity change ps r → HasEntered change r ps → AllLow COUNTER_LIMIT n ps
    → 1 ≤ n → CanMark change r ps capacity
can_mark None ps r capacity n fine entered low some = fine.cells
can_mark (Some StructuredUp) ps r capacity n fine entered low some = can_enter Structured ps r capacity n fine.cells fine.whole fine.fits low some
can_mark (Some StructuredDown) ps r capacity n fine entered low some = (fine.cells, entered)
can_mark (Some DynamicUp) ps r capacity n fine entered low some = can_enter Dynamic ps r capacity n fine.cells fine.whole fine.fits low some
can_mark (Some DynamicDown) ps r capacity n fine entered low some = fine.cells
can_mark (Some DynamicZero) ps r capacity n fine entered low some = fine.cells

-- whether something holds a range tells whether it is present
pub held_is_present : {X : Type 0} (f : Presence → X) (ps : List Presence) (r : Range) → is_some (option_map f (holder ps r)) ≡ is_present ps r
held_is_present f [] r = refl
held_is_present f (p ∷ ps) r =
    elim (range_contains p.range r) as (λ v. is_some (option_map f (cond v (Some p) (holder ps r))) ≡ (v || is_present ps r)) [ true ↦ refl | false ↦ held_is_present f ps r ]

-- an exit changes nothing where its range is absent
same_exit : (finalize : Bool) (ps : List Presence) (i : DataItem) (n : ℕ) → is_table ps ≡ true → holding_after (Some (exit_by finalize)) i.range (holding ps n) ≡ holding_with (ExitData finalize) i (holding ps n)
unfolding holding_after
same_exit finalize ps i n t = elim (cases_Bool (is_present ps i.range)) [
  | inl held ↦ ap (λ b. holding_after (change_where (asked_item (ExitData finalize) i) b) i.range (holding ps n)) (sym held)
  | inr absent ↦ kept finalize absent ∙ ap (λ b. holding_after (change_where (asked_item (ExitData finalize) i) b) i.range (holding ps n)) (sym absent)
]
  where
    kept : (f : Bool) → is_present ps i.range ≡ false → holding_after (Some (exit_by f)) i.range (holding ps n) ≡ holding ps n
    kept true absent = ap (λ qs. holding qs n) (kept_none (mark_by DynamicZero i.range) ps t absent)
    kept false absent = ap (λ qs. holding qs n) (kept_none (mark_by DynamicDown i.range) ps t absent)

-- so an item that needs no look is marked without one
pub without_look : (k : Kind) (ps : List Presence) (i : DataItem) (n : ℕ) → is_table ps ≡ true → wants_look k i.clause ≡ false → holding_after (change_by k) i.range (holding ps n) ≡ holding_with k i (holding ps n)
without_look Data ps i n t free = rw free refl
without_look EndData ps i n t free = refl
without_look EnterData ps i n t free = refl
without_look (ExitData finalize) ps i n t free = same_exit finalize ps i n t
without_look (Update if_present) ps i n t free = refl
without_look (Loop kernel) ps i n t free = refl
without_look Wait ps i n t free = refl
without_look AsyncTest ps i n t free = refl
without_look IsPresent ps i n t free = refl

-- and can be
pub can_without_look : (k : Kind) (ps : List Presence) (i : DataItem) (capacity n : ℕ) → wants_look k i.clause ≡ false → IsFine capacity (change_in k ps i) ps i.range → HasEntered (change_in k ps i) i.range ps
    → AllLow COUNTER_LIMIT n ps → 1 ≤ n → CanMark (change_by k) i.range ps capacity
can_without_look Data ps i capacity n free fine entered low some = can_mark (Some StructuredUp) ps i.range capacity n (rw free at fine) tt low some
can_without_look EndData ps i capacity n free fine entered low some = can_mark (Some StructuredDown) ps i.range capacity n fine entered low some
can_without_look EnterData ps i capacity n free fine entered low some = can_mark (Some DynamicUp) ps i.range capacity n fine entered low some
can_without_look (ExitData true) ps i capacity n free fine entered low some = fine.cells
can_without_look (ExitData false) ps i capacity n free fine entered low some = fine.cells
can_without_look (Update if_present) ps i capacity n free fine entered low some = fine.cells
can_without_look (Loop kernel) ps i capacity n free fine entered low some = can_mark (Some StructuredUp) ps i.range capacity n fine entered low some
can_without_look Wait ps i capacity n free fine entered low some = fine.cells
can_without_look AsyncTest ps i capacity n free fine entered low some = fine.cells
can_without_look IsPresent ps i capacity n free fine entered low some = fine.cells

pub opened-least : (opens : Bool) (n : ℕ) → n ≤ opened_after opens n
opened-least true n = omega arith
opened-least false n = omega arith

pub opened-most : (b : Bool) (n : ℕ) → opened_after b n ≤ n + 1
opened-most true n = omega arith
opened-most false n = omega arith

-- and leaves the counters of the others low
pub low_rest : (change : Option Change) (ps after : List Presence) (r : Range) (items : List DataItem) (opened : ℕ) → AllLow COUNTER_LIMIT (length items) ps
    → 1 ≤ length items → opened + length items ≤ COUNTER_LIMIT
    → after ≡ presences_by change r (opened + 1) ps → AllLow COUNTER_LIMIT (length (drop 1 items)) after
low_rest change ps after r [] opened low some few is = absurd (omega arith)
low_rest change ps after r (i ∷ is) opened low some few at_is = rw at_is (AllLow-by COUNTER_LIMIT (length is) (opened + 1) change r ps (omega arith) low)

-- and room for them in the table
room_after : (change : Option Change) (t after : TableView) (r : Range) (n opened next : ℕ) → HasRoomFor (suc n) t opened
    → holding after.presences next ≡ holding_after change r (holding t.presences opened) → after.room ≡ t.room
    → HasRoomFor n after next
unfolding holding_after
room_after change t after r n opened next room is same =
    let made : after.presences ≡ presences_by change r (opened + 1) t.presences = ap (λ (h : Holding). h.presences) is in
    let counts : next ≡ opened_after (opens_one change t.presences r) opened = ap (λ (h : Holding). h.opened) is in
    let len : length after.presences ≤ length t.presences + 1 = omega (arith, ap length made, length-by change r (opened + 1) t.presences) in
    record {
      room = omega (arith, len, room.room, same);
      low = rw made (AllLow-by COUNTER_LIMIT n (opened + 1) change r t.presences (omega (arith, room.few)) room.low);
      few = omega (arith, room.few, counts, opened-most (opens_one change t.presences r) opened);
    }

pub room_rest : (change : Option Change) (t after : TableView) (r : Range) (items : List DataItem) (opened next : ℕ) → HasRoomFor (length items) t opened → 1 ≤ length items
    → holding after.presences next ≡ holding_after change r (holding t.presences opened) → after.room ≡ t.room → HasRoomFor (length (drop 1 items)) after next
room_rest change t after r [] opened next room some is same = absurd (omega arith)
room_rest change t after r (i ∷ is) opened next room some at_t same = room_after change t after r (length is) opened next room at_t same

pub room_fewer : (t : TableView) (n m opened : ℕ) → m ≤ n → HasRoomFor n t opened → HasRoomFor m t opened
room_fewer t n m opened fewer room =
    record { room = omega (arith, room.room); low = AllLow-fewer COUNTER_LIMIT COUNTER_LIMIT n m t.presences (omega arith) room.low; few = omega (arith, room.few) }

-- and once all are marked, for as many more
pub room_all : (k : Kind) (t after : TableView) (items : List DataItem) (n opened next : ℕ) → HasRoomFor (length items + n) t opened
    → holding after.presences next ≡ holding_after_all k (holding t.presences opened) items → after.room ≡ t.room → HasRoomFor n after next
unfolding holding_after
room_all k t after [] n opened next room is same =
    let ps : after.presences ≡ t.presences = ap (λ (h : Holding). h.presences) is in
    let count : next ≡ opened = ap (λ (h : Holding). h.opened) is in
    let rest = room_fewer t (length {A = DataItem} [] + n) n opened (omega arith) room in
    record { room = omega (arith, ap length ps, same, rest.room); low = rw ps rest.low; few = omega (arith, count, rest.few) }
room_all k t after (i ∷ is) n opened next room at_all same =
    let h = holding_with k i (holding t.presences opened) in
    let between : TableView = record { presences = h.presences; notes = []; capacity = t.capacity; room = t.room } in
    room_all k between after is n h.opened next (room_after (change_in k t.presences i) t between i.range (length is + n) opened h.opened (room_fewer t (length (i ∷ is) + n) (suc (length is + n)) opened (omega arith) room) refl refl) at_all same

-- ## Items that leave

-- a mark of one counts nothing up
stepped_down : (limit n : ℕ) (p : Presence) → p.s + p.d + n ≤ limit → (stepped StructuredDown p).s + (stepped StructuredDown p).d + n ≤ limit
stepped_down limit n p h = omega arith

low_down : (limit n : ℕ) (r : Range) (ps : List Presence) → AllLow limit n ps → AllLow limit n (map (presence_after (mark_by StructuredDown r)) ps)
low_down limit n r [] h = tt
low_down limit n r (p ∷ ps) h = (
  elim (range_contains p.range r) as (λ v. (cond v (stepped StructuredDown p) p).s + (cond v (stepped StructuredDown p) p).d + n ≤ limit) [ true ↦ stepped_down limit n p h.0 | false ↦ h.0 ],
  low_down limit n r ps h.1,
)

pub low_left : (limit n : ℕ) (h : Holding) (items : List DataItem) → AllLow limit n h.presences → AllLow limit n (holding_after_all EndData h items).presences
unfolding holding_after
low_left limit n h [] low = low
low_left limit n h (i ∷ is) low =
    low_left limit n (holding_after (Some StructuredDown) i.range h) is
    (AllLow-filter limit n has_count (map (presence_after (mark_by StructuredDown i.range)) h.presences) (low_down limit n i.range h.presences low))

-- and opens nothing
pub opened_left : (h : Holding) (items : List DataItem) → (holding_after_all EndData h items).opened ≡ h.opened
unfolding holding_after
opened_left h [] = refl
opened_left h (i ∷ is) = opened_left (holding_after (Some StructuredDown) i.range h) is

pub left_is : (ps after : List Presence) (n : ℕ) (r : Range) → after ≡ presences_by (Some StructuredDown) r (n + 1) ps → holding after n ≡ holding_after (Some StructuredDown) r (holding ps n)
unfolding holding_after
left_is ps after n r is = ap (λ qs. holding qs n) is

-- so how many lifetimes were opened doesn't matter
pub left_alike : (h : Holding) (m : ℕ) (items : List DataItem) → all_marked EndData (holding h.presences m) items ≡ all_marked EndData h items
unfolding holding_after marked_in
left_alike h m [] = refl
left_alike h m (i ∷ is) = ap (λ ts. marked_in (Some StructuredDown) h i ∷ ts) (left_alike (holding_after (Some StructuredDown) i.range h) m is)

pub entered_alike : (h : Holding) (m : ℕ) (items : List DataItem) → AllEntered EndData h items → AllEntered EndData (holding h.presences m) items
unfolding holding_after
entered_alike h m [] entered = tt
entered_alike h m (i ∷ is) entered = (entered.0, entered_alike (holding_after (Some StructuredDown) i.range h) m is entered.1)

pub length-marked : (k : Kind) (h : Holding) (items : List DataItem) → length (all_marked k h items) ≡ length items
length-marked k h [] = refl
length-marked k h (i ∷ is) = ap suc (length-marked k (holding_with k i h) is)

-- ## The items behind the first, as a slice pattern gives them

abbrev pub rest_of : List DataItem → List DataItem
rest_of items = take (length items - 1) (drop 1 items)

pub rest_is : (items : List DataItem) → rest_of items ≡ drop 1 items
rest_is [] = refl
rest_is (i ∷ is) = let e : suc (length is) - 1 ≡ length is = omega arith in ap (λ n. take n is) e ∙ take-length is

pub length-rest : (items : List DataItem) → 1 ≤ length items → length (rest_of items) + 1 ≡ length items
length-rest [] some = absurd (omega arith)
length-rest (i ∷ is) some = omega (arith, ap length (rest_is (i ∷ is)))

pub all_rest : (P : DataItem → Type 0) (items : List DataItem) → All P items → All P (rest_of items)
all_rest P [] all = all
all_rest P (i ∷ is) all = rw (rest_is (i ∷ is)) (All-tail P i is all)
