-- Entries to ranges end no lifetime.
use Rattle.std.proofs.Common.{inl, inr, ◌≡◌, ℕ, suc, ◌+◌, ◌-◌, ◌<◌, true, false, cond, List, [], ◌∷◌, length, refl, sym, ap, ◌∙◌, arith, Option, Some, None}
use Rattle.std.specs.Prelude.{◌&&◌, Contains, filter, not}
use Rattle.std.proofs.lemmas.Bool.{cases_Bool, and_parts, and_from, lt-ltb, ltb-true}
use Rattle.std.proofs.lemmas.List.{length-take}
use Rattle.std.proofs.lemmas.List.Elements.{Contains-append_left, Contains-append_right}
use Rattle.acc_base.specs.declared.range.Range.{Range}
use Rattle.acc_base.specs.Ranges.{range_contains}
use Rattle.acc_base.proofs.Members.{member_first, member_rest}
use Rattle.acc_batch.proofs.OrderedBatches.{filter_member}
use Rattle.acc_present.specs.declared.change.Change.{Change}
use Rattle.acc_present.specs.declared.change.Change.TheVariants.{StructuredUp, StructuredDown, DynamicUp, DynamicDown, DynamicZero}
use Rattle.acc_present.specs.Marks.{Mark, structured_count, dynamic_count, region_entries, region_exits}
use Rattle.acc_present.specs.Lifetimes.{Lifetime, opened_lifetimes, lives, marks_since, stays_counted, is_counted, can_open, opens, lifetime_inserted, is_before}
use Rattle.acc_present.proofs.Presences.{marks_since-more, no_marks_yet, range_contains_itself}
use Rattle.acc_present.proofs.LifetimeNumbers.{opening, numbered, opened_more, length-lifetime_inserted}
use Rattle.acc_place.specs.Standings.{AskedItem, change_at, marks_with, marks_after, marked_by}
use Rattle.acc_present.specs.Legality.{AllLegal}
use Rattle.acc_present.specs.Presences.{Presence, presences, holder, is_present}
use Rattle.acc_place.specs.Batches.{opened_blocks, holding_blocks}
use Rattle.acc_place.proofs.HeldAndMade.{look_finds}
use Rattle.acc_place.proofs.GroupLives.{opened_is}
use Rattle.acc_place.proofs.VisitLives.{IsHeld, visit, held_block_is}

-- an entry leaves what is counted counted
up_counted : (change : Change) (r range : Range) (ms : List Mark) → can_open change ≡ true → is_counted r ms ≡ true → is_counted r (record { change = change; range = range } ∷ ms) ≡ true
up_counted StructuredUp r range ms can h =
    let low = ltb-true 0 (structured_count r ms + dynamic_count r ms) h in
    elim (cases_Bool (range_contains r range)) [
      | inl has ↦ rw has (lt-ltb 0 (suc (region_entries r ms) - region_exits r ms + dynamic_count r ms) (omega (arith, low)))
      | inr misses ↦ rw misses h
    ]
up_counted DynamicUp r range ms can h =
    let low = ltb-true 0 (structured_count r ms + dynamic_count r ms) h in
    elim (cases_Bool (range_contains r range)) [
      | inl has ↦ rw has (lt-ltb 0 (structured_count r ms + (dynamic_count r ms + 1)) (omega (arith, low)))
      | inr misses ↦ rw misses h
    ]
up_counted StructuredDown r range ms can h = cc
up_counted DynamicDown r range ms can h = cc
up_counted DynamicZero r range ms can h = cc

counted_last : (r : Range) (ms : List Mark) → 0 < length ms → stays_counted r ms ≡ true → is_counted r ms ≡ true
counted_last r [] some h = absurd (omega (arith, some))
counted_last r (m ∷ ms) some h = (and_parts (is_counted r (m ∷ ms)) (stays_counted r ms) h).0

-- a lifetime that lives goes on
up_lives : (m : Mark) (ms : List Mark) (l : Lifetime) → can_open m.change ≡ true → l.since < length ms → lives ms l ≡ true → lives (m ∷ ms) l ≡ true
up_lives m ms l can h was =
    let e = marks_since-more m ms l (omega arith) in
    let some : 0 < length (marks_since ms l) = omega (arith, length-take (length ms - l.since) ms) in
    let counted = up_counted m.change l.range m.range (marks_since ms l) can (counted_last l.range (marks_since ms l) some was) in
    rw e (and_from (is_counted l.range (m ∷ marks_since ms l)) (lives ms l) counted was)

-- and no mark takes one out of the list
placed_has : (n l : Lifetime) (ls : List Lifetime) → Contains ls l → Contains (lifetime_inserted n ls) l
placed_has n l ls c = elim (cases_Bool (is_before n.range l.range)) [
  | inl before ↦
      Contains-append_right (filter (λ k. not (is_before n.range k.range)) ls) (n ∷ filter (λ k. is_before n.range k.range) ls) l
      (member_rest l n (filter (λ k. is_before n.range k.range) ls) (filter_member (λ k. is_before n.range k.range) ls l before c))
  | inr behind ↦
      Contains-append_left (filter (λ k. not (is_before n.range k.range)) ls) (n ∷ filter (λ k. is_before n.range k.range) ls) l
      (filter_member (λ k. not (is_before n.range k.range)) ls l (ap not behind) c)
]

opened_has : (m : Mark) (ms : List Mark) (l : Lifetime) → Contains (opened_lifetimes ms) l → Contains (opened_lifetimes (m ∷ ms)) l
unfolding opened_lifetimes
opened_has m ms l c = elim (opens m ms (opened_lifetimes ms)) as (λ v. Contains (cond v (lifetime_inserted (record { range = m.range; block = length (opened_lifetimes ms) + 1; since = length ms }) (opened_lifetimes ms)) (opened_lifetimes ms)) l) [
  | true ↦ placed_has (record { range = m.range; block = length (opened_lifetimes ms) + 1; since = length ms }) l (opened_lifetimes ms) c
  | false ↦ c
]

-- ## A lifetime that an entry opens

-- it lives behind its mark
new_lives : (m : Mark) (ms : List Mark) → can_open m.change ≡ true → lives (m ∷ ms) (opening m ms) ≡ true
new_lives m ms can = rw (marks_since-more m ms (opening m ms) (omega arith), no_marks_yet m ms) (once m.change m.range can)
  where
    once : (change : Change) (r : Range) → can_open change ≡ true → stays_counted r (record { change = change; range = r } ∷ []) ≡ true
    once StructuredUp r up = rw (range_contains_itself r) refl
    once DynamicUp r up = rw (range_contains_itself r) refl
    once StructuredDown r up = cc
    once DynamicDown r up = cc
    once DynamicZero r up = cc

placed_new : (l : Lifetime) (ls : List Lifetime) → Contains (lifetime_inserted l ls) l
placed_new l ls =
    Contains-append_right (filter (λ k. not (is_before l.range k.range)) ls) (l ∷ filter (λ k. is_before l.range k.range) ls) l
    (member_first l (filter (λ k. is_before l.range k.range) ls))

opened_by_mark : (change : Change) (r : Range) (ms : List Mark) (b : ℕ) → can_open change ≡ true → length (opened_lifetimes ms) < length (opened_lifetimes (marks_with ms r (Some change))) → b ≡ length (opened_lifetimes (marks_with ms r (Some change)))
    → IsHeld (marks_with ms r (Some change)) r b
opened_by_mark change r ms b can longer is =
    let m : Mark = record { change = change; range = r } in
    elim (opened_more m ms) [
      | inl same ↦ absurd (omega (arith, longer, ap (λ (ls : List Lifetime). length ls) same))
      | inr more ↦ record {
        lifetime = opening m ms;
        member = rw more (placed_new (opening m ms) (opened_lifetimes ms));
        lived = new_lives m ms can;
        named = omega (arith, is, ap (λ (ls : List Lifetime). length ls) more, length-lifetime_inserted (opening m ms) (opened_lifetimes ms));
        around = range_contains_itself r;
      }
    ]

-- ## A walk that enters

-- an item in its turn leaves no exit
abbrev pub Enters : Option Change → Type 0
Enters None = Unit {0}
Enters (Some change) = can_open change ≡ true

abbrev pub AllEnter : List AskedItem → Type 0
AllEnter [] = Unit {0}
AllEnter (a ∷ asks) = Enters a.change × AllEnter asks

-- whether its range has to be present or not
enters_at : (ms : List Mark) (a : AskedItem) → Enters a.change → Enters (change_at ms a)
enters_at ms a can = elim (a.if_present && not (is_present (presences ms) a.item.range)) as (λ b. Enters (cond b None a.change)) [ true ↦ tt | false ↦ can ]

by_mark : (change : Change) (range : Range) (ms : List Mark) (r : Range) (b : ℕ) → can_open change ≡ true → IsHeld ms r b → IsHeld (marks_with ms range (Some change)) r b
by_mark change range ms r b can h =
    let m : Mark = record { change = change; range = range } in
    record {
      lifetime = h.lifetime;
      member = opened_has m ms h.lifetime h.member;
      lived = up_lives m ms h.lifetime can ((numbered ms).since h.lifetime h.member) h.lived;
      named = h.named;
      around = h.around;
    }

opened_by_change : (change : Option Change) (r : Range) (ms : List Mark) (b : ℕ) → Enters change → length (opened_lifetimes ms) < length (opened_lifetimes (marks_with ms r change)) → b ≡ length (opened_lifetimes (marks_with ms r change)) → IsHeld (marks_with ms r change) r b
opened_by_change None r ms b can longer is = absurd (omega (arith, longer))
opened_by_change (Some change) r ms b can longer is = opened_by_mark change r ms b can longer is

-- A block that a visit opened holds the item's range behind it.
pub opened_held : (ms : List Mark) (a : AskedItem) (b : ℕ) → Enters a.change → Contains (opened_blocks (visit ms a)) b → IsHeld (marked_by ms a) a.item.range b
opened_held ms a b can c = (let n = opened_is ms a b c in opened_by_change (change_at ms a) a.item.range ms b (enters_at ms a can) n.1 n.0)

by_change : (change : Option Change) (range : Range) (ms : List Mark) (r : Range) (b : ℕ) → Enters change → IsHeld ms r b → IsHeld (marks_with ms range change) r b
by_change None range ms r b can h = h
by_change (Some change) range ms r b can h = by_mark change range ms r b can h

-- A range that a block holds before entries it holds behind them.
pub held_after : (asks : List AskedItem) (ms : List Mark) (r : Range) (b : ℕ) → AllEnter asks → IsHeld ms r b → IsHeld (marks_after ms asks) r b
held_after [] ms r b can h = h
held_after (a ∷ asks) ms r b can h = held_after asks (marked_by ms a) r b can.1 (by_change (change_at ms a) a.item.range ms r b (enters_at ms a can.0) h)

-- What a block that a walk of entries opened holds, nothing held before it.
pub opened_absent : (asks : List AskedItem) (ms : List Mark) (r : Range) (b : ℕ) → AllEnter asks → AllLegal (marks_after ms asks) → 0 < r.len → IsHeld (marks_after ms asks) r b → length (opened_lifetimes ms) < b → holder (presences ms) r ≡ None
opened_absent asks ms r b can lawful cells h late = by_holder (holder (presences ms) r) refl
  where
    some_is : (x y : Presence) → Some x ≡ Some y → x ≡ y
    some_is x y e = cc

    by_holder : (o : Option Presence) → holder (presences ms) r ≡ o → o ≡ None
    by_holder None e = refl
    by_holder (Some p) e =
        let there : Contains (holding_blocks ms r) p.block = rw e (member_first p.block []) in
        let old = held_block_is ms r p.block there in
        let k = look_finds (marks_after ms asks) r p.block lawful cells (held_after asks ms r p.block can old) in
        let j = look_finds (marks_after ms asks) r b lawful cells h in
        let same : k.0 ≡ j.0 = some_is k.0 j.0 (sym k.1 ∙ j.1) in
        let block : p.block ≡ b = sym k.2 ∙ (ap (λ (z : Presence). z.block) same ∙ j.2) in
        let low = (numbered ms).low old.lifetime old.member in
        absurd (omega (arith, low, old.named, block, late))
