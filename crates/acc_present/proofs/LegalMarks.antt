-- After legal marks, what is present is a table, and no live lifetime was left by more regions than entered it.
use Rattle.std.proofs.Common.{◌≡◌, ℕ, ◌+◌, ◌<◌, ◌≤◌, Bool, true, false, cond, List, [], ◌∷◌, length, map, Some, None, Option, refl, ap, ◌∙◌, arith, inl, inr}
use Rattle.std.specs.Prelude.{◌&&◌, not, filter, All}
use Rattle.std.specs.List.{list_any}
use Rattle.std.proofs.lemmas.Bool.{cases_Bool, and_parts, and_from}
use Rattle.std.proofs.lemmas.List.Elements.{All-nil, All-cons}
use Rattle.acc_base.specs.declared.range.Range.{Range}
use Rattle.acc_base.specs.Ranges.{range_contains}
use Rattle.acc_present.specs.declared.change.Counter.TheVariants.{Dynamic}
use Rattle.acc_present.specs.Legality.{IsEntered, MeetsCondition, IsLegal, AllLegal, StructuredIsTheDifference}
use Rattle.acc_present.specs.Lifetimes.{Lifetime, opened_lifetimes, live_lifetimes, lives, opens, can_open, is_counted, marks_since, stays_counted, structured_of, times_entered, times_left}
use Rattle.acc_present.specs.declared.change.Change.{Change}
use Rattle.acc_present.specs.declared.change.Change.TheVariants.{StructuredUp, StructuredDown, DynamicUp, DynamicDown, DynamicZero}
use Rattle.acc_present.specs.Marks.{Mark, inside, region_entries, region_exits}
use Rattle.acc_present.specs.Presences.{Presence, presence_of, presences, holder, is_partly_present}
use Rattle.acc_present.specs.Tables.{changed_counter, presence_after, has_count, kept_after, presences_after, is_table, ends_before, ends_before_all}
use Rattle.acc_present.proofs.KeptAfter.{apart_first}
use Rattle.acc_present.proofs.PresencesAfter.{is_table-after}
use Rattle.acc_present.proofs.Presences.{Each, Each-trivial, Each-weaker, Each-lifetime_inserted, IsSince, IsBalanced, CanCount, new_lifetime, opened_since, marks_since-more, no_marks_yet, presences-more, range_contains_itself}
use Rattle.acc_present.proofs.TableOrder.{table_parts, table_from}

-- ## A table stays one

pub range_after : (m : Mark) (p : Presence) → (presence_after m p).range ≡ p.range
range_after m p = elim (cases_Bool (inside p.range m)) [ inl hit ↦ rw hit refl | inr miss ↦ rw miss refl ]

ends_before_all-kept : (a : Range) (m : Mark) (ps : List Presence) → ends_before_all a ps ≡ true → ends_before_all a (kept_after m ps) ≡ true
ends_before_all-kept a m [] h = refl
ends_before_all-kept a m (p ∷ ps) h =
    let parts = and_parts (ends_before a p.range) (ends_before_all a ps) h in
    let ih = ends_before_all-kept a m ps parts.1 in
    let first : ends_before a (presence_after m p).range ≡ true = ap (ends_before a) (range_after m p) ∙ parts.0 in
    elim (has_count (presence_after m p)) as (λ v. ends_before_all a (cond v (presence_after m p ∷ kept_after m ps) (kept_after m ps)) ≡ true)
    [ true ↦ and_from (ends_before a (presence_after m p).range) (ends_before_all a (kept_after m ps)) first ih | false ↦ ih ]

is_table-kept : (m : Mark) (ps : List Presence) → is_table ps ≡ true → is_table (kept_after m ps) ≡ true
is_table-kept m [] t = refl
is_table-kept m (p ∷ ps) t =
    let parts = table_parts p ps t in
    let ih = is_table-kept m ps parts.others in
    elim (cases_Bool (has_count (presence_after m p))) [
      | inl counted ↦
          rw counted
          (table_from (presence_after m p) (kept_after m ps) (record {
            cells = rw (range_after m p) parts.cells;
            counted = counted;
            first = rw (range_after m p) (ends_before_all-kept p.range m ps parts.first);
            others = ih;
          }))
      | inr over ↦ rw over ih
    ]

whole_where_it_opens : (change : Change) (r : Range) (ps : List Presence) → MeetsCondition change r ps → can_open change ≡ true → is_partly_present ps r ≡ false
whole_where_it_opens StructuredUp r ps h can = h
whole_where_it_opens StructuredDown r ps h can = absurd cc
whole_where_it_opens DynamicUp r ps h can = h
whole_where_it_opens DynamicDown r ps h can = absurd cc
whole_where_it_opens DynamicZero r ps h can = absurd cc

pub is_table-legal : (m : Mark) (b : ℕ) (ps : List Presence) → is_table ps ≡ true → IsLegal m ps → is_table (presences_after m b ps) ≡ true
is_table-legal m b ps t legal = elim (cases_Bool (can_open m.change)) [
  | inl can ↦ is_table-after m b ps t legal.0 (whole_where_it_opens m.change m.range ps legal.1 can)
  | inr cannot ↦ rw cannot (is_table-kept m ps t)
]

-- ## What a region leaves was entered

abbrev IsEnteredIn : Range → Presence → Type 0
IsEnteredIn r p = range_contains p.range r ≡ true → 0 < p.s

none_behind : (a r : Range) (ps : List Presence) → ends_before_all a ps ≡ true → 0 < r.len → range_contains a r ≡ true → Each (IsEnteredIn r) ps
none_behind a r [] h cells has = tt
none_behind a r (p ∷ ps) h cells has =
    let parts = and_parts (ends_before a p.range) (ends_before_all a ps) h in
    let miss = apart_first a p.range r parts.0 cells has in
    (λ hit. absurd cc, none_behind a r ps parts.1 cells has)

each_entered : (r : Range) (ps : List Presence) (x : Presence) → is_table ps ≡ true → 0 < r.len → holder ps r ≡ Some x → 0 < x.s → Each (IsEnteredIn r) ps
each_entered r [] x t cells some entered = tt
each_entered r (p ∷ ps) x t cells some entered =
    let parts = table_parts p ps t in
    elim (cases_Bool (range_contains p.range r)) [
      | inl has ↦
          let same : Some p ≡ Some x = rw has at some in
          let e : p ≡ x = cc in
          (λ hit. rw e entered, none_behind p.range r ps parts.first cells has)
      | inr misses ↦ (λ hit. absurd cc, each_entered r ps x parts.others cells (rw misses at some) entered)
    ]

each_of_live : {X Y : Type 0} (E : X → Y) (L : X → Bool) (P : Y → Type 0) (xs : List X) → Each P (map E (filter L xs)) → Each (λ x. L x ≡ true → P (E x)) xs
each_of_live E L P [] h = tt
each_of_live E L P (x ∷ xs) h = elim (cases_Bool (L x)) [
  | inl hit ↦ (let k : Each P (E x ∷ map E (filter L xs)) = rw hit at h in (λ alive. k.0, each_of_live E L P xs k.1))
  | inr miss ↦ (let k : Each P (map E (filter L xs)) = rw miss at h in (λ alive. absurd cc, each_of_live E L P xs k))
]

-- what a change asks of a lifetime that it is inside
abbrev LeavesIn : Change → Range → List Mark → Lifetime → Type 0
LeavesIn StructuredUp r ms l = Unit {0}
LeavesIn StructuredDown r ms l = lives ms l ≡ true → range_contains l.range r ≡ true → 0 < structured_of ms l
LeavesIn DynamicUp r ms l = Unit {0}
LeavesIn DynamicDown r ms l = Unit {0}
LeavesIn DynamicZero r ms l = Unit {0}

each_leaves : (change : Change) (r : Range) (ms : List Mark) → is_table (presences ms) ≡ true → 0 < r.len → MeetsCondition change r (presences ms) → Each (LeavesIn change r ms) (opened_lifetimes ms)
unfolding presences live_lifetimes
each_leaves StructuredUp r ms t cells h = Each-trivial (opened_lifetimes ms)
each_leaves StructuredDown r ms t cells h = by_holder (holder (presences ms) r) refl h
  where
    by_holder : (o : Option Presence) → holder (presences ms) r ≡ o → IsEntered o → Each (LeavesIn StructuredDown r ms) (opened_lifetimes ms)
    by_holder None none entered = absurd entered
    by_holder (Some x) some entered = each_of_live (presence_of ms) (lives ms) (IsEnteredIn r) (opened_lifetimes ms) (each_entered r (presences ms) x t cells some entered)
each_leaves DynamicUp r ms t cells h = Each-trivial (opened_lifetimes ms)
each_leaves DynamicDown r ms t cells h = Each-trivial (opened_lifetimes ms)
each_leaves DynamicZero r ms t cells h = Each-trivial (opened_lifetimes ms)

-- ## Exits stay below entries

region_exits-le : (change : Change) (inner : Range) (ms : List Mark) (l : Lifetime) → lives ms l ≡ true → times_left ms l ≤ times_entered ms l → LeavesIn change inner ms l
    → region_exits l.range (record { change = change; range = inner } ∷ marks_since ms l) ≤ region_entries l.range (record { change = change; range = inner } ∷ marks_since ms l)
region_exits-le StructuredUp inner ms l alive fewer leaves = elim (cases_Bool (range_contains l.range inner)) [ inl has ↦ rw has (omega (arith, fewer)) | inr misses ↦ rw misses fewer ]
region_exits-le StructuredDown inner ms l alive fewer leaves =
    elim (cases_Bool (range_contains l.range inner)) [ inl has ↦ (let some = leaves alive has in rw has (omega (arith, fewer, some))) | inr misses ↦ rw misses fewer ]
region_exits-le DynamicUp inner ms l alive fewer leaves = elim (cases_Bool (range_contains l.range inner)) [ inl has ↦ rw has fewer | inr misses ↦ rw misses fewer ]
region_exits-le DynamicDown inner ms l alive fewer leaves = elim (cases_Bool (range_contains l.range inner)) [ inl has ↦ rw has fewer | inr misses ↦ rw misses fewer ]
region_exits-le DynamicZero inner ms l alive fewer leaves = elim (cases_Bool (range_contains l.range inner)) [ inl has ↦ rw has fewer | inr misses ↦ rw misses fewer ]

balanced-more : (m : Mark) (ms : List Mark) (l : Lifetime) → IsSince (length ms) l → IsBalanced ms l → LeavesIn m.change m.range ms l → IsBalanced (m ∷ ms) l
balanced-more m ms l since balanced leaves =
    let e = marks_since-more m ms l since in
    rw e (λ alive.
    let before = (and_parts (is_counted l.range (m ∷ marks_since ms l)) (stays_counted l.range (marks_since ms l)) alive).1 in
    region_exits-le m.change m.range ms l before (balanced before) leaves)

balanced_all : (m : Mark) (ms : List Mark) (ls : List Lifetime) → Each (IsSince (length ms)) ls → Each (IsBalanced ms) ls → Each (LeavesIn m.change m.range ms) ls → Each (IsBalanced (m ∷ ms)) ls
balanced_all m ms [] since balanced leaves = tt
balanced_all m ms (l ∷ ls) since balanced leaves = (balanced-more m ms l since.0 balanced.0 leaves.0, balanced_all m ms ls since.1 balanced.1 leaves.1)

no_exit_opens : (change : Change) (r : Range) → can_open change ≡ true → region_exits r (record { change = change; range = r } ∷ []) ≡ 0
no_exit_opens StructuredUp r can = rw (range_contains_itself r) refl
no_exit_opens StructuredDown r can = absurd cc
no_exit_opens DynamicUp r can = rw (range_contains_itself r) refl
no_exit_opens DynamicDown r can = absurd cc
no_exit_opens DynamicZero r can = absurd cc

balanced-new : (m : Mark) (ms : List Mark) → can_open m.change ≡ true → IsBalanced (m ∷ ms) (new_lifetime m ms)
balanced-new m ms can =
    let none = no_exit_opens m.change m.range can in
    rw (marks_since-more m ms (new_lifetime m ms) (omega arith), no_marks_yet m ms) (λ alive. omega (arith, none))

-- ## All that legal marks opened

pub can_count-balanced : (change : Change) (ms : List Mark) → Each (IsBalanced ms) (opened_lifetimes ms) → CanCount change ms
can_count-balanced StructuredUp ms h = h
can_count-balanced StructuredDown ms h = tt
can_count-balanced DynamicUp ms h = tt
can_count-balanced DynamicDown ms h = tt
can_count-balanced DynamicZero ms h = tt

pub can_count-dynamic : (change : Change) (ms : List Mark) → changed_counter change ≡ Dynamic → CanCount change ms
can_count-dynamic StructuredUp ms h = absurd cc
can_count-dynamic StructuredDown ms h = tt
can_count-dynamic DynamicUp ms h = tt
can_count-dynamic DynamicDown ms h = tt
can_count-dynamic DynamicZero ms h = tt

pub record Legal (ms : List Mark) : Type 0 where
  pub table : is_table (presences ms) ≡ true
  pub balanced : Each (IsBalanced ms) (opened_lifetimes ms)

pub legal : (ms : List Mark) → AllLegal ms → Legal ms
unfolding presences live_lifetimes opened_lifetimes
legal [] h = record { table = refl; balanced = tt }
legal (m ∷ ms) h =
    let before = legal ms h.1 in
    let step = presences-more m ms (can_count-balanced m.change ms before.balanced) in
    let leaves = each_leaves m.change m.range ms before.table h.0.0 h.0.1 in
    let old = balanced_all m ms (opened_lifetimes ms) (opened_since ms) before.balanced leaves in
    record {
      table = ap is_table step ∙ is_table-legal m (length (opened_lifetimes ms) + 1) (presences ms) before.table h.0;
      balanced = elim (cases_Bool (opens m ms (opened_lifetimes ms))) [
        | inl is_open ↦
            (let can = (and_parts (can_open m.change) (not (list_any (λ l. lives ms l && range_contains l.range m.range) (opened_lifetimes ms))) is_open).0 in
            rw is_open (Each-lifetime_inserted (IsBalanced (m ∷ ms)) (new_lifetime m ms) (opened_lifetimes ms) (balanced-new m ms can) old))
        | inr is_shut ↦ rw is_shut old
      ];
    }

All-from_each : {X : Type 0} (P : X → Type 0) (L : X → Bool) (xs : List X) → Each (λ x. L x ≡ true → P x) xs → All P (filter L xs)
All-from_each P L [] h = All-nil P
All-from_each P L (x ∷ xs) h = elim (cases_Bool (L x)) [
  | inl hit ↦ rw hit (All-cons P x (filter L xs) (h.0 hit) (All-from_each P L xs h.1))
  | inr miss ↦ rw miss (All-from_each P L xs h.1)
]

pub structured_is_the_difference : StructuredIsTheDifference
unfolding live_lifetimes
structured_is_the_difference ms h =
    All-from_each (λ l. structured_of ms l + times_left ms l ≡ times_entered ms l) (lives ms) (opened_lifetimes ms)
    (Each-weaker (IsBalanced ms) (λ l. lives ms l ≡ true → structured_of ms l + times_left ms l ≡ times_entered ms l) (opened_lifetimes ms)
    (λ l balanced alive. let fewer = balanced alive in omega (arith, fewer)) (legal ms h).balanced)
