-- What the open regions have entered: it is present, and counted, through each walk.
use Rattle.std.proofs.Common.{◌≡◌, ℕ, zero, suc, ◌+◌, ◌<◌, Bool, true, false, cond, List, [], ◌∷◌, ◌++◌, length, map, get_or, Option, Some, None, refl, sym, ap, ◌∙◌, arith, inl, inr}
use Rattle.std.specs.Prelude.{◌&&◌, ◌||◌, ◌==◌, not, All, filter}
use Rattle.std.proofs.lemmas.Bool.{cases_Bool, eq-eqb, or_parts, or_left, or_right, lt-ltb}
use Rattle.std.proofs.lemmas.Bool.Decides.{nat_tests}
use Rattle.std.proofs.lemmas.List.{length-append}
use Rattle.std.proofs.lemmas.List.Elements.{All-append, All-cons, All-filter, All-head, All-map, All-nil, All-tail, All-weaker, filter-append}
use Rattle.std.proofs.lemmas.List.Folds.{list_any-append}
use Rattle.acc_base.proofs.Lists.{All-before, All-behind}
use Rattle.acc_base.specs.declared.range.Range.{Range}
use Rattle.acc_base.specs.Configurations.{Configuration}
use Rattle.acc_base.specs.Ranges.{range_contains, range_overlaps}
use Rattle.acc_kernel.specs.Kernels.{Loop as Looped}
use Rattle.acc_present.specs.Legality.{IsEntered}
use Rattle.acc_present.specs.Lifetimes.{is_before}
use Rattle.acc_present.specs.declared.change.Change.{Change}
use Rattle.acc_present.specs.declared.change.Change.TheVariants.{StructuredUp, StructuredDown, DynamicUp, DynamicDown, DynamicZero}
use Rattle.acc_present.specs.Marks.{Mark}
use Rattle.acc_present.specs.Presences.{Presence, holder, is_present, is_partly_present, overlaps_any}
use Rattle.acc_present.specs.Tables.{has_count, is_table, kept_after, opening, presence_after, presence_inserted, presences_after, structured_after}
use Rattle.acc_present.proofs.LegalMarks.{range_after}
use Rattle.acc_present.proofs.KeptAfter.{kept_none}
use Rattle.acc_present.proofs.EnterAndExit.{no_overlap, stays}
use Rattle.acc_present.proofs.PresencesAfter.{is_table-after}
use Rattle.acc_present.proofs.Presences.{range_contains_itself}
use Rattle.acc_present.proofs.Holder.{is_present-none, is_present-some, not_partly}
use Rattle.acc_place.specs.Directives.{Directive}
use Rattle.acc_place.specs.declared.directive.DataItem.{DataItem}
use Rattle.acc_place.specs.declared.directive.Kind.{Kind}
use Rattle.acc_place.specs.declared.directive.Kind.TheVariants.{Data, EndData, EnterData, ExitData, Update, Loop, Wait, AsyncTest, IsPresent}
use Rattle.acc_place.specs.declared.directive.Region.{Region}
use Rattle.acc_place.specs.Counters.{IsEnteredBy, count_inside, entered_ranges}
use Rattle.acc_place.specs.inner.Places.{IsThere}
use Rattle.acc_place.specs.Implicit.{implicit_items}
use Rattle.acc_place.specs.Regions.{open_region, region_of, regions_after, regions_on, without_open}
use Rattle.acc_place.specs.Standings.{acts_if_present, asked_item, change_by, change_where, counted_with, exit_by, subject_left, subject_by}
use Rattle.acc_place.specs.inner.Judging.{Holding, all_marked, change_in, counted_steps, device_by, holding, holding_after, holding_with, holding_after_all, holding_between, holding_behind, ends_of, mark_by, presences_by, AllHeldFor, HasEntered, AllEntered, AllFine, IsFine}
use Rattle.acc_place.proofs.OpenRegion.{none_without}
use Rattle.acc_place.proofs.RegionsOn.{open_on, without_on}
use Rattle.acc_place.proofs.Visits.{counted_first}

abbrev IsHeld : List Presence → Range → Type 0
IsHeld ps r = (0 < r.len) × (is_present ps r ≡ true)

abbrev IsCounted : List Range → Presence → Type 0
IsCounted rs p = p.s ≡ count_inside p.range rs

abbrev ranges_of : List DataItem → List Range
ranges_of items = map (λ (i : DataItem). i.range) items

-- ## Counts

pub count-append : (whole : Range) (rs qs : List Range) → count_inside whole (rs ++ qs) ≡ count_inside whole rs + count_inside whole qs
count-append whole rs qs =
    ap length (filter-append (range_contains whole) rs qs) ∙ length-append (filter (range_contains whole) rs) (filter (range_contains whole) qs)

pub count-hit : (whole r : Range) (rs : List Range) → range_contains whole r ≡ true → count_inside whole (r ∷ rs) ≡ count_inside whole rs + 1
count-hit whole r rs hit = rw hit (omega arith)

pub count-miss : (whole r : Range) (rs : List Range) → range_contains whole r ≡ false → count_inside whole (r ∷ rs) ≡ count_inside whole rs
count-miss whole r rs miss = rw miss refl

count_at : (whole : Range) (rs : List Range) (k : ℕ) (d : Range) → k < length rs → range_contains whole (get_or rs k d) ≡ true → 0 < count_inside whole rs
count_at whole [] k d low has = absurd (omega arith)
count_at whole (r ∷ rs) zero d low has = omega (arith, count-hit whole r rs has)
count_at whole (r ∷ rs) (suc k) d low has =
    let ih = count_at whole rs k d (omega arith) has in
    elim (cases_Bool (range_contains whole r)) [
      | inl hit ↦ omega (arith, count-hit whole r rs hit)
      | inr miss ↦ omega (arith, count-miss whole r rs miss, ih)
    ]

-- ## The order of the ranges doesn't matter

count-turned : (whole : Range) (xs ys zs : List Range) → count_inside whole (xs ++ (ys ++ zs)) ≡ count_inside whole (ys ++ (xs ++ zs))
count-turned whole xs ys zs =
    omega (arith, count-append whole xs (ys ++ zs), count-append whole ys zs, count-append whole ys (xs ++ zs), count-append whole xs zs)

entered_turned : (xs ys zs : List Range) (ps : List Presence) → IsEnteredBy (xs ++ (ys ++ zs)) ps → IsEnteredBy (ys ++ (xs ++ zs)) ps
entered_turned xs ys zs ps h =
    let rest = All-behind (IsHeld ps) xs (ys ++ zs) h.present in
    let held = All-append (IsHeld ps) xs zs (All-before (IsHeld ps) xs (ys ++ zs) h.present) (All-behind (IsHeld ps) ys zs rest) in
    record {
      present = All-append (IsHeld ps) ys (xs ++ zs) (All-before (IsHeld ps) ys zs rest) held;
      counted = All-weaker (IsCounted (xs ++ (ys ++ zs))) (IsCounted (ys ++ (xs ++ zs))) (λ p is. is ∙ count-turned p.range xs ys zs) ps h.counted;
    }

-- ## A mark on what is present

-- what the mark makes of each structured counter is the count of the ranges after it
abbrev Recounts : Mark → List Range → List Range → Type 0
Recounts m rs qs = (whole : Range) → cond (range_contains whole m.range) (structured_after m.change (count_inside whole rs)) (count_inside whole rs) ≡ count_inside whole qs

counted_after : (m : Mark) (rs qs : List Range) (p : Presence) → Recounts m rs qs → IsCounted rs p → IsCounted qs (presence_after m p)
counted_after m rs qs p counts is =
    let e = counts p.range in
    elim (cases_Bool (range_contains p.range m.range)) [
      | inl hit ↦ rw hit (ap (structured_after m.change) is ∙ (rw hit at e))
      | inr miss ↦ rw miss (is ∙ (rw miss at e))
    ]

still_present : (m : Mark) (qs : List Range) (ps : List Presence) (r : Range) → ((whole : Range) → range_contains whole r ≡ true → 0 < count_inside whole qs)
    → All (IsCounted qs) (map (presence_after m) ps) → is_present ps r ≡ true → is_present (kept_after m ps) r ≡ true
still_present m qs [] r some counted held = absurd cc
still_present m qs (p ∷ ps) r some counted held =
    let q = presence_after m p in
    let rest = All-tail (IsCounted qs) q (map (presence_after m) ps) counted in
    elim (cases_Bool (range_contains p.range r)) [
      | inl has ↦
          let here : range_contains q.range r ≡ true = ap (λ a. range_contains a r) (range_after m p) ∙ has in
          let is : q.s ≡ count_inside q.range qs = All-head (IsCounted qs) q (map (presence_after m) ps) counted in
          let positive : has_count q ≡ true = lt-ltb 0 (q.s + q.d) (omega (arith, is, some q.range here)) in
          rw positive (or_left (range_contains q.range r) (is_present (kept_after m ps) r) here)
      | inr misses ↦
          let ih = still_present m qs ps r some rest (rw misses at held) in
          elim (has_count q) as (λ v. is_present (cond v (q ∷ kept_after m ps) (kept_after m ps)) r ≡ true)
          [ true ↦ or_right (range_contains q.range r) (is_present (kept_after m ps) r) ih | false ↦ ih ]
    ]

-- what has a range inside it stays
entered_kept : (m : Mark) (rs qs : List Range) (ps : List Presence) → Recounts m rs qs → IsEnteredBy rs ps → All (IsHeld ps) qs → IsEnteredBy qs (kept_after m ps)
entered_kept m rs qs ps counts h held =
    let counted = All-map (IsCounted qs) (presence_after m) ps (All-weaker (IsCounted rs) (λ p. IsCounted qs (presence_after m p)) (λ p is. counted_after m rs qs p counts is) ps h.counted) in
    record {
      present = λ k d low. ((held k d low).0, still_present m qs ps (get_or qs k d) (λ whole has. count_at whole qs k d low has) counted (held k d low).1);
      counted = All-filter has_count (IsCounted qs) (map (presence_after m) ps) counted;
    }

recounts_up : (r : Range) (rs : List Range) → Recounts (record { change = StructuredUp; range = r }) rs (r ∷ rs)
recounts_up r rs whole = elim (cases_Bool (range_contains whole r)) [
  | inl hit ↦ rw hit (omega arith)
  | inr miss ↦ rw miss refl
]

recounts_down : (r : Range) (rs : List Range) → Recounts (record { change = StructuredDown; range = r }) (r ∷ rs) rs
recounts_down r rs whole = elim (cases_Bool (range_contains whole r)) [
  | inl hit ↦ rw hit (omega arith)
  | inr miss ↦ rw miss refl
]

recounts_none : (m : Mark) (rs : List Range) → ((n : ℕ) → structured_after m.change n ≡ n) → Recounts m rs rs
recounts_none m rs same whole =
    elim (range_contains whole m.range) as (λ v. cond v (structured_after m.change (count_inside whole rs)) (count_inside whole rs) ≡ count_inside whole rs)
    [ true ↦ same (count_inside whole rs) | false ↦ refl ]

-- ## A lifetime that a mark opens

placed_present : (q : Presence) (ps : List Presence) (r : Range) → is_present ps r ≡ true → is_present (presence_inserted q ps) r ≡ true
placed_present q ps r held =
    list_any-append (λ p. range_contains p.range r) (filter (λ k. not (is_before q.range k.range)) ps) (q ∷ filter (λ k. is_before q.range k.range) ps)
    ∙ parted ps (range_contains q.range r) held
  where
    parted : (ps : List Presence) (b : Bool) → is_present ps r ≡ true
        → (is_present (filter (λ k. not (is_before q.range k.range)) ps) r || (b || is_present (filter (λ k. is_before q.range k.range) ps) r)) ≡ true
    parted [] b held = absurd cc
    parted (p ∷ ps) b held =
        let before = is_present (filter (λ k. not (is_before q.range k.range)) ps) r in
        let behind = is_present (filter (λ k. is_before q.range k.range) ps) r in
        elim (cases_Bool (is_before q.range p.range)) [
          | inl later ↦ elim (cases_Bool (range_contains p.range r)) [
            | inl has ↦ rw (later, has) (or_right before (b || true) (or_right b true refl))
            | inr misses ↦ rw (later, misses) (parted ps b (rw misses at held))
          ]
          | inr earlier ↦ elim (cases_Bool (range_contains p.range r)) [
            | inl has ↦ rw (earlier, has) refl
            | inr misses ↦ rw (earlier, misses) (parted ps b (rw misses at held))
          ]
        ]

placed_itself : (q : Presence) (ps : List Presence) → is_present (presence_inserted q ps) q.range ≡ true
placed_itself q ps =
    let before = filter (λ k. not (is_before q.range k.range)) ps in
    let behind = filter (λ k. is_before q.range k.range) ps in
    list_any-append (λ p. range_contains p.range q.range) before (q ∷ behind)
    ∙ or_right (is_present before q.range) (range_contains q.range q.range || is_present behind q.range)
    (or_left (range_contains q.range q.range) (is_present behind q.range) (range_contains_itself q.range))

All-placed : (P : Presence → Type 0) (q : Presence) (ps : List Presence) → P q → All P ps → All P (presence_inserted q ps)
All-placed P q ps here all =
    let before = filter (λ (k : Presence). not (is_before q.range k.range)) ps in
    let behind = filter (λ (k : Presence). is_before q.range k.range) ps in
    All-append P before (q ∷ behind) (All-filter (λ k. not (is_before q.range k.range)) P ps all)
    (All-cons P q behind here (All-filter (λ k. is_before q.range k.range) P ps all))

-- a range that is apart from another contains nothing of it
apart_inside : (a r x : Range) → range_contains a x ≡ true → range_overlaps a r ≡ false → 0 < x.len → range_contains r x ≡ false
unfolding range_contains range_overlaps
apart_inside a r x has apart cells = grind (arith, nat_tests, has, apart, cells)

none_of : (ps : List Presence) (r x : Range) → overlaps_any ps r ≡ false → IsHeld ps x → range_contains r x ≡ false
none_of [] r x apart held = absurd (cc)
none_of (p ∷ ps) r x apart held =
    let parts = or_parts (range_overlaps p.range r) (overlaps_any ps r) apart in
    elim (cases_Bool (range_contains p.range x)) [
      | inl has ↦ apart_inside p.range r x has parts.0 held.0
      | inr misses ↦ none_of ps r x parts.1 (held.0, rw misses at held.1)
    ]

none_inside : (rs : List Range) (ps : List Presence) (r : Range) → overlaps_any ps r ≡ false → All (IsHeld ps) rs → count_inside r rs ≡ 0
none_inside [] ps r apart held = refl
none_inside (x ∷ rs) ps r apart held =
    let miss = none_of ps r x apart (All-head (IsHeld ps) x rs held) in
    count-miss r x rs miss ∙ none_inside rs ps r apart (All-tail (IsHeld ps) x rs held)

counted_beside : (r : Range) (rs : List Range) (ps : List Presence) → is_present ps r ≡ false → All (IsCounted rs) ps → All (IsCounted (r ∷ rs)) ps
counted_beside r rs [] absent counted = All-nil (IsCounted (r ∷ rs))
counted_beside r rs (p ∷ ps) absent counted =
    let parts = or_parts (range_contains p.range r) (is_present ps r) absent in
    All-cons (IsCounted (r ∷ rs)) p ps (All-head (IsCounted rs) p ps counted ∙ sym (count-miss p.range r rs parts.0)) (counted_beside r rs ps parts.1 (All-tail (IsCounted rs) p ps counted))

-- ## One item

-- a region that enters a range
entered_up : (r : Range) (b : ℕ) (rs : List Range) (ps : List Presence) → is_table ps ≡ true → 0 < r.len → is_partly_present ps r ≡ false → IsEnteredBy rs ps
    → IsEnteredBy (r ∷ rs) (presences_after (record { change = StructuredUp; range = r }) b ps)
entered_up r b rs ps t cells whole h =
    let m : Mark = record { change = StructuredUp; range = r } in
    elim (cases_Bool (is_present ps r)) [
      | inl held ↦ rw (← stays m b ps held) (entered_kept m rs (r ∷ rs) ps (recounts_up r rs) h (All-cons (IsHeld ps) r rs (cells, held) h.present))
      | inr absent ↦
          let q = opening m b in
          let none = none_inside rs ps r (no_overlap ps r absent whole) h.present in
          let one : q.s ≡ count_inside r (r ∷ rs) = omega (arith, count-hit r r rs (range_contains_itself r), none) in
          rw (absent, kept_none m ps t absent) (record {
            present = All-cons (IsHeld (presence_inserted q ps)) r rs (cells, placed_itself q ps)
                (All-weaker (IsHeld ps) (IsHeld (presence_inserted q ps)) (λ x held. (held.0, placed_present q ps x held.1)) rs h.present);
            counted = All-placed (IsCounted (r ∷ rs)) q ps one (counted_beside r rs ps absent h.counted);
          })
    ]

-- one that leaves it
entered_end : (r : Range) (b : ℕ) (rs : List Range) (ps : List Presence) → IsEnteredBy (r ∷ rs) ps → IsEnteredBy rs (presences_after (record { change = StructuredDown; range = r }) b ps)
entered_end r b rs ps h =
    entered_kept (record { change = StructuredDown; range = r }) (r ∷ rs) rs ps (recounts_down r rs) h (All-tail (IsHeld ps) r rs h.present)

-- `enter data`
entered_enter : (r : Range) (b : ℕ) (rs : List Range) (ps : List Presence) → is_table ps ≡ true → 0 < r.len → is_partly_present ps r ≡ false → IsEnteredBy rs ps
    → IsEnteredBy rs (presences_after (record { change = DynamicUp; range = r }) b ps)
entered_enter r b rs ps t cells whole h =
    let m : Mark = record { change = DynamicUp; range = r } in
    elim (cases_Bool (is_present ps r)) [
      | inl held ↦ rw (← stays m b ps held) (entered_kept m rs rs ps (recounts_none m rs (λ n. refl)) h h.present)
      | inr absent ↦
          let q = opening m b in
          rw (absent, kept_none m ps t absent) (record {
            present = All-weaker (IsHeld ps) (IsHeld (presence_inserted q ps)) (λ x held. (held.0, placed_present q ps x held.1)) rs h.present;
            counted = All-placed (IsCounted rs) q ps (sym (none_inside rs ps r (no_overlap ps r absent whole) h.present)) h.counted;
          })
    ]

-- `exit data`, with `finalize` and without
entered_exit : (finalize : Bool) (r : Range) (b : ℕ) (rs : List Range) (ps : List Presence) → IsEnteredBy rs ps → IsEnteredBy rs (presences_after (mark_by (exit_by finalize) r) b ps)
entered_exit true r b rs ps h = (let m = mark_by DynamicZero r in entered_kept m rs rs ps (recounts_none m rs (λ n. refl)) h h.present)
entered_exit false r b rs ps h = (let m = mark_by DynamicDown r in entered_kept m rs rs ps (recounts_none m rs (λ n. refl)) h h.present)

-- a table stays one
pub table_by : (capacity : ℕ) (change : Option Change) (ps : List Presence) (r : Range) (b : ℕ) → is_table ps ≡ true → IsFine capacity change ps r → is_table (presences_by change r b ps) ≡ true
table_by capacity None ps r b t fine = t
table_by capacity (Some made) ps r b t fine = is_table-after (mark_by made r) b ps t fine.cells fine.whole

-- ## All items

entered_loop : (capacity : ℕ) (kernel : Looped) (h : Holding) (items : List DataItem) (rs : List Range) → is_table h.presences ≡ true → AllFine capacity (Loop kernel) h items → IsEnteredBy rs h.presences
    → IsEnteredBy (ranges_of items ++ rs) (holding_after_all (Loop kernel) h items).presences
unfolding holding_after
entered_loop capacity kernel h [] rs t fine in_all = in_all
entered_loop capacity kernel h (i ∷ is) rs t fine in_all =
    let b = h.opened + 1 in
    let next = holding_after (Some StructuredUp) i.range h in
    let one = entered_up i.range b rs h.presences t fine.0.cells fine.0.whole in_all in
    let all = entered_loop capacity kernel next is (i.range ∷ rs) (table_by capacity (Some StructuredUp) h.presences i.range b t fine.0) fine.1 one in
    entered_turned (ranges_of is) (i.range ∷ []) rs (holding_after_all (Loop kernel) next is).presences all

-- an item that a region enters, or one that takes no action
abbrev EntersOne : Option Change → Type 0
EntersOne None = Unit {0}
EntersOne (Some change) = change ≡ StructuredUp

data_enters : (ps : List Presence) (i : DataItem) → EntersOne (change_in Data ps i)
data_enters ps i = elim (acts_if_present Data i.clause && not (is_present ps i.range)) as (λ b. EntersOne (cond b None (Some StructuredUp))) [ true ↦ tt | false ↦ refl ]

entered_one : (capacity : ℕ) (change : Option Change) (i : DataItem) (b : ℕ) (rs : List Range) (ps : List Presence) → EntersOne change → is_table ps ≡ true → IsFine capacity change ps i.range → IsEnteredBy rs ps
    → IsEnteredBy (ranges_of (counted_with change i []) ++ rs) (presences_by change i.range b ps)
entered_one capacity None i b rs ps enters t fine h = h
entered_one capacity (Some StructuredUp) i b rs ps enters t fine h = entered_up i.range b rs ps t fine.cells fine.whole h
entered_one capacity (Some StructuredDown) i b rs ps enters t fine h = absurd cc
entered_one capacity (Some DynamicUp) i b rs ps enters t fine h = absurd cc
entered_one capacity (Some DynamicDown) i b rs ps enters t fine h = absurd cc
entered_one capacity (Some DynamicZero) i b rs ps enters t fine h = absurd cc

counted_ranges : (change : Option Change) (i : DataItem) (items : List DataItem) (rs : List Range) → ranges_of (counted_with change i items) ++ rs ≡ ranges_of (counted_with change i []) ++ (ranges_of items ++ rs)
counted_ranges None i items rs = refl
counted_ranges (Some change) i items rs = refl

-- a region enters the ranges of the items that it counts
entered_data : (capacity : ℕ) (h : Holding) (items : List DataItem) (rs : List Range) → is_table h.presences ≡ true → AllFine capacity Data h items → IsEnteredBy rs h.presences
    → IsEnteredBy (ranges_of (counted_steps (all_marked Data h items)) ++ rs) (holding_after_all Data h items).presences
unfolding holding_after
entered_data capacity h [] rs t fine in_all = in_all
entered_data capacity h (i ∷ is) rs t fine in_all =
    let b = h.opened + 1 in
    let change = change_in Data h.presences i in
    let next = holding_with Data i h in
    let rest = counted_steps (all_marked Data next is) in
    let first = ranges_of (counted_with change i []) in
    let one = entered_one capacity change i b rs h.presences (data_enters h.presences i) t fine.0 in_all in
    let all = entered_data capacity next is (first ++ rs) (table_by capacity change h.presences i.range b t fine.0) fine.1 one in
    let turned = entered_turned (ranges_of rest) first rs (holding_after_all Data next is).presences all in
    let is_so : ranges_of (counted_steps (all_marked Data h (i ∷ is))) ++ rs ≡ first ++ (ranges_of rest ++ rs) =
    ap (λ xs. ranges_of xs ++ rs) (counted_first h i (all_marked Data next is)) ∙ counted_ranges change i rest rs in
    rw is_so turned

entered_left : (h : Holding) (items : List DataItem) (rs : List Range) → IsEnteredBy (ranges_of items ++ rs) h.presences → IsEnteredBy rs (holding_after_all EndData h items).presences
unfolding holding_after
entered_left h [] rs in_all = in_all
entered_left h (i ∷ is) rs in_all =
    entered_left (holding_after (Some StructuredDown) i.range h) is rs (entered_end i.range (h.opened + 1) (ranges_of is ++ rs) h.presences in_all)

-- a directive whose items each keep what the regions have entered
abbrev Keeps : ℕ → Kind → List Range → Type 0
Keeps capacity k rs =
    (ps : List Presence) (i : DataItem) (b : ℕ) → is_table ps ≡ true → IsFine capacity (change_in k ps i) ps i.range → IsEnteredBy rs ps
    → IsEnteredBy rs (presences_by (change_in k ps i) i.range b ps)

entered_same : (capacity : ℕ) (k : Kind) (h : Holding) (items : List DataItem) (rs : List Range) → Keeps capacity k rs → is_table h.presences ≡ true → AllFine capacity k h items → IsEnteredBy rs h.presences
    → IsEnteredBy rs (holding_after_all k h items).presences
unfolding holding_after
entered_same capacity k h [] rs keeps t fine in_all = in_all
entered_same capacity k h (i ∷ is) rs keeps t fine in_all =
    let b = h.opened + 1 in
    entered_same capacity k (holding_with k i h) is rs keeps (table_by capacity (change_in k h.presences i) h.presences i.range b t fine.0) fine.1
    (keeps h.presences i b t fine.0 in_all)

-- an exit keeps it, whether its range is present or not
exit_keeps : (capacity : ℕ) (finalize : Bool) (rs : List Range) → Keeps capacity (ExitData finalize) rs
exit_keeps capacity finalize rs ps i b t fine h =
    elim (is_present ps i.range) as (λ p. IsEnteredBy rs (presences_by (change_where (asked_item (ExitData finalize) i) p) i.range b ps))
    [ true ↦ entered_exit finalize i.range b rs ps h | false ↦ h ]

-- ## At a region's end

has_entered : (r : Range) (rs : List Range) (ps : List Presence) → IsEnteredBy (r ∷ rs) ps → IsEntered (holder ps r)
has_entered r rs ps h = by_holder (holder ps r) refl
  where
    at_holder : (qs : List Presence) (x : Presence) → All (IsCounted (r ∷ rs)) qs → holder qs r ≡ Some x → 0 < x.s
    at_holder [] x counted some = absurd cc
    at_holder (p ∷ qs) x counted some = elim (cases_Bool (range_contains p.range r)) [
      | inl has ↦
          let same : Some p ≡ Some x = rw has at some in
          let e : p ≡ x = cc in
          let is = All-head (IsCounted (r ∷ rs)) p qs counted in
          rw (← e) (omega (arith, is, count-hit p.range r rs has))
      | inr misses ↦ at_holder qs x (All-tail (IsCounted (r ∷ rs)) p qs counted) (rw misses at some)
    ]

    by_holder : (o : Option Presence) → holder ps r ≡ o → IsEntered o
    by_holder None none = absurd (let absent = is_present-none ps r none in let held = (All-head (IsHeld ps) r rs h.present).1 in cc)
    by_holder (Some x) some = at_holder ps x h.counted some

all_entered : (h : Holding) (items : List DataItem) (others : List Range) → IsEnteredBy (ranges_of items ++ others) h.presences → AllEntered EndData h items
unfolding holding_after
all_entered h [] others in_all = tt
all_entered h (i ∷ is) others in_all =
    let rs = ranges_of is ++ others in (
      has_entered i.range rs h.presences in_all,
      all_entered (holding_after (Some StructuredDown) i.range h) is others (entered_end i.range (h.opened + 1) rs h.presences in_all),
    )

-- each item is inside a present range that a region has entered, in its turn
pub entered_items : (ps : List Presence) (n : ℕ) (items : List DataItem) (others : List Range) → is_table ps ≡ true → IsEnteredBy (map (λ (i : DataItem). i.range) items ++ others) ps → AllEntered EndData (holding ps n) items
entered_items ps n items others t h = all_entered (holding ps n) items others h

-- ## The open region, and the others

no_entry_needed : (k : Kind) (h : Holding) (items : List DataItem) → ((r : Range) (ps : List Presence) → HasEntered (change_by k) r ps) → AllEntered k h items
no_entry_needed k h [] free = tt
no_entry_needed k h (i ∷ is) free = (
  elim (acts_if_present k i.clause && not (is_present h.presences i.range)) as (λ b. HasEntered (cond b None (change_by k)) i.range h.presences) [ true ↦ tt | false ↦ free i.range h.presences ],
  no_entry_needed k (holding_with k i h) is free,
)

open_all : (P : Range → Type 0) (host : ℕ) (rs : List Region) (x : Region) → open_region host rs ≡ Some x → All P (entered_ranges rs) → All P (ranges_of x.items ++ entered_ranges (without_open host rs))
open_all P host [] x some all = absurd cc
open_all P host (r ∷ rs) x some all = elim (cases_Bool (r.host == host)) [
  | inl its_own ↦
      let same : Some r ≡ Some x = rw its_own at some in
      let e : r ≡ x = cc in
      rw (its_own, ← e) all
  | inr another ↦
      let first = All-before P (ranges_of r.items) (entered_ranges rs) all in
      let rest = open_all P host rs x (rw another at some) (All-behind P (ranges_of r.items) (entered_ranges rs) all) in
      rw another
      (All-append P (ranges_of x.items) (ranges_of r.items ++ entered_ranges (without_open host rs)) (All-before P (ranges_of x.items) (entered_ranges (without_open host rs)) rest)
      (All-append P (ranges_of r.items) (entered_ranges (without_open host rs)) first (All-behind P (ranges_of x.items) (entered_ranges (without_open host rs)) rest)))
]

pub open_counts : (whole : Range) (host : ℕ) (rs : List Region) (x : Region) → open_region host rs ≡ Some x
    → count_inside whole (entered_ranges rs) ≡ count_inside whole (ranges_of x.items ++ entered_ranges (without_open host rs))
open_counts whole host [] x some = absurd cc
open_counts whole host (r ∷ rs) x some = elim (cases_Bool (r.host == host)) [
  | inl its_own ↦
      let same : Some r ≡ Some x = rw its_own at some in
      let e : r ≡ x = cc in
      rw (its_own, ← e) refl
  | inr another ↦
      let others = entered_ranges (without_open host rs) in
      let ih = open_counts whole host rs x (rw another at some) in
      rw another
      (omega (
        arith,
        ih,
        count-append whole (ranges_of r.items) (entered_ranges rs),
        count-append whole (ranges_of x.items) others,
        count-turned whole (ranges_of x.items) (ranges_of r.items) others,
        count-append whole (ranges_of r.items) (ranges_of x.items ++ others),
      ))
]

entered_open : (host : ℕ) (rs : List Region) (x : Region) (ps : List Presence) → open_region host rs ≡ Some x → IsEnteredBy (entered_ranges rs) ps
    → IsEnteredBy (ranges_of x.items ++ entered_ranges (without_open host rs)) ps
entered_open host rs x ps some h =
    record {
      present = open_all (IsHeld ps) host rs x some h.present;
      counted = All-weaker (IsCounted (entered_ranges rs)) (IsCounted (ranges_of x.items ++ entered_ranges (without_open host rs))) (λ p is. is ∙ open_counts p.range host rs x some) ps h.counted;
    }

-- ## What a directive's items need, and what they leave

-- a region's end is about what the region has entered
pub entered_subject : (lengths : List ℕ) (rs : List Region) (host : ℕ) (d : Directive) (k : Kind) (ps : List Presence) (n : ℕ) → is_table ps ≡ true → IsEnteredBy (entered_ranges (regions_on (device_by rs host d k) rs)) ps
    → AllEntered k (holding ps n) (subject_by lengths rs host d k).items
entered_subject lengths rs host d Data ps n t h = no_entry_needed Data (holding ps n) d.items (λ r qs. tt)
entered_subject lengths rs host d EndData ps n t h = by_open (open_region host rs) refl h
  where
    by_open : (o : Option Region) → open_region host rs ≡ o → IsEnteredBy (entered_ranges (regions_on (subject_left d o).device rs)) ps → AllEntered EndData (holding ps n) (subject_left d o).items
    by_open None none h = tt
    by_open (Some x) some h =
        let on = regions_on x.device rs in
        entered_items ps n x.items (entered_ranges (without_open host on)) t (entered_open host on x ps (open_on x.device host rs x some (eq-eqb x.device x.device refl)) h)
entered_subject lengths rs host d EnterData ps n t h = no_entry_needed EnterData (holding ps n) d.items (λ r qs. tt)
entered_subject lengths rs host d (ExitData true) ps n t h = no_entry_needed (ExitData true) (holding ps n) d.items (λ r qs. tt)
entered_subject lengths rs host d (ExitData false) ps n t h = no_entry_needed (ExitData false) (holding ps n) d.items (λ r qs. tt)
entered_subject lengths rs host d (Update if_present) ps n t h = no_entry_needed (Update if_present) (holding ps n) d.items (λ r qs. tt)
entered_subject lengths rs host d (Loop kernel) ps n t h =
    no_entry_needed (Loop kernel) (holding ps n) (d.items ++ implicit_items lengths rs host d kernel) (λ r qs. tt)
entered_subject lengths rs host d Wait ps n t h = no_entry_needed Wait (holding ps n) d.items (λ r qs. tt)
entered_subject lengths rs host d AsyncTest ps n t h = no_entry_needed AsyncTest (holding ps n) d.items (λ r qs. tt)
entered_subject lengths rs host d IsPresent ps n t h = no_entry_needed IsPresent (holding ps n) d.items (λ r qs. tt)

-- a loop leaves at its end what it entered
pub entered_ends : (capacity : ℕ) (k : Kind) (h : Holding) (items : List DataItem) (rs : List Range) → is_table h.presences ≡ true → AllFine capacity k h items → IsEnteredBy rs h.presences
    → AllEntered EndData (holding_between k h items) (ends_of k items)
entered_ends capacity (Loop kernel) h items rs t fine in_all =
    all_entered (holding_after_all (Loop kernel) h items) items rs (entered_loop capacity kernel h items rs t fine in_all)
entered_ends capacity Data h items rs t fine in_all = tt
entered_ends capacity EndData h items rs t fine in_all = tt
entered_ends capacity EnterData h items rs t fine in_all = tt
entered_ends capacity (ExitData finalize) h items rs t fine in_all = tt
entered_ends capacity (Update if_present) h items rs t fine in_all = tt
entered_ends capacity Wait h items rs t fine in_all = tt
entered_ends capacity AsyncTest h items rs t fine in_all = tt
entered_ends capacity IsPresent h items rs t fine in_all = tt

-- and meanwhile it is present
pub held_between : (capacity : ℕ) (k : Kind) (h : Holding) (items : List DataItem) (rs : List Range) → is_table h.presences ≡ true → AllFine capacity k h items → IsEnteredBy rs h.presences
    → AllHeldFor k (holding_between k h items).presences items
held_between capacity (Loop kernel) h items rs t fine in_all =
    let ps = (holding_after_all (Loop kernel) h items).presences in
    all_held ps items (All-before (IsHeld ps) (ranges_of items) rs (entered_loop capacity kernel h items rs t fine in_all).present)
  where
    all_held : (ps : List Presence) (items : List DataItem) → All (IsHeld ps) (ranges_of items) → All (λ (i : DataItem). is_present ps i.range ≡ true) items
    all_held ps [] held = All-nil _
    all_held ps (i ∷ is) held =
        All-cons (λ (i : DataItem). is_present ps i.range ≡ true) i is (All-head (IsHeld ps) i.range (ranges_of is) held).1 (all_held ps is (All-tail (IsHeld ps) i.range (ranges_of is) held))
held_between capacity Data h items rs t fine in_all = tt
held_between capacity EndData h items rs t fine in_all = tt
held_between capacity EnterData h items rs t fine in_all = tt
held_between capacity (ExitData finalize) h items rs t fine in_all = tt
held_between capacity (Update if_present) h items rs t fine in_all = tt
held_between capacity Wait h items rs t fine in_all = tt
held_between capacity AsyncTest h items rs t fine in_all = tt
held_between capacity IsPresent h items rs t fine in_all = tt

-- what was entered is present
pub is_held : (ps : List Presence) (r : Range) → IsEntered (holder ps r) → is_present ps r ≡ true
is_held ps r entered = by_holder (holder ps r) refl entered
  where
    by_holder : (o : Option Presence) → holder ps r ≡ o → IsEntered o → is_present ps r ≡ true
    by_holder None none entered = absurd entered
    by_holder (Some p) some entered = is_present-some ps r p some

-- so what leaves is fine
pub fine_left : (capacity : ℕ) (h : Holding) (items : List DataItem) → All (λ (i : DataItem). 0 < i.range.len) items → AllEntered EndData h items → AllFine capacity EndData h items
fine_left capacity h [] cells entered = tt
fine_left capacity h (i ∷ is) cells entered = (
  record {
    cells = All-head (λ (i : DataItem). 0 < i.range.len) i is cells;
    whole = not_partly h.presences i.range (is_held h.presences i.range entered.0);
    fits = λ opens. absurd cc;
  },
  fine_left capacity (holding_after (Some StructuredDown) i.range h) is (All-tail (λ (i : DataItem). 0 < i.range.len) i is cells) entered.1,
)

-- the open regions after a directive have entered what is present then
pub entered_after : (capacity : ℕ) (lengths : List ℕ) (rs : List Region) (host : ℕ) (d : Directive) (k : Kind) (counted : List DataItem) (ps : List Presence) (n : ℕ) → is_table ps ≡ true → AllFine capacity k (holding ps n) (subject_by lengths rs host d k).items
    → (k ≡ Data → counted ≡ counted_steps (all_marked k (holding ps n) (subject_by lengths rs host d k).items))
    → IsEnteredBy (entered_ranges (regions_on (device_by rs host d k) rs)) ps
    → IsEnteredBy (entered_ranges (regions_on (device_by rs host d k) (regions_after host d k counted rs))) (holding_behind k (holding ps n) (subject_by lengths rs host d k).items).presences
entered_after capacity lengths rs host d Data counted ps n t fine counts h =
    rw (eq-eqb d.device d.device refl, counts refl) (entered_data capacity (holding ps n) d.items (entered_ranges (regions_on d.device rs)) t fine h)
entered_after capacity lengths rs host d EndData counted ps n t fine counts h = by_open (open_region host rs) refl h
  where
    by_open : (o : Option Region) → open_region host rs ≡ o → IsEnteredBy (entered_ranges (regions_on (subject_left d o).device rs)) ps
        → IsEnteredBy (entered_ranges (regions_on (subject_left d o).device (without_open host rs))) (holding_after_all EndData (holding ps n) (subject_left d o).items).presences
    by_open None none h = rw (none_without host rs none) h
    by_open (Some x) some h =
        let on = regions_on x.device rs in
        let here = eq-eqb x.device x.device refl in
        rw (← without_on x.device host rs x some here)
        (entered_left (holding ps n) x.items (entered_ranges (without_open host on)) (entered_open host on x ps (open_on x.device host rs x some here) h))
entered_after capacity lengths rs host d EnterData counted ps n t fine counts h =
    entered_same capacity EnterData (holding ps n) d.items (entered_ranges (regions_on d.device rs)) (λ qs i b u f g. entered_enter i.range b (entered_ranges (regions_on d.device rs)) qs u f.cells f.whole g) t fine h
entered_after capacity lengths rs host d (ExitData finalize) counted ps n t fine counts h =
    entered_same capacity (ExitData finalize) (holding ps n) d.items (entered_ranges (regions_on d.device rs)) (exit_keeps capacity finalize (entered_ranges (regions_on d.device rs))) t fine h
entered_after capacity lengths rs host d (Update if_present) counted ps n t fine counts h =
    entered_same capacity (Update if_present) (holding ps n) d.items (entered_ranges (regions_on d.device rs)) (λ qs i b u f g. g) t fine h
entered_after capacity lengths rs host d (Loop kernel) counted ps n t fine counts h =
    let items = d.items ++ implicit_items lengths rs host d kernel in
    entered_left (holding_after_all (Loop kernel) (holding ps n) items) items (entered_ranges (regions_on d.device rs)) (entered_loop capacity kernel (holding ps n) items (entered_ranges (regions_on d.device rs)) t fine h)
entered_after capacity lengths rs host d Wait counted ps n t fine counts h = entered_same capacity Wait (holding ps n) d.items (entered_ranges (regions_on d.device rs)) (λ qs i b u f g. g) t fine h
entered_after capacity lengths rs host d AsyncTest counted ps n t fine counts h = entered_same capacity AsyncTest (holding ps n) d.items (entered_ranges (regions_on d.device rs)) (λ qs i b u f g. g) t fine h
entered_after capacity lengths rs host d IsPresent counted ps n t fine counts h = entered_same capacity IsPresent (holding ps n) d.items (entered_ranges (regions_on d.device rs)) (λ qs i b u f g. g) t fine h

-- ## The open region is one of them, and the others stay

pub open_has : (P : Region → Type 0) (host : ℕ) (rs : List Region) (x : Region) → open_region host rs ≡ Some x → All P rs → P x
open_has P host [] x some all = absurd cc
open_has P host (r ∷ rs) x some all = elim (cases_Bool (r.host == host)) [
  | inl its_own ↦
      let same : Some r ≡ Some x = rw its_own at some in
      let e : r ≡ x = cc in
      rw (← e) (All-head P r rs all)
  | inr another ↦ open_has P host rs x (rw another at some) (All-tail P r rs all)
]

pub without_all : (P : Region → Type 0) (host : ℕ) (rs : List Region) → All P rs → All P (without_open host rs)
without_all P host [] all = all
without_all P host (r ∷ rs) all =
    let first = All-head P r rs all in
    let rest = All-tail P r rs all in
    elim (cases_Bool (r.host == host)) [
      | inl its_own ↦ rw its_own rest
      | inr another ↦ rw another (All-cons P r (without_open host rs) first (without_all P host rs rest))
    ]

-- every region is on a device that is there, after a directive on such a one
pub there_after : (config : Configuration) (host : ℕ) (d : Directive) (k : Kind) (counted : List DataItem) (rs : List Region) → d.device < config.devices → All (IsThere config) rs → All (IsThere config) (regions_after host d k counted rs)
there_after config host d Data counted rs low all = All-cons (IsThere config) (region_of host d counted) rs low all
there_after config host d EndData counted rs low all = without_all (IsThere config) host rs all
there_after config host d EnterData counted rs low all = all
there_after config host d (ExitData finalize) counted rs low all = all
there_after config host d (Update if_present) counted rs low all = all
there_after config host d (Loop kernel) counted rs low all = all
there_after config host d Wait counted rs low all = all
there_after config host d AsyncTest counted rs low all = all
there_after config host d IsPresent counted rs low all = all

-- and so is the device where the directive acts
pub there_device : (config : Configuration) (host : ℕ) (d : Directive) (k : Kind) (rs : List Region) → d.device < config.devices → All (IsThere config) rs → device_by rs host d k < config.devices
there_device config host d Data rs low all = low
there_device config host d EndData rs low all = by_open (open_region host rs) refl
  where
    by_open : (o : Option Region) → open_region host rs ≡ o → (subject_left d o).device < config.devices
    by_open None none = low
    by_open (Some x) some = open_has (IsThere config) host rs x some all
there_device config host d EnterData rs low all = low
there_device config host d (ExitData finalize) rs low all = low
there_device config host d (Update if_present) rs low all = low
there_device config host d (Loop kernel) rs low all = low
there_device config host d Wait rs low all = low
there_device config host d AsyncTest rs low all = low
there_device config host d IsPresent rs low all = low
