-- What a draft shows: the changed presences that have a count, and those beside them in the table.
use Rattle.std.proofs.Common.{◌≡◌, ℕ, ◌+◌, ◌<◌, Bool, true, false, cond, List, [], ◌∷◌, ◌++◌, length, map, get_or, Option, Some, None, refl, sym, ap, ◌∙◌, arith, inl, inr, ◌≤◌}
use Rattle.std.specs.Prelude.{◌&&◌, ◌||◌, not, filter, remove, slice_get, sum_by, nat_lt, find, ◌⊎◌, if◌then◌else◌}
use Rattle.std.specs.List.{list_any, position_or_len}
use Rattle.std.specs.Option.{option_map, option_and_then, option_or}
use Rattle.std.proofs.Math.Bool.{and-true, or-false}
use Rattle.std.proofs.lemmas.Bool.{cases_Bool, ltb-false, and_parts, not-true, or_parts}
use Rattle.std.proofs.lemmas.List.Filters.{sum_by-filter_both}
use Rattle.std.proofs.lemmas.List.{length-map}
use Rattle.std.proofs.lemmas.List.Folds.{find_at, list_any-append, find-append}
use Rattle.std.proofs.lemmas.List.Sums.{sum_by-cons, sum_by-append, sum_by-remove, get_or-le-sum_by}
use Rattle.std.proofs.lemmas.Option.{slice_get-map, slice_get_past, slice_get_cases}
use Rattle.acc_base.specs.declared.range.Range.{Range}
use Rattle.acc_base.specs.Ranges.{range_contains, range_overlaps}
use Rattle.acc_present.specs.declared.held.Held.{Held}
use Rattle.acc_present.specs.Lifetimes.{is_before}
use Rattle.acc_present.specs.declared.held.Found.{Found}
use Rattle.acc_present.specs.declared.held.Found.TheVariants.{Absent, Partly}
use Rattle.acc_present.specs.Presences.{Presence, holder, is_present, is_partly_present, overlaps_any}
use Rattle.acc_present.specs.Tables.{IsFound, held_presence, has_count, is_table, presence_inserted}
use Rattle.acc_present.specs.Drafts.{beside, counted_inserted, with_changed}
use Rattle.acc_present.proofs.SamePresences.{Alike, stands_in, one_at, one_at-self, any_alike, tables_alike}
use Rattle.acc_present.proofs.PresencesAfter.{found_in}
use Rattle.acc_present.proofs.Presences.{filter_all}
use Rattle.acc_present.proofs.TableOrder.{is_table-remove}
use Rattle.acc_present.proofs.Holder.{is_present-none}
use Rattle.acc_present.proofs.TableFilter.{placed_back, none_from_absent, holder_at, is_table-filter, holder-filter_none, holder-filter_some}

abbrev pub counted_and_beside : List Presence → List Presence → List Presence
counted_and_beside cs ps = filter has_count cs ++ beside cs ps

sum_by-placed : (f : Presence → ℕ) (p : Presence) (ps : List Presence) → sum_by f (presence_inserted p ps) ≡ f p + sum_by f ps
sum_by-placed f p ps =
    let behind = filter (λ (k : Presence). is_before p.range k.range) ps in
    let before = filter (λ (k : Presence). not (is_before p.range k.range)) ps in
    omega (arith, sum_by-append f before (p ∷ behind), sum_by-cons f p behind, sum_by-filter_both (λ (k : Presence). is_before p.range k.range) (λ (k : Presence). not (is_before p.range k.range)) (λ _. refl) f ps)

sum_by-counted_placed : (f : Presence → ℕ) (cs ps : List Presence) → sum_by f (counted_inserted cs ps) ≡ sum_by f (filter has_count cs) + sum_by f ps
sum_by-counted_placed f [] ps = omega arith
sum_by-counted_placed f (c ∷ cs) ps =
    let ih = sum_by-counted_placed f cs ps in
    elim (cases_Bool (has_count c)) [
      | inl counted ↦ rw counted (omega (arith, ih, sum_by-placed f c (counted_inserted cs ps), sum_by-cons f c (filter has_count cs)))
      | inr over ↦ rw over ih
    ]

pub drafted_sums : (cs ps : List Presence) → Alike (with_changed cs ps) (counted_and_beside cs ps)
unfolding with_changed
drafted_sums cs ps = record { sums = λ f. sum_by-counted_placed f cs (beside cs ps) ∙ sym (sum_by-append f (filter has_count cs) (beside cs ps)) }

placed_alike : (cs ps qs : List Presence) → is_table ps ≡ true → is_table qs ≡ true → Alike qs (filter has_count cs ++ ps) → counted_inserted cs ps ≡ qs
placed_alike [] ps qs t u a = sym (tables_alike qs ps u t a)
placed_alike (c ∷ cs) ps qs t u a = elim (cases_Bool (has_count c)) [
  | inl counted ↦ rw counted (with_one (λ others v b. placed_alike cs ps others t v b) (rw counted at a))
  | inr over ↦ rw over (placed_alike cs ps qs t u (rw over at a))
]
  where
    with_one : ((others : List Presence) → is_table others ≡ true → Alike others (filter has_count cs ++ ps) → counted_inserted cs ps ≡ others) → Alike qs (c ∷ filter has_count cs ++ ps)
        → presence_inserted c (counted_inserted cs ps) ≡ qs
    with_one ih a =
        let rest = filter has_count cs ++ ps in
        let s = stands_in qs c (omega (arith, a.sums (one_at c), sum_by-cons (one_at c) c rest, one_at-self c)) in
        let without : Alike (remove qs s.index) rest = record { sums = λ f. omega (arith, a.sums f, sum_by-cons f c rest, sum_by-remove f qs s.index c s.low, ap f s.is) } in
        ap (presence_inserted c) (ih (remove qs s.index) (is_table-remove qs s.index u) without) ∙ placed_back qs s.index c u s.low s.is

-- a table of the presences that a draft shows is what it shows
pub drafted_is : (cs ps qs : List Presence) → is_table ps ≡ true → is_table qs ≡ true → Alike qs (counted_and_beside cs ps) → with_changed cs ps ≡ qs
unfolding with_changed
drafted_is cs ps qs t u a = placed_alike cs (beside cs ps) qs (is_table-filter (λ p. not (overlaps_any cs p.range)) ps t) u a

-- ## What is found

pub any_drafted : (t : Presence → Bool) (cs ps : List Presence) → list_any t (with_changed cs ps) ≡ (list_any t (filter has_count cs) || list_any t (beside cs ps))
any_drafted t cs ps = any_alike t (with_changed cs ps) (counted_and_beside cs ps) (drafted_sums cs ps) ∙ list_any-append t (filter has_count cs) (beside cs ps)

holder-alike : (xs ys : List Presence) (r : Range) → is_table xs ≡ true → 0 < r.len → Alike xs ys → holder xs r ≡ holder ys r
holder-alike xs ys r t cells a = by_holder (holder ys r) refl
  where
    by_holder : (o : Option Presence) → holder ys r ≡ o → holder xs r ≡ o
    by_holder None none = none_from_absent xs r (any_alike (λ p. range_contains p.range r) xs ys a ∙ is_present-none ys r none)
    by_holder (Some x) some =
        let f = found_in ys r x some in
        let s = stands_in xs x (omega (arith, a.sums (one_at x), get_or-le-sum_by (one_at x) ys f.index x f.low, ap (one_at x) f.is, one_at-self x)) in
        holder_at xs s.index x r t s.low s.is cells f.has

-- the presence that a range is part of is a changed one, or else one beside them
pub holder_drafted : (cs ps : List Presence) (r : Range) → is_table (with_changed cs ps) ≡ true → 0 < r.len → holder (with_changed cs ps) r ≡ option_or (holder (filter has_count cs) r) (holder (beside cs ps) r)
holder_drafted cs ps r t cells =
    holder-alike (with_changed cs ps) (counted_and_beside cs ps) r t cells (drafted_sums cs ps) ∙ find-append (λ (p : Presence). range_contains p.range r) (filter has_count cs) (beside cs ps)

pub held_changed : (cs ps : List Presence) (r : Range) (i : ℕ) → is_table (with_changed cs ps) ≡ true → 0 < r.len → i < length cs → slice_get cs i ≡ holder (filter has_count cs) r
    → slice_get cs i ≡ holder (with_changed cs ps) r
held_changed cs ps r i t cells low held = by_case (slice_get_cases cs i).1
  where
    by_case : ((x : Presence) × (i < length cs) × (slice_get cs i ≡ Some x) × (get_or cs i x ≡ x)) ⊎ ((length cs ≤ i) × (slice_get cs i ≡ None)) → slice_get cs i ≡ holder (with_changed cs ps) r
    by_case (inl h) =
        let some : holder (filter has_count cs) r ≡ Some h.0 = sym held ∙ h.2 in
        h.2 ∙ sym (holder_drafted cs ps r t cells ∙ ap (λ o. option_or o (holder (beside cs ps) r)) some)
    by_case (inr h) = absurd (omega (arith, h.0, low))

pub held_beside : (cs ps : List Presence) (r : Range) (o : Option Presence) → is_table (with_changed cs ps) ≡ true → 0 < r.len → None ≡ holder (filter has_count cs) r → o ≡ holder (beside cs ps) r
    → o ≡ holder (with_changed cs ps) r
held_beside cs ps r o t cells none is =
    sym (holder_drafted cs ps r t cells ∙ (ap (λ v. option_or v (holder (beside cs ps) r)) (sym none) ∙ sym is))

-- so where it is part of no changed one, what holds it stands beside them
pub beside_found : (cs ps : List Presence) (r : Range) (o : Option Presence) → is_table (with_changed cs ps) ≡ true → 0 < r.len → None ≡ holder (filter has_count cs) r → holder (with_changed cs ps) r ≡ o
    → o ≡ holder (beside cs ps) r
beside_found cs ps r o t cells none found =
    sym found ∙ (holder_drafted cs ps r t cells ∙ ap (λ v. option_or v (holder (beside cs ps) r)) (sym none))

-- ## Beside the changed ones

pub beside_all : (ps : List Presence) → with_changed [] ps ≡ ps
unfolding with_changed
beside_all ps = filter_all ps

pub beside_none : (cs ps : List Presence) (r : Range) → holder ps r ≡ None → holder (beside cs ps) r ≡ None
beside_none cs ps r none = holder-filter_none (λ (p : Presence). not (overlaps_any cs p.range)) ps r none

pub beside_hidden : (cs ps : List Presence) (r : Range) (x : Presence) → is_table ps ≡ true → 0 < r.len → holder ps r ≡ Some x → overlaps_any cs x.range ≡ true → holder (beside cs ps) r ≡ None
beside_hidden cs ps r x t cells some met =
    holder-filter_some (λ (p : Presence). not (overlaps_any cs p.range)) ps r x t cells some ∙ ap (λ b. cond (not b) (Some x) None) met

pub beside_seen : (cs ps : List Presence) (r : Range) (x : Presence) → is_table ps ≡ true → 0 < r.len → holder ps r ≡ Some x → overlaps_any cs x.range ≡ false → holder (beside cs ps) r ≡ Some x
beside_seen cs ps r x t cells some apart =
    holder-filter_some (λ (p : Presence). not (overlaps_any cs p.range)) ps r x t cells some ∙ ap (λ b. cond (not b) (Some x) None) apart

any-filter_none : (t p : Presence → Bool) (ps : List Presence) → list_any t ps ≡ false → list_any t (filter p ps) ≡ false
any-filter_none t p [] none = refl
any-filter_none t p (x ∷ ps) none =
    let parts = or_parts (t x) (list_any t ps) none in
    let ih = any-filter_none t p ps parts.1 in
    elim (cases_Bool (p x)) [
      | inl kept ↦ rw (kept, parts.0) ih
      | inr gone ↦ rw gone ih
    ]

-- a range that overlaps nothing in the table overlaps only what was changed
pub overlaps_changed : (cs ps : List Presence) (r : Range) → overlaps_any ps r ≡ false → overlaps_any (with_changed cs ps) r ≡ overlaps_any (filter has_count cs) r
overlaps_changed cs ps r apart =
    let met : Presence → Bool = λ p. range_overlaps p.range r in
    any_drafted met cs ps
    ∙ (ap (λ b. overlaps_any (filter has_count cs) r || b) (any-filter_none met (λ p. not (overlaps_any cs p.range)) ps apart) ∙ or-false (overlaps_any (filter has_count cs) r))

-- ## A range that none contains

pub none_seen : (ps : List Presence) (r : Range) → is_partly_present ps r ≡ true → holder ps r ≡ None
none_seen ps r partly = none_from_absent ps r (not-true (is_present ps r) (and_parts (overlaps_any ps r) (not (is_present ps r)) partly).1)

pub apart_seen : (ps : List Presence) (r : Range) → holder ps r ≡ None → is_partly_present ps r ≡ false → overlaps_any ps r ≡ false
apart_seen ps r none whole = sym (rw (is_present-none ps r none) (and-true (overlaps_any ps r))) ∙ whole

pub none_looked : (ps : List Presence) (r : Range) (overlaps : Bool) (l : Found) → holder ps r ≡ None → overlaps ≡ overlaps_any ps r → l ≡ (if overlaps then Partly else Absent) → IsFound ps r l
none_looked ps r true l none overlaps is = rw (is, is_present-none ps r none, ← overlaps) refl
none_looked ps r false l none overlaps is = rw is (none, rw (is_present-none ps r none, ← overlaps) refl)

-- ## Over the changed entries

pub overlaps_any-counted : (es : List Held) (r : Range) → overlaps_any (filter has_count (map held_presence es)) r ≡ list_any (λ e. has_count (held_presence e) && range_overlaps e.range r) es
overlaps_any-counted [] r = refl
overlaps_any-counted (e ∷ es) r =
    let ih = overlaps_any-counted es r in
    elim (cases_Bool (has_count (held_presence e))) [
      | inl counted ↦ rw counted (ap (λ b. range_overlaps e.range r || b) ih)
      | inr over ↦ rw over ih
    ]

abbrev pub holds_counted : Range → Held → Bool
holds_counted r e = has_count (held_presence e) && range_contains e.range r

holder-counted : (es : List Held) (r : Range) → holder (filter has_count (map held_presence es)) r ≡ option_map held_presence (find (λ e. has_count (held_presence e) && range_contains e.range r) es)
holder-counted [] r = refl
holder-counted (e ∷ es) r =
    let ih = holder-counted es r in
    elim (cases_Bool (has_count (held_presence e))) [
      | inl counted ↦ elim (cases_Bool (range_contains e.range r)) [
        | inl has ↦ rw (counted, has) refl
        | inr misses ↦ rw (counted, misses) ih
      ]
      | inr over ↦ rw over ih
    ]

-- the first changed entry with a count that contains a range, by its index
pub counted_at_first : (es : List Held) (r : Range) (o : Option ℕ) → o ≡ cond (nat_lt (position_or_len (holds_counted r) es) (length es)) (Some (position_or_len (holds_counted r) es)) None
    → option_and_then (slice_get (map held_presence es)) o ≡ holder (filter has_count (map held_presence es)) r
counted_at_first es r o is =
    let k = position_or_len (holds_counted r) es in
    let found : holder (filter has_count (map held_presence es)) r ≡ slice_get (map held_presence es) k =
    holder-counted es r ∙ (ap (option_map held_presence) (find_at (holds_counted r) es) ∙ sym (slice_get-map held_presence es k)) in
    ap (option_and_then (slice_get (map held_presence es))) is
    ∙ (elim (cases_Bool (nat_lt k (length es))) [
      | inl within ↦ rw within refl
      | inr past ↦ rw past (sym (slice_get_past (map held_presence es) k (omega (arith, ltb-false k (length es) past, length-map es held_presence))))
    ] ∙ sym found)
