-- One presence of a table and the others, and a part of a table.
use Rattle.std.proofs.Common.{◌≡◌, ℕ, zero, suc, ◌<◌, Bool, true, false, cond, List, [], ◌∷◌, length, get_or, Option, Some, None, refl, sym, ap, ◌∙◌, arith, inl, inr}
use Rattle.std.specs.Prelude.{not, filter, remove, nat_lt, is_some}
use Rattle.std.proofs.lemmas.Bool.{cases_Bool, and_parts, and_from, or_parts}
use Rattle.std.proofs.lemmas.Bool.Decides.{nat_tests}
use Rattle.acc_base.specs.declared.range.Range.{Range}
use Rattle.acc_base.specs.Ranges.{range_contains, range_overlaps}
use Rattle.acc_present.specs.Lifetimes.{is_before}
use Rattle.acc_present.specs.Presences.{Presence, holder, is_present, overlaps_any}
use Rattle.acc_present.specs.Tables.{is_table, ends_before, ends_before_all, presence_inserted}
use Rattle.acc_present.proofs.KeptAfter.{apart_first, apart_second}
use Rattle.acc_present.proofs.PresenceInserted.{inserted, inserted_is_placed}
use Rattle.acc_present.proofs.TableOrder.{table_parts, table_from, ends_before_at, is_table-remove}
use Rattle.acc_present.proofs.Holder.{is_present-holder}

-- ## One, and the others

apart_met_first : (a b : Range) → ends_before a b ≡ true → range_overlaps a b ≡ false
unfolding range_overlaps
apart_met_first a b h = grind (arith, nat_tests, h)

apart_met_second : (a b : Range) → ends_before a b ≡ true → range_overlaps b a ≡ false
unfolding range_overlaps
apart_met_second a b h = grind (arith, nat_tests, h)

meets_itself : (a : Range) → nat_lt 0 a.len ≡ true → range_overlaps a a ≡ true
unfolding range_overlaps
meets_itself a some = grind (arith, nat_tests, some)

pub meets_back : (a b : Range) → range_overlaps a b ≡ range_overlaps b a
unfolding range_overlaps
meets_back a b = grind (arith, nat_tests)

begins_before : (a b : Range) → ends_before a b ≡ true → nat_lt 0 a.len ≡ true → is_before a b ≡ true
unfolding is_before
begins_before a b h cells = grind (arith, nat_tests, h, cells)

begins_not_before : (a b : Range) → ends_before a b ≡ true → nat_lt 0 a.len ≡ true → is_before b a ≡ false
unfolding is_before
begins_not_before a b h cells = grind (arith, nat_tests, h, cells)

inserted_first : (p : Presence) (ps : List Presence) → ends_before_all p.range ps ≡ true → nat_lt 0 p.range.len ≡ true → inserted p ps ≡ p ∷ ps
inserted_first p [] h cells = refl
inserted_first p (x ∷ xs) h cells =
    let parts = and_parts (ends_before p.range x.range) (ends_before_all p.range xs) h in
    rw (begins_before p.range x.range parts.0 cells) refl

inserted_back : (ps : List Presence) (i : ℕ) (x : Presence) → is_table ps ≡ true → i < length ps → x ≡ get_or ps i x → inserted x (remove ps i) ≡ ps
inserted_back [] i x t low is = absurd (omega arith)
inserted_back (p ∷ ps) zero x t low is =
    let parts = table_parts p ps t in
    ap (λ z. inserted z ps) is ∙ inserted_first p ps parts.first parts.cells
inserted_back (p ∷ ps) (suc i) x t low is =
    let parts = table_parts p ps t in
    let apart = ends_before_at p.range ps i x parts.first (omega arith) is in
    rw (begins_not_before p.range x.range apart parts.cells) (ap (λ r. p ∷ r) (inserted_back ps i x parts.others (omega arith) is))

-- a presence that is taken out of a table is set back at its index
pub placed_back : (ps : List Presence) (i : ℕ) (x : Presence) → is_table ps ≡ true → i < length ps → x ≡ get_or ps i x → presence_inserted x (remove ps i) ≡ ps
placed_back ps i x t low is = sym (inserted_is_placed x (remove ps i) (is_table-remove ps i t)) ∙ inserted_back ps i x t low is

pub none_from_absent : (ps : List Presence) (r : Range) → is_present ps r ≡ false → holder ps r ≡ None
none_from_absent ps r absent = last (holder ps r) (sym (is_present-holder ps r) ∙ absent)
  where
    last : (o : Option Presence) → is_some o ≡ false → o ≡ None
    last None h = refl
    last (Some x) h = cc

-- of a table, only the presence at the index contains a range that it contains
pub holder_at : (ps : List Presence) (i : ℕ) (x : Presence) (r : Range) → is_table ps ≡ true → i < length ps → x ≡ get_or ps i x → 0 < r.len → range_contains x.range r ≡ true → holder ps r ≡ Some x
holder_at [] i x r t low is cells has = absurd (omega arith)
holder_at (p ∷ ps) zero x r t low is cells has =
    let here : range_contains p.range r ≡ true = rw (← is) has in
    rw here (ap (λ z. Some z) (sym is))
holder_at (p ∷ ps) (suc i) x r t low is cells has =
    let parts = table_parts p ps t in
    let apart = ends_before_at p.range ps i x parts.first (omega arith) is in
    rw (apart_second p.range x.range r apart cells has) (holder_at ps i x r parts.others (omega arith) is cells has)

-- all behind a range don't overlap it
kept_behind : (a : Range) (ps : List Presence) → ends_before_all a ps ≡ true → filter (λ p. not (range_overlaps a p.range)) ps ≡ ps
kept_behind a [] h = refl
kept_behind a (p ∷ ps) h =
    let parts = and_parts (ends_before a p.range) (ends_before_all a ps) h in
    rw (apart_met_first a p.range parts.0) (ap (λ r. p ∷ r) (kept_behind a ps parts.1))

-- what one of a table overlaps of it is that one
pub kept_but_one : (ps : List Presence) (i : ℕ) (x : Presence) → is_table ps ≡ true → i < length ps → x ≡ get_or ps i x → filter (λ p. not (range_overlaps x.range p.range)) ps ≡ remove ps i
kept_but_one [] i x t low is = absurd (omega arith)
kept_but_one (p ∷ ps) zero x t low is =
    let parts = table_parts p ps t in
    ap (λ (z : Presence). filter (λ (k : Presence). not (range_overlaps z.range k.range)) (p ∷ ps)) is
    ∙ rw (meets_itself p.range parts.cells) (kept_behind p.range ps parts.first)
kept_but_one (p ∷ ps) (suc i) x t low is =
    let parts = table_parts p ps t in
    let apart = ends_before_at p.range ps i x parts.first (omega arith) is in
    rw (apart_met_second p.range x.range apart) (ap (λ r. p ∷ r) (kept_but_one ps i x parts.others (omega arith) is))

pub kept_apart : (x : Range) (ps : List Presence) → overlaps_any ps x ≡ false → filter (λ p. not (range_overlaps x p.range)) ps ≡ ps
kept_apart x [] h = refl
kept_apart x (p ∷ ps) h =
    let parts = or_parts (range_overlaps p.range x) (overlaps_any ps x) h in
    let apart = meets_back x p.range ∙ parts.0 in
    rw apart (ap (λ r. p ∷ r) (kept_apart x ps parts.1))

-- ## A part

ends_before_all-filter : (t : Presence → Bool) (a : Range) (ps : List Presence) → ends_before_all a ps ≡ true → ends_before_all a (filter t ps) ≡ true
ends_before_all-filter t a [] h = refl
ends_before_all-filter t a (p ∷ ps) h =
    let parts = and_parts (ends_before a p.range) (ends_before_all a ps) h in
    let ih = ends_before_all-filter t a ps parts.1 in
    elim (t p) as (λ v. ends_before_all a (cond v (p ∷ filter t ps) (filter t ps)) ≡ true) [
      | true ↦ and_from (ends_before a p.range) (ends_before_all a (filter t ps)) parts.0 ih
      | false ↦ ih
    ]

pub is_table-filter : (t : Presence → Bool) (ps : List Presence) → is_table ps ≡ true → is_table (filter t ps) ≡ true
is_table-filter t [] h = refl
is_table-filter t (p ∷ ps) h =
    let parts = table_parts p ps h in
    let ih = is_table-filter t ps parts.others in
    elim (t p) as (λ v. is_table (cond v (p ∷ filter t ps) (filter t ps)) ≡ true) [
      | true ↦ table_from p (filter t ps) (record { cells = parts.cells; counted = parts.counted; first = ends_before_all-filter t p.range ps parts.first; others = ih })
      | false ↦ ih
    ]

pub holder-filter_none : (t : Presence → Bool) (ps : List Presence) (r : Range) → holder ps r ≡ None → holder (filter t ps) r ≡ None
holder-filter_none t [] r none = refl
holder-filter_none t (p ∷ ps) r none = elim (cases_Bool (range_contains p.range r)) [
  | inl has ↦ (let same : Some p ≡ None = rw has at none in absurd (cc))
  | inr misses ↦
      let ih = holder-filter_none t ps r (rw misses at none) in
      elim (t p) as (λ v. holder (cond v (p ∷ filter t ps) (filter t ps)) r ≡ None) [ true ↦ rw misses ih | false ↦ ih ]
]

pub holder-filter_some : (t : Presence → Bool) (ps : List Presence) (r : Range) (x : Presence) → is_table ps ≡ true → 0 < r.len → holder ps r ≡ Some x → holder (filter t ps) r ≡ cond (t x) (Some x) None
holder-filter_some t [] r x h cells some = absurd (cc)
holder-filter_some t (p ∷ ps) r x h cells some = elim (cases_Bool (range_contains p.range r)) [
  | inl has ↦
      let is : Some p ≡ Some x = rw has at some in
      let same : x ≡ p = cc in
      let parts = table_parts p ps h in
      rw same (elim (cases_Bool (t p)) [
        | inl hit ↦ rw (hit, has) refl
        | inr miss ↦ rw miss (holder-filter_none t ps r (holder_behind p.range ps r parts.first cells has))
      ])
  | inr misses ↦
      let ih = holder-filter_some t ps r x (table_parts p ps h).others cells (rw misses at some) in
      elim (t p) as (λ v. holder (cond v (p ∷ filter t ps) (filter t ps)) r ≡ cond (t x) (Some x) None) [ true ↦ rw misses ih | false ↦ ih ]
]
  where
    holder_behind : (a : Range) (ps : List Presence) (r : Range) → ends_before_all a ps ≡ true → 0 < r.len → range_contains a r ≡ true → holder ps r ≡ None
    holder_behind a [] r h cells has = refl
    holder_behind a (p ∷ ps) r h cells has =
        let parts = and_parts (ends_before a p.range) (ends_before_all a ps) h in
        rw (apart_first a p.range r parts.0 cells has) (holder_behind a ps r parts.1 cells has)

pub overlaps_any-filter_none : (t : Presence → Bool) (ps : List Presence) (r : Range) → overlaps_any ps r ≡ false → overlaps_any (filter t ps) r ≡ false
overlaps_any-filter_none t [] r none = refl
overlaps_any-filter_none t (p ∷ ps) r none =
    let parts = or_parts (range_overlaps p.range r) (overlaps_any ps r) none in
    let ih = overlaps_any-filter_none t ps r parts.1 in
    elim (t p) as (λ v. overlaps_any (cond v (p ∷ filter t ps) (filter t ps)) r ≡ false) [ true ↦ rw parts.0 ih | false ↦ ih ]
