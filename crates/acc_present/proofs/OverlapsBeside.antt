-- What a search of a table finds beside changed entries: only those from the last that doesn't begin behind a range
-- up to the first that does, and doesn't overlap it, are asked.
use Rattle.std.proofs.Common.{◌≡◌, ℕ, zero, suc, Bool, true, false, List, [], ◌∷◌, map, refl, sym, ap, ap₂, ◌∙◌, arith, inl, inr, ◌-◌, drop}
use Rattle.std.specs.Prelude.{◌||◌, ◌&&◌, not, filter}
use Rattle.std.specs.List.{list_any}
use Rattle.std.proofs.lemmas.Bool.{cases_Bool, and_parts}
use Rattle.std.proofs.lemmas.List.{drop-map}
use Rattle.acc_base.specs.declared.range.Range.{Range}
use Rattle.acc_base.specs.Ranges.{range_overlaps}
use Rattle.acc_present.specs.declared.entry.Entry.{Entry}
use Rattle.acc_present.specs.Lifetimes.{is_before}
use Rattle.acc_present.specs.Presences.{Presence, overlaps_any}
use Rattle.acc_present.specs.Tables.{entry_presence, is_table, ends_before, ends_before_all}
use Rattle.acc_present.specs.Drafts.{beside}
use Rattle.acc_present.proofs.TableOrder.{table_parts}
use Rattle.acc_present.proofs.Holder.{behind-hit, behind-miss, not_met_before, met_at, overlaps_is}
use Rattle.acc_present.specs.inner.Keys.{behind}
use Rattle.acc_present.proofs.TableFilter.{overlaps_any-filter_none}

pub list_any-map : {X Y : Type 0} (t : Y → Bool) (h : X → Y) (xs : List X) → list_any t (map h xs) ≡ list_any (λ x. t (h x)) xs
list_any-map t h [] = refl
list_any-map t h (x ∷ xs) = ap (λ b. t (h x) || b) (list_any-map t h xs)

-- an entry that begins behind the range and doesn't overlap it is the last to be asked
beside_stops : (cs : List Presence) (x : Entry) (es : List Entry) (r : Range) → is_table (map entry_presence (x ∷ es)) ≡ true → range_overlaps x.range r ≡ false → is_before r x.range ≡ true
    → overlaps_any (beside cs (map entry_presence (x ∷ es))) r ≡ false
beside_stops cs x es r t apart before =
    let ps = map entry_presence (x ∷ es) in
    let none : overlaps_any ps r ≡ false = overlaps_is ps r t ∙ (ap (met_at ps r) (behind-hit r (entry_presence x) (map entry_presence es) before) ∙ apart) in
    overlaps_any-filter_none (λ (p : Presence). not (overlaps_any cs p.range)) ps r none

-- the first entry is asked, and then the others
asks_first : (cs : List Presence) (x : Entry) (es : List Entry) (r : Range)
    → overlaps_any (beside cs (map entry_presence (x ∷ es))) r ≡ (not (overlaps_any cs x.range) && range_overlaps x.range r) || overlaps_any (beside cs (map entry_presence es)) r
asks_first cs x es r = elim (cases_Bool (overlaps_any cs x.range)) [ inl hit ↦ rw hit refl | inr miss ↦ rw miss refl ]

is_table-drop : (k : ℕ) (ps : List Presence) → is_table ps ≡ true → is_table (drop k ps) ≡ true
is_table-drop zero ps t = t
is_table-drop (suc k) [] t = refl
is_table-drop (suc k) (p ∷ ps) t = is_table-drop k ps (table_parts p ps t).others

first_apart : (t : Presence → Bool) (p : Presence) (ps : List Presence) (r : Range) → range_overlaps p.range r ≡ false → overlaps_any (filter t (p ∷ ps)) r ≡ overlaps_any (filter t ps) r
first_apart t p ps r apart = elim (cases_Bool (t p)) [ inl hit ↦ rw (hit, apart) refl | inr miss ↦ rw miss refl ]

-- all before the last that doesn't begin behind the range end before it
from_last : (t : Presence → Bool) (ps : List Presence) (r : Range) → is_table ps ≡ true → overlaps_any (filter t (drop (behind r ps - 1) ps)) r ≡ overlaps_any (filter t ps) r
from_last t [] r u = refl
from_last t (p ∷ []) r u = elim (cases_Bool (is_before r p.range)) [
  | inl hit ↦ ap (λ k. overlaps_any (filter t (drop (k - 1) (p ∷ []))) r) (behind-hit r p [] hit)
  | inr miss ↦ ap (λ k. overlaps_any (filter t (drop (k - 1) (p ∷ []))) r) (behind-miss r p [] miss)
]
from_last t (p ∷ q ∷ ps) r u =
    let parts = table_parts p (q ∷ ps) u in
    let apart = and_parts (ends_before p.range q.range) (ends_before_all p.range ps) parts.first in
    elim (cases_Bool (is_before r p.range)) [
      | inl hit ↦ ap (λ k. overlaps_any (filter t (drop (k - 1) (p ∷ q ∷ ps))) r) (behind-hit r p (q ∷ ps) hit)
      | inr miss ↦ elim (cases_Bool (is_before r q.range)) [
        | inl next ↦
            let one : behind r (p ∷ q ∷ ps) ≡ 1 = behind-miss r p (q ∷ ps) miss ∙ ap suc (behind-hit r q ps next) in
            ap (λ k. overlaps_any (filter t (drop (k - 1) (p ∷ q ∷ ps))) r) one
        | inr further ↦
            let more : behind r (p ∷ q ∷ ps) - 1 ≡ suc (behind r (q ∷ ps) - 1) = omega (arith, behind-miss r p (q ∷ ps) miss, behind-miss r q ps further) in
            ap (λ k. overlaps_any (filter t (drop k (p ∷ q ∷ ps))) r) more
            ∙ (from_last t (q ∷ ps) r parts.others ∙ sym (first_apart t p (q ∷ ps) r (not_met_before r p.range q.range apart.0 further)))
      ]
    ]

-- The entries from the last that doesn't begin behind the range: they are a table, and overlap the range where all do.
pub record GoesOn (cs : List Presence) (es rest : List Entry) (r : Range) : Type 0 where
  pub table : is_table (map entry_presence rest) ≡ true
  pub same : overlaps_any (beside cs (map entry_presence rest)) r ≡ overlaps_any (beside cs (map entry_presence es)) r

pub goes_on : (cs : List Presence) (es : List Entry) (r : Range) (k : ℕ) → is_table (map entry_presence es) ≡ true → k ≡ behind r (map entry_presence es) - 1 → GoesOn cs es (drop k es) r
goes_on cs es r k t is =
    let ps = map entry_presence es in
    let shown : map entry_presence (drop k es) ≡ drop (behind r ps - 1) ps = sym (drop-map entry_presence k es) ∙ ap (λ n. drop n ps) is in
    record {
      table = rw shown (is_table-drop (behind r ps - 1) ps t);
      same = rw shown (from_last (λ (p : Presence). not (overlaps_any cs p.range)) ps r t);
    }

-- x comes first
module _ (cs : List Presence) (es rest : List Entry) (r : Range) (x : Entry) (on : GoesOn cs es (x ∷ rest) r) where
  asked : overlaps_any (beside cs (map entry_presence es)) r ≡ (not (overlaps_any cs x.range) && range_overlaps x.range r) || overlaps_any (beside cs (map entry_presence rest)) r
  asked = sym on.same ∙ asks_first cs x rest r

  -- the others are asked, where x doesn't count
  pub goes_past : not (overlaps_any cs x.range) && range_overlaps x.range r ≡ false → GoesOn cs es rest r
  goes_past none = record {
    table = (table_parts (entry_presence x) (map entry_presence rest) on.table).others;
    same = sym (asked ∙ ap (λ b. b || overlaps_any (beside cs (map entry_presence rest)) r) none);
  }

  pub meets_here : overlaps_any cs x.range ≡ false → range_overlaps x.range r ≡ true → overlaps_any (beside cs (map entry_presence es)) r ≡ true
  meets_here alone meets = asked ∙ ap₂ (λ b c. (not b && c) || overlaps_any (beside cs (map entry_presence rest)) r) alone meets

  pub stops_here : range_overlaps x.range r ≡ false → is_before r x.range ≡ true → overlaps_any (beside cs (map entry_presence es)) r ≡ false
  stops_here apart before = sym on.same ∙ beside_stops cs x rest r on.table apart before
