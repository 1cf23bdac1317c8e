-- What one mark makes of a table: it changes the one presence that has its range, or none.
use Rattle.std.proofs.Common.{◌≡◌, ℕ, zero, suc, ◌<◌, true, false, cond, List, [], ◌∷◌, length, map, set, get_or, refl, sym, ap, arith}
use Rattle.std.specs.Prelude.{filter, remove}
use Rattle.std.proofs.lemmas.Bool.{and_parts, or_parts}
use Rattle.std.proofs.lemmas.Bool.Decides.{nat_tests}
use Rattle.acc_base.specs.declared.range.Range.{Range}
use Rattle.acc_base.specs.Ranges.{range_contains}
use Rattle.acc_present.specs.Marks.{Mark}
use Rattle.acc_present.specs.Presences.{Presence, is_present}
use Rattle.acc_present.specs.Tables.{presence_after, stepped, has_count, kept_after, is_table, ends_before, ends_before_all}
use Rattle.acc_present.proofs.TableOrder.{table_parts, ends_before_at}

-- of two ranges that are apart, only one contains a range with a cell
pub apart_first : (a b r : Range) → ends_before a b ≡ true → 0 < r.len → range_contains a r ≡ true → range_contains b r ≡ false
unfolding range_contains
apart_first a b r h cells has = grind (arith, nat_tests, h, has, cells)

pub apart_second : (a b r : Range) → ends_before a b ≡ true → 0 < r.len → range_contains b r ≡ true → range_contains a r ≡ false
unfolding range_contains
apart_second a b r h cells has = grind (arith, nat_tests, h, has, cells)

-- presences behind the one that has the range stay
map_behind : (a : Range) (m : Mark) (ps : List Presence) → ends_before_all a ps ≡ true → 0 < m.range.len → range_contains a m.range ≡ true → map (presence_after m) ps ≡ ps
map_behind a m [] h cells has = refl
map_behind a m (p ∷ ps) h cells has =
    let parts = and_parts (ends_before a p.range) (ends_before_all a ps) h in
    let miss : range_contains p.range m.range ≡ false = apart_first a p.range m.range parts.0 cells has in
    let ih = map_behind a m ps parts.1 cells has in
    rw (miss, ih) refl

pub map_at : (m : Mark) (ps : List Presence) (i : ℕ) (x : Presence) → is_table ps ≡ true → i < length ps → x ≡ get_or ps i x → 0 < m.range.len → range_contains x.range m.range ≡ true
    → map (presence_after m) ps ≡ set ps i (presence_after m x)
map_at m [] i x t low is cells has = absurd (omega arith)
map_at m (p ∷ ps) zero x t low is cells has =
    let parts = table_parts p ps t in
    let here : range_contains p.range m.range ≡ true = rw (← is) has in
    rw (map_behind p.range m ps parts.first cells here) (ap (λ y. presence_after m y ∷ ps) (sym is))
map_at m (p ∷ ps) (suc i) x t low is cells has =
    let parts = table_parts p ps t in
    let miss = apart_second p.range x.range m.range (ends_before_at p.range ps i x parts.first (omega arith) is) cells has in
    let ih = map_at m ps i x parts.others (omega arith) is cells has in
    rw (miss, ih) refl

filter_counted : (ps : List Presence) → is_table ps ≡ true → filter has_count ps ≡ ps
filter_counted [] t = refl
filter_counted (p ∷ ps) t =
    let parts = table_parts p ps t in
    rw (parts.counted, filter_counted ps parts.others) refl

filter_set : (ps : List Presence) (i : ℕ) (y : Presence) → is_table ps ≡ true → i < length ps → filter has_count (set ps i y) ≡ cond (has_count y) (set ps i y) (remove ps i)
filter_set [] i y t low = absurd (omega arith)
filter_set (p ∷ ps) zero y t low = rw (filter_counted ps (table_parts p ps t).others) refl
filter_set (p ∷ ps) (suc i) y t low =
    let parts = table_parts p ps t in
    let ih = filter_set ps i y parts.others (omega arith) in
    rw (parts.counted, ih) (elim (has_count y) as (λ v. p ∷ cond v (set ps i y) (remove ps i) ≡ cond v (p ∷ set ps i y) (p ∷ remove ps i)) [ true ↦ refl | false ↦ refl ])

-- a mark inside the range of the presence at a place
pub kept_at : (m : Mark) (ps : List Presence) (i : ℕ) (x : Presence) → is_table ps ≡ true → i < length ps → x ≡ get_or ps i x → 0 < m.range.len → range_contains x.range m.range ≡ true
    → kept_after m ps ≡ cond (has_count (stepped m.change x)) (set ps i (stepped m.change x)) (remove ps i)
kept_at m ps i x t low is cells has =
    let e : presence_after m x ≡ stepped m.change x = rw has refl in
    rw (map_at m ps i x t low is cells has, e) (filter_set ps i (stepped m.change x) t low)

-- a mark inside none
pub kept_none : (m : Mark) (ps : List Presence) → is_table ps ≡ true → is_present ps m.range ≡ false → kept_after m ps ≡ ps
kept_none m [] t h = refl
kept_none m (p ∷ ps) t h =
    let parts = table_parts p ps t in
    let none = or_parts (range_contains p.range m.range) (is_present ps m.range) h in
    let ih = kept_none m ps parts.others none.1 in
    rw (none.0, parts.counted, ih) refl

pub counted_at : (ps : List Presence) (i : ℕ) (x : Presence) → is_table ps ≡ true → i < length ps → x ≡ get_or ps i x → has_count x ≡ true
counted_at [] i x t low is = absurd (omega arith)
counted_at (p ∷ ps) zero x t low is = rw is (table_parts p ps t).counted
counted_at (p ∷ ps) (suc i) x t low is = counted_at ps i x (table_parts p ps t).others (omega arith) is
