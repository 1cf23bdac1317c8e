-- The notes of a table's entries, where one is replaced, put in or taken out.
use Rattle.std.proofs.Common.{◌≡◌, ℕ, zero, suc, ◌<◌, true, false, cond, List, [], ◌∷◌, length, map, set, get_or, ap, ◌∙◌, arith}
use Rattle.std.specs.Prelude.{All, insert, remove}
use Rattle.std.proofs.lemmas.List.{map-set, length-map}
use Rattle.std.proofs.lemmas.List.Elements.{All-nil, All-cons, All-head, All-tail, All-set}
use Rattle.acc_base.specs.declared.range.Range.{Range}
use Rattle.acc_base.specs.Ranges.{range_contains}
use Rattle.acc_present.specs.declared.entry.Entry.{Entry}
use Rattle.acc_present.specs.Notes.{Note, entry_note, Noted, entry_noted, HasNotes, changed_at}
use Rattle.acc_present.specs.Presences.{Presence, is_present}
use Rattle.acc_present.specs.Tables.{entry_presence, is_table, ends_before_all}
use Rattle.acc_present.proofs.TableOrder.{table_parts, ends_before_at}
use Rattle.acc_present.proofs.KeptAfter.{apart_first, apart_second}
use Rattle.acc_present.proofs.EnterAndExit.{shown}
use Rattle.std.proofs.lemmas.Bool.{and_parts, or_parts}

abbrev pub noted : List Entry → List Noted
noted es = map entry_noted es

-- the note of an entry is the one that belongs to its range and block
abbrev pub Is : (Range → ℕ → Note) → Noted → Type 0
Is notes n = n.note ≡ notes n.range n.block

pub noted_set : (notes : Range → ℕ → Note) (es : List Entry) (i : ℕ) (e : Entry) → HasNotes notes (noted es) → entry_note e ≡ notes e.range e.block → HasNotes notes (noted (set es i e))
noted_set notes es i e h is = rw (map-set entry_noted es i e) (All-set (Is notes) (noted es) i (entry_noted e) is h)

pub noted_insert : (notes : Range → ℕ → Note) (es : List Entry) (i : ℕ) (e : Entry) → HasNotes notes (noted es) → entry_note e ≡ notes e.range e.block → HasNotes notes (noted (insert es i e))
noted_insert notes [] zero e h is = All-cons (Is notes) (entry_noted e) [] is h
noted_insert notes [] (suc i) e h is = All-cons (Is notes) (entry_noted e) [] is h
noted_insert notes (x ∷ es) zero e h is = All-cons (Is notes) (entry_noted e) (noted (x ∷ es)) is h
noted_insert notes (x ∷ es) (suc i) e h is =
    All-cons (Is notes) (entry_noted x) (noted (insert es i e)) (All-head (Is notes) (entry_noted x) (noted es) h) (noted_insert notes es i e (All-tail (Is notes) (entry_noted x) (noted es) h) is)

pub noted_remove : (notes : Range → ℕ → Note) (es : List Entry) (i : ℕ) → HasNotes notes (noted es) → HasNotes notes (noted (remove es i))
noted_remove notes [] zero h = h
noted_remove notes [] (suc i) h = h
noted_remove notes (x ∷ es) zero h = All-tail (Is notes) (entry_noted x) (noted es) h
noted_remove notes (x ∷ es) (suc i) h =
    All-cons (Is notes) (entry_noted x) (noted (remove es i)) (All-head (Is notes) (entry_noted x) (noted es) h) (noted_remove notes es i (All-tail (Is notes) (entry_noted x) (noted es) h))

pub noted_at : (notes : Range → ℕ → Note) (es : List Entry) (i : ℕ) (x : Entry) → HasNotes notes (noted es) → i < length es → x ≡ get_or es i x → entry_note x ≡ notes x.range x.block
noted_at notes [] i x h low is = absurd (omega (arith, low))
noted_at notes (y ∷ es) zero x h low is = rw is (All-head (Is notes) (entry_noted y) (noted es) h)
noted_at notes (y ∷ es) (suc i) x h low is = noted_at notes es i x (All-tail (Is notes) (entry_noted y) (noted es) h) (omega (arith, low)) is

-- entries that don't contain the range keep their notes
noted_miss : (notes : Range → ℕ → Note) (r : Range) (change : Note → Note) (e : Entry) → range_contains e.range r ≡ false → Is notes (entry_noted e) → Is (changed_at r change notes) (entry_noted e)
noted_miss notes r change e miss is = rw miss is

noted_behind : (notes : Range → ℕ → Note) (a r : Range) (change : Note → Note) (es : List Entry) → ends_before_all a (shown es) ≡ true → 0 < r.len → range_contains a r ≡ true → HasNotes notes (noted es) → HasNotes (changed_at r change notes) (noted es)
noted_behind notes a r change [] h cells has n = All-nil (Is (changed_at r change notes))
noted_behind notes a r change (e ∷ es) h cells has n =
    let parts = and_parts _ (ends_before_all a (shown es)) h in
    All-cons (Is (changed_at r change notes)) (entry_noted e) (noted es)
    (noted_miss notes r change e (apart_first a e.range r parts.0 cells has) (All-head (Is notes) (entry_noted e) (noted es) n))
    (noted_behind notes a r change es parts.1 cells has (All-tail (Is notes) (entry_noted e) (noted es) n))

-- The entry that contains a range gets the changed note, and no other.
pub noted_change : (notes : Range → ℕ → Note) (r : Range) (change : Note → Note) (es : List Entry) (i : ℕ) (x y : Entry) → is_table (shown es) ≡ true → i < length es → x ≡ get_or es i x → 0 < r.len → range_contains x.range r ≡ true
    → y.range ≡ x.range → y.block ≡ x.block → entry_note y ≡ change (entry_note x) → HasNotes notes (noted es) → HasNotes (changed_at r change notes) (noted (set es i y))
noted_change notes r change [] i x y t low is cells has range block note h = absurd (omega (arith, low))
noted_change notes r change (e ∷ es) zero x y t low is cells has range block note h =
    let parts = table_parts (entry_presence e) (shown es) t in
    let here : range_contains e.range r ≡ true = rw (← is) has in
    let there : range_contains y.range r ≡ true = rw range has in
    let first : Is notes (entry_noted e) = All-head (Is notes) (entry_noted e) (noted es) h in
    let old : entry_note x ≡ notes x.range x.block = rw is first in
    let new : entry_note y ≡ cond (range_contains y.range r) (change (notes y.range y.block)) (notes y.range y.block) =
    rw (there, range, block) (note ∙ ap change old) in
    All-cons (Is (changed_at r change notes)) (entry_noted y) (noted es) new
    (noted_behind notes e.range r change es parts.first cells here (All-tail (Is notes) (entry_noted e) (noted es) h))
noted_change notes r change (e ∷ es) (suc i) x y t low is cells has range block note h =
    let parts = table_parts (entry_presence e) (shown es) t in
    let below : i < length es = omega (arith, low) in
    let at : entry_presence x ≡ get_or (shown es) i (entry_presence x) = at_shown es i x below is in
    let miss = apart_second e.range x.range r (ends_before_at e.range (shown es) i (entry_presence x) parts.first (rw (length-map es entry_presence) below) at) cells has in
    All-cons (Is (changed_at r change notes)) (entry_noted e) (noted (set es i y))
    (noted_miss notes r change e miss (All-head (Is notes) (entry_noted e) (noted es) h))
    (noted_change notes r change es i x y parts.others below is cells has range block note (All-tail (Is notes) (entry_noted e) (noted es) h))
  where
    at_shown : (zs : List Entry) (k : ℕ) (z : Entry) → k < length zs → z ≡ get_or zs k z → entry_presence z ≡ get_or (shown zs) k (entry_presence z)
    at_shown [] k z low is = absurd (omega (arith, low))
    at_shown (w ∷ zs) zero z low is = ap entry_presence is
    at_shown (w ∷ zs) (suc k) z low is = at_shown zs k z (omega (arith, low)) is

-- where the range is part of none, no note changes
pub noted_none : (notes : Range → ℕ → Note) (r : Range) (change : Note → Note) (es : List Entry) → All (λ (p : Presence). range_contains p.range r ≡ false) (shown es) → HasNotes notes (noted es) → HasNotes (changed_at r change notes) (noted es)
noted_none notes r change [] none h = All-nil (Is (changed_at r change notes))
noted_none notes r change (e ∷ es) none h =
    All-cons (Is (changed_at r change notes)) (entry_noted e) (noted es)
    (noted_miss notes r change e (All-head (λ (p : Presence). range_contains p.range r ≡ false) (entry_presence e) (shown es) none) (All-head (Is notes) (entry_noted e) (noted es) h))
    (noted_none notes r change es (All-tail (λ (p : Presence). range_contains p.range r ≡ false) (entry_presence e) (shown es) none) (All-tail (Is notes) (entry_noted e) (noted es) h))

-- an entry that is replaced by one of the same presence shows the same
pub shown_kept : (es : List Entry) (i : ℕ) (x y : Entry) → i < length es → x ≡ get_or es i x → entry_presence y ≡ entry_presence x → shown (set es i y) ≡ shown es
shown_kept [] i x y low is same = absurd (omega (arith, low))
shown_kept (e ∷ es) zero x y low is same = ap (λ p. p ∷ shown es) (same ∙ ap entry_presence is)
shown_kept (e ∷ es) (suc i) x y low is same = ap (λ ps. entry_presence e ∷ ps) (shown_kept es i x y (omega (arith, low)) is same)

-- no present range contains one that none holds
pub none_contains : (ps : List Presence) (r : Range) → is_present ps r ≡ false → All (λ (p : Presence). range_contains p.range r ≡ false) ps
none_contains [] r h = All-nil (λ (p : Presence). range_contains p.range r ≡ false)
none_contains (p ∷ ps) r h =
    let parts = or_parts (range_contains p.range r) (is_present ps r) h in
    All-cons (λ (q : Presence). range_contains q.range r ≡ false) p ps parts.0 (none_contains ps r parts.1)
