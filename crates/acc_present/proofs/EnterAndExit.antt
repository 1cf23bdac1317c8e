-- A table whose range is entered, left or finalized: one call is one mark.
use Rattle.std.proofs.Common.{◌≡◌, ℕ, zero, suc, [], ◌+◌, ◌-◌, ◌<◌, ◌≤◌, true, false, cond, List, ◌∷◌, length, map, set, get_or, Some, None, refl, sym, ap, ◌∙◌, arith, inl, inr}
use Rattle.std.specs.Prelude.{insert, remove, slice_get}
use Rattle.std.proofs.Math.Bool.{and-true}
use Rattle.std.proofs.lemmas.Bool.{cases_Bool, lt-ltb, ne_eqb, eq-eqb}
use Rattle.std.proofs.lemmas.List.{map-set, length-map, set-get_or, get_or-map}
use Rattle.std.proofs.lemmas.List.Sums.{sum_by-insert, sum_by-remove, sum_by-set}
use Rattle.acc_base.proofs.Lists.{map-insert, map-remove}
use Rattle.acc_base.specs.declared.range.Range.{Range}
use Rattle.acc_base.specs.Ranges.{range_contains}
use Rattle.acc_present.specs.declared.change.Counter.{Counter}
use Rattle.acc_present.specs.declared.change.Counter.TheVariants.{Structured, Dynamic}
use Rattle.acc_present.specs.declared.entry.Entry.{Entry}
use Rattle.acc_present.specs.declared.table.Left.{Left}
use Rattle.acc_present.specs.declared.table.Left.TheVariants as left
use Rattle.acc_present.specs.declared.change.Change.{Change}
use Rattle.acc_present.specs.declared.change.Change.TheVariants.{StructuredUp, StructuredDown, DynamicUp, DynamicDown, DynamicZero}
use Rattle.acc_present.specs.Marks.{Mark}
use Rattle.acc_present.specs.Lifetimes.{can_open}
use Rattle.acc_present.specs.Presences.{Presence, holder, is_present, is_partly_present, overlaps_any, used_cells}
use Rattle.acc_present.specs.Tables.{entry_change, entry_mark, counter_of, changed_counter, stepped, opening, has_count, kept_after, presences_after, presence_inserted, entry_presence, left_of}
use Rattle.acc_present.specs.inner.Invariants.{IsTable}
use Rattle.acc_present.proofs.TableOrder.{is_table-set, is_table-remove}
use Rattle.acc_present.proofs.Holder.{slice_get-shown, is_present-some, is_present-none, holder-contains}
use Rattle.acc_present.specs.inner.Keys.{behind}
use Rattle.acc_present.proofs.KeptAfter.{kept_at, kept_none, counted_at}
use Rattle.acc_present.proofs.PresenceInserted.{insert_is_placed, is_table-insert}

abbrev pub shown : List Entry → List Presence
shown es = map entry_presence es

-- ## The counters, one by one

pub entry_opens : (counter : Counter) → can_open (entry_change counter) ≡ true
entry_opens Structured = refl
entry_opens Dynamic = refl

pub has_count-entered : (counter : Counter) (p : Presence) → has_count (stepped (entry_change counter) p) ≡ true
has_count-entered Structured p = lt-ltb 0 (p.s + 1 + p.d) (omega arith)
has_count-entered Dynamic p = lt-ltb 0 (p.s + (p.d + 1)) (omega arith)

-- an exit where the counter is zero changes nothing
pub exit_at_zero : (change : Change) (p : Presence) → can_open change ≡ false → counter_of (changed_counter change) p ≡ 0 → stepped change p ≡ p
exit_at_zero StructuredUp p exit none = cc
exit_at_zero StructuredDown p exit none = let e : p.s - 1 ≡ p.s = omega arith in ap (λ n. record p { s = n }) e
exit_at_zero DynamicUp p exit none = cc
exit_at_zero DynamicDown p exit none = let e : p.d - 1 ≡ p.d = omega arith in ap (λ n. record p { d = n }) e
exit_at_zero DynamicZero p exit none = ap (λ n. record p { d = n }) (sym none)

-- ## The entry that a range is part of

pub record FoundAt (es : List Entry) (r : Range) (i : ℕ) (x : Entry) : Type 0 where
  pub low : i < length (shown es)
  pub at : slice_get (shown es) i ≡ Some (entry_presence x)
  pub is : entry_presence x ≡ get_or (shown es) i (entry_presence x)
  pub seen : holder (shown es) r ≡ Some (entry_presence x)
  pub has : range_contains x.range r ≡ true
  pub held : is_present (shown es) r ≡ true

pub found_at : (es : List Entry) (r : Range) (i : ℕ) (x : Entry) → holder (shown es) r ≡ slice_get (shown es) i → i < length es → x ≡ get_or es i x → FoundAt es r i x
found_at es r i x held low is =
    let at = slice_get-shown entry_presence es i x low is in
    let seen = held ∙ at in
    record {
      low = rw (length-map es entry_presence) low;
      at = at;
      is = ap entry_presence is ∙ sym (get_or-map entry_presence es i x (entry_presence x) low);
      seen = seen;
      has = holder-contains (shown es) r (entry_presence x) seen;
      held = is_present-some (shown es) r (entry_presence x) seen;
    }

-- these presences, with this sum of cells, are the wanted ones and a table
pub record Becomes (ps want : List Presence) (used capacity : ℕ) : Type 0 where
  pub same : ps ≡ want
  pub table : IsTable ps used capacity

pub stays : (m : Mark) (block : ℕ) (ps : List Presence) → is_present ps m.range ≡ true → kept_after m ps ≡ presences_after m block ps
stays m block ps held = rw held (elim (cases_Bool (can_open m.change)) [ inl can ↦ rw can refl | inr cannot ↦ rw cannot refl ])

-- a presence is replaced by another of the same range
pub becomes_set : (es : List Entry) (i : ℕ) (y : Entry) (p q : Presence) (used capacity : ℕ) → IsTable (shown es) used capacity → i < length (shown es) → q ≡ get_or (shown es) i q
    → entry_presence y ≡ p → p.range ≡ q.range → has_count p ≡ true → Becomes (shown (set es i y)) (set (shown es) i p) used capacity
becomes_set es i y p q used capacity t low at is same counted =
    let ps = shown es in
    let e : shown (set es i y) ≡ set ps i p = map-set entry_presence es i y ∙ ap (set ps i) is in
    let cells = sum_by-set (λ (k : Presence). k.range.len) ps i p q low in
    let old : q.range.len ≡ (get_or ps i q).range.len = ap (λ (k : Presence). k.range.len) at in
    let len : p.range.len ≡ q.range.len = ap (λ (r : Range). r.len) same in
    let sum : used_cells (set ps i p) ≡ used_cells ps = omega (arith, cells, old, len) in
    record {
      same = e;
      table = rw e (record {
        table = is_table-set ps i q p t.table low at same counted;
        counted = t.counted ∙ sym sum;
        within = rw sum t.within;
      });
    }

pub entered_again : (es : List Entry) (r : Range) (counter : Counter) (block i : ℕ) (x y : Entry) (used capacity : ℕ) → IsTable (shown es) used capacity → 0 < r.len → FoundAt es r i x
    → entry_presence y ≡ stepped (entry_change counter) (entry_presence x)
    → Becomes (shown (set es i y)) (presences_after (entry_mark counter r) block (shown es)) used capacity
entered_again es r counter block i x y used capacity t cells f is =
    let ps = shown es in
    let p = stepped (entry_change counter) (entry_presence x) in
    let counted = has_count-entered counter (entry_presence x) in
    let b = becomes_set es i y p (entry_presence x) used capacity t f.low f.is is refl counted in
    let kept = kept_at (entry_mark counter r) ps i (entry_presence x) t.table f.low f.is cells f.has in
    record {
      same = b.same ∙ (sym (kept ∙ ap (λ v. cond v (set ps i p) (remove ps i)) counted) ∙ stays (entry_mark counter r) block ps f.held);
      table = b.table;
    }

pub no_overlap : (ps : List Presence) (r : Range) → is_present ps r ≡ false → is_partly_present ps r ≡ false → overlaps_any ps r ≡ false
no_overlap ps r absent whole = sym (and-true (overlaps_any ps r)) ∙ rw absent at whole

pub entered_new : (es : List Entry) (r : Range) (counter : Counter) (block : ℕ) (e : Entry) (used capacity : ℕ) → IsTable (shown es) used capacity → 0 < r.len
    → holder (shown es) r ≡ None → is_partly_present (shown es) r ≡ false → used_cells (shown es) + r.len ≤ capacity
    → entry_presence e ≡ opening (entry_mark counter r) block
    → Becomes (shown (insert es (behind r (shown es)) e)) (presences_after (entry_mark counter r) block (shown es)) (used + r.len) capacity
entered_new es r counter block e used capacity t cells none whole fits is =
    let ps = shown es in
    let p = opening (entry_mark counter r) block in
    let absent = is_present-none ps r none in
    let k = behind r ps in
    let new : shown (insert es k e) ≡ insert ps k p = map-insert entry_presence es k e ∙ ap (insert ps k) is in
    let sum = sum_by-insert (λ (q : Presence). q.range.len) ps k p in
    record {
      same = new ∙ (insert_is_placed p ps t.table ∙ rw (absent, entry_opens counter) (ap (presence_inserted p) (sym (kept_none (entry_mark counter r) ps t.table absent))));
      table = rw new (record {
        table = is_table-insert p ps t.table cells (has_count-entered counter (record { range = r; block = block; s = 0; d = 0 })) (no_overlap ps r absent whole);
        counted = omega (arith, t.counted, sum);
        within = omega (arith, fits, sum);
      });
    }

-- ## Leaving

-- a mark that leaves the presence that it is inside as it was
pub left_nothing : (es : List Entry) (m : Mark) (i : ℕ) (x : Entry) (used capacity : ℕ) → IsTable (shown es) used capacity → 0 < m.range.len → FoundAt es m.range i x
    → stepped m.change (entry_presence x) ≡ entry_presence x → shown es ≡ kept_after m (shown es)
left_nothing es m i x used capacity t cells f same =
    let ps = shown es in
    let p = entry_presence x in
    let kept = kept_at m ps i p t.table f.low f.is cells f.has in
    let counted = counted_at ps i p t.table f.low f.is in
    sym (kept ∙ (ap (λ q. cond (has_count q) (set ps i q) (remove ps i)) same ∙ (ap (λ v. cond v (set ps i p) (remove ps i)) counted ∙ (ap (set ps i) f.is ∙ set-get_or ps i p))))

-- what a place that is settled holds is what the mark makes of it
pub left_settled : (es : List Entry) (m : Mark) (i : ℕ) (x y : Entry) (ps : List Presence) (used capacity : ℕ) → IsTable (shown es) used capacity → 0 < m.range.len → FoundAt es m.range i x
    → entry_presence y ≡ stepped m.change (entry_presence x) → ps ≡ cond (has_count (entry_presence y)) (set (shown es) i (entry_presence y)) (remove (shown es) i) → ps ≡ kept_after m (shown es)
left_settled es m i x y ps used capacity t cells f is settled =
    settled ∙ (ap (λ q. cond (has_count q) (set (shown es) i q) (remove (shown es) i)) is ∙ sym (kept_at m (shown es) i (entry_presence x) t.table f.low f.is cells f.has))

-- ## Settling

-- the presence at a place, of which the range is known
pub record PlacedAt (ps : List Presence) (i : ℕ) (r : Range) : Type 0 where
  pub low : i < length ps
  pub here : Presence
  pub is : here ≡ get_or ps i here
  pub same : here.range ≡ r

pub cells_at : (ps : List Presence) (i : ℕ) (r : Range) (used capacity : ℕ) → IsTable ps used capacity → PlacedAt ps i r → used_cells (remove ps i) + r.len ≡ used
cells_at ps i r used capacity t f =
    let at : f.here.range.len ≡ (get_or ps i f.here).range.len = ap (λ (q : Presence). q.range.len) f.is in
    let len : f.here.range.len ≡ r.len = ap (λ (q : Range). q.len) f.same in
    omega (arith, sum_by-remove (λ (q : Presence). q.range.len) ps i f.here f.low, at, len, t.counted)

pub becomes_removed : (es : List Entry) (i : ℕ) (r : Range) (used capacity : ℕ) → IsTable (shown es) used capacity → PlacedAt (shown es) i r
    → Becomes (shown (remove es i)) (remove (shown es) i) (used - r.len) capacity
becomes_removed es i r used capacity t f =
    let sum = cells_at (shown es) i r used capacity t f in
    record {
      same = map-remove entry_presence es i;
      table = rw (map-remove entry_presence es i) (record { table = is_table-remove (shown es) i t.table; counted = omega (arith, sum); within = omega (arith, sum, t.counted, t.within) });
    }

-- ## What the answers of an exit say

pub says_nothing : (p : Presence) (change : Change) → counter_of (changed_counter change) p ≡ 0 → left.Nothing ≡ left_of (Some p) change
says_nothing p change none = rw (eq-eqb (counter_of (changed_counter change) p) 0 none) refl

pub says_settled : (p q : Presence) (change : Change) (answer : Left) → (counter_of (changed_counter change) p ≡ 0 → ⊥) → q ≡ stepped change p
    → answer ≡ cond (has_count q) left.Counted (left.Ended q.block) → answer ≡ left_of (Some p) change
says_settled p q change answer some is settled =
    settled ∙ (ap (λ k. cond (has_count k) left.Counted (left.Ended k.block)) is ∙ rw (ne_eqb (counter_of (changed_counter change) p) 0 some) refl)
