-- What one more mark makes of what a draft shows.
use Rattle.std.proofs.Common.{◌≡◌, ℕ, zero, suc, ◌+◌, ◌<◌, ◌≤◌, true, false, cond, List, [], ◌∷◌, ◌++◌, length, map, set, get_or, Some, None, refl, sym, ap, ◌∙◌, arith, inl, inr}
use Rattle.std.specs.Prelude.{◌||◌, not, filter, remove, slice_get, sum_by}
use Rattle.std.proofs.lemmas.Bool.{cases_Bool, or_parts}
use Rattle.std.proofs.lemmas.List.Elements.{filter-append, filter_agree}
use Rattle.std.proofs.lemmas.List.{length-map, map-set, set-get_or, map_push, get_or-map, length_push, get_or_push}
use Rattle.std.proofs.lemmas.List.Folds.{list_any-append}
use Rattle.std.proofs.lemmas.List.Sums.{sum_by-cons, sum_by-append, sum_by_push, sum_by-set, sum_by-insert, sum_by-remove}
use Rattle.std.proofs.lemmas.Option.{slice_get-get_or}
use Rattle.acc_base.specs.declared.range.Range.{Range}
use Rattle.acc_base.specs.Ranges.{range_overlaps}
use Rattle.acc_present.specs.declared.held.Held.{Held}
use Rattle.acc_present.specs.Lifetimes.{can_open}
use Rattle.acc_present.specs.Marks.{Mark}
use Rattle.acc_present.specs.Presences.{Presence, holder, is_partly_present, overlaps_any, used_cells}
use Rattle.acc_present.specs.Tables.{TableView, held_presence, has_count, is_table, stepped, opening, kept_after, presences_after}
use Rattle.acc_present.specs.Drafts.{DraftView, IsDraft, beside, drafted, with_changed}
use Rattle.acc_present.proofs.KeptAfter.{counted_at}
use Rattle.acc_present.proofs.EnterAndExit.{no_overlap, stays}
use Rattle.acc_present.proofs.PresencesAfter.{found_in, opens_at, counts_at, counted_once, is_table-after, used_cells-opened}
use Rattle.acc_present.proofs.Holder.{is_present-none, is_present-some, not_partly, slice_get-shown}
use Rattle.acc_present.specs.inner.Keys.{behind}
use Rattle.acc_present.proofs.TableFilter.{kept_but_one, kept_apart, is_table-filter}
use Rattle.acc_present.proofs.DraftShows.{drafted_sums, drafted_is, any_drafted}

-- ## A presence of the table is taken over

beside_push : (cs ps : List Presence) (x : Presence) → beside (cs ++ x ∷ []) ps ≡ filter (λ p. not (range_overlaps x.range p.range)) (beside cs ps)
beside_push cs [] x = refl
beside_push cs (p ∷ ps) x =
    let ih = beside_push cs ps x in
    let e : overlaps_any (cs ++ x ∷ []) p.range ≡ (overlaps_any cs p.range || (range_overlaps x.range p.range || false)) = list_any-append (λ (c : Presence). range_overlaps c.range p.range) cs (x ∷ []) in
    rw e (elim (cases_Bool (overlaps_any cs p.range)) [
      | inl hit ↦ rw hit ih
      | inr miss ↦ elim (cases_Bool (range_overlaps x.range p.range)) [
        | inl met ↦ rw (miss, met) ih
        | inr apart ↦ rw (miss, apart) (ap (λ r. p ∷ r) ih)
      ]
    ])

pub taken_over : (cs ps : List Presence) (r : Range) (x : Presence) → is_table ps ≡ true → is_table (with_changed cs ps) ≡ true → holder (beside cs ps) r ≡ Some x → with_changed (cs ++ x ∷ []) ps ≡ with_changed cs ps
taken_over cs ps r x t u some =
    let rest = beside cs ps in
    let v = is_table-filter (λ (p : Presence). not (overlaps_any cs p.range)) ps t in
    let f = found_in rest r x some in
    let counted = counted_at rest f.index x v f.low f.is in
    let more : filter has_count (cs ++ x ∷ []) ≡ filter has_count cs ++ x ∷ [] = filter-append has_count cs (x ∷ []) ∙ rw counted refl in
    let less : beside (cs ++ x ∷ []) ps ≡ remove rest f.index = beside_push cs ps x ∙ kept_but_one rest f.index x v f.low f.is in
    drafted_is (cs ++ x ∷ []) ps (with_changed cs ps) t u
    (record {
      sums = λ g.
          omega (
            arith,
            (drafted_sums cs ps).sums g,
            sum_by-append g (filter has_count cs) rest,
            sum_by-append g (filter has_count (cs ++ x ∷ [])) (beside (cs ++ x ∷ []) ps),
            ap (sum_by g) more,
            ap (sum_by g) less,
            sum_by_push g (filter has_count cs) x,
            sum_by-remove g rest f.index x f.low,
            ap g f.is,
          );
    })

pub slice_get_push : (xs : List Presence) (y : Presence) (n : ℕ) → n ≡ length xs → slice_get (xs ++ y ∷ []) n ≡ Some y
slice_get_push xs y n is =
    let low : n < length (xs ++ y ∷ []) = omega (arith, is, length_push xs y) in
    slice_get-get_or (xs ++ y ∷ []) n y low ∙ ap (λ z. Some z) (get_or_push xs y y n (sym is))

-- ## A changed presence is counted

abbrev weighed : (Presence → ℕ) → Presence → ℕ
weighed g p = cond (has_count p) (g p) 0

sum_by-counted : (g : Presence → ℕ) (cs : List Presence) → sum_by g (filter has_count cs) ≡ sum_by (weighed g) cs
sum_by-counted g [] = refl
sum_by-counted g (c ∷ cs) =
    let ih = sum_by-counted g cs in
    let sum = sum_by-cons (weighed g) c cs in
    elim (cases_Bool (has_count c)) [
      | inl counted ↦
          let kept : filter has_count (c ∷ cs) ≡ c ∷ filter has_count cs = rw counted refl in
          let one : weighed g c ≡ g c = rw counted refl in
          omega (arith, ih, sum, one, ap (sum_by g) kept, sum_by-cons g c (filter has_count cs))
      | inr over ↦
          let kept : filter has_count (c ∷ cs) ≡ filter has_count cs = rw over refl in
          let none : weighed g c ≡ 0 = rw over refl in
          omega (arith, ih, sum, none, ap (sum_by g) kept)
    ]

overlaps_any-set : (cs : List Presence) (i : ℕ) (x y : Presence) (r : Range) → i < length cs → x ≡ get_or cs i x → y.range ≡ x.range → overlaps_any (set cs i y) r ≡ overlaps_any cs r
overlaps_any-set [] i x y r low is same = absurd (omega arith)
overlaps_any-set (c ∷ cs) zero x y r low is same =
    let e : y.range ≡ c.range = same ∙ ap (λ (z : Presence). z.range) is in
    rw e refl
overlaps_any-set (c ∷ cs) (suc i) x y r low is same = ap (λ b. range_overlaps c.range r || b) (overlaps_any-set cs i x y r (omega arith) is same)

beside-set : (cs ps : List Presence) (i : ℕ) (x y : Presence) → i < length cs → x ≡ get_or cs i x → y.range ≡ x.range → beside (set cs i y) ps ≡ beside cs ps
beside-set cs ps i x y low is same =
    filter_agree (λ (p : Presence). not (overlaps_any (set cs i y) p.range)) (λ (p : Presence). not (overlaps_any cs p.range)) (λ p. ap not (overlaps_any-set cs i x y p.range low is same)) ps

-- what the mark leaves of the presence that it counts: it stays where it has a count
counts_sum : (m : Mark) (b : ℕ) (qs : List Presence) (x : Presence) → is_table qs ≡ true → 0 < m.range.len → holder qs m.range ≡ Some x
    → (g : Presence → ℕ) → sum_by g (presences_after m b qs) + g x ≡ sum_by g qs + weighed g (stepped m.change x)
counts_sum m b qs x t cells some g =
    let f = found_in qs m.range x some in
    let y = stepped m.change x in
    let e = counts_at m b qs x f t cells some in
    elim (cases_Bool (has_count y)) [
      | inl counted ↦
          let same = e ∙ ap (λ v. cond v (set qs f.index y) (remove qs f.index)) counted in
          let one : weighed g y ≡ g y = rw counted refl in
          omega (arith, ap (sum_by g) same, sum_by-set g qs f.index y x f.low, ap g f.is, one)
      | inr over ↦
          let same = e ∙ ap (λ v. cond v (set qs f.index y) (remove qs f.index)) over in
          let none : weighed g y ≡ 0 = rw over refl in
          omega (arith, ap (sum_by g) same, sum_by-remove g qs f.index x f.low, ap g f.is, none)
    ]

-- a changed presence is counted: what the draft shows then, and its cells
pub record DraftCounts (m : Mark) (cs ps : List Presence) (i : ℕ) (x : Presence) : Type 0 where
  pub same : with_changed (set cs i (stepped m.change x)) ps ≡ kept_after m (with_changed cs ps)
  pub after : is_table (with_changed (set cs i (stepped m.change x)) ps) ≡ true
  pub used : used_cells (with_changed (set cs i (stepped m.change x)) ps) + x.range.len ≡ used_cells (with_changed cs ps) + cond (has_count (stepped m.change x)) x.range.len 0

pub draft_counts : (m : Mark) (cs ps : List Presence) (i : ℕ) (x : Presence) → is_table ps ≡ true → is_table (with_changed cs ps) ≡ true → 0 < m.range.len
    → i < length cs → x ≡ get_or cs i x → holder (with_changed cs ps) m.range ≡ Some x → DraftCounts m cs ps i x
draft_counts m cs ps i x t u cells low is some =
    let qs = with_changed cs ps in
    let y = stepped m.change x in
    let f = found_in qs m.range x some in
    let counted = counted_at qs f.index x u f.low f.is in
    let held = is_present-some qs m.range x some in
    let after = is_table-after m 0 qs u cells (not_partly qs m.range held) in
    let beside_same = beside-set cs ps i x y low is refl in
    let same : with_changed (set cs i y) ps ≡ presences_after m 0 qs =
    drafted_is (set cs i y) ps (presences_after m 0 qs) t after
    (record {
      sums = λ g.
          let one : weighed g x ≡ g x = rw counted refl in
          omega (
            arith,
            counts_sum m 0 qs x u cells some g,
            (drafted_sums cs ps).sums g,
            sum_by-append g (filter has_count cs) (beside cs ps),
            sum_by-append g (filter has_count (set cs i y)) (beside (set cs i y) ps),
            ap (sum_by g) beside_same,
            sum_by-counted g cs,
            sum_by-counted g (set cs i y),
            sum_by-set (weighed g) cs i y x low,
            ap (weighed g) is,
            one,
          );
    }) in
    record {
      same = same ∙ sym (stays m 0 qs held);
      after = rw same after;
      used = ap (λ n. n + x.range.len) (ap used_cells same) ∙ counts_sum m 0 qs x u cells some (λ (p : Presence). p.range.len);
    }

-- ## A presence is opened

-- a presence is opened: what the draft shows then, and its cells
pub record DraftOpens (m : Mark) (b : ℕ) (cs ps : List Presence) : Type 0 where
  pub same : with_changed (cs ++ opening m b ∷ []) ps ≡ presences_after m b (with_changed cs ps)
  pub after : is_table (with_changed (cs ++ opening m b ∷ []) ps) ≡ true
  pub used : used_cells (with_changed (cs ++ opening m b ∷ []) ps) ≡ used_cells (with_changed cs ps) + m.range.len

pub draft_opens : (m : Mark) (b : ℕ) (cs ps : List Presence) → is_table ps ≡ true → is_table (with_changed cs ps) ≡ true → 0 < m.range.len → can_open m.change ≡ true
    → holder (with_changed cs ps) m.range ≡ None → is_partly_present (with_changed cs ps) m.range ≡ false → DraftOpens m b cs ps
draft_opens m b cs ps t u cells can none whole =
    let qs = with_changed cs ps in
    let p = opening m b in
    let rest = beside cs ps in
    let after = is_table-after m b qs u cells whole in
    let absent = is_present-none qs m.range none in
    let apart = or_parts (overlaps_any (filter has_count cs) m.range) (overlaps_any rest m.range) (sym (any_drafted (λ (q : Presence). range_overlaps q.range m.range) cs ps) ∙ no_overlap qs m.range absent whole) in
    let more : filter has_count (cs ++ p ∷ []) ≡ filter has_count cs ++ p ∷ [] = filter-append has_count cs (p ∷ []) ∙ rw (counted_once m b can) refl in
    let beside_same : beside (cs ++ p ∷ []) ps ≡ rest = beside_push cs ps p ∙ kept_apart m.range rest apart.1 in
    let same : with_changed (cs ++ p ∷ []) ps ≡ presences_after m b qs =
    drafted_is (cs ++ p ∷ []) ps (presences_after m b qs) t after
    (record {
      sums = λ g.
          omega (
            arith,
            ap (sum_by g) (opens_at m b qs u can none),
            sum_by-insert g qs (behind m.range qs) p,
            (drafted_sums cs ps).sums g,
            sum_by-append g (filter has_count cs) rest,
            sum_by-append g (filter has_count (cs ++ p ∷ [])) (beside (cs ++ p ∷ []) ps),
            ap (sum_by g) more,
            ap (sum_by g) beside_same,
            sum_by_push g (filter has_count cs) p,
          );
    }) in
    record {
      same = same;
      after = rw same after;
      used = ap used_cells same ∙ used_cells-opened m b qs u can absent;
    }

-- ## The same over a draft's entries

-- What the draft shows where the entry that the mark's range is part of has become this one.
pub record CountsEntry (m : Mark) (es : List Held) (ps qs : List Presence) (i : ℕ) (x y : Held) : Type 0 where
  pub seen : holder qs m.range ≡ Some (held_presence x)
  pub same : with_changed (map held_presence (set es i y)) ps ≡ kept_after m qs
  pub after : is_table (with_changed (map held_presence (set es i y)) ps) ≡ true
  pub used : used_cells (with_changed (map held_presence (set es i y)) ps) + x.range.len ≡ used_cells qs + cond (has_count (held_presence y)) x.range.len 0

pub counts_entry : (m : Mark) (es : List Held) (ps qs : List Presence) (i : ℕ) (x y : Held) → is_table ps ≡ true → is_table qs ≡ true → 0 < m.range.len
    → with_changed (map held_presence es) ps ≡ qs → slice_get (map held_presence es) i ≡ holder qs m.range → i < length es → x ≡ get_or es i x
    → held_presence y ≡ stepped m.change (held_presence x) → CountsEntry m es ps qs i x y
counts_entry m es ps qs i x y t u cells same held low is step =
    let cs = map held_presence es in
    let seen : holder qs m.range ≡ Some (held_presence x) = sym held ∙ slice_get-shown held_presence es i x low is in
    let at : held_presence x ≡ get_or cs i (held_presence x) = ap held_presence is ∙ sym (get_or-map held_presence es i x (held_presence x) low) in
    let k = draft_counts m cs ps i (held_presence x) t (rw same u) cells (rw (length-map es held_presence) low) at (rw same seen) in
    let changed : map held_presence (set es i y) ≡ set cs i (stepped m.change (held_presence x)) = map-set held_presence es i y ∙ ap (set cs i) step in
    record {
      seen = seen;
      same = rw changed (k.same ∙ ap (kept_after m) same);
      after = rw changed k.after;
      used = rw changed (k.used ∙ (ap (λ l. used_cells l + cond (has_count (stepped m.change (held_presence x))) x.range.len 0) same ∙ ap (λ p. used_cells qs + cond (has_count p) x.range.len 0) (sym step)));
    }

-- What it shows where this entry was added, which the mark opens.
pub record OpensEntry (m : Mark) (b : ℕ) (es : List Held) (ps qs : List Presence) (e : Held) : Type 0 where
  pub same : with_changed (map held_presence (es ++ e ∷ [])) ps ≡ presences_after m b qs
  pub after : is_table (with_changed (map held_presence (es ++ e ∷ [])) ps) ≡ true
  pub used : used_cells (with_changed (map held_presence (es ++ e ∷ [])) ps) ≡ used_cells qs + m.range.len

pub opens_entry : (m : Mark) (b : ℕ) (es : List Held) (ps qs : List Presence) (e : Held) → is_table ps ≡ true → is_table qs ≡ true → 0 < m.range.len
    → with_changed (map held_presence es) ps ≡ qs → can_open m.change ≡ true → holder qs m.range ≡ None → is_partly_present qs m.range ≡ false → held_presence e ≡ opening m b
    → OpensEntry m b es ps qs e
opens_entry m b es ps qs e t u cells same can none whole is =
    let cs = map held_presence es in
    let k = draft_opens m b cs ps t (rw same u) cells can (rw same none) (rw same whole) in
    let changed : map held_presence (es ++ e ∷ []) ≡ cs ++ opening m b ∷ [] = map_push held_presence es e ∙ ap (λ p. cs ++ p ∷ []) is in
    record {
      same = rw changed (k.same ∙ ap (presences_after m b) same);
      after = rw changed k.after;
      used = rw changed (k.used ∙ ap (λ l. used_cells l + m.range.len) same);
    }

-- ## An exit from a draft

-- The range is part of this entry, which stands at this index among the changed ones.
pub record PlacedFor {t : TableView} {d : DraftView} (k : IsDraft t d) (r : Range) (es : List Held) (i : ℕ) (x : Held) : Type 0 where
  pub same : with_changed (map held_presence es) t.presences ≡ drafted t d
  pub held : slice_get (map held_presence es) i ≡ holder (drafted t d) r
  pub low : i < length es
  pub is : x ≡ get_or es i x
  pub seen : holder (drafted t d) r ≡ Some (held_presence x)

pub placed_for : {t : TableView} {d : DraftView} (k : IsDraft t d) (r : Range) (es : List Held) (i : ℕ) (x : Held) → with_changed (map held_presence es) t.presences ≡ drafted t d
    → slice_get (map held_presence es) i ≡ holder (drafted t d) r → i < length es → x ≡ get_or es i x → PlacedFor k r es i x
placed_for k r es i x same held low is = record { same = same; held = held; low = low; is = is; seen = sym held ∙ slice_get-shown held_presence es i x low is }

-- a mark that leaves the entry as it was
pub draft_stays : {t : TableView} {d : DraftView} (k : IsDraft t d) (m : Mark) (es : List Held) (i : ℕ) (x : Held) → PlacedFor k m.range es i x → 0 < m.range.len
    → stepped m.change (held_presence x) ≡ held_presence x → with_changed (map held_presence es) t.presences ≡ kept_after m (drafted t d)
draft_stays {t = t} {d = d} k m es i x f cells nothing =
    let counted = counts_entry m es t.presences (drafted t d) i x x k.table k.after cells f.same f.held f.low f.is (sym nothing) in
    let back : set es i x ≡ es = ap (set es i) f.is ∙ set-get_or es i x in
    rw back at counted.same

-- where the entry ends, its cells are in use
pub settled_cells : {t : TableView} {d : DraftView} (k : IsDraft t d) (m : Mark) (es : List Held) (i : ℕ) (x y : Held) → PlacedFor k m.range es i x → 0 < m.range.len
    → held_presence y ≡ stepped m.change (held_presence x) → has_count (held_presence y) ≡ false → y.range.len ≤ d.used
settled_cells {t = t} {d = d} k m es i x y f cells step over =
    let counted = counts_entry m es t.presences (drafted t d) i x y k.table k.after cells f.same f.held f.low f.is step in
    let sum = rw over at counted.used in
    let len : y.range.len ≡ x.range.len = ap (λ (p : Presence). p.range.len) step in
    omega (arith, sum, len, k.counted)

-- an entry is settled: what the draft shows then, and that it is a draft
pub record Settled (m : Mark) (t : TableView) (d e : DraftView) : Type 0 where
  pub same : drafted t e ≡ kept_after m (drafted t d)
  pub draft : IsDraft t e

pub draft_settled : {t : TableView} {d : DraftView} (k : IsDraft t d) (m : Mark) (es : List Held) (i : ℕ) (x y : Held) (e : DraftView) → PlacedFor k m.range es i x → 0 < m.range.len
    → held_presence y ≡ stepped m.change (held_presence x) → e.changed ≡ set (map held_presence es) i (held_presence y)
    → e.used + cond (has_count (held_presence y)) 0 y.range.len ≡ d.used → Settled m t d e
draft_settled {t = t} {d = d} k m es i x y e f cells step changed used =
    let counted = counts_entry m es t.presences (drafted t d) i x y k.table k.after cells f.same f.held f.low f.is step in
    let now : drafted t e ≡ with_changed (map held_presence (set es i y)) t.presences = ap (λ cs. with_changed cs t.presences) (changed ∙ sym (map-set held_presence es i y)) in
    let cells_now = ap used_cells now in
    let len : y.range.len ≡ x.range.len = ap (λ (p : Presence). p.range.len) step in
    let sums : (e.used ≡ used_cells (drafted t e)) × (used_cells (drafted t e) ≤ t.capacity) = elim (cases_Bool (has_count (held_presence y))) [
      | inl stays ↦
          let before = rw stays at used in
          let after = rw stays at counted.used in
          (omega (arith, before, after, cells_now, k.counted), omega (arith, after, cells_now, k.within))
      | inr over ↦
          let before = rw over at used in
          let after = rw over at counted.used in
          (omega (arith, before, after, len, cells_now, k.counted), omega (arith, after, cells_now, k.within))
    ] in
    record { same = now ∙ counted.same; draft = record { table = k.table; after = rw now counted.after; counted = sums.0; within = sums.1 } }
