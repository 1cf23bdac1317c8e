-- The last entry that doesn't begin behind a range's first cell: whether it contains the range.
use Rattle.std.proofs.Common.{◌≡◌, ℕ, ◌-◌, ◌<◌, ◌≤◌, zero, suc, true, false, List, [], ◌∷◌, length, drop, set, get_or, Option, Some, None, refl, sym, ap, subst, ◌∙◌, arith, inl, inr}
use Rattle.std.specs.Prelude.{slice_get}
use Rattle.std.proofs.Math.Bool.{or-true}
use Rattle.std.proofs.lemmas.Bool.{cases_Bool}
use Rattle.std.proofs.lemmas.List.{set-get_or}
use Rattle.std.proofs.lemmas.Option.{get_or_from_slice_get, slice_get_within}
use Rattle.acc_base.specs.declared.range.Range.{Range}
use Rattle.std.specs.Option.{option_map_or}
use Rattle.acc_base.specs.Ranges.{range_contains, range_overlaps}
use Rattle.acc_raw.specs.Indices.{last_of, up_to}
use Rattle.acc_present.specs.declared.entry.Entry.{Entry}
use Rattle.acc_present.specs.Lifetimes.{is_before}
use Rattle.acc_present.specs.Presences.{Presence, holder, overlaps_any}
use Rattle.acc_present.specs.Tables.{entry_presence, is_table}
use Rattle.acc_present.specs.inner.Keys.{AreKeyed, behind, key_of}
use Rattle.acc_present.proofs.EnterAndExit.{shown, FoundAt, found_at}
use Rattle.acc_present.proofs.EntryKeys.{keyed_behind}
use Rattle.acc_present.proofs.Holder.{behind-miss, behind_within, met_at, not_held, overlaps_is, holder_is-none, holder_is-later, slice_get-shown}

-- an entry before the k-th is there
pub record LastAt (es : List Entry) (k : ℕ) (x : Entry) : Type 0 where
  pub some : 0 < k
  pub low : k - 1 < length es
  pub is : x ≡ get_or es (k - 1) x

pub last_at : (es : List Entry) (k : ℕ) (x : Entry) → last_of es k ≡ Some x → LastAt es k x
last_at es zero x e = cc
last_at es (suc i) x e =
    let one : suc i - 1 ≡ i = omega arith in let within = slice_get_within es i x e in
    record { some = omega arith; low = omega (arith, one, within); is = sym (ap (λ n. get_or es n x) one ∙ get_or_from_slice_get es i x x e) }

-- what is written back as it was changes nothing
pub floor_kept : (es : List Entry) (k : ℕ) (x : Entry) → last_of es k ≡ Some x → set es (k - 1) x ≡ es
floor_kept es k x e = ap (λ y. set es (k - 1) y) (last_at es k x e).is ∙ set-get_or es (k - 1) x

module _ (es : List Entry) (r : Range) (t : is_table (shown es) ≡ true) (cells : 0 < r.len) where
  pub floor_found : (x : Entry) → last_of es (behind r (shown es)) ≡ Some x → range_contains x.range r ≡ true → FoundAt es r (behind r (shown es) - 1) x
  floor_found x e has =
      let k = behind r (shown es) in let l = last_at es k x e in
      let held = holder_is-later es r k x t cells refl l.some l.low l.is ∙ rw has (sym (slice_get-shown entry_presence es (k - 1) x l.low l.is)) in
      found_at es r (k - 1) x held l.low l.is

  pub floor_missed : (x : Entry) → last_of es (behind r (shown es)) ≡ Some x → range_contains x.range r ≡ false → holder (shown es) r ≡ None
  floor_missed x e misses =
      let k = behind r (shown es) in let l = last_at es k x e in
      holder_is-later es r k x t cells refl l.some l.low l.is ∙ rw misses refl

  pub floor_none : last_of es (behind r (shown es)) ≡ None → holder (shown es) r ≡ None
  floor_none e = by_count (behind r (shown es)) (behind_within r es) refl e where
    by_count : (k : ℕ) → k ≤ length es → k ≡ behind r (shown es) → last_of es k ≡ None → holder (shown es) r ≡ None
    by_count zero le is e = holder_is-none (shown es) r zero t cells is refl
    by_count (suc i) le is e = there es i e (omega (arith, le)) where
      there : (zs : List Entry) (i : ℕ) → slice_get zs i ≡ None → i < length zs → holder (shown es) r ≡ None
      there [] i e lt = absurd (omega (arith, lt))
      there (z ∷ zs) zero e lt = cc
      there (z ∷ zs) (suc i) e lt = there zs i e (omega (arith, lt))

pub holder_found : (x : Entry) (r : Range) → range_contains x.range r ≡ true → holder (entry_presence x ∷ []) r ≡ Some (entry_presence x)
holder_found x r has = rw has refl

pub holder_missed : (x : Entry) (r : Range) → range_contains x.range r ≡ false → holder (entry_presence x ∷ []) r ≡ None
holder_missed x r misses = rw misses refl

-- what is known of a second one, or that there is none
pub one_second : (rest : List Entry) (x : Entry) (others : List Entry) (r : Range) → rest ≡ x ∷ others → range_overlaps x.range r ≡ false → (y : Entry) (zs : List Entry) → rest ≡ y ∷ zs → range_overlaps y.range r ≡ false
one_second rest x others r e apart y zs told = let same : x ≡ y = first_same (sym e ∙ told) in ap (λ (z : Entry). range_overlaps z.range r) (sym same) ∙ apart where
  first_same : {a b : Entry} {xs ys : List Entry} → a ∷ xs ≡ b ∷ ys → a ≡ b
  first_same e = cc

pub no_second : (rest : List Entry) (r : Range) → rest ≡ [] → (y : Entry) (zs : List Entry) → rest ≡ y ∷ zs → range_overlaps y.range r ≡ false
no_second rest r none y zs told = absurd (never (sym none ∙ told)) where
  never : {a : Entry} {xs : List Entry} → [] ≡ a ∷ xs → ⊥
  never e = cc

-- what is left from the k-th entry on
rest_from : (es : List Entry) (k : ℕ) (x : Entry) (rest : List Entry) → drop k es ≡ x ∷ rest → (slice_get es k ≡ Some x) × (rest ≡ drop (suc k) es)
rest_from [] zero x rest e = cc
rest_from [] (suc k) x rest e = cc
rest_from (z ∷ zs) zero x rest e = (cc, cc)
rest_from (z ∷ zs) (suc k) x rest e = rest_from zs k x rest e

none_behind : (es : List Entry) (k : ℕ) → drop k es ≡ [] → slice_get (shown es) k ≡ None
none_behind [] k e = refl
none_behind (z ∷ zs) zero e = cc
none_behind (z ∷ zs) (suc k) e = none_behind zs k e

-- nothing is left before the end only of nothing
none_left : (es : List Entry) (k : ℕ) → drop k es ≡ [] → k < length es → ⊥
none_left [] k e lt = omega (arith, lt)
none_left (z ∷ zs) zero e lt = cc
none_left (z ∷ zs) (suc k) e lt = none_left zs k e (omega (arith, lt))

-- an entry that is there
pub record HereAt (es : List Entry) (i : ℕ) (x : Entry) : Type 0 where
  pub low : i < length es
  pub is : x ≡ get_or es i x

here_at : (es : List Entry) (i : ℕ) (x : Entry) → slice_get es i ≡ Some x → HereAt es i x
here_at es i x e = record { low = slice_get_within es i x e; is = sym (get_or_from_slice_get es i x x e) }

-- one that overlaps the range is among those of which one does
member : (ps : List Presence) (i : ℕ) (p : Presence) (r : Range) → slice_get ps i ≡ Some p → range_overlaps p.range r ≡ true → overlaps_any ps r ≡ true
member [] i p r at meets = cc
member (q ∷ ps) zero p r at meets = let same : q ≡ p = cc in rw (same, meets) refl
member (q ∷ ps) (suc i) p r at meets = rw (member ps i p r at meets) (or-true (range_overlaps q.range r))

module _ (es : List Entry) (r : Range) (t : is_table (shown es) ≡ true) (cells : 0 < r.len) where
  -- the first entry of all begins behind the range, where no entry comes before the first that does
  begins_behind : (x : Entry) (rest : List Entry) → behind r (shown (x ∷ rest)) ≡ 0 → is_before r x.range ≡ true
  begins_behind x rest none = elim (cases_Bool (is_before r x.range)) [
    | inl hit ↦ hit
    | inr miss ↦ (let later = behind-miss r (entry_presence x) (shown rest) miss in absurd (omega (arith, none, later)))
  ]

  abbrev count : ℕ
  count = behind r (shown es)

  pub none_around : drop (count - 1) es ≡ [] → es ≡ []
  none_around e = by_list es (behind_within r es) (none_left es (count - 1) e) where
    by_list : (zs : List Entry) → count ≤ length zs → (count - 1 < length zs → ⊥) → zs ≡ []
    by_list [] le past = refl
    by_list (z ∷ zs) le past = absurd (past (omega (arith, le)))

  module _ (x : Entry) (rest : List Entry) (e : drop (count - 1) es ≡ x ∷ rest) where
    -- only the first one can contain the range
    pub first_holds : holder (shown es) r ≡ holder (entry_presence x ∷ []) r
    first_holds = by_count count refl where
      by_count : (k : ℕ) → k ≡ count → holder (shown es) r ≡ holder (entry_presence x ∷ []) r
      by_count zero is =
          let less : count - 1 ≡ 0 = omega (arith, is) in let whole : es ≡ x ∷ rest = ap (λ n. drop n es) (sym less) ∙ e in
          let before = begins_behind x rest (ap (λ l. behind r (shown l)) (sym whole) ∙ sym is) in
          holder_is-none (shown es) r zero t cells is refl ∙ rw (not_held r x.range before cells) refl
      by_count (suc i) is =
          let low = (rest_from es (count - 1) x rest e).0 in
          let l = last_at es count x (ap (λ n. last_of es n) (sym is) ∙ ap (λ n. slice_get es n) (omega (arith, is)) ∙ low) in
          holder_is-later es r count x t cells refl l.some l.low l.is

    -- the entry is one of the table's
    pub here : HereAt es (count - 1) x
    here = here_at es (count - 1) x (rest_from es (count - 1) x rest e).0

    -- and only the first two can overlap it
    pub first_meets : range_overlaps x.range r ≡ true → overlaps_any (shown es) r ≡ true
    first_meets meets = member (shown es) (count - 1) (entry_presence x) r (slice_get-shown entry_presence es (count - 1) x at.low at.is) meets where
      at : HereAt es (count - 1) x
      at = here_at es (count - 1) x (rest_from es (count - 1) x rest e).0

    pub second_meets : (y : Entry) (others : List Entry) → rest ≡ y ∷ others → range_overlaps y.range r ≡ true → overlaps_any (shown es) r ≡ true
    second_meets y others more meets = member (shown es) (suc (count - 1)) (entry_presence y) r (slice_get-shown entry_presence es (suc (count - 1)) y at.low at.is) meets where
      at : HereAt es (suc (count - 1)) y
      at = here_at es (suc (count - 1)) y (rest_from es (suc (count - 1)) y others (sym (rest_from es (count - 1) x rest e).1 ∙ more)).0

    pub none_meets : range_overlaps x.range r ≡ false → ((y : Entry) (others : List Entry) → rest ≡ y ∷ others → range_overlaps y.range r ≡ false) → overlaps_any (shown es) r ≡ false
    none_meets apart second = overlaps_is (shown es) r t ∙ by_count count refl where
      next : option_map_or (λ p. range_overlaps p.range r) (slice_get (shown es) (suc (count - 1))) false ≡ false
      next = by_list rest refl where
        by_list : (zs : List Entry) → zs ≡ rest → option_map_or (λ p. range_overlaps p.range r) (slice_get (shown es) (suc (count - 1))) false ≡ false
        by_list [] is = ap (λ o. option_map_or (λ p. range_overlaps p.range r) o false) (none_behind es (suc (count - 1)) (sym (rest_from es (count - 1) x rest e).1 ∙ sym is))
        by_list (y ∷ others) is =
            let at = here_at es (suc (count - 1)) y (rest_from es (suc (count - 1)) y others (sym (rest_from es (count - 1) x rest e).1 ∙ sym is)).0 in
            ap (λ o. option_map_or (λ p. range_overlaps p.range r) o false) (slice_get-shown entry_presence es (suc (count - 1)) y at.low at.is) ∙ second y others (sym is)

      first : option_map_or (λ p. range_overlaps p.range r) (slice_get (shown es) (count - 1)) false ≡ false
      first = ap (λ o. option_map_or (λ p. range_overlaps p.range r) o false) (slice_get-shown entry_presence es (count - 1) x here.low here.is) ∙ apart

      by_count : (k : ℕ) → k ≡ count → met_at (shown es) r count ≡ false
      by_count zero is = let less : 0 ≡ count - 1 = omega (arith, is) in ap (λ n. met_at (shown es) r n) (sym is) ∙ ap (λ n. option_map_or (λ p. range_overlaps p.range r) (slice_get (shown es) n) false) less ∙ first
      by_count (suc i) is =
          let less : i ≡ count - 1 = omega (arith, is) in
          ap (λ n. met_at (shown es) r n) (sym is ∙ ap suc less) ∙ rw (first, next) refl

-- ## The same by the keys

module _ (es : List Entry) (ks : List ℕ) (r : Range) (low : r.lo < 4294967296) (keyed : AreKeyed es ks) (t : is_table (shown es) ≡ true) (cells : 0 < r.len) where
  by_behind : (o : Option Entry) → last_of es (up_to (key_of r) ks) ≡ o → last_of es (behind r (shown es)) ≡ o
  by_behind o e = ap (λ n. last_of es n) (sym (keyed_behind r es ks low keyed)) ∙ e

  pub keyed_found : (x : Entry) → last_of es (up_to (key_of r) ks) ≡ Some x → range_contains x.range r ≡ true → FoundAt es r (up_to (key_of r) ks - 1) x
  keyed_found x e has = subst (λ n. FoundAt es r (n - 1) x) (sym (keyed_behind r es ks low keyed)) (floor_found es r t cells x (by_behind (Some x) e) has)

  pub keyed_missed : (x : Entry) → last_of es (up_to (key_of r) ks) ≡ Some x → range_contains x.range r ≡ false → holder (shown es) r ≡ None
  keyed_missed x e misses = floor_missed es r t cells x (by_behind (Some x) e) misses

  pub keyed_none : last_of es (up_to (key_of r) ks) ≡ None → holder (shown es) r ≡ None
  keyed_none e = floor_none es r t cells (by_behind None e)
