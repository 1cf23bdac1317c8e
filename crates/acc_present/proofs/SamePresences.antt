-- Lists of the same presences, in any order: each sum over the one is that over the other.
use Rattle.std.proofs.Common.{◌≡◌, ℕ, zero, suc, ◌<◌, Bool, true, cond, List, [], ◌∷◌, length, get_or, refl, sym, ap, ◌∙◌, arith, inl, inr}
use Rattle.std.specs.Prelude.{◌&&◌, ◌||◌, ◌==◌, nat_lt, sum_by}
use Rattle.std.specs.List.{list_any}
use Rattle.std.proofs.lemmas.Bool.{cases_Bool, and_parts, eq-eqb, eqb-true, lt-ltb}
use Rattle.std.proofs.lemmas.Bool.Decides.{nat_tests}
use Rattle.std.proofs.lemmas.List.Sums.{sum_by-cons}
use Rattle.acc_base.specs.declared.range.Range.{Range}
use Rattle.acc_present.specs.Presences.{Presence}
use Rattle.acc_present.specs.Tables.{is_table, ends_before}
use Rattle.acc_present.proofs.TableOrder.{table_parts, ends_before_at}

pub record Alike (xs ys : List Presence) : Type 0 where
  pub sums : (f : Presence → ℕ) → sum_by f xs ≡ sum_by f ys

-- ## Places

unfoldable pub same_presence : Presence → Presence → Bool
same_presence p q =
    ((p.range.array == q.range.array) && ((p.range.lo == q.range.lo) && (p.range.len == q.range.len)))
    && ((p.block == q.block) && ((p.s == q.s) && (p.d == q.d)))

same_presence-self : (p : Presence) → same_presence p p ≡ true
unfolding same_presence
same_presence-self p =
    rw (eq-eqb p.range.array p.range.array refl, eq-eqb p.range.lo p.range.lo refl, eq-eqb p.range.len p.range.len refl, eq-eqb p.block p.block refl, eq-eqb p.s p.s refl, eq-eqb p.d p.d refl) refl

same_presence-true : (p q : Presence) → same_presence p q ≡ true → p ≡ q
unfolding same_presence
same_presence-true p q h =
    let whole = and_parts ((p.range.array == q.range.array) && ((p.range.lo == q.range.lo) && (p.range.len == q.range.len))) ((p.block == q.block) && ((p.s == q.s) && (p.d == q.d))) h in
    let ranges = and_parts (p.range.array == q.range.array) ((p.range.lo == q.range.lo) && (p.range.len == q.range.len)) whole.0 in
    let cells = and_parts (p.range.lo == q.range.lo) (p.range.len == q.range.len) ranges.1 in
    let blocks = and_parts (p.block == q.block) ((p.s == q.s) && (p.d == q.d)) whole.1 in
    let counts = and_parts (p.s == q.s) (p.d == q.d) blocks.1 in
    let a = eqb-true p.range.array q.range.array ranges.0 in
    let l = eqb-true p.range.lo q.range.lo cells.0 in
    let n = eqb-true p.range.len q.range.len cells.1 in
    let b = eqb-true p.block q.block blocks.0 in
    let s = eqb-true p.s q.s counts.0 in
    let d = eqb-true p.d q.d counts.1 in
    let r : p.range ≡ q.range =
    ap (λ (k : ℕ). record { array = k; lo = p.range.lo; len = p.range.len }) a
    ∙ (ap (λ (k : ℕ). record { array = q.range.array; lo = k; len = p.range.len }) l
    ∙ ap (λ (k : ℕ). record { array = q.range.array; lo = q.range.lo; len = k }) n) in
    ap (λ (k : Range). record p { range = k }) r
    ∙ (ap (λ (k : ℕ). record { range = q.range; block = k; s = p.s; d = p.d }) b
    ∙ (ap (λ (k : ℕ). record { range = q.range; block = q.block; s = k; d = p.d }) s
    ∙ ap (λ (k : ℕ). record { range = q.range; block = q.block; s = q.s; d = k }) d))

-- 1 at this presence, 0 at others
abbrev pub one_at : Presence → Presence → ℕ
one_at p q = cond (same_presence q p) 1 0

pub one_at-self : (p : Presence) → one_at p p ≡ 1
one_at-self p = rw (same_presence-self p) refl

-- a presence stands at this index
pub record StandsIn (ps : List Presence) (x : Presence) : Type 0 where
  pub index : ℕ
  pub low : index < length ps
  pub is : x ≡ get_or ps index x

pub stands_in : (ps : List Presence) (x : Presence) → 0 < sum_by (one_at x) ps → StandsIn ps x
stands_in [] x some = absurd (omega arith)
stands_in (p ∷ ps) x some =
    let sum = sum_by-cons (one_at x) p ps in
    elim (cases_Bool (same_presence p x)) [
      | inl hit ↦ record { index = 0; low = omega arith; is = sym (same_presence-true p x hit) }
      | inr miss ↦
          let none : one_at x p ≡ 0 = rw miss refl in
          let s = stands_in ps x (omega (arith, some, sum, none)) in
          record { index = suc s.index; low = omega (arith, s.low); is = s.is }
    ]

-- ## A test of each

-- 1 where the test holds
abbrev ones : (Presence → Bool) → Presence → ℕ
ones t p = cond (t p) 1 0

any_is_sum : (t : Presence → Bool) (ps : List Presence) → list_any t ps ≡ nat_lt 0 (sum_by (ones t) ps)
any_is_sum t [] = refl
any_is_sum t (p ∷ ps) =
    let sum = sum_by-cons (ones t) p ps in
    elim (cases_Bool (t p)) [
      | inl hit ↦
          let one : ones t p ≡ 1 = rw hit refl in
          ap (λ b. b || list_any t ps) hit ∙ sym (lt-ltb 0 (sum_by (ones t) (p ∷ ps)) (omega (arith, sum, one)))
      | inr miss ↦
          let none : ones t p ≡ 0 = rw miss refl in
          let e : sum_by (ones t) ps ≡ sum_by (ones t) (p ∷ ps) = omega (arith, sum, none) in
          ap (λ b. b || list_any t ps) miss ∙ (any_is_sum t ps ∙ ap (nat_lt 0) e)
    ]

pub any_alike : (t : Presence → Bool) (xs ys : List Presence) → Alike xs ys → list_any t xs ≡ list_any t ys
any_alike t xs ys a = any_is_sum t xs ∙ (ap (nat_lt 0) (a.sums (ones t)) ∙ sym (any_is_sum t ys))

-- ## Tables of the same presences are the same

never_both : (a b : Range) → nat_lt 0 a.len ≡ true → nat_lt 0 b.len ≡ true → ends_before a b ≡ true → ends_before b a ≡ true → ⊥
never_both a b m n h k = grind (arith, nat_tests, m, n, h, k)

first_alike : (x y : Presence) (xs ys : List Presence) → is_table (x ∷ xs) ≡ true → is_table (y ∷ ys) ≡ true → StandsIn (y ∷ ys) x → StandsIn (x ∷ xs) y → x ≡ y
first_alike x y xs ys t u s w = by_index s.index w.index s.low s.is w.low w.is
  where
    by_index : (i j : ℕ) → i < length (y ∷ ys) → x ≡ get_or (y ∷ ys) i x → j < length (x ∷ xs) → y ≡ get_or (x ∷ xs) j y → x ≡ y
    by_index zero j low is below at = is
    by_index (suc i) zero low is below at = sym at
    by_index (suc i) (suc j) low is below at =
        let a = table_parts x xs t in
        let b = table_parts y ys u in
        absurd (never_both x.range y.range a.cells b.cells (ends_before_at x.range xs j y a.first (omega (arith, below)) at) (ends_before_at y.range ys i x b.first (omega (arith, low)) is))

pub tables_alike : (xs ys : List Presence) → is_table xs ≡ true → is_table ys ≡ true → Alike xs ys → xs ≡ ys
tables_alike [] [] t u a = refl
tables_alike [] (y ∷ ys) t u a = absurd (omega (arith, a.sums (λ p. 1), sum_by-cons (λ p. 1) y ys))
tables_alike (x ∷ xs) [] t u a = absurd (omega (arith, a.sums (λ p. 1), sum_by-cons (λ p. 1) x xs))
tables_alike (x ∷ xs) (y ∷ ys) t u a =
    let in_y = stands_in (y ∷ ys) x (omega (arith, a.sums (one_at x), sum_by-cons (one_at x) x xs, one_at-self x)) in
    let in_x = stands_in (x ∷ xs) y (omega (arith, a.sums (one_at y), sum_by-cons (one_at y) y ys, one_at-self y)) in
    let same = first_alike x y xs ys t u in_y in_x in
    let rest : Alike xs ys = record { sums = λ f. omega (arith, a.sums f, sum_by-cons f x xs, sum_by-cons f y ys, ap f same) } in
    ap (λ k. k ∷ xs) same ∙ ap (λ k. y ∷ k) (tables_alike xs ys (table_parts x xs t).others (table_parts y ys u).others rest)
