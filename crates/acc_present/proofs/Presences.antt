-- What is present after one more mark.
use Rattle.std.proofs.Common.{◌≡◌, ℕ, suc, ◌+◌, ◌-◌, ◌≤◌, Bool, true, false, cond, List, [], ◌∷◌, length, take, map, refl, sym, ap, ◌∙◌, arith, inl, inr}
use Rattle.std.specs.Prelude.{◌&&◌, not, filter}
use Rattle.std.specs.List.{list_any}
pub use Rattle.std.specs.List.{AllByRecursion as Each}
use Rattle.std.proofs.Math.Bool.{and-false}
use Rattle.std.proofs.lemmas.List.{map-append}
use Rattle.std.proofs.lemmas.List.Elements.{filter-append, All-from_recursion, recursion_from_All, All-weaker, All-append, All-filter, All-cons}
use Rattle.std.proofs.lemmas.Bool.{cases_Bool, and_parts, eq-eqb, le-leb}
use Rattle.acc_base.specs.declared.range.Range.{Range}
use Rattle.acc_base.specs.Ranges.{range_contains}
use Rattle.acc_present.specs.declared.change.Change.{Change}
use Rattle.acc_present.specs.declared.change.Change.TheVariants.{StructuredUp, StructuredDown, DynamicUp, DynamicDown, DynamicZero}
use Rattle.acc_present.specs.Marks.{Mark, inside, dynamic_after, structured_count}
use Rattle.acc_present.specs.Lifetimes.{Lifetime, opens, lifetime_inserted, is_before, can_open, opened_lifetimes, live_lifetimes, lives, is_counted, marks_since, structured_of, times_entered, times_left}
use Rattle.acc_present.specs.Presences.{presence_of, presences, is_present}
use Rattle.acc_present.specs.Tables.{structured_after, presence_after, has_count, kept_after, presences_after, opening}

pub marks_since-more : (m : Mark) (ms : List Mark) (l : Lifetime) → l.since ≤ length ms → marks_since (m ∷ ms) l ≡ m ∷ marks_since ms l
marks_since-more m ms l h =
    let e : suc (length ms) - l.since ≡ suc (length ms - l.since) = omega arith in
    ap (λ k. take k (m ∷ ms)) e

-- ## The counters after one more mark

-- no live lifetime was left by more regions than entered it
abbrev pub IsBalanced : List Mark → Lifetime → Type 0
IsBalanced ms l = lives ms l ≡ true → times_left ms l ≤ times_entered ms l

-- what the counter of a lifetime asks of the marks before a change, so that it changes with it: an entry is not to make
-- up for an exit that had none
abbrev pub CanCountIn : Change → List Mark → Lifetime → Type 0
CanCountIn StructuredUp ms l = IsBalanced ms l
CanCountIn StructuredDown ms l = Unit {0}
CanCountIn DynamicUp ms l = Unit {0}
CanCountIn DynamicDown ms l = Unit {0}
CanCountIn DynamicZero ms l = Unit {0}

abbrev pub CanCount : Change → List Mark → Type 0
CanCount StructuredUp ms = Each (IsBalanced ms) (opened_lifetimes ms)
CanCount StructuredDown ms = Unit {0}
CanCount DynamicUp ms = Unit {0}
CanCount DynamicDown ms = Unit {0}
CanCount DynamicZero ms = Unit {0}

pub Each-trivial : {X : Type 0} (xs : List X) → Each (λ x. Unit {0}) xs
Each-trivial [] = tt
Each-trivial (x ∷ xs) = (tt, Each-trivial xs)

pub each_can_count : (change : Change) (ms : List Mark) → CanCount change ms → Each (CanCountIn change ms) (opened_lifetimes ms)
each_can_count StructuredUp ms h = h
each_can_count StructuredDown ms h = Each-trivial (opened_lifetimes ms)
each_can_count DynamicUp ms h = Each-trivial (opened_lifetimes ms)
each_can_count DynamicDown ms h = Each-trivial (opened_lifetimes ms)
each_can_count DynamicZero ms h = Each-trivial (opened_lifetimes ms)

structured_count-inside : (change : Change) (inner : Range) (ms : List Mark) (l : Lifetime) → lives ms l ≡ true → CanCountIn change ms l → range_contains l.range inner ≡ true
    → structured_count l.range (record { change = change; range = inner } ∷ marks_since ms l) ≡ structured_after change (structured_of ms l)
structured_count-inside StructuredUp inner ms l alive h has = rw has (omega (arith, h alive))
structured_count-inside StructuredDown inner ms l alive h has = rw has (omega arith)
structured_count-inside DynamicUp inner ms l alive h has = rw has refl
structured_count-inside DynamicDown inner ms l alive h has = rw has refl
structured_count-inside DynamicZero inner ms l alive h has = rw has refl

structured_count-more : (m : Mark) (ms : List Mark) (l : Lifetime) → lives ms l ≡ true → CanCountIn m.change ms l
    → structured_count l.range (m ∷ marks_since ms l) ≡ cond (inside l.range m) (structured_after m.change (structured_of ms l)) (structured_of ms l)
structured_count-more m ms l alive h = elim (cases_Bool (inside l.range m)) [
  | inl is_inside ↦ structured_count-inside m.change m.range ms l alive h is_inside ∙ rw is_inside refl
  | inr is_outside ↦ rw is_outside refl
]

presence_of-more : (m : Mark) (ms : List Mark) (l : Lifetime) → l.since ≤ length ms → lives ms l ≡ true → CanCountIn m.change ms l → presence_of (m ∷ ms) l ≡ presence_after m (presence_of ms l)
presence_of-more m ms l h alive counts =
    rw (marks_since-more m ms l h, structured_count-more m ms l alive counts)
    (elim (cases_Bool (inside l.range m)) [ inl is_inside ↦ rw is_inside refl | inr is_outside ↦ rw is_outside refl ])

pub lives-more : (m : Mark) (ms : List Mark) (l : Lifetime) → l.since ≤ length ms → CanCountIn m.change ms l → lives (m ∷ ms) l ≡ (has_count (presence_after m (presence_of ms l)) && lives ms l)
lives-more m ms l h counts = elim (cases_Bool (lives ms l)) [
  | inl alive ↦ rw (← presence_of-more m ms l h alive counts) (rw (marks_since-more m ms l h) refl)
  | inr over ↦
      rw (marks_since-more m ms l h)
      (rw over (and-false (is_counted l.range (m ∷ marks_since ms l)) ∙ sym (and-false (has_count (presence_after m (presence_of ms l))))))
]

-- What two descriptions of a member agree on: E and L describe it before the mark, E' and L' after it, g is what
-- the mark makes of a description of a member that is there, and C asks whether it stays.
pub record Agrees {X Y : Type 0} (E E' : X → Y) (L L' : X → Bool) (g : Y → Y) (C : Y → Bool) (t : X → Bool) (t' : Y → Bool) (x : X) : Type 0 where
  pub same : L x ≡ true → E' x ≡ g (E x)
  pub kept : L' x ≡ (C (g (E x)) && L x)
  pub tested : t' (g (E x)) ≡ t x

filters_agree : {X Y : Type 0} (E E' : X → Y) (L L' : X → Bool) (g : Y → Y) (C : Y → Bool) (t : X → Bool) (t' : Y → Bool) (xs : List X)
    → Each (Agrees E E' L L' g C t t') xs → map E' (filter L' (filter t xs)) ≡ filter t' (filter C (map g (map E (filter L xs))))
filters_agree E E' L L' g C t t' [] h = refl
filters_agree E E' L L' g C t t' (x ∷ xs) h =
    let ih = filters_agree E E' L L' g C t t' xs h.1 in
    let b = h.0.kept in let c = h.0.tested in
    elim (cases_Bool (L x)) [
      | inl alive ↦ (let a = h.0.same alive in grind (arith, ih, a, b, c, alive))
      | inr over ↦ (let gone : L' x ≡ false = b ∙ (ap (λ v. C (g (E x)) && v) over ∙ and-false (C (g (E x)))) in grind (arith, ih, gone, over))
    ]

pub Each-weaker : {X : Type 0} (P Q : X → Type 0) (xs : List X) → ((x : X) → P x → Q x) → Each P xs → Each Q xs
Each-weaker P Q xs f h = recursion_from_All Q xs (All-weaker P Q f xs (All-from_recursion P xs h))

abbrev pub IsSince : ℕ → Lifetime → Type 0
IsSince n l = l.since ≤ n

pub Each-lifetime_inserted : (P : Lifetime → Type 0) (l : Lifetime) (ls : List Lifetime) → P l → Each P ls → Each P (lifetime_inserted l ls)
Each-lifetime_inserted P l ls h k =
    let all = All-from_recursion P ls k in
    let behind = λ (k : Lifetime). is_before l.range k.range in
    let before = λ (k : Lifetime). not (is_before l.range k.range) in
    recursion_from_All P (lifetime_inserted l ls)
    (All-append P (filter before ls) (l ∷ filter behind ls) (All-filter before P ls all) (All-cons P l (filter behind ls) h (All-filter behind P ls all)))

abbrev pub new_lifetime : Mark → List Mark → Lifetime
new_lifetime m ms = record { range = m.range; block = length (opened_lifetimes ms) + 1; since = length ms }

pub opened_since : (ms : List Mark) → Each (IsSince (length ms)) (opened_lifetimes ms)
unfolding opened_lifetimes
opened_since [] = tt
opened_since (m ∷ before) =
    let ih : Each (IsSince (suc (length before))) (opened_lifetimes before) =
    Each-weaker (IsSince (length before)) (IsSince (suc (length before))) (opened_lifetimes before) (λ l h. omega arith) (opened_since before) in
    elim (opens m before (opened_lifetimes before))
    as (λ v. Each (IsSince (suc (length before))) (cond v (lifetime_inserted (new_lifetime m before) (opened_lifetimes before)) (opened_lifetimes before)))
    [ true ↦ Each-lifetime_inserted (IsSince (suc (length before))) (new_lifetime m before) (opened_lifetimes before) (omega arith) ih | false ↦ ih ]

agree_all : (m : Mark) (ms : List Mark) (t : Range → Bool) (ls : List Lifetime) → Each (IsSince (length ms)) ls → Each (CanCountIn m.change ms) ls
    → Each (Agrees (presence_of ms) (presence_of (m ∷ ms)) (lives ms) (lives (m ∷ ms)) (presence_after m) has_count (λ l. t l.range) (λ p. t p.range)) ls
agree_all m ms t [] h counts = tt
agree_all m ms t (l ∷ ls) h counts = (
  record {
    same = λ alive. presence_of-more m ms l h.0 alive counts.0;
    kept = lives-more m ms l h.0 counts.0;
    tested = elim (cases_Bool (inside l.range m)) [ inl is_inside ↦ rw is_inside refl | inr is_outside ↦ rw is_outside refl ];
  },
  agree_all m ms t ls h.1 counts.1,
)

-- the live ones of some of the lifetimes, as presences
presences_of_part : (m : Mark) (ms : List Mark) (t : Range → Bool) (ls : List Lifetime) → Each (IsSince (length ms)) ls → Each (CanCountIn m.change ms) ls
    → map (presence_of (m ∷ ms)) (filter (lives (m ∷ ms)) (filter (λ l. t l.range) ls)) ≡ filter (λ p. t p.range) (kept_after m (map (presence_of ms) (filter (lives ms) ls)))
presences_of_part m ms t ls h counts =
    filters_agree (presence_of ms) (presence_of (m ∷ ms)) (lives ms) (lives (m ∷ ms)) (presence_after m) has_count (λ l. t l.range) (λ p. t p.range) ls
    (agree_all m ms t ls h counts)

pub filter_all : {X : Type 0} (xs : List X) → filter (λ x. true) xs ≡ xs
filter_all [] = refl
filter_all (x ∷ xs) = ap (λ ys. x ∷ ys) (filter_all xs)

presences_of_all : (m : Mark) (ms : List Mark) (ls : List Lifetime) → Each (IsSince (length ms)) ls → Each (CanCountIn m.change ms) ls
    → map (presence_of (m ∷ ms)) (filter (lives (m ∷ ms)) ls) ≡ kept_after m (map (presence_of ms) (filter (lives ms) ls))
presences_of_all m ms ls h counts =
    ap (λ ys. map (presence_of (m ∷ ms)) (filter (lives (m ∷ ms)) ys)) (sym (filter_all ls))
    ∙ (presences_of_part m ms (λ r. true) ls h counts ∙ filter_all (kept_after m (map (presence_of ms) (filter (lives ms) ls))))

any-map-filter : {X Y Z : Type 0} (E : X → Y) (L : X → Bool) (f : X → Z) (f' : Y → Z) (c : Z → Bool) (xs : List X) → ((x : X) → f' (E x) ≡ f x)
    → list_any (λ y. c (f' y)) (map E (filter L xs)) ≡ list_any (λ x. L x && c (f x)) xs
any-map-filter E L f f' c [] h = refl
any-map-filter E L f f' c (x ∷ xs) h =
    let ih = any-map-filter E L f f' c xs h in let e = h x in grind (arith, ih, e)

pub range_contains_itself : (r : Range) → range_contains r r ≡ true
unfolding range_contains
range_contains_itself r =
    let a = eq-eqb r.array r.array refl in let b = le-leb r.lo r.lo (omega arith) in let c = le-leb (r.lo + r.len) (r.lo + r.len) (omega arith) in grind (arith, a, b, c)

pub is_present-presences : (ms : List Mark) (r : Range) → is_present (presences ms) r ≡ list_any (λ l. lives ms l && range_contains l.range r) (opened_lifetimes ms)
unfolding presences live_lifetimes
is_present-presences ms r = any-map-filter (presence_of ms) (lives ms) (λ l. l.range) (λ p. p.range) (λ q. range_contains q r) (opened_lifetimes ms) (λ l. refl)

pub opens_with_one : (change : Change) → can_open change ≡ true → structured_after change 0 + dynamic_after change 0 ≡ 1
opens_with_one StructuredUp can = refl
opens_with_one StructuredDown can = cc
opens_with_one DynamicUp can = refl
opens_with_one DynamicDown can = cc
opens_with_one DynamicZero can = cc

pub no_marks_yet : (m : Mark) (ms : List Mark) → marks_since ms (new_lifetime m ms) ≡ []
no_marks_yet m ms = let e : length ms - length ms ≡ 0 = omega arith in ap (λ k. take k ms) e

-- a lifetime that opens has no marks before it
new_can_count : (change : Change) (m : Mark) (ms : List Mark) → CanCountIn change ms (new_lifetime m ms)
new_can_count StructuredUp m ms = λ alive. rw (no_marks_yet m ms) (omega arith)
new_can_count StructuredDown m ms = tt
new_can_count DynamicUp m ms = tt
new_can_count DynamicDown m ms = tt
new_can_count DynamicZero m ms = tt

new_lives : (m : Mark) (ms : List Mark) → lives ms (new_lifetime m ms) ≡ true
new_lives m ms = rw (no_marks_yet m ms) refl

presence_of-new : (m : Mark) (ms : List Mark) → presence_of (m ∷ ms) (new_lifetime m ms) ≡ opening m (length (opened_lifetimes ms) + 1)
presence_of-new m ms =
    rw (presence_of-more m ms (new_lifetime m ms) (omega arith) (new_lives m ms) (new_can_count m.change m ms), no_marks_yet m ms, range_contains_itself m.range) refl

lives-new : (m : Mark) (ms : List Mark) → can_open m.change ≡ true → lives (m ∷ ms) (new_lifetime m ms) ≡ true
lives-new m ms can =
    rw (lives-more m ms (new_lifetime m ms) (omega arith) (new_can_count m.change m ms), no_marks_yet m ms, range_contains_itself m.range, opens_with_one m.change can) refl

pub presences-more : (m : Mark) (ms : List Mark) → CanCount m.change ms → presences (m ∷ ms) ≡ presences_after m (length (opened_lifetimes ms) + 1) (presences ms)
unfolding presences live_lifetimes opened_lifetimes
presences-more m ms h =
    let all = opened_since ms in
    let counts = each_can_count m.change ms h in
    rw (is_present-presences ms m.range)
    (elim (cases_Bool (opens m ms (opened_lifetimes ms))) [
      | inl is_open ↦
          let parts = and_parts (can_open m.change) (not (list_any (λ l. lives ms l && range_contains l.range m.range) (opened_lifetimes ms))) is_open in
          let first = presences_of_part m ms (λ r. not (is_before m.range r)) (opened_lifetimes ms) all counts in
          let second = presences_of_part m ms (λ r. is_before m.range r) (opened_lifetimes ms) all counts in
          rw (is_open, filter-append, map-append, lives-new m ms parts.0, presence_of-new m ms, first, second) refl
      | inr is_shut ↦ rw is_shut (presences_of_all m ms (opened_lifetimes ms) all counts)
    ])
