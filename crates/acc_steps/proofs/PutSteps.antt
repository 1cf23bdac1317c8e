-- Texts of a list that are put one after the other, and what is held, last or there.
use Rattle.std.proofs.Common.{◌≡◌, ◌<◌, ◌≤◌, ℕ, zero, suc, ◌+◌, ◌-◌, List, [], ◌∷◌, ◌++◌, length, take, codes, decimal, slice_get, Option, Some, None, ℤ, Bool, true, false, refl, sym, ap, ◌∙◌, arith}
use Rattle.std.specs.List.{flat_map}
use Rattle.std.specs.Option.{option_map}
use Rattle.std.specs.Prelude.{All, nat_le, nat_lt, reverse, if◌then◌else◌}
use Rattle.std.specs.Fmt.{signed_decimal}
use Rattle.std.proofs.lemmas.Bool.Decides.{nat_tests}
use Rattle.std.proofs.lemmas.Bool.{ltb-true}
use Rattle.std.proofs.lemmas.List.Elements.{All-head, All-tail}
use Rattle.std.proofs.Math.ListN.{get_or}
use Rattle.std.proofs.lemmas.Grind.{flat_map-append}
use Rattle.std.proofs.lemmas.List.{append_assoc, append-nil, length-append, reverse-append, take_more}
use Rattle.std.proofs.lemmas.Option.{same_Some}
use Rattle.acc_base.specs.declared.config.TheConstants.{MAX_CELLS}
use Rattle.acc_base.specs.Configurations.{IsWithinLimits, ends_within}
use Rattle.acc_core.specs.Machine.{State}
use Rattle.acc_memory.specs.Values.{Host_cell}
use Rattle.acc_work.specs.Logs.{value}
use Rattle.acc_present.specs.Presences.{Presence}
use Rattle.acc_report.specs.Puts.{Sink, Puts}
use Rattle.acc_report.proofs.JoinedPuts.{puts_then}
use Rattle.acc_steps.specs.Lines.{cell_text, counters_text}

-- ## One text more

text_more : {A : Type 0} (f : A → List ℕ) (xs : List A) (i : ℕ) (d : A) → i < length xs
    → flat_map f (take (i + 1) xs) ≡ flat_map f (take i xs) ++ f (get_or xs i d)
text_more f xs i d below =
    ap (flat_map f) (take_more xs i d below) ∙ flat_map-append f (take i xs) (get_or xs i d ∷ []) ∙ ap (λ t. flat_map f (take i xs) ++ t) (append-nil (f (get_or xs i d)))

pub puts_more : {a b c : Sink} {A : Type 0} (f : A → List ℕ) (xs : List A) (i : ℕ) (d : A) → i < length xs
    → Puts a b (flat_map f (take i xs)) → Puts b c (f (get_or xs i d)) → Puts a c (flat_map f (take (i + 1) xs))
puts_more f xs i d below first second = rw (text_more f xs i d below) (puts_then first second)

pub puts_behind : {a b c : Sink} {A : Type 0} (front : List ℕ) (f : A → List ℕ) (xs : List A) (i : ℕ) (d : A) → i < length xs
    → Puts a b (front ++ flat_map f (take i xs)) → Puts b c (f (get_or xs i d)) → Puts a c (front ++ flat_map f (take (i + 1) xs))
puts_behind {a} {b} {c} front f xs i d below first second =
    let text : front ++ flat_map f (take (i + 1) xs) ≡ (front ++ flat_map f (take i xs)) ++ f (get_or xs i d) =
    ap (λ t. front ++ t) (text_more f xs i d below) ∙ sym (append_assoc front (flat_map f (take i xs)) (f (get_or xs i d))) in
    rw text (puts_then first second)

-- ## What holds a range

abbrev pub counts : Presence → ℕ × ℕ
counts p = (p.s, p.d)

pub none_holds : (p : Option Presence) → None ≡ option_map counts p → counters_text p ≡ codes " absent"
none_holds None is = refl
none_holds (Some q) is = absurd cc

pub one_holds : (p : Option Presence) (s d : ℕ) → Some (s, d) ≡ option_map counts p → counters_text p ≡ codes " s " ++ (decimal s ++ (codes " d " ++ decimal d))
one_holds None s d is = absurd cc
one_holds (Some q) s d is =
    let pair : (s, d) ≡ (q.s, q.d) = same_Some (s, d) (q.s, q.d) is in
    let structured : q.s ≡ s = sym (ap (λ x. x.0) pair) in
    let dynamic : q.d ≡ d = sym (ap (λ x. x.1) pair) in
    rw (structured, dynamic) refl

-- ## The last

get_behind : {X : Type 0} (xs ys : List X) (n : ℕ) → n ≡ length xs → slice_get (xs ++ ys) n ≡ slice_get ys 0
get_behind [] ys n is =
    let same : n ≡ 0 = omega (arith, is) in
    ap (slice_get ys) same
get_behind (x ∷ xs) ys zero is = absurd (omega (arith, is))
get_behind (x ∷ xs) ys (suc n) is = get_behind xs ys n (omega (arith, is))

pub last_of_reverse : {X : Type 0} (xs ys : List X) → ys ≡ reverse xs → slice_get ys (length ys - 1) ≡ slice_get xs 0
last_of_reverse [] ys is = ap (λ l. slice_get l (length l - 1)) is
last_of_reverse (x ∷ xs) ys is =
    let turned : ys ≡ reverse xs ++ x ∷ [] = is ∙ reverse-append (x ∷ []) xs in
    let long : length (reverse xs ++ x ∷ []) - 1 ≡ length (reverse xs) = omega (arith, length-append (reverse xs) (x ∷ [])) in
    ap (λ l. slice_get l (length l - 1)) turned ∙ get_behind (reverse xs) (x ∷ []) (length (reverse xs ++ x ∷ []) - 1) long

-- ## No cell behind the limit

le_no : (n m : ℕ) → m < n → nat_le n m ≡ false
le_no n m less = grind (arith, nat_tests)

beyond : (cell : ℕ) → (cell < 4294967296 → ⊥) → MAX_CELLS < cell + 1
beyond cell large = by_test (nat_lt cell 4294967296) refl
  where
    by_test : (t : Bool) → nat_lt cell 4294967296 ≡ t → MAX_CELLS < cell + 1
    by_test true is = absurd (large (ltb-true cell 4294967296 is))
    by_test false is = grind (arith, nat_tests, is)

ends_before : (xs : List (List ℤ)) (n end limit : ℕ) → All (λ (cells : List ℤ). (1 ≤ length cells) × (length cells ≤ limit)) xs → limit < end
    → ends_within (slice_get xs n) end ≡ false
ends_before [] n end limit all past = refl
ends_before (x ∷ xs) zero end limit all past =
    le_no end (length x) (omega (arith, past, (All-head (λ (cells : List ℤ). (1 ≤ length cells) × (length cells ≤ limit)) x xs all).1))
ends_before (x ∷ xs) (suc n) end limit all past =
    ends_before xs n end limit (All-tail (λ (cells : List ℤ). (1 ≤ length cells) × (length cells ≤ limit)) x xs all) past

pub no_cell : (w : State) (array cell : ℕ) → IsWithinLimits w.config → (cell < 4294967296 → ⊥) → cell_text w array cell ≡ []
unfolding cell_text
no_cell w array cell limits large =
    let past : MAX_CELLS < cell + 1 = beyond cell large in
    ap (λ t. if t then codes " " ++ signed_decimal (value w.config.arrays w.work (Host_cell array cell)) else [])
    (ends_before w.config.arrays array (cell + 1) MAX_CELLS limits.cells past)
