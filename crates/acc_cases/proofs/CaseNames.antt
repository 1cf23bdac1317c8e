-- Which case a file is of, and the names of all cases.
use Rattle.std.proofs.Common.{◌≡◌, ◌+◌, ◌||◌, ℕ, Bool, true, false, true≢false, cond, List, [], ◌∷◌, ◌++◌, map, reverse, drop, get_or, subst, Bor, nat_cmp, refl, sym, ap, ◌∙◌, inl, inr}
use Rattle.std.specs.Prelude.{◌≢◌, ◌⊎◌, ◌==◌, bytes_eq}
use Rattle.std.specs.Cmp.Lexicographic.{slice_cmp}
use Rattle.std.specs.List.{AllByRecursion, dedup, dedup_from, list_any}
use Rattle.std.specs.List.Sorted.{IsStrictlySortedBy}
use Rattle.std.specs.declared.cmp.Ordering.TheVariants.{Less}
use Rattle.std.proofs.lemmas.List.{reverse-append, reverse-reverse}
use Rattle.std.proofs.lemmas.Slice.Eq.{bytes_eq-Decides}
use Rattle.acc_cases.specs.Cases.{ending_of}
use Rattle.acc_cases.specs.Names.{AreCases, has_ending, is_of}
use Rattle.acc_cases.specs.declared.fault.Kind.{Kind}
use Rattle.acc_cases.specs.declared.fault.Kind.TheVariants.{Script, Schedule, Line, Report}

-- ## Which case a file is of

by_truth : (a b : Bool) → (a ≡ true → b ≡ true) → (b ≡ true → a ≡ true) → a ≡ b
by_truth true b to from = sym (to refl)
by_truth false true to from = from refl
by_truth false false to from = refl

either : (a b : Bool) → (a || b) ≡ true → (a ≡ true) ⊎ (b ≡ true)
either true b is = inl refl
either false b is = inr is

behind : (a b : Bool) → b ≡ true → (a || b) ≡ true
behind true b is = refl
behind false b is = is

before : (a b : Bool) → a ≡ true → (a || b) ≡ true
before true b is = refl
before false b is = absurd (true≢false (sym is))

-- Two names with an ending behind each are the same only where the endings are.
fronts : (k l : Kind) (r t : List ℕ) → reverse (ending_of k) ++ r ≡ reverse (ending_of l) ++ t → r ≡ t
fronts Script Script r t e = ap (λ (bs : List ℕ). drop 4 bs) e
fronts Script Schedule r t e = absurd (true≢false (ap (λ (bs : List ℕ). get_or bs 0 0 == 99) e))
fronts Script Line r t e = absurd (true≢false (ap (λ (bs : List ℕ). get_or bs 0 0 == 99) e))
fronts Script Report r t e = absurd (true≢false (ap (λ (bs : List ℕ). get_or bs 0 0 == 99) e))
fronts Schedule Script r t e = absurd (true≢false (ap (λ (bs : List ℕ). get_or bs 0 0 == 101) e))
fronts Schedule Schedule r t e = ap (λ (bs : List ℕ). drop 9 bs) e
fronts Schedule Line r t e = absurd (true≢false (ap (λ (bs : List ℕ). get_or bs 0 0 == 101) e))
fronts Schedule Report r t e = absurd (true≢false (ap (λ (bs : List ℕ). get_or bs 0 0 == 101) e))
fronts Line Script r t e = absurd (true≢false (ap (λ (bs : List ℕ). get_or bs 0 0 == 115) e))
fronts Line Schedule r t e = absurd (true≢false (ap (λ (bs : List ℕ). get_or bs 0 0 == 115) e))
fronts Line Line r t e = ap (λ (bs : List ℕ). drop 8 bs) e
fronts Line Report r t e = absurd (true≢false (ap (λ (bs : List ℕ). get_or bs 0 0 == 115) e))
fronts Report Script r t e = absurd (true≢false (ap (λ (bs : List ℕ). get_or bs 0 0 == 116) e))
fronts Report Schedule r t e = absurd (true≢false (ap (λ (bs : List ℕ). get_or bs 0 0 == 116) e))
fronts Report Line r t e = absurd (true≢false (ap (λ (bs : List ℕ). get_or bs 0 0 == 116) e))
fronts Report Report r t e = ap (λ (bs : List ℕ). drop 7 bs) e

same_name : (k l : Kind) (s t : List ℕ) → s ++ ending_of k ≡ t ++ ending_of l → s ≡ t
same_name k l s t e =
    let back : reverse s ≡ reverse t = fronts k l (reverse s) (reverse t) (sym (reverse-append s (ending_of k)) ∙ ap reverse e ∙ reverse-append t (ending_of l)) in
    sym (reverse-reverse s) ∙ ap reverse back ∙ reverse-reverse t

kind_is : (name file : List ℕ) (k : Kind) → file ≡ name ++ ending_of k → is_of name file ≡ true
kind_is name file Script e = before (has_ending Script name file) _ ((bytes_eq-Decides file (name ++ ending_of Script)).1 e)
kind_is name file Schedule e = behind (has_ending Script name file) _ (before (has_ending Schedule name file) _ ((bytes_eq-Decides file (name ++ ending_of Schedule)).1 e))
kind_is name file Line e =
    behind (has_ending Script name file) _ (behind (has_ending Schedule name file) _ (before (has_ending Line name file) _ ((bytes_eq-Decides file (name ++ ending_of Line)).1 e)))
kind_is name file Report e =
    behind (has_ending Script name file) _ (behind (has_ending Schedule name file) _ (behind (has_ending Line name file) _ ((bytes_eq-Decides file (name ++ ending_of Report)).1 e)))

kind_of : (name file : List ℕ) → is_of name file ≡ true → (k : Kind) × (file ≡ name ++ ending_of k)
kind_of name file is = elim (either (has_ending Script name file) _ is) [
  | inl script ↦ (Script, (bytes_eq-Decides file (name ++ ending_of Script)).0 script)
  | inr other ↦ elim (either (has_ending Schedule name file) _ other) [
    | inl schedule ↦ (Schedule, (bytes_eq-Decides file (name ++ ending_of Schedule)).0 schedule)
    | inr others ↦ elim (either (has_ending Line name file) _ others) [
      | inl line ↦ (Line, (bytes_eq-Decides file (name ++ ending_of Line)).0 line)
      | inr report ↦ (Report, (bytes_eq-Decides file (name ++ ending_of Report)).0 report)
    ]
  ]
]

-- A file with an ending is of the case of what stands before that, and of no other.
pub own_case : (file own : List ℕ) (k : Kind) → file ≡ own ++ ending_of k → (name : List ℕ) → is_of name file ≡ bytes_eq name own
own_case file own k e name = by_truth (is_of name file) (bytes_eq name own)
    (λ is. let found = kind_of name file is in (bytes_eq-Decides name own).1 (sym (same_name k found.0 own name (sym e ∙ found.1))))
    (λ same. kind_is name file k (e ∙ ap (λ (n : List ℕ). n ++ ending_of k) (sym ((bytes_eq-Decides name own).0 same))))

-- A file without one of them is of none.
pub no_case : (file : List ℕ) → ((name : List ℕ) → file ≢ name ++ ending_of Script) → ((name : List ℕ) → file ≢ name ++ ending_of Schedule)
    → ((name : List ℕ) → file ≢ name ++ ending_of Line) → ((name : List ℕ) → file ≢ name ++ ending_of Report) → (name : List ℕ) → is_of name file ≡ false
no_case file script schedule line report name = by_truth (is_of name file) false (λ is. absurd (none (kind_of name file is))) (λ no. absurd (true≢false (sym no)))
  where
    none : (k : Kind) × (file ≡ name ++ ending_of k) → ⊥
    none (Script, e) = script name e
    none (Schedule, e) = schedule name e
    none (Line, e) = line name e
    none (Report, e) = report name e

-- ## The names of all

pub any-map : {A B : Type 0} (p : B → Bool) (f : A → B) (xs : List A) → list_any p (map f xs) ≡ list_any (λ x. p (f x)) xs
any-map p f [] = refl
any-map p f (x ∷ xs) = ap (λ (b : Bool). p (f x) || b) (any-map p f xs)

any-dedup_from : {X : Type 0} (p : X → Bool) (same : X → X → Bool) → ((x y : X) → same x y ≡ true → p x ≡ p y) → (k : X) (xs : List X)
    → list_any p (dedup_from same k xs) ≡ (p k || list_any p xs)
any-dedup_from p same alike k [] = refl
any-dedup_from p same alike k (x ∷ xs) = by_case (any-dedup_from p same alike k xs) (any-dedup_from p same alike x xs) (same x k) refl
  where
    twice : (b c : Bool) → (b || c) ≡ (b || (b || c))
    twice true c = refl
    twice false c = refl

    by_case : list_any p (dedup_from same k xs) ≡ (p k || list_any p xs) → list_any p (dedup_from same x xs) ≡ (p x || list_any p xs) → (v : Bool) → same x k ≡ v
        → list_any p (cond (same x k) (dedup_from same k xs) (k ∷ dedup_from same x xs)) ≡ (p k || (p x || list_any p xs))
    by_case kept next true e = rw e (kept ∙ twice (p k) (list_any p xs) ∙ ap (λ (b : Bool). p k || (b || list_any p xs)) (sym (alike x k e)))
    by_case kept next false e = rw e (ap (λ (b : Bool). p k || b) next)

pub any-dedup : {X : Type 0} (p : X → Bool) (same : X → X → Bool) → ((x y : X) → same x y ≡ true → p x ≡ p y) → (xs : List X) → list_any p (dedup same xs) ≡ list_any p xs
any-dedup p same alike [] = refl
any-dedup p same alike (x ∷ xs) = any-dedup_from p same alike x xs

-- two equal texts are the same name or neither
pub alike : (name : List ℕ) (x y : Bor (List ℕ)) → bytes_eq x.now y.now ≡ true → bytes_eq name x.now ≡ bytes_eq name y.now
alike name x y same = ap (bytes_eq name) ((bytes_eq-Decides x.now y.now).0 same)

-- The order of names is that of their texts.
all_below : (x : List ℕ) (ns : List (Bor (List ℕ))) → AllByRecursion (λ y. slice_cmp nat_cmp x y.now ≡ Less) ns → AllByRecursion (λ y. slice_cmp nat_cmp x y ≡ Less) (map (λ n. n.now) ns)
all_below x [] below = tt
all_below x (n ∷ ns) below = (below.0, all_below x ns below.1)

pub sorted_texts : (ns : List (Bor (List ℕ))) → IsStrictlySortedBy (λ x y. slice_cmp nat_cmp x.now y.now) ns → IsStrictlySortedBy (slice_cmp nat_cmp) (map (λ n. n.now) ns)
unfolding IsStrictlySortedBy
sorted_texts [] sorted = tt
sorted_texts (n ∷ ns) sorted = (all_below n.now ns sorted.0, sorted_texts ns sorted.1)

pub same_cases : (files same_files names same_names : List (List ℕ)) → AreCases files names → files ≡ same_files → same_names ≡ names → AreCases same_files same_names
same_cases files same_files names same_names cases f n = subst (λ (ns : List (List ℕ)). AreCases same_files ns) (sym n) (subst (λ (fs : List (List ℕ)). AreCases fs names) f cases)
