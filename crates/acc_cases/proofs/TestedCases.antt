-- One case more behind others, and their counts.
use Rattle.std.proofs.Common.{◌≡◌, ◌<◌, ℕ, ◌+◌, Bool, true, false, List, [], ◌∷◌, ◌++◌, length, map, take, get_or, Bor, Option, refl, sym, ap, ◌∙◌, arith}
use Rattle.std.proofs.lemmas.List.{map-append, take_more}
use Rattle.std.proofs.lemmas.List.Sums.{sum_by-append}
use Rattle.acc_driver.specs.declared.options.Options.{Options}
use Rattle.acc_cases.specs.declared.outcome.Outcome.{Outcome}
use Rattle.acc_cases.specs.declared.run.Tally.{Tally}
use Rattle.acc_cases.specs.Folders.{File, Known}
use Rattle.acc_cases.specs.Runs.{AllTested, Tests, passes, tally_of, with_case}

tally_same : (t u : Tally) → t.passed ≡ u.passed → t.failed ≡ u.failed → t ≡ u
tally_same t u passed failed = ap (λ (n : ℕ). record t { passed = n }) passed ∙ ap (λ (n : ℕ). record u { failed = n }) failed

pub tested_more : (old mid new : Option (List File)) (common : Options) (bless : Bool) (names : List (List ℕ)) (outcomes : List Outcome) (name : List ℕ) (outcome : Outcome)
    → AllTested old common bless names outcomes mid → Known mid (λ fs. Tests fs name common bless new outcome)
    → AllTested old common bless (names ++ name ∷ []) (outcomes ++ outcome ∷ []) new
tested_more old mid new common bless [] [] name outcome tested known = (new, (λ fs is. known fs (tested ∙ is)), refl)
tested_more old mid new common bless (n ∷ ns) (o ∷ os) name outcome tested known =
    (tested.0, tested.1, tested_more tested.0 mid new common bless ns os name outcome tested.2 known)
tested_more old mid new common bless [] (o ∷ os) name outcome tested known = absurd tested
tested_more old mid new common bless (n ∷ ns) [] name outcome tested known = absurd tested

tallied_more : (outcomes : List Outcome) (outcome : Outcome) → tally_of (outcomes ++ outcome ∷ []) ≡ with_case (tally_of outcomes) (passes outcome)
tallied_more outcomes outcome = by_case (passes outcome) refl
  where
    by_case : (v : Bool) → passes outcome ≡ v → tally_of (outcomes ++ outcome ∷ []) ≡ with_case (tally_of outcomes) (passes outcome)
    by_case true e = rw e (tally_same _ _ (simp sum_by-append (rw e refl)) (simp sum_by-append (rw e (omega arith))))
    by_case false e = rw e (tally_same _ _ (simp sum_by-append (rw e (omega arith))) (simp sum_by-append (rw e refl)))

-- One turn over the cases.
pub next_tested : (old mid new : Option (List File)) (common : Options) (bless : Bool) (names : List (Bor (List ℕ))) (at : ℕ) (d : Bor (List ℕ)) (tally : Tally) (outcome : Outcome) → at < length names
    → (outcomes : List Outcome) × AllTested old common bless (map (λ n. n.now) (take at names)) outcomes mid × (tally ≡ tally_of outcomes)
    → Known mid (λ fs. Tests fs (get_or names at d).now common bless new outcome)
    → (outcomes : List Outcome) × AllTested old common bless (map (λ n. n.now) (take (at + 1) names)) outcomes new × (with_case tally (passes outcome) ≡ tally_of outcomes)
next_tested old mid new common bless names at d tally outcome there (outcomes, tested, counted) known =
    let longer : map (λ (n : Bor (List ℕ)). n.now) (take (at + 1) names) ≡ map (λ n. n.now) (take at names) ++ (get_or names at d).now ∷ [] =
    ap (map (λ n. n.now)) (take_more names at d there) ∙ map-append (λ (n : Bor (List ℕ)). n.now) (take at names) (get_or names at d ∷ []) in (
      outcomes ++ outcome ∷ [],
      rw longer (tested_more old mid new common bless (map (λ n. n.now) (take at names)) outcomes (get_or names at d).now outcome tested known),
      ap (λ t. with_case t (passes outcome)) counted ∙ sym (tallied_more outcomes outcome),
    )
