-- How lines are cut, byte by byte.
use Rattle.std.proofs.Common.{◌≡◌, ◌<◌, ◌≤◌, ℕ, zero, suc, ◌+◌, ◌-◌, ◌&&◌, ◌==◌, Bool, true, false, List, [], ◌∷◌, ◌++◌, length, take, drop, replicate, refl, sym, ap, ◌∙◌, subst, arith}
use Rattle.std.specs.Prelude.{if◌then◌else◌}
use Rattle.std.proofs.Math.ListN.{get_or}
use Rattle.std.proofs.Math.Numerals.{add-one}
use Rattle.std.proofs.lemmas.Bool.Decides.{nat_tests}
use Rattle.std.proofs.lemmas.List.{length-take-le, take_all, take_more}
use Rattle.acc_token.specs.Tokens.{front, is_blank}
use Rattle.acc_steps.specs.declared.source.Part.{Part}
use Rattle.acc_steps.specs.Lines.{code_len, ends_code, filled_len, part_after}

more_of : (n x : ℕ) → replicate (suc n) x ≡ replicate n x ++ x ∷ []
more_of zero x = refl
more_of (suc n) x = ap (λ l. x ∷ l) (more_of n x)

pub replicate_more : (n x : ℕ) → replicate (n + 1) x ≡ replicate n x ++ x ∷ []
replicate_more n x = rw (add-one n) (more_of n x)

-- ## Blanks at the end

not_zero : (blank : Bool) (n : ℕ) → (if blank && (n + 1) == 0 then 0 else n + 1 + 1) ≡ n + 1 + 1
not_zero true n =
    let some : ((n + 1) == 0) ≡ false = grind (arith, nat_tests) in
    ap (λ t. if t then 0 else n + 1 + 1) some
not_zero false n = refl

filled_blank : (xs : List ℕ) (b : ℕ) → is_blank b ≡ true → filled_len (xs ++ b ∷ []) ≡ filled_len xs
unfolding filled_len
filled_blank [] b is = ap (λ t. if t && 0 == 0 then 0 else 0 + 1) is
filled_blank (x ∷ xs) b is = ap (λ n. if is_blank x && n == 0 then 0 else n + 1) (filled_blank xs b is)

filled_solid : (xs : List ℕ) (b : ℕ) → is_blank b ≡ false → filled_len (xs ++ b ∷ []) ≡ length xs + 1
unfolding filled_len
filled_solid [] b is = ap (λ t. if t && 0 == 0 then 0 else 0 + 1) is
filled_solid (x ∷ xs) b is =
    let longer : length xs + 1 + 1 ≡ length (x ∷ xs) + 1 = omega arith in
    ap (λ n. if is_blank x && n == 0 then 0 else n + 1) (filled_solid xs b is) ∙ not_zero (is_blank x) (length xs) ∙ longer

pub none_filled : 0 ≡ filled_len []
unfolding filled_len
none_filled = refl

pub filled_past_blank : (line : List ℕ) (i n : ℕ) → i < length line → n ≡ filled_len (take i line) → is_blank (get_or line i 0) ≡ true
    → n ≡ filled_len (take (i + 1) line)
filled_past_blank line i n below is blank =
    is ∙ sym (ap filled_len (take_more line i 0 below) ∙ filled_blank (take i line) (get_or line i 0) blank)

pub filled_past_solid : (line : List ℕ) (i n : ℕ) → i < length line → n ≡ i + 1 → is_blank (get_or line i 0) ≡ false
    → n ≡ filled_len (take (i + 1) line)
filled_past_solid line i n below is solid =
    let long : n ≡ length (take i line) + 1 = omega (arith, is, below, length-take-le i line (omega (arith, below))) in
    long ∙ sym (ap filled_len (take_more line i 0 below) ∙ filled_solid (take i line) (get_or line i 0) solid)

-- ## A comment at the end

pub shorter_by_one : (rest : List ℕ) → 1 ≤ length rest → length rest ≡ 1 + length (take (length rest - 1) (drop 1 rest))
shorter_by_one [] some = absurd (omega (arith, some))
shorter_by_one (b ∷ bs) some = omega (arith, ap length (take_all (length (b ∷ bs) - 1) bs (omega arith)))

pub code_of_none : (part : Part) (bs : List ℕ) → length bs < 1 → code_len part bs ≡ 0
unfolding code_len
code_of_none part [] is = refl
code_of_none part (b ∷ bs) is = absurd (omega (arith, is))

pub code_goes_on : (part : Part) (rest : List ℕ) → 1 ≤ length rest
    → ends_code part (get_or rest 0 0) (front (take (length rest - 1) (drop 1 rest))) ≡ false
    → code_len part rest
    ≡ code_len (part_after part (get_or rest 0 0) (front (take (length rest - 1) (drop 1 rest)))) (take (length rest - 1) (drop 1 rest)) + 1
unfolding code_len
code_goes_on part [] some is = absurd (omega (arith, some))
code_goes_on part (b ∷ bs) some is =
    let all : take (length (b ∷ bs) - 1) bs ≡ bs = take_all _ bs (omega arith) in
    let plain : ends_code part b (front bs) ≡ false = subst (λ l. ends_code part b (front l) ≡ false) all is in
    ap (λ t. if t then 0 else code_len (part_after part b (front bs)) bs + 1) plain
    ∙ ap (λ l. code_len (part_after part b (front l)) l + 1) (sym all)

pub code_ends : (part : Part) (rest : List ℕ) → 1 ≤ length rest
    → ends_code part (get_or rest 0 0) (front (take (length rest - 1) (drop 1 rest))) ≡ true → code_len part rest ≡ 0
unfolding code_len
code_ends part [] some is = absurd (omega (arith, some))
code_ends part (b ∷ bs) some is =
    let all : take (length (b ∷ bs) - 1) bs ≡ bs = take_all _ bs (omega arith) in
    let comment : ends_code part b (front bs) ≡ true = subst (λ l. ends_code part b (front l) ≡ true) all is in
    ap (λ t. if t then 0 else code_len (part_after part b (front bs)) bs + 1) comment
