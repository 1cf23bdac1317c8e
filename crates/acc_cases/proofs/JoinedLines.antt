-- Lines behind lines.
use Rattle.std.proofs.Common.{◌≡◌, ◌<◌, ℕ, suc, ◌+◌, ◌-◌, List, [], ◌∷◌, ◌++◌, length, take, drop, get_or, Bor, sym, ap, ◌∙◌, append_assoc, append-nil, drop-cons, length-drop, arith, Result, Ok, Err}
use Rattle.std.specs.Prelude.{OnOk}
use Rattle.std.proofs.lemmas.List.{take-append-drop, take_all, take_more}
use Rattle.std.proofs.lemmas.List.Concat.{flat_map-append}
use Rattle.acc_cases.specs.Differences.{joined_lines}

joined-append : (a b : List (Bor (List ℕ))) → joined_lines (a ++ b) ≡ joined_lines a ++ joined_lines b
joined-append a b = flat_map-append (λ (l : Bor (List ℕ)). l.now) a b

joined_one : (l : Bor (List ℕ)) → joined_lines (l ∷ []) ≡ l.now
joined_one l = append-nil l.now

joined_more : (lines : List (Bor (List ℕ))) (at : ℕ) (d : Bor (List ℕ)) → at < length lines → joined_lines (take (at + 1) lines) ≡ joined_lines (take at lines) ++ (get_or lines at d).now
joined_more lines at d there =
    ap joined_lines (take_more lines at d there) ∙ joined-append (take at lines) (get_or lines at d ∷ []) ∙ ap (λ (bs : List ℕ). joined_lines (take at lines) ++ bs) (joined_one (get_or lines at d))

pub start_more : (a b : List (Bor (List ℕ))) (at : ℕ) (d : Bor (List ℕ)) → at < length a → at < length b
    → (get_or a at d).now ≡ (get_or b at d).now → joined_lines (take at a) ≡ joined_lines (take at b) → joined_lines (take (at + 1) a) ≡ joined_lines (take (at + 1) b)
start_more a b at d there too same before =
    joined_more a at d there ∙ ap (λ (bs : List ℕ). bs ++ (get_or a at d).now) before ∙ ap (λ (bs : List ℕ). joined_lines (take at b) ++ bs) same ∙ sym (joined_more b at d too)

joined_from : (lines : List (Bor (List ℕ))) (at : ℕ) (d : Bor (List ℕ)) → at < length lines → joined_lines (drop at lines) ≡ (get_or lines at d).now ++ joined_lines (drop (suc at) lines)
joined_from lines at d there = ap joined_lines (drop-cons lines at d there)

last_from : (lines : List (Bor (List ℕ))) (n : ℕ) (d : Bor (List ℕ)) → n < length lines
    → joined_lines (drop (length lines - (n + 1)) lines) ≡ (get_or lines (length lines - n - 1) d).now ++ joined_lines (drop (length lines - n) lines)
last_from lines n d there =
    let at : length lines - n - 1 ≡ length lines - (n + 1) = omega arith in
    let next : suc (length lines - (n + 1)) ≡ length lines - n = omega arith in
    let in_it : length lines - (n + 1) < length lines = omega arith in
    joined_from lines (length lines - (n + 1)) d in_it
    ∙ ap (λ (k : ℕ). (get_or lines (length lines - (n + 1)) d).now ++ joined_lines (drop k lines)) next
    ∙ ap (λ (k : ℕ). (get_or lines k d).now ++ joined_lines (drop (length lines - n) lines)) (sym at)

pub end_more : (a b : List (Bor (List ℕ))) (n : ℕ) (d : Bor (List ℕ)) → n < length a → n < length b
    → (get_or a (length a - n - 1) d).now ≡ (get_or b (length b - n - 1) d).now
    → joined_lines (drop (length a - n) a) ≡ joined_lines (drop (length b - n) b) → joined_lines (drop (length a - (n + 1)) a) ≡ joined_lines (drop (length b - (n + 1)) b)
end_more a b n d there too same behind =
    last_from a n d there ∙ ap (λ (bs : List ℕ). bs ++ joined_lines (drop (length a - n) a)) same
    ∙ ap (λ (bs : List ℕ). (get_or b (length b - n - 1) d).now ++ bs) behind ∙ sym (last_from b n d too)

-- a line more behind what was put
pub put_more : (old put new : List ℕ) (lines : List (Bor (List ℕ))) (at : ℕ) (d : Bor (List ℕ)) (bytes : List ℕ) → at < length lines
    → put ≡ old ++ joined_lines (take at lines) → new ≡ put ++ bytes → bytes ≡ (get_or lines at d).now → new ≡ old ++ joined_lines (take (at + 1) lines)
put_more old put new lines at d bytes there before more same =
    more ∙ ap (λ (bs : List ℕ). bs ++ bytes) before ∙ append_assoc old (joined_lines (take at lines)) bytes
    ∙ ap (λ (bs : List ℕ). old ++ (joined_lines (take at lines) ++ bs)) same ∙ ap (λ (bs : List ℕ). old ++ bs) (sym (joined_more lines at d there))

-- what was put, and the lines that are left
put_rest : (old put new : List ℕ) (lines : List (Bor (List ℕ))) (at : ℕ) → put ≡ old ++ joined_lines (take at lines)
    → new ≡ put ++ joined_lines (take (length lines - at) (drop at lines)) → new ≡ old ++ joined_lines lines
put_rest old put new lines at before more =
    let all : take (length lines - at) (drop at lines) ≡ drop at lines = take_all (length lines - at) (drop at lines) (omega (arith, length-drop at lines)) in
    more ∙ ap (λ (bs : List ℕ). bs ++ joined_lines (take (length lines - at) (drop at lines))) before
    ∙ ap (λ (ls : List (Bor (List ℕ))). (old ++ joined_lines (take at lines)) ++ joined_lines ls) all
    ∙ append_assoc old (joined_lines (take at lines)) (joined_lines (drop at lines))
    ∙ ap (λ (bs : List ℕ). old ++ bs) (sym (joined-append (take at lines) (drop at lines)) ∙ ap joined_lines (take-append-drop at lines))

pub rest_put : {A E : Type 0} (r : Result A E) (old put new : List ℕ) (lines : List (Bor (List ℕ))) (at : ℕ) → put ≡ old ++ joined_lines (take at lines)
    → OnOk r (new ≡ put ++ joined_lines (take (length lines - at) (drop at lines))) → OnOk r (new ≡ old ++ joined_lines lines)
rest_put (Ok x) old put new lines at before more = put_rest old put new lines at before more
rest_put (Err e) old put new lines at before more = tt
