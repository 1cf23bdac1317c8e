-- How many batches end within the first operations.
use Rattle.std.proofs.Common.{inl, inr, ◌≡◌, ℕ, zero, suc, ◌+◌, ◌-◌, ◌<◌, ◌≤◌, true, false, cond, List, [], ◌∷◌, ◌++◌, length, take, refl, ap, ◌∙◌, arith}
use Rattle.std.specs.Prelude.{All, nat_le}
use Rattle.std.proofs.lemmas.Bool.{cases_Bool, leb-true, le-leb, lt-leb}
use Rattle.std.proofs.lemmas.List.{length-append}
use Rattle.std.proofs.lemmas.List.Elements.{All-head}
use Rattle.acc_batch.specs.declared.label.Label.{Label}
use Rattle.acc_batch.specs.Labels.{ops_of, whole_batches}

-- batches that are counted are there, and their operations lie within the count
pub whole_covers : (ls : List Label) (n k : ℕ) → n ≤ whole_batches ls k → (n ≤ length ls) × (length (ops_of (take n ls)) ≤ k)
whole_covers [] zero k h = (omega arith, omega arith)
whole_covers [] (suc n) k h = absurd (omega (arith, h))
whole_covers (l ∷ ls) zero k h = (omega arith, omega arith)
whole_covers (l ∷ ls) (suc n) k h = elim (cases_Bool (nat_le (length l.ops) k)) [
  | inl fits ↦
      let w : whole_batches (l ∷ ls) k ≡ 1 + whole_batches ls (k - length l.ops) = rw fits refl in
      let ih = whole_covers ls n (k - length l.ops) (omega (arith, h, w)) in
      let low = leb-true (length l.ops) k fits in
      (omega (arith, ih.0), omega (arith, ih.1, low, length-append l.ops (ops_of (take n ls))))
  | inr short ↦ (let w : whole_batches (l ∷ ls) k ≡ 0 = rw short refl in absurd (omega (arith, h, w)))
]

-- batches whose operations lie within the count are counted
pub whole_reaches : (ls : List Label) (n k : ℕ) → n ≤ length ls → length (ops_of (take n ls)) ≤ k → n ≤ whole_batches ls k
whole_reaches ls zero k h low = omega arith
whole_reaches [] (suc n) k h low = absurd (omega (arith, h))
whole_reaches (l ∷ ls) (suc n) k h low =
    let len = length-append l.ops (ops_of (take n ls)) in
    let fits = le-leb (length l.ops) k (omega (arith, low, len)) in
    let w : whole_batches (l ∷ ls) k ≡ 1 + whole_batches ls (k - length l.ops) = rw fits refl in
    let ih = whole_reaches ls n (k - length l.ops) (omega (arith, h)) (omega (arith, low, len)) in
    omega (arith, w, ih)

-- where more batches follow, no fewer are counted
pub whole-more : (ls more : List Label) (n : ℕ) → whole_batches ls n ≤ whole_batches (ls ++ more) n
whole-more [] more n = omega arith
whole-more (l ∷ ls) more n =
    let ih = whole-more ls more (n - length l.ops) in
    elim (nat_le (length l.ops) n) as (λ v. cond v (1 + whole_batches ls (n - length l.ops)) 0 ≤ cond v (1 + whole_batches (ls ++ more) (n - length l.ops)) 0)
    [ true ↦ omega (arith, ih) | false ↦ omega arith ]

-- the batches that end within the first operations are counted, and then those behind them
pub whole_behind : (earlier later : List Label) (n : ℕ) → length (ops_of earlier) ≤ n → whole_batches (earlier ++ later) n ≡ length earlier + whole_batches later (n - length (ops_of earlier))
whole_behind [] later n h =
    let same : n - 0 ≡ n = omega arith in
    rw same (omega arith)
whole_behind (l ∷ earlier) later n h =
    let size : length (ops_of (l ∷ earlier)) ≡ length l.ops + length (ops_of earlier) = length-append l.ops (ops_of earlier) in
    let ih = whole_behind earlier later (n - length l.ops) (omega (arith, h, size)) in
    let rest : n - length l.ops - length (ops_of earlier) ≡ n - length (ops_of (l ∷ earlier)) = omega (arith, h, size) in
    rw (le-leb (length l.ops) n (omega (arith, h, size)), ← rest) (omega (arith, ih))

-- a batch that isn't whole isn't counted, nor is what stands behind it
pub none_whole : (l : Label) (later : List Label) (n : ℕ) → n < length l.ops → whole_batches (l ∷ later) n ≡ 0
none_whole l later n h = rw (lt-leb (length l.ops) n h) refl

-- no batch of these is counted where no operation is performed
pub none_begun : (later : List Label) → All (λ (l : Label). 0 < length l.ops) later → whole_batches later 0 ≡ 0
none_begun [] h = refl
none_begun (l ∷ later) h = none_whole l later 0 (All-head (λ (l : Label). 0 < length l.ops) l later h)

-- what is performed of the first batches counts these alone, where each batch behind them has an operation
pub whole_taken : (ls more : List Label) (n : ℕ) → n ≤ length (ops_of ls) → All (λ (l : Label). 0 < length l.ops) more → whole_batches (ls ++ more) n ≡ whole_batches ls n
whole_taken [] more n low h =
    let none : n ≡ 0 = omega (arith, low) in
    ap (whole_batches more) none ∙ none_begun more h
whole_taken (l ∷ ls) more n low h =
    let ih = whole_taken ls more (n - length l.ops) (omega (arith, low, length-append l.ops (ops_of ls))) h in
    elim (nat_le (length l.ops) n) as (λ v. cond v (1 + whole_batches (ls ++ more) (n - length l.ops)) 0 ≡ cond v (1 + whole_batches ls (n - length l.ops)) 0)
    [ true ↦ omega (arith, ih) | false ↦ refl ]
