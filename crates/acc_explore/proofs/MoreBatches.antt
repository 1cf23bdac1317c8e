-- More batches behind those of a queue, and more operations that are performed, leave what stands before them.
use Rattle.std.proofs.Common.{inl, inr, ◌≡◌, ℕ, zero, suc, ◌+◌, ◌-◌, ◌<◌, ◌≤◌, List, [], ◌∷◌, ◌++◌, length, take, drop, refl, sym, ap, ◌∙◌, arith}
use Rattle.std.specs.Prelude.{nat_le, nat_lt}
use Rattle.std.proofs.lemmas.Bool.{cases_Bool, cases_lt, leb-true, ltb-false}
use Rattle.std.proofs.lemmas.List.{take_all, drop_all, drop-append-le, length-append, length-drop}
use Rattle.acc_batch.specs.declared.label.Label.{Label}
use Rattle.acc_batch.specs.declared.label.OpLabel.{OpLabel}
use Rattle.acc_batch.specs.Labels.{ops_of, batch_at, whole_batches}
use Rattle.acc_batch.proofs.Labels.{ops_of-append}
use Rattle.acc_batch.proofs.WholeBatches.{whole_covers, whole_reaches}

-- ## Batches that are counted

-- those that more operations end are no fewer
pub whole_grows : (ls : List Label) (m n : ℕ) → m ≤ n → whole_batches ls m ≤ whole_batches ls n
whole_grows ls m n low =
    let c = whole_covers ls (whole_batches ls m) m (omega arith) in
    whole_reaches ls (whole_batches ls m) n c.0 (omega (arith, c.1, low))

-- where not all operations of the first ones are performed, none behind them is counted
pub whole_stays : (ls more : List Label) (n : ℕ) → n < length (ops_of ls) → whole_batches (ls ++ more) n ≡ whole_batches ls n
whole_stays [] more n low = absurd (omega (arith, low))
whole_stays (l ∷ ls) more n low = elim (cases_Bool (nat_le (length l.ops) n)) [
  | inl fits ↦
      let under = leb-true (length l.ops) n fits in
      let ih = whole_stays ls more (n - length l.ops) (omega (arith, low, under, length-append l.ops (ops_of ls))) in
      rw fits (ap (λ k. 1 + k) ih)
  | inr short ↦ rw short refl
]

-- an operation that ends none of them isn't the last one
pub not_last : (ls : List Label) (n : ℕ) → n < length (ops_of ls) → whole_batches ls (n + 1) ≡ whole_batches ls n → n + 1 < length (ops_of ls)
not_last ls n low same = elim (cases_lt (n + 1) (length (ops_of ls))) [
  | inl more ↦ more
  | inr last ↦
      let all = take_all (length ls) ls (omega arith) in
      let reached = whole_reaches ls (length ls) (n + 1) (omega arith) (omega (arith, last, ap (λ (r : List Label). length (ops_of r)) all)) in
      let c = whole_covers ls (length ls) n (omega (arith, same, reached)) in
      absurd (omega (arith, c.1, low, ap (λ (r : List Label). length (ops_of r)) all))
]

-- the batch of such an operation is one of the first ones
pub batch_stays : (ls more : List Label) (n : ℕ) → n < length (ops_of ls) → batch_at (ls ++ more) n ≡ batch_at ls n
batch_stays [] more n low = absurd (omega (arith, low))
batch_stays (l ∷ ls) more n low = elim (cases_Bool (nat_lt n (length l.ops))) [
  | inl here ↦ rw here refl
  | inr past ↦
      let under = ltb-false n (length l.ops) past in
      rw past (batch_stays ls more (n - length l.ops) (omega (arith, low, under, length-append l.ops (ops_of ls))))
]

-- ## What is left of those that were taken

take_grows : (t : ℕ) (ls more : List Label) → (rest : List Label) × (take t (ls ++ more) ≡ take t ls ++ rest)
take_grows zero ls more = ([], refl)
take_grows (suc t) [] more = (take (suc t) more, refl)
take_grows (suc t) (l ∷ ls) more = let ih = take_grows t ls more in (ih.0, ap (λ (r : List Label). l ∷ r) ih.1)

-- something is left only of what is there
pub left_within : {X : Type 0} (n : ℕ) (xs : List X) (x : X) (ys : List X) → drop n xs ≡ x ∷ ys → n + (1 + length ys) ≡ length xs
left_within n xs x ys e = elim (cases_lt n (length xs)) [
  | inl low ↦ omega (arith, low, ap length e, length-drop n xs)
  | inr past ↦ (let none : [] ≡ x ∷ ys = sym (drop_all n xs past) ∙ e in cc)
]

-- what is left goes on, with more behind it
pub left_stays : (ls more : List Label) (t n : ℕ) (op : OpLabel) (ops : List OpLabel) → drop n (ops_of (take t ls)) ≡ op ∷ ops
    → (later : List OpLabel) × (drop n (ops_of (take t (ls ++ more))) ≡ op ∷ ops ++ later)
left_stays ls more t n op ops e =
    let grown = take_grows t ls more in
    let first = ops_of (take t ls) in
    let rest = ops_of grown.0 in
    let all : ops_of (take t (ls ++ more)) ≡ first ++ rest = ap ops_of grown.1 ∙ ops_of-append (take t ls) grown.0 in
    let low : n ≤ length first = omega (arith, left_within n first op ops e) in
    (rest, ap (drop n) all ∙ (drop-append-le n first rest low ∙ ap (λ (r : List OpLabel). r ++ rest) e))

-- ## The batch that was taken last

taken_grows : (ls : List Label) (t k : ℕ) → t ≤ k → length (ops_of (take t ls)) ≤ length (ops_of (take k ls))
taken_grows ls zero k low = omega arith
taken_grows ls (suc t) zero low = absurd (omega (arith, low))
taken_grows [] (suc t) (suc k) low = omega arith
taken_grows (l ∷ ls) (suc t) (suc k) low =
    omega (arith, length-append l.ops (ops_of (take t ls)), length-append l.ops (ops_of (take k ls)), taken_grows ls t k (omega (arith, low)))

-- where all that were taken but the last are performed, and two operations are left, the next one ends none
pub more_is_left : (ls : List Label) (t n : ℕ) → n + 2 ≤ length (ops_of (take t ls)) → t ≤ whole_batches ls n + 1 → whole_batches ls (n + 1) ≡ whole_batches ls n
more_is_left ls t n left begun =
    let k = whole_batches ls (n + 1) in
    let c = whole_covers ls k (n + 1) (omega arith) in
    let grows = whole_grows ls n (n + 1) (omega arith) in
    elim (cases_lt k t) [
      | inl low ↦ omega (arith, low, begun, grows)
      | inr past ↦ absurd (omega (arith, taken_grows ls t k past, c.1, left))
    ]
