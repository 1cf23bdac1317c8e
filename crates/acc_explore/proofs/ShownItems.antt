-- The items of the first hosts are all items, where no other host has one.
use Rattle.std.proofs.Common.{inl, inr, ◌≡◌, ℕ, zero, suc, ◌+◌, ◌<◌, ◌≤◌, true, false, List, [], ◌∷◌, length, refl, sym, ap, ◌∙◌, arith}
use Rattle.std.specs.Prelude.{All, ◌==◌}
use Rattle.std.proofs.lemmas.Bool.{cases_eq, cases_lt, eq-eqb, ne_eqb}
use Rattle.std.proofs.lemmas.List.Elements.{All-head, All-tail}
use Rattle.acc_base.specs.declared.ids.QueueAt.{QueueAt}
use Rattle.acc_batch.specs.declared.entry.Told.{Told}
use Rattle.acc_batch.specs.declared.entry.WorkEntry.{WorkEntry}
use Rattle.acc_batch.specs.declared.entry.WorkEntry.TheVariants as entry
use Rattle.acc_batch.specs.declared.label.OpLabel.{OpLabel}
use Rattle.acc_core.proofs.Merged.{items_length}
use Rattle.acc_explore.specs.inner.Comparing.{IsShownBelow}
use Rattle.acc_host.specs.Entries.{items_shown}
use Rattle.acc_work.specs.Logs.{all_items, items_of}

-- how many items the first n hosts have
abbrev total : ℕ → List WorkEntry → ℕ
total zero work = 0
total (suc n) work = items_of n work + total n work

total_op : (n : ℕ) (work : List WorkEntry) → (at : QueueAt) (op : OpLabel) → total n (entry.Op at op ∷ work) ≡ total n work
total_op zero work at op = refl
total_op (suc n) work at op = ap (λ k. items_of n work + k) (total_op n work at op)

-- one item more of a host beside them, and of one of them
total_beside : (n host : ℕ) (work : List WorkEntry) (what : Told) → n ≤ host → total n (entry.Item host what ∷ work) ≡ total n work
total_beside zero host work what high = refl
total_beside (suc n) host work what high =
    let rest = total_beside n host work what (omega (arith, high)) in
    let differ : (host == n) ≡ false = ne_eqb host n (omega (arith, high)) in
    rw differ (ap (λ k. items_of n work + k) rest)

total_more : (n host : ℕ) (work : List WorkEntry) (what : Told) → host < n → total n (entry.Item host what ∷ work) ≡ total n work + 1
total_more zero host work what low = absurd (omega (arith, low))
total_more (suc n) host work what low = elim (cases_eq host n) [
  | inl same ↦ (
      let here : (host == n) ≡ true = eq-eqb host n same in
      let rest = total_beside n host work what (omega (arith, same)) in
      let one : items_of n (entry.Item host what ∷ work) ≡ items_of n work + 1 = rw here refl in
      omega (arith, rest, one)
      )
  | inr other ↦ (
      let differ : (host == n) ≡ false = ne_eqb host n other in
      let rest = total_more n host work what (omega (arith, low, other)) in
      let none : items_of n (entry.Item host what ∷ work) ≡ items_of n work = rw differ refl in
      omega (arith, rest, none)
      )
]

all_total : (n : ℕ) (work : List WorkEntry) → All (IsShownBelow n) work → all_items work ≡ total n work
all_total n [] below = none n
  where
    none : (n : ℕ) → 0 ≡ total n []
    none zero = refl
    none (suc n) = omega (arith, none n)
all_total n (entry.Op at op ∷ work) below = all_total n work (All-tail (IsShownBelow n) (entry.Op at op) work below) ∙ sym (total_op n work at op)
all_total n (entry.Item host what ∷ work) below =
    let rest = all_total n work (All-tail (IsShownBelow n) (entry.Item host what) work below) in
    let more = total_more n host work what (All-head (IsShownBelow n) (entry.Item host what) work below) in
    omega (arith, rest, more)

-- hosts with the same items have as many
totals_same : (n : ℕ) (old new : List WorkEntry) → ((host : ℕ) → host < n → items_shown host old ≡ items_shown host new) → total n old ≡ total n new
totals_same zero old new same = refl
totals_same (suc n) old new same =
    let here = sym (items_length n old) ∙ (ap length (same n (omega arith)) ∙ items_length n new) in
    omega (arith, here, totals_same n old new (λ host low. same host (omega (arith, low))))

pub all_same : (n : ℕ) (old new : List WorkEntry) → All (IsShownBelow n) old → All (IsShownBelow n) new → ((host : ℕ) → host < n → items_shown host old ≡ items_shown host new)
    → all_items old ≡ all_items new
all_same n old new a b same = all_total n old a ∙ (totals_same n old new same ∙ sym (all_total n new b))

-- the others have none
none_shown : (n host : ℕ) (work : List WorkEntry) → n ≤ host → All (IsShownBelow n) work → items_shown host work ≡ []
none_shown n host [] high below = refl
none_shown n host (entry.Op at op ∷ work) high below = none_shown n host work high (All-tail (IsShownBelow n) (entry.Op at op) work below)
none_shown n host (entry.Item h what ∷ work) high below =
    let low : h < n = All-head (IsShownBelow n) (entry.Item h what) work below in
    let differ : (h == host) ≡ false = ne_eqb h host (omega (arith, low, high)) in
    rw differ (none_shown n host work high (All-tail (IsShownBelow n) (entry.Item h what) work below))

pub shown_same : (n : ℕ) (old new : List WorkEntry) → All (IsShownBelow n) old → All (IsShownBelow n) new → ((host : ℕ) → host < n → items_shown host old ≡ items_shown host new)
    → (host : ℕ) → items_shown host old ≡ items_shown host new
shown_same n old new a b same host = elim (cases_lt host n) [
  | inl low ↦ same host low
  | inr high ↦ none_shown n host old (omega (arith, high)) a ∙ sym (none_shown n host new (omega (arith, high)) b)
]
