-- How many batches are performed.
use Rattle.std.proofs.Common.{◌≡◌, ◌≤◌, List, [], ◌∷◌, ◌++◌, length, take, drop, refl, sym, ap, ◌∙◌, arith}
use Rattle.std.proofs.lemmas.List.{length-append}
use Rattle.acc_batch.specs.declared.label.OpLabel.{OpLabel}
use Rattle.acc_batch.specs.Labels.{ops_of}
use Rattle.acc_batch.proofs.Labels.{ops_of_all}
use Rattle.acc_batch.proofs.WholeBatches.{whole_covers, whole_reaches}
use Rattle.acc_work.specs.Orders.{IsPrefix, WholeIsGreatest}

-- of two prefixes of one list the shorter is a prefix of the longer
pub prefix_of_prefix : (xs ys as_rest bs_rest : List OpLabel) → xs ++ as_rest ≡ ys ++ bs_rest → length xs ≤ length ys → IsPrefix xs ys
prefix_of_prefix [] ys a b e h = (ys, refl)
prefix_of_prefix (x ∷ xs) [] a b e h = absurd (omega (arith, h))
prefix_of_prefix (x ∷ xs) (y ∷ ys) a b e h =
    let same : x ≡ y = cc in
    let others : xs ++ a ≡ ys ++ b = cc in
    let ih = prefix_of_prefix xs ys a b others (omega (arith, h)) in
    (ih.0, rw same (ap (λ r. y ∷ r) ih.1))

-- The count of performed batches is the greatest number of first batches whose operations were all performed.
pub whole_is : WholeIsGreatest
whole_is ls ops n p =
    let cut = sym (ops_of_all n ls) in (
      (λ h. let c = whole_covers ls n (length ops) h in (c.0, prefix_of_prefix (ops_of (take n ls)) ops (ops_of (drop n ls)) p.0 (cut ∙ sym p.1) c.1)),
      (λ h. whole_reaches ls n (length ops) h.0 (omega (arith, ap length h.1.1, length-append (ops_of (take n ls)) h.1.0))),
    )
