-- How many batches of directives were placed on a queue, and how many operations they have: one batch after another.
use Rattle.std.proofs.Common.{◌≡◌, ℕ, ◌+◌, ◌*◌, ◌^◌, ◌<◌, ◌≤◌, Bool, true, false, cond, List, [], ◌∷◌, ◌++◌, length, take, get_or, ap, ◌∙◌, arith}
use Rattle.std.specs.Prelude.{not, nat_lt}
use Rattle.std.proofs.Math.Numerals.{add-one}
use Rattle.std.proofs.lemmas.List.{append-nil, length-append, take_more}
use Rattle.std.proofs.lemmas.List.Elements.{filter-append}
use Rattle.std.proofs.lemmas.List.Filters.{length-filter_more}
use Rattle.std.proofs.lemmas.Option.{slice_get-get_or}
use Rattle.acc_batch.specs.declared.label.Label.{Label}
use Rattle.acc_batch.specs.declared.label.OpLabel.{OpLabel}
use Rattle.acc_batch.specs.Labels.{ops_of}
use Rattle.acc_batch.proofs.Labels.{ops_of-append}
use Rattle.acc_place.specs.Plans.{nth_batch}
use Rattle.acc_place.specs.Sound.{is_close}
use Rattle.acc_report.specs.Totals.{has_plain_ops, plain_batches, plain_ops}
use Rattle.acc_report.specs.inner.Counting.{plain_count}

-- one where there are some
abbrev pub one_if : ℕ → ℕ
one_if n = cond (nat_lt 0 n) 1 0

-- So many of a queue's batches are counted.
pub record AreTotals (labels : List Label) (i batches operations : ℕ) : Type 0 where
  pub all_batches : batches ≡ length (plain_batches (take i labels))
  pub all_operations : operations ≡ length (plain_ops (ops_of (take i labels)))
  pub few : batches ≤ i
  pub most : operations ≤ i * 2 ^ 64

abbrev plain : OpLabel → Bool
plain op = not (is_close op)

plain-append : (xs ys : List OpLabel) → length (plain_ops (xs ++ ys)) ≡ length (plain_ops xs) + length (plain_ops ys)
plain-append xs ys = ap length (filter-append plain xs ys) ∙ length-append (plain_ops xs) (plain_ops ys)

ops_more : (labels : List Label) (i : ℕ) (d : Label) → i < length labels → length (plain_ops (ops_of (take (i + 1) labels))) ≡ length (plain_ops (ops_of (take i labels))) + length (plain_ops (get_or labels i d).ops)
ops_more labels i d low =
    let l = get_or labels i d in
    let one : ops_of (l ∷ []) ≡ l.ops = append-nil l.ops in
    let all : ops_of (take (i + 1) labels) ≡ ops_of (take i labels) ++ l.ops =
    ap ops_of (take_more labels i d low) ∙ (ops_of-append (take i labels) (l ∷ []) ∙ ap (λ (os : List OpLabel). ops_of (take i labels) ++ os) one) in
    ap (λ (os : List OpLabel). length (plain_ops os)) all ∙ plain-append (ops_of (take i labels)) l.ops

-- the batch with this index
count_is : (labels : List Label) (i : ℕ) (d : Label) → i < length labels → plain_count (nth_batch labels (i + 1)) ≡ length (plain_ops (get_or labels i d).ops)
count_is labels i d low = ap (λ n. plain_count (nth_batch labels n)) (add-one i) ∙ ap plain_count (slice_get-get_or labels i d low)

pub one_placed : (labels : List Label) (i batches operations count after : ℕ) → i < length labels → count ≡ plain_count (nth_batch labels (i + 1)) → after ≡ batches + one_if count → count < 2 ^ 64
    → AreTotals labels i batches operations → AreTotals labels (i + 1) after (operations + count)
one_placed [] i batches operations count after low is counted fits h = absurd (omega (arith, low))
one_placed (d ∷ labels) i batches operations count after low is counted fits h =
    let all = d ∷ labels in
    let l = get_or all i d in
    let ops : count ≡ length (plain_ops l.ops) = is ∙ count_is all i d low in
    let mine : one_if count ≡ one_if (length (plain_ops l.ops)) = ap one_if ops in
    let more = length-filter_more has_plain_ops all i d low in
    let most = most_one (nat_lt 0 count) in
    record {
      all_batches = omega (arith, counted, h.all_batches, mine, more);
      all_operations = omega (arith, h.all_operations, ops, ops_more all i d low);
      few = omega (arith, counted, h.few, most);
      most = omega (arith, h.most, fits);
    }
  where
    most_one : (b : Bool) → cond b 1 0 ≤ 1
    most_one true = omega arith
    most_one false = omega arith
