-- The operation that comes next among all.
use Rattle.std.proofs.Common.{◌≡◌, List, [], ◌∷◌, ◌++◌, length, drop, refl, sym, ap, ◌∙◌}
use Rattle.acc_batch.specs.declared.label.OpLabel.{OpLabel}

-- The operations are those that were done, then this one, then more.
pub record NextOp (done : List OpLabel) (op : OpLabel) (all : List OpLabel) : Type 0 where
  pub later : List OpLabel
  pub split : all ≡ done ++ op ∷ later

-- where a list is cut in two ways, what the first part of one has behind all of the other comes next in the list
pub next_in : (n first second more : List OpLabel) (op : OpLabel) (ops : List OpLabel) {all : List OpLabel} → n ++ more ≡ first ++ second → drop (length n) first ≡ op ∷ ops → all ≡ first ++ second → NextOp n op all
next_in [] first second more op ops e f g = record { later = ops ++ second; split = g ∙ ap (λ r. r ++ second) f }
next_in (x ∷ n) [] second more op ops e f g = cc
next_in (x ∷ n) (y ∷ first) second more op ops e f g =
    let same : x ≡ y = cc in
    let rest_same : n ++ more ≡ first ++ second = cc in
    let ih = next_in n first second more op ops rest_same f refl in
    record { later = ih.later; split = g ∙ (ap (λ z. z ∷ first ++ second) (sym same) ∙ ap (λ r. x ∷ r) ih.split) }
