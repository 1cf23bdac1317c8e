-- The labels that a batch adds.
use Rattle.std.proofs.Common.{◌≡◌, ℕ, ◌<◌, List, [], ◌∷◌, ◌++◌, length, refl, sym, arith}
use Rattle.std.specs.Prelude.{All}
use Rattle.std.proofs.lemmas.List.{append-nil}
use Rattle.std.proofs.lemmas.List.Elements.{All-nil, All-cons}
use Rattle.acc_base.specs.declared.ids.QueueAt.{QueueAt}
use Rattle.acc_batch.specs.declared.label.OpLabel.{OpLabel}
use Rattle.acc_batch.specs.declared.label.Label.{Label}
use Rattle.acc_place.specs.Batches.{labels_with, next_number}

-- the labels that a batch adds: one, or none where it is empty
abbrev pub added : QueueAt → ℕ → ℕ → ℕ → List OpLabel → List Label
added at number host items_done [] = []
added at number host items_done (op ∷ ops) =
    record { at = at; number = number; host = host; items_done = items_done; ops = op ∷ ops } ∷ []

-- each label that a batch adds has an operation
pub added_filled : (at : QueueAt) (number host items_done : ℕ) (ops : List OpLabel) → All (λ (l : Label). 0 < length l.ops) (added at number host items_done ops)
added_filled at number host items_done [] = All-nil (λ (l : Label). 0 < length l.ops)
added_filled at number host items_done (op ∷ ops) =
    All-cons (λ (l : Label). 0 < length l.ops) (record { at = at; number = number; host = host; items_done = items_done; ops = op ∷ ops }) [] (omega arith) (All-nil (λ (l : Label). 0 < length l.ops))

-- a batch adds its labels behind all others
pub labelled_is : (at : QueueAt) (host items_done : ℕ) (labels : List Label) (ops : List OpLabel)
    → labels_with at host items_done labels ops ≡ labels ++ added at (next_number at labels) host items_done ops
labelled_is at host items_done labels [] = sym (append-nil labels)
labelled_is at host items_done labels (op ∷ ops) = refl
