-- The clauses that are read are some that the directive may have.
use Rattle.std.proofs.Common.{◌≡◌, true, List, [], ◌∷◌, ◌++◌, refl, ◌∙◌}
use Rattle.std.proofs.lemmas.List.Folds.{list_all-append}
use Rattle.acc_place.specs.declared.directive.DataItem.{DataItem}
use Rattle.acc_script.specs.declared.head.Head.{Head}
use Rattle.acc_script.specs.Clauses.{allows}
use Rattle.acc_script.specs.inner.Kept.{AreAllowed}

-- an item more
pub item_allowed : (h : Head) (items : List DataItem) (i : DataItem) → AreAllowed h items → allows h i.clause ≡ true → AreAllowed h (items ++ i ∷ [])
item_allowed h items i all one =
    record { each = list_all-append (λ (j : DataItem). allows h j.clause) items (i ∷ []) ∙ rw (all.each, one) refl }
