-- The items of a host among its entries.
use Rattle.std.proofs.Common.{◌≡◌, ◌+◌, ◌≤◌, List, [], ◌∷◌, ◌++◌, length, refl, ap, arith}
use Rattle.acc_place.specs.Directives.{Directive}
use Rattle.acc_place.specs.declared.directive.Placed.{Placed}
use Rattle.acc_work.specs.declared.item.ItemLabel.{ItemLabel}
use Rattle.acc_work.specs.declared.item.Shown.{Shown}
use Rattle.acc_run.specs.declared.token.TokenEntry.{TokenEntry}
use Rattle.acc_run.specs.declared.token.TokenEntry.TheVariants as listed
use Rattle.acc_run.specs.Tokens.{items_in}

pub items_directive : (es : List TokenEntry) (d : Directive) (placed : Placed) → items_in (es ++ listed.Placed d placed ∷ []) ≡ items_in es
items_directive [] d placed = refl
items_directive (listed.Placed e p ∷ es) d placed = items_directive es d placed
items_directive (listed.Item i a ∷ es) d placed = ap (λ n. n + 1) (items_directive es d placed)

pub items_item : (es : List TokenEntry) (item : ItemLabel) (answer : Shown) → items_in (es ++ listed.Item item answer ∷ []) ≡ items_in es + 1
items_item [] item answer = omega arith
items_item (listed.Placed e p ∷ es) item answer = items_item es item answer
items_item (listed.Item i a ∷ es) item answer = ap (λ n. n + 1) (items_item es item answer)

pub items_low : (es : List TokenEntry) → items_in es ≤ length es
items_low [] = omega arith
items_low (listed.Placed e p ∷ es) = omega (arith, items_low es)
items_low (listed.Item i a ∷ es) = omega (arith, items_low es)
