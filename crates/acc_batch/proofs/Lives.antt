-- What two lists of operations made and released.
use Rattle.std.proofs.Common.{◌≡◌, List, [], ◌∷◌, ◌++◌, refl, ap}
use Rattle.acc_batch.specs.declared.label.OpLabel.{OpLabel}
use Rattle.acc_batch.specs.declared.label.OpLabel.TheVariants.{Make, CopyIn, CopyOut, Release, Run, Await, Close}
use Rattle.acc_batch.specs.Lives.{blocks_made, blocks_released}

pub made-append : (xs ys : List OpLabel) → blocks_made (xs ++ ys) ≡ blocks_made xs ++ blocks_made ys
made-append [] ys = refl
made-append (Make r b ∷ xs) ys = ap (λ ms. record { block = b; range = r } ∷ ms) (made-append xs ys)
made-append (CopyIn r b ∷ xs) ys = made-append xs ys
made-append (CopyOut r b ∷ xs) ys = made-append xs ys
made-append (Release b ∷ xs) ys = made-append xs ys
made-append (Run k uses ∷ xs) ys = made-append xs ys
made-append (Await q n ∷ xs) ys = made-append xs ys
made-append (Close ∷ xs) ys = made-append xs ys

pub released-append : (xs ys : List OpLabel) → blocks_released (xs ++ ys) ≡ blocks_released xs ++ blocks_released ys
released-append [] ys = refl
released-append (Make r b ∷ xs) ys = released-append xs ys
released-append (CopyIn r b ∷ xs) ys = released-append xs ys
released-append (CopyOut r b ∷ xs) ys = released-append xs ys
released-append (Release b ∷ xs) ys = ap (λ bs. b ∷ bs) (released-append xs ys)
released-append (Run k uses ∷ xs) ys = released-append xs ys
released-append (Await q n ∷ xs) ys = released-append xs ys
released-append (Close ∷ xs) ys = released-append xs ys
