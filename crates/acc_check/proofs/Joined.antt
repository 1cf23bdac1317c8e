-- Two texts, one put behind the other.
use Rattle.std.proofs.Common.{◌≡◌, ℕ, List, ◌++◌, Result, Ok, Err, OnOk, ap, ◌∙◌, append_assoc}

pub joined : {A E : Type 0} (r : Result A E) (a b c x y : List ℕ) → b ≡ a ++ x → OnOk r (c ≡ b ++ y) → OnOk r (c ≡ a ++ (x ++ y))
joined (Ok u) a b c x y first second = second ∙ ap (λ l. l ++ y) first ∙ append_assoc a x y
joined (Err e) a b c x y first second = tt
