-- The blocks that operations made.
use Rattle.std.proofs.Common.{◌≡◌, ℕ, Bool, true, false, List, [], ◌∷◌, ◌++◌, map, refl, sym, ap, ◌∙◌}
use Rattle.std.specs.Prelude.{◌==◌, ◌||◌}
use Rattle.std.specs.List.{list_any}
use Rattle.std.proofs.Math.Bool.{or-false, or-true}
use Rattle.std.proofs.lemmas.List.{map-append}
use Rattle.std.proofs.lemmas.List.Folds.{list_any-append}
use Rattle.acc_batch.specs.declared.label.OpLabel.{OpLabel}
use Rattle.acc_batch.specs.declared.label.OpLabel.TheVariants.{Make, CopyIn, CopyOut, Release, Run, Await, Close}
use Rattle.acc_batch.specs.Lives.{Made, blocks_made}
use Rattle.acc_batch.proofs.Lives.{made-append}
use Rattle.acc_work.specs.Lives.{was_made}
use Rattle.acc_memory.specs.Memories.{is_made_by}

-- one operation makes a block, or another, or none
made_one : (op : OpLabel) (block : ℕ) → was_made (op ∷ []) block ≡ is_made_by block op
made_one (Make r b) block = or-false (b == block)
made_one (CopyIn r b) block = refl
made_one (CopyOut r b) block = refl
made_one (Release b) block = refl
made_one (Run k uses) block = refl
made_one (Await q n) block = refl
made_one Close block = refl

-- it doesn't matter which of two tests comes first
either_first : (x y : Bool) → (x || y) ≡ (y || x)
either_first true y = sym (or-true y)
either_first false y = sym (or-false y)

-- one more operation
pub made_more : (ops : List OpLabel) (op : OpLabel) (block : ℕ) → was_made (ops ++ op ∷ []) block ≡ (is_made_by block op || was_made ops block)
made_more ops op block =
    ap (λ ms. list_any (λ k. k == block) (map (λ (m : Made). m.block) ms)) (made-append ops (op ∷ []))
    ∙ (ap (list_any (λ k. k == block)) (map-append (λ (m : Made). m.block) (blocks_made ops) (blocks_made (op ∷ [])))
    ∙ (list_any-append (λ k. k == block) (map (λ (m : Made). m.block) (blocks_made ops)) (map (λ (m : Made). m.block) (blocks_made (op ∷ [])))
    ∙ (ap (λ b. was_made ops block || b) (made_one op block) ∙ either_first (was_made ops block) (is_made_by block op))))
