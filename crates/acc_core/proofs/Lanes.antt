-- The batch in the lane, among the labels of a queue.
use Rattle.std.proofs.Common.{◌≡◌, ◌<◌, ◌≤◌, List, [], ◌∷◌, ◌++◌, length, take, drop, refl, arith}
use Rattle.std.specs.Prelude.{All}
use Rattle.std.proofs.lemmas.List.{length-append, take_at, drop_at}
use Rattle.std.proofs.lemmas.List.Elements.{All-head, All-tail}
use Rattle.acc_batch.specs.declared.label.Label.{Label}
use Rattle.acc_batch.specs.declared.label.OpLabel.{OpLabel}
use Rattle.acc_batch.specs.Labels.{ops_of}

-- of what was taken and isn't performed, the lane has what is left
pub left_is : (taken queue : List Label) (done left : List OpLabel) → done ++ left ≡ ops_of taken → drop (length done) (ops_of (take (length taken) (taken ++ queue))) ≡ left
left_is taken queue done left e =
    let first : take (length taken) (taken ++ queue) ≡ taken = take_at taken queue (length taken) refl in
    rw (first, ← e) (drop_at done left (length done) refl)

-- batches that each have an operation are no more than their operations
pub few_batches : (ls : List Label) → All (λ (l : Label). 0 < length l.ops) ls → length ls ≤ length (ops_of ls)
few_batches [] h = omega arith
few_batches (l ∷ ls) h =
    let first : 0 < length l.ops = All-head (λ (k : Label). 0 < length k.ops) l ls h in
    omega (arith, first, few_batches ls (All-tail (λ (k : Label). 0 < length k.ops) l ls h), length-append l.ops (ops_of ls))
