-- The operations of a list of labels, and the labels of a queue among them.
use Rattle.std.proofs.Common.{◌≡◌, ℕ, ◌+◌, ◌-◌, ◌<◌, ◌≤◌, List, [], ◌∷◌, ◌++◌, length, take, drop, refl, sym, ap, ◌∙◌, arith, Some}
use Rattle.std.proofs.lemmas.List.{append_assoc, length-append, take-append-drop}
use Rattle.std.proofs.lemmas.List.Elements.{filter-append}
use Rattle.acc_base.specs.declared.ids.QueueAt.{QueueAt}
use Rattle.acc_base.specs.Queues.{same_queue}
use Rattle.acc_batch.specs.declared.label.Label.{Label}
use Rattle.acc_batch.specs.Labels.{on_queue, ops_of, batch_at}

-- the operations of two lists of labels
pub ops_of-append : (xs ys : List Label) → ops_of (xs ++ ys) ≡ ops_of xs ++ ops_of ys
ops_of-append [] ys = refl
ops_of-append (x ∷ xs) ys = rw (ops_of-append xs ys) (sym (append_assoc x.ops (ops_of xs) (ops_of ys)))

-- a queue's labels of two lists of labels
pub on_queue-append : (at : QueueAt) (xs ys : List Label) → on_queue at (xs ++ ys) ≡ on_queue at xs ++ on_queue at ys
on_queue-append at xs ys = filter-append (λ l. same_queue l.at at) xs ys

-- all operations are those of the batches that were taken, and then the others
pub ops_of_all : (t : ℕ) (ls : List Label) → ops_of ls ≡ ops_of (take t ls) ++ ops_of (drop t ls)
ops_of_all t ls = ap ops_of (sym (take-append-drop t ls)) ∙ ops_of-append (take t ls) (drop t ls)

pub ops_of-take-le : (t : ℕ) (ls : List Label) → length (ops_of (take t ls)) ≤ length (ops_of ls)
ops_of-take-le t ls = omega (arith, ap length (ops_of_all t ls), length-append (ops_of (take t ls)) (ops_of (drop t ls)))

-- the batch of an operation behind those of the first labels
pub batch_at-append : (xs : List Label) (l : Label) (ys : List Label) (k : ℕ) → k < length l.ops → batch_at (xs ++ l ∷ ys) (length (ops_of xs) + k) ≡ Some l
batch_at-append [] l ys k h = grind arith
batch_at-append (x ∷ xs) l ys k h =
    let ih = batch_at-append xs l ys k h in
    let e : length (x.ops ++ ops_of xs) + k - length x.ops ≡ length (ops_of xs) + k = omega (arith, length-append x.ops (ops_of xs)) in
    let f : length x.ops ≤ length (x.ops ++ ops_of xs) + k = omega (arith, length-append x.ops (ops_of xs)) in
    grind (arith, ih, e, f)
