-- Lists with an element for each queue.
use Rattle.std.proofs.Common.{◌≡◌, ℕ, zero, suc, ◌+◌, ◌<◌, ◌≤◌, List, [], ◌∷◌, length, map, refl, sym, ap, subst, ◌∙◌, arith, cond}
use Rattle.std.specs.Prelude.{Contains, ◌==◌, replicate, slice_index_or, slice_set}
use Rattle.std.proofs.lemmas.Bool.{eq-eqb, ne_eqb}
use Rattle.acc_base.specs.Queues.{every_queue, numbers_from}
use Rattle.acc_base.specs.declared.ids.TheConstants.{QUEUES}
use Rattle.acc_base.proofs.Members.{member_first, member_rest}

none_more : (n : ℕ) → 0 + n ≡ n
none_more n = omega arith

-- each number is one of them
has_number : (first count k : ℕ) → k < count → Contains (numbers_from first count) (first + k)
has_number first zero k low = absurd (omega (arith, low))
has_number first (suc count) zero low = (let e : first + zero ≡ first = omega arith in rw e (member_first first (numbers_from (first + 1) count)))
has_number first (suc count) (suc k) low =
    let e : first + suc k ≡ (first + 1) + k = omega arith in
    rw e (member_rest ((first + 1) + k) first (numbers_from (first + 1) count) (has_number (first + 1) count k (omega (arith, low))))

pub has_queue : (queue : ℕ) → queue < QUEUES → Contains every_queue queue
has_queue queue low = subst (Contains every_queue) (none_more queue) (has_number 0 QUEUES queue low)

-- what stands at a number
at_number : (f : ℕ → ℕ) (first count k : ℕ) → k < count → slice_index_or (map f (numbers_from first count)) k 0 ≡ f (first + k)
at_number f first zero k low = absurd (omega (arith, low))
at_number f first (suc count) zero low = (let e : first ≡ first + zero = omega arith in ap f e)
at_number f first (suc count) (suc k) low = (let e : (first + 1) + k ≡ first + suc k = omega arith in at_number f (first + 1) count k (omega (arith, low)) ∙ ap f e)

pub at_queue : (f : ℕ → ℕ) (queue : ℕ) → queue < QUEUES → slice_index_or (map f every_queue) queue 0 ≡ f queue
at_queue f queue low = at_number f 0 QUEUES queue low ∙ ap f (none_more queue)

-- a list is what stands at its numbers
by_number : (f : ℕ → ℕ) (first : ℕ) (xs : List ℕ) → ((k : ℕ) → k < length xs → slice_index_or xs k 0 ≡ f (first + k)) → xs ≡ map f (numbers_from first (length xs))
by_number f first [] h = refl
by_number f first (x ∷ xs) h =
    let e : first + zero ≡ first = omega arith in
    let here : x ≡ f first = h 0 (omega arith) ∙ ap f e in
    let rest : xs ≡ map f (numbers_from (first + 1) (length xs)) =
    by_number f (first + 1) xs (λ k low. (let s : first + suc k ≡ (first + 1) + k = omega arith in h (suc k) (omega (arith, low)) ∙ ap f s)) in
    ap (λ y. y ∷ xs) here ∙ ap (λ ys. f first ∷ ys) rest

pub by_queue : (f : ℕ → ℕ) (xs : List ℕ) → length xs ≡ QUEUES → ((queue : ℕ) → queue < QUEUES → slice_index_or xs queue 0 ≡ f queue) → xs ≡ map f every_queue
by_queue f xs count h = by_number f 0 xs (λ k low. h k (omega (arith, low, count)) ∙ ap f (sym (none_more k))) ∙ ap (λ n. map f (numbers_from 0 n)) count

-- two lists with the same at each of them
pub same_each : (f g : ℕ → ℕ) → ((queue : ℕ) → queue < QUEUES → f queue ≡ g queue) → map f every_queue ≡ map g every_queue
same_each f g h = by_queue g (map f every_queue) refl (λ queue low. at_queue f queue low ∙ h queue low)

pub none_each : (f : ℕ → ℕ) → ((queue : ℕ) → f queue ≡ 0) → map f every_queue ≡ replicate QUEUES 0
none_each f h = same_each f (λ queue. 0) (λ queue low. h queue)

-- one of them set
same_from : (f g : ℕ → ℕ) (first count : ℕ) → ((j : ℕ) → first ≤ j → g j ≡ f j) → map g (numbers_from first count) ≡ map f (numbers_from first count)
same_from f g first zero h = refl
same_from f g first (suc count) h = rw (h first (omega arith), same_from f g (first + 1) count (λ j low. h j (omega (arith, low)))) refl

set_number : (f g : ℕ → ℕ) (first count k n : ℕ) → k < count → ((j : ℕ) → g j ≡ cond (j == first + k) n (f j)) → map g (numbers_from first count) ≡ slice_set (map f (numbers_from first count)) k n
set_number f g first zero k n low h = absurd (omega (arith, low))
set_number f g first (suc count) zero n low h =
    let here : g first ≡ n = h first ∙ ap (λ t. cond t n (f first)) (eq-eqb first (first + zero) (omega arith)) in
    let rest : map g (numbers_from (first + 1) count) ≡ map f (numbers_from (first + 1) count) =
    same_from f g (first + 1) count (λ j above. h j ∙ ap (λ t. cond t n (f j)) (ne_eqb j (first + zero) (λ e. absurd (omega (arith, above, e))))) in
    ap (λ y. y ∷ map g (numbers_from (first + 1) count)) here ∙ ap (λ ys. n ∷ ys) rest
set_number f g first (suc count) (suc k) n low h =
    let here : g first ≡ f first = h first ∙ ap (λ t. cond t n (f first)) (ne_eqb first (first + suc k) (λ e. absurd (omega (arith, e)))) in
    let next : first + suc k ≡ (first + 1) + k = omega arith in
    let rest : map g (numbers_from (first + 1) count) ≡ slice_set (map f (numbers_from (first + 1) count)) k n =
    set_number f g (first + 1) count k n (omega (arith, low)) (λ j. h j ∙ ap (λ m. cond (j == m) n (f j)) next) in
    ap (λ y. y ∷ map g (numbers_from (first + 1) count)) here ∙ ap (λ ys. f first ∷ ys) rest

pub set_queue : (f g : ℕ → ℕ) (queue n : ℕ) → queue < QUEUES → ((q : ℕ) → g q ≡ cond (q == queue) n (f q)) → map g every_queue ≡ slice_set (map f every_queue) queue n
set_queue f g queue n low h = set_number f g 0 QUEUES queue n low (λ q. h q ∙ ap (λ m. cond (q == m) n (f q)) (sym (none_more queue)))
