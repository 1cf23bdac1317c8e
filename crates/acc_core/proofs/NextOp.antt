-- The next operation of a lane stands in its last batch, behind those that are performed.
use Rattle.std.proofs.Common.{◌≡◌, ◌≤◌, ◌<◌, ℕ, zero, suc, ◌+◌, ◌-◌, List, [], ◌∷◌, ◌++◌, length, take, drop, slice_get, Option, Some, None, refl, sym, ap, ◌∙◌, arith}
use Rattle.std.proofs.lemmas.List.{append-nil, length-append}
use Rattle.std.proofs.lemmas.Option.{same_Some, slice_get_within}
use Rattle.acc_batch.specs.declared.label.Label.{Label}
use Rattle.acc_batch.specs.declared.label.OpLabel.{OpLabel}
use Rattle.acc_batch.specs.Labels.{ops_of}
use Rattle.acc_batch.proofs.Labels.{ops_of_all}
use Rattle.acc_work.specs.Lanes.{last_of, ops_of_last}

get_behind : {X : Type 0} (xs ys : List X) (n k : ℕ) → n ≡ length xs + k → slice_get (xs ++ ys) n ≡ slice_get ys k
get_behind [] ys n k is =
    let same : n ≡ k = omega (arith, is) in
    ap (slice_get ys) same
get_behind (x ∷ xs) ys zero k is = absurd (omega (arith, is))
get_behind (x ∷ xs) ys (suc n) k is = get_behind xs ys n k (omega (arith, is))

last_at : (ls : List Label) (n : ℕ) (l : Label) → n + 1 ≡ length ls → slice_get ls n ≡ Some l → drop n ls ≡ l ∷ []
last_at [] n l is got = absurd (omega (arith, is))
last_at (m ∷ []) zero l is got = ap (λ x. x ∷ []) (same_Some m l got)
last_at (m ∷ k ∷ ls) zero l is got = absurd (omega (arith, is))
last_at (m ∷ ls) (suc n) l is got = last_at ls n l (omega (arith, is)) got

last_alone : (ls : List Label) (l : Label) → last_of ls ≡ Some l → drop (length ls - 1) ls ≡ l ∷ []
last_alone ls l is =
    let within : length ls - 1 < length ls = slice_get_within ls (length ls - 1) l is in
    last_at ls (length ls - 1) l (omega (arith, within)) is

pub next_of_last : (ls : List Label) (l : Label) (done left : List OpLabel) → last_of ls ≡ Some l → done ++ left ≡ ops_of ls → length left ≤ length l.ops
    → slice_get l.ops (length l.ops - length left) ≡ slice_get left 0
next_of_last ls l done left is whole few =
    let before = ops_of (take (length ls - 1) ls) in
    let parts : ops_of ls ≡ before ++ l.ops =
    ops_of_all (length ls - 1) ls ∙ ap (λ x. before ++ ops_of x) (last_alone ls l is) ∙ ap (λ x. before ++ x) (append-nil l.ops) in
    let count : length done ≡ length before + (length l.ops - length left) =
    omega (arith, few, ap length (whole ∙ parts), length-append done left, length-append before l.ops) in
    sym (get_behind before l.ops (length done) (length l.ops - length left) count)
    ∙ ap (λ x. slice_get x (length done)) (sym (whole ∙ parts))
    ∙ get_behind done left (length done) 0 (omega arith)

pub none_left : (ls : List Label) (left : List OpLabel) → last_of ls ≡ None → length left ≤ ops_of_last (last_of ls) → slice_get left 0 ≡ None
none_left ls [] is few = refl
none_left ls (op ∷ left) is few = absurd (omega (arith, rw is at few))
