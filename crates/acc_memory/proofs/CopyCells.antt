-- Lists of cells of which a part is overwritten, and what a part shows.
use Rattle.std.proofs.Common.{◌≡◌, ℕ, zero, suc, ◌+◌, ◌-◌, ◌<◌, ◌≤◌, cond, List, [], ◌∷◌, ◌++◌, length, take, drop, set, get_or, Some, refl, sym, ap, ◌∙◌, arith, inl, inr, drop-cons, length-drop, length-append, append_assoc}
use Rattle.std.specs.Prelude.{◌&&◌, nat_lt, nat_le, slice_get, replicate, ℤ, pos}
use Rattle.std.proofs.lemmas.Bool.{cases_lt, le-leb, lt-leb, lt-ltb, le-ltb}
use Rattle.std.proofs.lemmas.List.{length-replicate, get_or-replicate, length-take-le, drop-drop}
use Rattle.std.proofs.lemmas.Option.{slice_get_past, slice_get-get_or}
use Rattle.acc_memory.specs.Values.{or_zero, values_from}
use Rattle.acc_memory.specs.Memories.{IsCopy}

-- ## What stands at a place

slice_get-append_left : {X : Type 0} (xs ys : List X) (k : ℕ) → k < length xs → slice_get (xs ++ ys) k ≡ slice_get xs k
slice_get-append_left [] ys k low = absurd (omega arith)
slice_get-append_left (x ∷ xs) ys zero low = refl
slice_get-append_left (x ∷ xs) ys (suc k) low = slice_get-append_left xs ys k (omega arith)

slice_get-append_right : {X : Type 0} (xs ys : List X) (k : ℕ) → slice_get (xs ++ ys) (length xs + k) ≡ slice_get ys k
slice_get-append_right [] ys k = (let e : 0 + k ≡ k = omega arith in rw e refl)
slice_get-append_right (x ∷ xs) ys k = (let e : length (x ∷ xs) + k ≡ suc (length xs + k) = omega arith in rw e (slice_get-append_right xs ys k))

slice_get-drop : {X : Type 0} (n : ℕ) (xs : List X) (k : ℕ) → slice_get (drop n xs) k ≡ slice_get xs (n + k)
slice_get-drop zero xs k = (let e : 0 + k ≡ k = omega arith in rw e refl)
slice_get-drop (suc n) [] k = refl
slice_get-drop (suc n) (x ∷ xs) k = (let e : suc n + k ≡ suc (n + k) = omega arith in rw e (slice_get-drop n xs k))

slice_get-take : {X : Type 0} (n : ℕ) (xs : List X) (k : ℕ) → k < n → slice_get (take n xs) k ≡ slice_get xs k
slice_get-take zero xs k low = absurd (omega arith)
slice_get-take (suc n) [] k low = refl
slice_get-take (suc n) (x ∷ xs) zero low = refl
slice_get-take (suc n) (x ∷ xs) (suc k) low = slice_get-take n xs k (omega arith)

pub slice_get-set_same : {X : Type 0} (xs : List X) (i : ℕ) (y : X) → i < length xs → slice_get (set xs i y) i ≡ Some y
slice_get-set_same [] i y low = absurd (omega arith)
slice_get-set_same (x ∷ xs) zero y low = refl
slice_get-set_same (x ∷ xs) (suc i) y low = slice_get-set_same xs i y (omega arith)

pub slice_get-set_other : {X : Type 0} (xs : List X) (i : ℕ) (y : X) (k : ℕ) → (k ≡ i → ⊥) → slice_get (set xs i y) k ≡ slice_get xs k
slice_get-set_other [] i y k other = refl
slice_get-set_other (x ∷ xs) zero y zero other = absurd (other refl)
slice_get-set_other (x ∷ xs) zero y (suc k) other = refl
slice_get-set_other (x ∷ xs) (suc i) y zero other = refl
slice_get-set_other (x ∷ xs) (suc i) y (suc k) other = slice_get-set_other xs i y k (λ e. other (ap suc e))

pub zero_at : (n i : ℕ) → or_zero (slice_get (replicate n (pos 0)) i) ≡ pos 0
zero_at n i = elim (cases_lt i n) [
  | inl low ↦
      let inside : i < length (replicate n (pos 0)) = rw (length-replicate n (pos 0)) low in
      ap or_zero (slice_get-get_or (replicate n (pos 0)) i (pos 0) inside) ∙ get_or-replicate n i (pos 0) (pos 0) low
  | inr high ↦ (let past : length (replicate n (pos 0)) ≤ i = rw (length-replicate n (pos 0)) high in ap or_zero (slice_get_past (replicate n (pos 0)) i past))
]

-- ## A part that is overwritten

-- the target with a part of the source over its own
abbrev over : List ℤ → List ℤ → ℕ → ℕ → List ℤ
over old part at count = take at old ++ (part ++ drop count (drop at old))

part_below : (old part : List ℤ) (at count k : ℕ) → at ≤ length old → k < at → slice_get (over old part at count) k ≡ slice_get old k
part_below old part at count k long low =
    let len : length (take at old) ≡ at = length-take-le at old long in
    slice_get-append_left (take at old) (part ++ drop count (drop at old)) k (omega (arith, len)) ∙ slice_get-take at old k low

part_behind : (old part : List ℤ) (at count k : ℕ) → at ≤ length old → slice_get (over old part at count) (at + k) ≡ slice_get (part ++ drop count (drop at old)) k
part_behind old part at count k long =
    let len : length (take at old) ≡ at = length-take-le at old long in
    ap (λ n. slice_get (over old part at count) (n + k)) (sym len) ∙ slice_get-append_right (take at old) (part ++ drop count (drop at old)) k

part_cells : (source old part : List ℤ) (from at count k : ℕ) → from + count ≤ length source → at + count ≤ length old → part ≡ take count (drop from source)
    → slice_get (over old part at count) k ≡ cond (nat_le at k && nat_lt k (at + count)) (slice_get source (k - at + from)) (slice_get old k)
part_cells source old part from at count k long fits is =
    let size : length part ≡ count = ap length is ∙ length-take-le count (drop from source) (omega (arith, length-drop from source)) in
    elim (cases_lt k at) [
      | inl below ↦ rw (lt-leb at k below) (part_below old part at count k (omega arith) below)
      | inr above ↦
          let here : at + (k - at) ≡ k = omega arith in
          let behind : slice_get (over old part at count) k ≡ slice_get (part ++ drop count (drop at old)) (k - at) =
          ap (slice_get (over old part at count)) (sym here) ∙ part_behind old part at count (k - at) (omega arith) in
          elim (cases_lt k (at + count)) [
            | inl inside ↦
                let index : from + (k - at) ≡ k - at + from = omega arith in
                let low : k - at < count = omega arith in
                rw (le-leb at k above, lt-ltb k (at + count) inside)
                (behind ∙ (slice_get-append_left part (drop count (drop at old)) (k - at) (omega (arith, size))
                ∙ (ap (λ cells. slice_get cells (k - at)) is ∙ (slice_get-take count (drop from source) (k - at) low
                ∙ (slice_get-drop from source (k - at) ∙ ap (slice_get source) index)))))
            | inr after ↦
                let rest : length part + (k - at - count) ≡ k - at = omega (arith, size) in
                let index : at + (count + (k - at - count)) ≡ k = omega arith in
                rw (le-leb at k above, le-ltb k (at + count) after)
                (behind ∙ (ap (slice_get (part ++ drop count (drop at old))) (sym rest) ∙ (slice_get-append_right part (drop count (drop at old)) (k - at - count)
                ∙ (slice_get-drop count (drop at old) (k - at - count) ∙ (slice_get-drop at old (count + (k - at - count)) ∙ ap (slice_get old) index)))))
          ]
    ]

part_len : (source old part : List ℤ) (from at count : ℕ) → from + count ≤ length source → at + count ≤ length old → part ≡ take count (drop from source) → length (over old part at count) ≡ length old
part_len source old part from at count long fits is =
    let size : length part ≡ count = ap length is ∙ length-take-le count (drop from source) (omega (arith, length-drop from source)) in
    let first : length (take at old) ≡ at = length-take-le at old (omega arith) in
    omega (arith, size, first, length-append (take at old) (part ++ drop count (drop at old)), length-append part (drop count (drop at old)), length-drop count (drop at old), length-drop at old)

pub is_copy : (source old part : List ℤ) (from at count n m : ℕ) → from + count ≤ length source → at + count ≤ length old → n ≡ count → m ≡ count → part ≡ take n (drop from source)
    → IsCopy source old (over old part at m) from at count
is_copy source old part from at count n m long fits first second is =
    let same : part ≡ take count (drop from source) = is ∙ ap (λ k. take k (drop from source)) first in
    rw second (record {
      cells = λ k. part_cells source old part from at count k long fits same;
      len = part_len source old part from at count long fits same;
    })

-- the same where the cells are those before the part, the part, and those behind it
pub is_copy_from : (source old part new : List ℤ) (from at count n : ℕ) → from + count ≤ length source → at + count ≤ length old → n ≡ count → part ≡ take n (drop from source)
    → new ≡ take at old ++ part ++ drop (at + length part) old → IsCopy source old new from at count
is_copy_from source old part new from at count n long fits first is all =
    let same : part ≡ take count (drop from source) = is ∙ ap (λ k. take k (drop from source)) first in
    let size : length part ≡ count = ap length same ∙ length-take-le count (drop from source) (omega (arith, length-drop from source)) in
    let over : new ≡ over old part at count =
    all ∙ (append_assoc (take at old) part (drop (at + length part) old) ∙ ap (λ rest. take at old ++ (part ++ rest)) (ap (λ k. drop (at + k) old) size ∙ sym (drop-drop count at old))) in
    rw over (is_copy source old part from at count n count long fits first refl is)

-- ## The values of a part

pub values_are : (at : ℕ → ℤ) (xs : List ℤ) (lo n : ℕ) → lo + n ≤ length xs → ((i : ℕ) → or_zero (slice_get xs i) ≡ at i) → take n (drop lo xs) ≡ values_from at lo n
values_are at xs lo zero long same = refl
values_are at xs lo (suc n) long same =
    let low : lo < length xs = omega arith in
    let first : get_or xs lo (pos 0) ≡ at lo = ap or_zero (sym (slice_get-get_or xs lo (pos 0) low)) ∙ same lo in
    let next : suc lo ≡ lo + 1 = omega arith in
    let ih = values_are at xs (lo + 1) n (omega arith) same in
    rw (drop-cons xs lo (pos 0), first, next) (ap (λ zs. at lo ∷ zs) ih)
