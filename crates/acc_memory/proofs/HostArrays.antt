-- The host arrays, and lists of which one item is replaced.
use Rattle.std.proofs.Common.{◌≡◌, ℕ, zero, suc, ◌+◌, ◌<◌, ◌≤◌, true, List, [], ◌∷◌, ◌++◌, length, map, set, take, get_or, Some, refl, sym, ap, ◌∙◌, arith}
use Rattle.std.specs.Prelude.{slice_get, ℤ}
use Rattle.std.proofs.lemmas.Bool.{leb-true}
use Rattle.std.proofs.lemmas.List.{map-append, map-set, take_more}
use Rattle.std.proofs.lemmas.Option.{get_or_from_slice_get, slice_get_within}
use Rattle.acc_memory.specs.Memories.{reaches}
use Rattle.acc_base.specs.Configurations.{lengths_of}
use Rattle.acc_memory.proofs.CopyCells.{slice_get-set_same, slice_get-set_other}
use Rattle.acc_memory.proofs.Rows.{map-set_like}

-- a list of which one item is replaced
pub record IsReplaced {X : Type 0} (old new : List X) (i : ℕ) (before after : X) : Type 0 where
  pub was : slice_get old i ≡ Some before
  pub at : slice_get new i ≡ Some after
  pub others : (k : ℕ) → (k ≡ i → ⊥) → slice_get new k ≡ slice_get old k

pub replace_at : {X : Type 0} (old : List X) (i : ℕ) (before after : X) → slice_get old i ≡ Some before → IsReplaced old (set old i after) i before after
replace_at old i before after was = record {
  was = was;
  at = slice_get-set_same old i after (slice_get_within old i before was);
  others = λ k other. slice_get-set_other old i after k other;
}

-- an item in its own place
pub unchanged : {X : Type 0} (xs : List X) (i : ℕ) (x : X) → slice_get xs i ≡ Some x → IsReplaced xs xs i x x
unchanged xs i x at = record { was = at; at = at; others = λ k other. refl }

pub array_low : (arrays : List (List ℤ)) (i end : ℕ) → reaches (slice_get (lengths_of arrays) i) end ≡ true → i < length arrays
array_low [] i end h = cc
array_low (cells ∷ arrays) zero end h = omega arith
array_low (cells ∷ arrays) (suc i) end h = (let ih = array_low arrays i end h in omega arith)

pub array_at : {X : Type 0} (f : X → List ℤ) (xs : List X) (i end : ℕ) (x : X) → reaches (slice_get (lengths_of (map f xs)) i) end ≡ true → x ≡ get_or xs i x → (slice_get (map f xs) i ≡ Some (f x)) × (end ≤ length (f x))
array_at f [] i end x h is = cc
array_at f (y ∷ ys) zero end x h is = (ap (λ z. Some (f z)) (sym is), (let long : reaches (Some (length (f x))) end ≡ true = rw is h in leb-true end (length (f x)) long))
array_at f (y ∷ ys) (suc i) end x h is = array_at f ys i end x h is

pub record ArrayAfter {X : Type 0} (f : X → List ℤ) (xs : List X) (i : ℕ) (x y : X) : Type 0 where
  pub replaced : IsReplaced (map f xs) (map f (set xs i y)) i (f x) (f y)
  pub lengths : length (f y) ≡ length (f x) → lengths_of (map f (set xs i y)) ≡ lengths_of (map f xs)

pub array_after : {X : Type 0} (f : X → List ℤ) (xs : List X) (i end : ℕ) (x y : X) → reaches (slice_get (lengths_of (map f xs)) i) end ≡ true → x ≡ get_or xs i x → ArrayAfter f xs i x y
array_after f xs i end x y h is =
    let at = array_at f xs i end x h is in
    let placed = map-set f xs i y in
    record {
      replaced = rw placed (replace_at (map f xs) i (f x) (f y) at.0);
      lengths = λ same. rw placed (map-set_like (λ (cells : List ℤ). length cells) (map f xs) i (f x) (f y) at.0 same);
    }

-- one more array is held
pub arrays_more : {X : Type 0} (f : X → List ℤ) (old new : List X) (arrays : List (List ℤ)) (n : ℕ) (x : X) (cells : List ℤ) → map f old ≡ take n arrays → slice_get arrays n ≡ Some cells
    → f x ≡ cells → new ≡ old ++ x ∷ [] → map f new ≡ take (n + 1) arrays
arrays_more f old new arrays n x cells so_far there same is =
    let low = slice_get_within arrays n cells there in
    let next : f x ≡ get_or arrays n cells = same ∙ sym (get_or_from_slice_get arrays n cells cells there) in
    ap (map f) is ∙ (map-append f old (x ∷ []) ∙ (ap (λ ks. ks ++ f x ∷ []) so_far ∙ (ap (λ k. take n arrays ++ k ∷ []) next ∙ sym (take_more arrays n cells low))))
