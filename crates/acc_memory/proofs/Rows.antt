-- Rows by number, and what is set among them.
use Rattle.std.proofs.Common.{◌≡◌, ℕ, zero, suc, true, false, cond, List, [], ◌∷◌, map, set, Option, Some, None, refl, sym, ap, ◌∙◌, inl, inr}
use Rattle.std.specs.Prelude.{◌==◌, not, filter, slice_get}
use Rattle.std.proofs.lemmas.Bool.{cases_eq, eq-eqb, ne_eqb}
use Rattle.acc_memory.specs.Memories.{Row, find_row, find_block, made_of, SameBlocks}
use Rattle.acc_memory.specs.inner.Rows.{IsSetAt, number_of}
use Rattle.acc_memory.proofs.ByNumber.{set_at, set_past}
use Rattle.acc_memory.proofs.FindBlock.{find_passed}
use Rattle.acc_batch.specs.Lives.{Made}

-- ## Rows and blocks by number

abbrev pub made_there : Option Row → Option Made
made_there None = None
made_there (Some row) = Some (made_of row)

pub find_block-row : (rows : List Row) (n : ℕ) → find_block (map made_of rows) n ≡ made_there (find_row rows n)
find_block-row [] n = refl
find_block-row (row ∷ rows) n =
    elim (row.block == n) as (λ v. cond v (Some (made_of row)) (find_block (map made_of rows) n) ≡ made_there (cond v (Some row) (find_row rows n)))
    [ true ↦ refl | false ↦ find_block-row rows n ]

-- the row of a block that is there
pub record RowOf (rows : List Row) (n : ℕ) (m : Made) : Type 0 where
  pub row : Row
  pub found : find_row rows n ≡ Some row
  pub made : made_of row ≡ m

pub row_there : (rows : List Row) (n : ℕ) (m : Made) → find_block (map made_of rows) n ≡ Some m → RowOf rows n m
row_there rows n m held = there (find_row rows n) refl (sym (find_block-row rows n) ∙ held)
  where
    there : (o : Option Row) → find_row rows n ≡ o → made_there o ≡ Some m → RowOf rows n m
    there None e h = cc
    there (Some row) e h = record { row = row; found = e; made = (let same : Some (made_of row) ≡ Some m = h in cc) }

pub no_row : (rows : List Row) (n : ℕ) → find_block (map made_of rows) n ≡ None → find_row rows n ≡ None
no_row rows n held = none (find_row rows n) refl (sym (find_block-row rows n) ∙ held)
  where
    none : (o : Option Row) → find_row rows n ≡ o → made_there o ≡ None → find_row rows n ≡ None
    none None e h = e
    none (Some row) e h = (let same : Some (made_of row) ≡ None = h in cc)

-- ## One that is set

-- the blocks by number, where one row is set
made_set : (n k : ℕ) (row : Option Row) (old new : List Row) → IsSetAt n row old new
    → find_block (map made_of new) k ≡ cond (k == n) (made_there row) (find_block (map made_of old) k)
made_set n k row old new is = elim (cases_eq k n) [
  | inl same ↦ rw (find_block-row new k, set_at number_of n k row old new is same, eq-eqb k n same) refl
  | inr other ↦ rw (find_block-row new k, set_past number_of n k row old new is other, ne_eqb k n other) (sym (find_block-row old k))
]

-- a block that is there is set to one made the same
pub same_replaced : (n : ℕ) (x y : Row) (old new : List Row) → find_row old n ≡ Some x → made_of y ≡ made_of x → IsSetAt n (Some y) old new → SameBlocks (map made_of new) (map made_of old)
same_replaced n x y old new found made is k = made_set n k (Some y) old new is ∙ elim (cases_eq k n) [
  | inl same ↦ rw (eq-eqb k n same, find_block-row old k, same, found) (ap Some made)
  | inr other ↦ rw (ne_eqb k n other) refl
]

-- one is put in
pub same_made : (y : Row) (old new : List Row) → IsSetAt y.block (Some y) old new → SameBlocks (map made_of new) (made_of y ∷ map made_of old)
same_made y old new is k = made_set y.block k (Some y) old new is ∙ elim (cases_eq k y.block) [
  | inl same ↦ rw (eq-eqb k y.block same, eq-eqb y.block k (sym same)) refl
  | inr other ↦ rw (ne_eqb k y.block other, ne_eqb y.block k (λ e. other (sym e))) refl
]

-- one is taken out
pub same_released : (n : ℕ) (old new : List Row) → IsSetAt n None old new → SameBlocks (map made_of new) (filter (λ k. not (k.block == n)) (map made_of old))
same_released n old new is k = made_set n k None old new is ∙ elim (cases_eq k n) [
  | inl same ↦ rw (eq-eqb k n same, find_passed (λ m. not (m == n)) (map made_of old) k, eq-eqb k n same) refl
  | inr other ↦ rw (ne_eqb k n other, find_passed (λ m. not (m == n)) (map made_of old) k, ne_eqb k n other) refl
]

-- ## Lists

pub map-set_like : {X Y : Type 0} (f : X → Y) (xs : List X) (i : ℕ) (x y : X) → slice_get xs i ≡ Some x → f y ≡ f x → map f (set xs i y) ≡ map f xs
map-set_like f [] i x y at same = refl
map-set_like f (z ∷ zs) zero x y at same = (let e : Some z ≡ Some x = at in let is : z ≡ x = cc in ap (λ k. k ∷ map f zs) (same ∙ ap f (sym is)))
map-set_like f (z ∷ zs) (suc i) x y at same = ap (λ ks. f z ∷ ks) (map-set_like f zs i x y at same)
