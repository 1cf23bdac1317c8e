-- Rows that show the cells of some uses, and what storing them makes of other cells.
use Rattle.std.proofs.Common.{inl, inr, ◌≡◌, ◌≢◌, ℕ, zero, suc, ◌+◌, ◌-◌, ◌<◌, ◌≤◌, Bool, true, false, List, [], ◌∷◌, length, get_or, set, take, drop, ◌++◌, refl, sym, ap, subst, ◌∙◌, arith, drop-cons, add-one}
use Rattle.std.specs.Prelude.{ℤ, pos, negsuc, ◌+ℤ◌, ◌-ℤ◌, ◌≤ℤ◌, ◌<ℤ◌, ◌&&◌, ◌||◌, ◌==◌, int_le, int_lt, if◌then◌else◌}
use Rattle.std.specs.List.{list_any, refill}
use Rattle.std.proofs.Math.Path.{fun_ext}
use Rattle.std.proofs.lemmas.Bool.{cases_lt, and_parts, and_from, eqb-true, eq-eqb}
use Rattle.std.proofs.lemmas.Int.{ints}
use Rattle.std.proofs.lemmas.List.{append-nil, drop_all, ext_get_or, get_or-drop, get_or-map, get_or-set_other, get_or-set_same, get_or-take, length-drop, length-map, length-take-le, take_all}
use Rattle.std.proofs.lemmas.List.FromFn.{length-map-range_with_len, get_or-map-range_with_len}
use Rattle.std.proofs.lemmas.List.Sums.{passes_at_first}
use Rattle.acc_base.specs.declared.range.Range.{Range}
use Rattle.acc_kernel.specs.Cells.{is_among, value_in, with_cells}
use Rattle.acc_kernel.specs.Jobs.{Use, no_use, place_of, used_range, uses_have, cell_in, AreDistinct, HasUses, HoldReached, shown, stored, values_shown}
use Rattle.acc_kernel.specs.inner.RowTables.{HasRange, IsStored}
use Rattle.acc_kernel.specs.Kernels.{Loop, value_after}
use Rattle.acc_kernel.proofs.ValueAfter.{CellsOf, within, loop_alike, loop_leaves}
use Rattle.acc_kernel.proofs.LoopTurns.{HasOf}
use Rattle.acc_kernel.proofs.CellIn.{uses_array, used, its_place}
use Rattle.acc_kernel.proofs.SplicedRow.{shape_kept}

-- ## The values of a range

pub length-values_shown : (cells : CellsOf) (r : Range) → length (values_shown cells r) ≡ r.len
length-values_shown cells r = length-map-range_with_len (λ n. cells r.array (pos n)) r.lo r.len

values_shown-at : (cells : CellsOf) (r : Range) (k : ℕ) → k < r.len → get_or (values_shown cells r) k (pos 0) ≡ cells r.array (pos (r.lo + k))
values_shown-at cells r k lt = get_or-map-range_with_len (λ n. cells r.array (pos n)) r.lo r.len k (r.lo + k) (pos 0) lt refl

-- the same cell, counted from the range's first
pub value_shown : (cells : CellsOf) (r : Range) (k : ℕ) → k < r.len → get_or (values_shown cells r) k (pos 0) ≡ cells r.array (pos r.lo +ℤ pos k)
value_shown cells r k lt =
    let same : pos (r.lo + k) ≡ pos r.lo +ℤ pos k = omega (arith, ints) in
    values_shown-at cells r k lt ∙ ap (cells r.array) same

-- values that are the cells', one by one
pub are_values : (cells : CellsOf) (r : Range) (values : List ℤ) → length values ≡ r.len → ((k : ℕ) → k < length values → get_or values k (pos 0) ≡ cells r.array (pos r.lo +ℤ pos k)) → values ≡ values_shown cells r
are_values cells r values long all =
    ext_get_or (pos 0) values (values_shown cells r) (long ∙ sym (length-values_shown cells r))
    (λ k lt. all k lt ∙ sym (value_shown cells r k (omega (arith, long))))

shows_cell : (cells : CellsOf) (r : Range) (cell : ℤ) → pos r.lo ≤ℤ cell → cell <ℤ (pos r.lo +ℤ pos r.len) → value_in (values_shown cells r) (cell -ℤ pos r.lo) ≡ cells r.array cell
shows_cell cells r cell low high = by (cell -ℤ pos r.lo) refl
  where
    by : (z : ℤ) → cell -ℤ pos r.lo ≡ z → value_in (values_shown cells r) z ≡ cells r.array cell
    by (pos n) e =
        let here : n < r.len = omega (arith, ints) in
        let is : pos (r.lo + n) ≡ cell = omega (arith, ints) in
        values_shown-at cells r n here ∙ ap (cells r.array) is
    by (negsuc n) e = absurd (omega (arith, ints))

-- ## The cells of uses

-- a use has the cells of its range
pub use_has : (uses : List Use) (place : ℕ) (cell : ℤ) → AreDistinct uses → place < length uses → pos (get_or uses place no_use).1.lo ≤ℤ cell
    → cell <ℤ (pos (get_or uses place no_use).1.lo +ℤ pos (get_or uses place no_use).1.len) → uses_have uses (get_or uses place no_use).1.array cell ≡ true
use_has uses place cell distinct lt low high =
    subst (λ (p : ℕ). (int_le (pos (get_or uses p no_use).1.lo) cell && int_lt cell (pos ((get_or uses p no_use).1.lo + (get_or uses p no_use).1.len))) ≡ true)
    (sym (its_place uses place distinct lt)) (inside (get_or uses place no_use).1 low high)
  where
    inside : (r : Range) → pos r.lo ≤ℤ cell → cell <ℤ (pos r.lo +ℤ pos r.len) → (int_le (pos r.lo) cell && int_lt cell (pos (r.lo + r.len))) ≡ true
    inside r under over =
        let a : int_le (pos r.lo) cell ≡ true = grind (arith, ints) in
        let b : int_lt cell (pos (r.lo + r.len)) ≡ true = grind (arith, ints) in
        and_from (int_le (pos r.lo) cell) (int_lt cell (pos (r.lo + r.len))) a b

pub range_there : (uses : List Use) (has : HasOf) (place : ℕ) → AreDistinct uses → place < length uses → HasUses uses has → HasRange (get_or uses place no_use).1 has
range_there uses has place distinct lt all k low =
    all (get_or uses place no_use).1.array (pos (get_or uses place no_use).1.lo +ℤ pos k)
    (use_has uses place (pos (get_or uses place no_use).1.lo +ℤ pos k) distinct lt (omega (arith, ints)) (omega (arith, ints)))

-- the range of a cell that is there
pub found_range : (uses : List Use) (array : ℕ) (cell : ℤ) → uses_have uses array cell ≡ true → (used_range uses array).array ≡ array
found_range uses array cell has =
    eqb-true (used_range uses array).array array (passes_at_first (uses_array array) uses no_use (let here : place_of uses array < length uses = used uses array cell has in omega arith))

-- a row that shows some cells does so
pub cell_of_shown : (uses : List Use) (rows : List (List ℤ)) (cells : CellsOf) (array : ℕ) (cell : ℤ) → uses_have uses array cell ≡ true
    → get_or rows (place_of uses array) [] ≡ values_shown cells (used_range uses array) → cell_in uses rows array cell ≡ cells array cell
cell_of_shown uses rows cells array cell has row =
    let r : Range = used_range uses array in
    let ends = within (pos r.lo) (pos (r.lo + r.len)) cell has in
    let low : pos r.lo ≤ℤ cell = ends.0 in
    let high : cell <ℤ pos (r.lo + r.len) = ends.1 in
    ap (λ (l : List ℤ). value_in l (cell -ℤ pos r.lo)) row
    ∙ (shows_cell cells r cell low (omega (arith, ints)) ∙ ap (λ (a : ℕ). cells a cell) (found_range uses array cell has))

-- so do rows
pub cell_shown : (uses : List Use) (cells : CellsOf) (array : ℕ) (cell : ℤ) → uses_have uses array cell ≡ true → cell_in uses (shown uses cells) array cell ≡ cells array cell
cell_shown uses cells array cell has =
    cell_of_shown uses (shown uses cells) cells array cell has
    (get_or-map (λ (u : Use). values_shown cells u.1) uses (place_of uses array) no_use [] (used uses array cell has))

-- ## Rows that are stored

abbrev pub has_use : ℕ → ℤ → Use → Bool
has_use array cell u = (u.1.array == array) && is_among (pos u.1.lo) u.1.len cell

any_at : (p : Use → Bool) (uses : List Use) (n : ℕ) (d : Use) → n < length uses → p (get_or uses n d) ≡ true → list_any p uses ≡ true
any_at p [] n d lt h = absurd (omega arith)
any_at p (u ∷ uses) zero d lt h = rw h refl
any_at p (u ∷ uses) (suc n) d lt h = ap (λ (b : Bool). p u || b) (any_at p uses n d (omega arith) h) ∙ either (p u)
  where
    either : (b : Bool) → (b || true) ≡ true
    either true = refl
    either false = refl

pub some_at : (p : Use → Bool) (uses : List Use) (d : Use) → list_any p uses ≡ true → (n : ℕ) × (n < length uses) × (p (get_or uses n d) ≡ true)
some_at p [] d h = let never : ⊥ = cc in absurd never
some_at p (u ∷ uses) d h = by (λ later. some_at p uses d later) (p u) refl
  where
    by : (list_any p uses ≡ true → (n : ℕ) × (n < length uses) × (p (get_or uses n d) ≡ true)) → (b : Bool) → p u ≡ b
        → (n : ℕ) × (n < length (u ∷ uses)) × (p (get_or (u ∷ uses) n d) ≡ true)
    by others true e = (zero, omega arith, e)
    by others false e =
        let s = others (sym (ap (λ (b : Bool). b || list_any p uses) e) ∙ h) in
        (suc s.0, (let low = s.1 in omega (arith, low)), s.2)

pub any_has : (uses : List Use) (array : ℕ) (cell : ℤ) → uses_have uses array cell ≡ true → list_any (has_use array cell) uses ≡ true
any_has uses array cell has =
    let r : Range = used_range uses array in
    let ends = within (pos r.lo) (pos (r.lo + r.len)) cell has in
    let low : pos r.lo ≤ℤ cell = ends.0 in
    let high : cell <ℤ pos (r.lo + r.len) = ends.1 in
    let under : int_le (pos r.lo) cell ≡ true = grind (arith, ints) in
    let over : int_lt cell (pos r.lo +ℤ pos r.len) ≡ true = grind (arith, ints) in
    any_at (has_use array cell) uses (place_of uses array) no_use (used uses array cell has)
    (and_from (r.array == array) (is_among (pos r.lo) r.len cell) (eq-eqb r.array array (found_range uses array cell has))
    (and_from (int_le (pos r.lo) cell) (int_lt cell (pos r.lo +ℤ pos r.len)) under over))

pub has_any : (uses : List Use) (array : ℕ) (cell : ℤ) → AreDistinct uses → list_any (has_use array cell) uses ≡ true → uses_have uses array cell ≡ true
has_any uses array cell distinct any =
    let s = some_at (has_use array cell) uses no_use any in
    let r : Range = (get_or uses s.0 no_use).1 in
    let parts = and_parts (r.array == array) (is_among (pos r.lo) r.len cell) s.2 in
    let ends = within (pos r.lo) (pos r.lo +ℤ pos r.len) cell parts.1 in
    subst (λ (a : ℕ). uses_have uses a cell ≡ true) (eqb-true r.array array parts.0) (use_has uses s.0 cell distinct s.1 ends.0 ends.1)

-- rows of some cells that are stored over others show them wherever a use has the cell
pub stored_at : (f : CellsOf) (uses : List Use) (cells : CellsOf) (array : ℕ) (cell : ℤ) → stored uses (shown uses f) cells array cell ≡ (if list_any (has_use array cell) uses then f array cell else cells array cell)
stored_at f [] cells array cell = refl
stored_at f (u ∷ uses) cells array cell =
    stored_at f uses (with_cells cells u.1.array (pos u.1.lo) u.1.len (values_shown f u.1)) array cell ∙ one (has_use array cell u) (list_any (has_use array cell) uses) refl
  where
    mine : has_use array cell u ≡ true → value_in (values_shown f u.1) (cell -ℤ pos u.1.lo) ≡ f array cell
    mine h =
        let parts = and_parts (u.1.array == array) (is_among (pos u.1.lo) u.1.len cell) h in
        let ends = within (pos u.1.lo) (pos u.1.lo +ℤ pos u.1.len) cell parts.1 in
        shows_cell f u.1 cell ends.0 ends.1 ∙ ap (λ (a : ℕ). f a cell) (eqb-true u.1.array array parts.0)

    one : (b c : Bool) → has_use array cell u ≡ b
        → (if c then f array cell else (if has_use array cell u then value_in (values_shown f u.1) (cell -ℤ pos u.1.lo) else cells array cell))
        ≡ (if has_use array cell u || c then f array cell else cells array cell)
    one true true e = rw e refl
    one true false e = rw e (mine e)
    one false true e = rw e refl
    one false false e = rw e refl

-- the rows that are left, stored over what those before left, give what all give
pub stored_next : (uses : List Use) (rows : List (List ℤ)) (n : ℕ) (u : Use) (row : List ℤ) (cells : CellsOf) → n < length uses → n < length rows → u ≡ get_or uses n u → row ≡ get_or rows n row
    → stored (drop n uses) (drop n rows) cells ≡ stored (drop (n + 1) uses) (drop (n + 1) rows) (with_cells cells u.1.array (pos u.1.lo) u.1.len row)
stored_next uses rows n u row cells low here at is =
    let one : drop n uses ≡ u ∷ drop (n + 1) uses = drop-cons uses n u low ∙ (ap (λ (x : Use). x ∷ drop (suc n) uses) (sym at) ∙ ap (λ (m : ℕ). u ∷ drop m uses) (sym (add-one n))) in
    let other : drop n rows ≡ row ∷ drop (n + 1) rows = drop-cons rows n row here ∙ (ap (λ (x : List ℤ). x ∷ drop (suc n) rows) (sym is) ∙ ap (λ (m : ℕ). row ∷ drop m rows) (sym (add-one n))) in
    ap (λ (us : List Use). stored us (drop n rows) cells) one ∙ ap (λ (rs : List (List ℤ)). stored (u ∷ drop (n + 1) uses) rs cells) other

-- a slice of all cells that was written is all that the row has
pub refilled : (row new : List ℤ) → length new ≡ length row → refill (length row) row new ≡ new
refilled row new long =
    let none : drop (length new) row ≡ [] = drop_all (length new) row (omega (arith, long)) in
    ap (λ (l : List ℤ). take (length row) (new ++ l)) none ∙ (ap (take (length row)) (append-nil new) ∙ take_all (length row) new (omega (arith, long)))

-- rows that are the cells', use by use
pub rows_shown : (uses : List Use) (rows : List (List ℤ)) (cells : CellsOf) → length rows ≡ length uses
    → ((place : ℕ) → place < length uses → get_or rows place [] ≡ values_shown cells (get_or uses place no_use).1) → rows ≡ shown uses cells
rows_shown uses rows cells count all =
    ext_get_or [] rows (shown uses cells) (count ∙ sym (length-map uses (λ (u : Use). values_shown cells u.1)))
    (λ place lt. all place (omega (arith, lt, count)) ∙ sym (get_or-map (λ (u : Use). values_shown cells u.1) uses place no_use [] (omega (arith, lt, count))))

-- one more row shows its cells, of those that are to
pub known_next : (wanted : ℕ → Type 0) (uses : List Use) (places : List ℕ) (rows : List (List ℤ)) (cells : CellsOf) (n : ℕ) (row : List ℤ) → IsStored uses places rows → n < length uses
    → row ≡ values_shown cells (get_or uses n no_use).1 → ((place : ℕ) → place < n → wanted place → get_or rows place [] ≡ values_shown cells (get_or uses place no_use).1)
    → IsStored uses places (set rows n row) × ((place : ℕ) → place < n + 1 → wanted place → get_or (set rows n row) place [] ≡ values_shown cells (get_or uses place no_use).1)
known_next wanted uses places rows cells n row old lt is before =
    let here : n < length rows = omega (arith, lt, old.shape.count) in
    let long : length row ≡ length (get_or rows n []) = ap length is ∙ (length-values_shown cells (get_or uses n no_use).1 ∙ sym (old.shape.lengths n lt)) in (
      record { table = old.table; distinct = old.distinct; shape = shape_kept uses rows 0 (pos 0) 0 n 0 old.shape row here long },
      λ place low wants. elim (cases_lt place n) [
        | inl below ↦ (let apart : place ≢ n = omega (arith, below) in get_or-set_other rows n place row [] apart ∙ before place below wants)
        | inr at ↦
            (let same : n ≡ place = omega (arith, low, at) in
            subst (λ (p : ℕ). get_or (set rows n row) p [] ≡ values_shown cells (get_or uses p no_use).1) same (get_or-set_same rows n row [] here ∙ is))
      ],
    )

-- so of all
pub loaded_next : (uses : List Use) (places : List ℕ) (rows : List (List ℤ)) (cells : CellsOf) (n : ℕ) (row : List ℤ) → IsStored uses places rows → n < length uses
    → row ≡ values_shown cells (get_or uses n no_use).1 → ((place : ℕ) → place < n → get_or rows place [] ≡ values_shown cells (get_or uses place no_use).1)
    → IsStored uses places (set rows n row) × ((place : ℕ) → place < n + 1 → get_or (set rows n row) place [] ≡ values_shown cells (get_or uses place no_use).1)
loaded_next uses places rows cells n row old lt is before =
    let next = known_next (λ place. Unit {0}) uses places rows cells n row old lt is (λ place low t. before place low) in
    (next.0, λ place low. next.1 place low tt)

-- some values side by side
pub part_long : (values : List ℤ) (a b : ℕ) → a ≤ b → b ≤ length values → length (take (b - a) (drop a values)) ≡ b - a
part_long values a b low high = length-take-le (b - a) (drop a values) (let d = length-drop a values in omega (arith, low, high, d))

pub part_at : (values : List ℤ) (a b k : ℕ) → k < b - a → get_or (take (b - a) (drop a values)) k (pos 0) ≡ get_or values (a + k) (pos 0)
part_at values a b k lt = get_or-take (b - a) (drop a values) k (pos 0) lt ∙ get_or-drop a values k (pos 0)

-- cells that agree wherever the uses have one are shown alike
pub shown_alike : (uses : List Use) (f g : CellsOf) → AreDistinct uses → ((array : ℕ) (cell : ℤ) → uses_have uses array cell ≡ true → f array cell ≡ g array cell) → shown uses f ≡ shown uses g
shown_alike uses f g distinct agree =
    rows_shown uses (shown uses f) g (length-map uses (λ (u : Use). values_shown f u.1))
    (λ place lt.
    let r : Range = (get_or uses place no_use).1 in
    get_or-map (λ (u : Use). values_shown f u.1) uses place no_use [] lt
    ∙ are_values g r (values_shown f r) (length-values_shown f r)
    (λ k low.
    let here : k < r.len = omega (arith, low, length-values_shown f r) in
    value_shown f r k here ∙ agree r.array (pos r.lo +ℤ pos k) (use_has uses place (pos r.lo +ℤ pos k) distinct lt (omega (arith, ints)) (omega (arith, ints, here)))))
