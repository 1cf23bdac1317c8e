-- A job whose inputs are made the values of what it reads of the blocks that it uses, use by use.
use Rattle.std.proofs.Common.{inl, inr, ◌≡◌, ℕ, ◌+◌, ◌-◌, ◌<◌, ◌≤◌, Bool, true, List, [], length, get_or, set, map, refl, sym, ap, subst, ◌∙◌, arith}
use Rattle.std.specs.Prelude.{ℤ, pos, filter, slice_get}
use Rattle.std.specs.List.{All, slice_range}
use Rattle.std.proofs.lemmas.Bool.{cases_lt}
use Rattle.std.proofs.lemmas.List.{ext_get_or, get_or-set_other, get_or-set_same, get_or_default, length-set}
use Rattle.std.proofs.lemmas.List.Elements.{All-filter, All-map}
use Rattle.std.proofs.lemmas.List.FromFn.{get_or-map-range_with_len, length-map-range_with_len}
use Rattle.acc_base.specs.declared.range.Range.{Range}
use Rattle.acc_kernel.specs.Jobs.{Computation, Use, AreDistinct, HoldReached, no_use, is_read, range_of, read_uses, shown, values_shown}
use Rattle.acc_kernel.specs.Kernels.{Loop, reach_of}
use Rattle.acc_kernel.proofs.CellIn.{its_place}
use Rattle.acc_kernel.proofs.ReadAndWritten.{range_array, use_includes}
use Rattle.acc_kernel.proofs.ShownRows.{part_at, rows_shown}
use Rattle.acc_kernel.proofs.SplicedRow.{length_range}
use Rattle.acc_memory.specs.Memories.{Row, HasRange, HasRanges, ShowsRows, made_of, row_cell}
use Rattle.acc_memory.specs.Values.{Cell, Block_cell, block_of, cells_by, is_in, or_zero}
use Rattle.acc_memory.specs.inner.Rows.{range_values}
use Rattle.acc_memory.proofs.AfterOp.{HoldsRow}
use Rattle.acc_memory.proofs.CellsIn.{get_zero, is_in-from}

-- the cells of a range that lies in a row hold what the row shows
pub range_shown : (device : ℕ) (rows : List Row) (n : ℕ) (r : Range) (x : Row) (was : Cell → ℤ) → HoldsRow rows n x r → length x.cells ≡ x.range.len → ShowsRows device rows was
    → slice_range x.cells (r.lo - x.range.lo) (r.lo - x.range.lo + r.len) ≡ range_values device n r was
range_shown device rows n r x was h size shows =
    let first = r.lo - x.range.lo in
    let long : length (slice_range x.cells (r.lo - x.range.lo) (r.lo - x.range.lo + r.len)) ≡ r.len = length_range x.cells first r.len (omega (arith, size, h.low, h.high)) in
    ext_get_or (pos 0) (slice_range x.cells first (first + r.len)) (range_values device n r was)
    (long ∙ sym (length-map-range_with_len (λ i. was (Block_cell device n i)) r.lo r.len))
    (λ k lt.
    let low : k < r.len = omega (arith, lt, long) in
    let inside : is_in x.range (r.lo + k) ≡ true = is_in-from x.range (r.lo + k) (omega (arith, h.low)) (omega (arith, h.high, low)) in
    let index : r.lo - x.range.lo + k ≡ r.lo + k - x.range.lo = omega (arith, h.low) in
    part_at x.cells first (first + r.len) k (omega (arith, low))
    ∙ (get_zero x.cells (first + k)
    ∙ (ap (λ i. or_zero (slice_get x.cells i)) index
    ∙ (ap (λ o. row_cell o (r.lo + k)) (sym h.found)
    ∙ (shows n (r.lo + k) (rw h.found inside) ∙ sym (get_or-map-range_with_len (λ i. was (Block_cell device n i)) r.lo r.len k (r.lo + k) (pos 0) low refl))))))

-- a use of a job, or a part of one: its block has its range, and no other block is used for the array
pub record IsOwn (rows : List Row) (uses : List Use) (u : Use) : Type 0 where
  pub held : HasRange (map made_of rows) u.0 u.1
  pub block : block_of uses u.1.array ≡ u.0

-- so is what the loop reads of each use
pub read_own : (rows : List Row) (k : Loop) (uses : List Use) (place : ℕ) (u : Use) → HasRanges (map made_of rows) uses → AreDistinct uses → HoldReached k uses
    → place < length (read_uses k uses) → u ≡ get_or (read_uses k uses) place u → IsOwn rows uses u
read_own rows k uses place u held distinct reached low at =
    subst (IsOwn rows uses) (sym at)
    (All-map (IsOwn rows uses) part (filter wanted uses) (All-filter wanted (λ v. IsOwn rows uses (part v)) uses all) place u low)
  where
    wanted : Use → Bool
    wanted v = is_read k.statements v.1.array

    part : Use → Use
    part v = (v.0, range_of v.1.array (reach_of k v.1.array))

    own : (j : ℕ) → j < length uses → IsOwn rows uses (part (get_or uses j no_use))
    own j inside =
        let v : Use = get_or uses j no_use in
        let whole = held j no_use inside in
        record {
          held = record { whole_range = whole.whole_range; held = whole.held; inside = λ array cell is. whole.inside array cell (use_includes k uses reached j distinct inside array cell is) };
          block =
              ap (block_of uses) (range_array v.1.array (reach_of k v.1.array))
              ∙ ap (λ p. (get_or uses p no_use).0) (its_place uses j distinct inside);
        }

    all : All (λ v. IsOwn rows uses (part v)) uses
    all j d inside = subst (λ (v : Use). IsOwn rows uses (part v)) (get_or_default uses j no_use d inside) (own j inside)

-- so many inputs are set
pub record IsLoading (rows : List Row) (old new : Computation) (count : ℕ) : Type 0 where
  pub kept : new ≡ record old { inputs = new.inputs }
  pub size : length new.inputs ≡ length (read_uses old.kernel old.uses)
  pub given : (place : ℕ) → place < count → (device : ℕ) (was : Cell → ℤ) → ShowsRows device rows was
      → get_or new.inputs place [] ≡ values_shown (cells_by old.uses device was) (get_or (read_uses old.kernel old.uses) place no_use).1

pub one_loaded : (rows : List Row) (old new : Computation) (count : ℕ) (u : Use) (values : List ℤ) → IsLoading rows old new count → count < length (read_uses old.kernel old.uses)
    → u ≡ get_or (read_uses old.kernel old.uses) count u → IsOwn rows old.uses u
    → ((device : ℕ) (was : Cell → ℤ) → ShowsRows device rows was → values ≡ range_values device u.0 u.1 was)
    → IsLoading rows old (record new { inputs = set new.inputs count values }) (count + 1)
one_loaded rows old new count u values h low at own shown = record {
  kept = ap (λ (job : Computation). record job { inputs = set new.inputs count values }) h.kept;
  size = length-set new.inputs count values ∙ h.size;
  given = λ place lt device was shows. elim (cases_lt place count) [
    | inl below ↦ get_or-set_other new.inputs count place values [] (λ e. (let never : ⊥ = absurd (omega (arith, e, below)) in never)) ∙ h.given place below device was shows
    | inr above ↦
        let same : place ≡ count = omega (arith, lt, above) in
        let here : u ≡ get_or (read_uses old.kernel old.uses) count no_use = at ∙ get_or_default (read_uses old.kernel old.uses) count u no_use low in
        rw same
        (get_or-set_same new.inputs count values [] (omega (arith, low, h.size))
        ∙ (shown device was shows
        ∙ (ap (λ n. range_values device n u.1 was) (sym own.block) ∙ ap (λ (v : Use). values_shown (cells_by old.uses device was) v.1) here)))
  ];
}

pub all_loaded : (rows : List Row) (old new : Computation) (count : ℕ) → IsLoading rows old new count → length (read_uses old.kernel old.uses) ≤ count
    → (device : ℕ) (was : Cell → ℤ) → ShowsRows device rows was → new ≡ record old { inputs = shown (read_uses old.kernel old.uses) (cells_by old.uses device was) }
all_loaded rows old new count h all device was shows =
    h.kept ∙ ap (λ inputs. record old { inputs = inputs })
    (rows_shown (read_uses old.kernel old.uses) new.inputs (cells_by old.uses device was) h.size (λ place low. h.given place (omega (arith, low, all)) device was shows))
