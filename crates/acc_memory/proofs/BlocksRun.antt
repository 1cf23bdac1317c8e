-- A loop over the blocks of its uses gives their cells what the definition of an operation says.
use Rattle.std.proofs.Common.{◌≡◌, ℕ, ◌+◌, ◌-◌, ◌<◌, ◌≤◌, Bool, true, false, List, length, map, get_or, Option, Some, None, refl, sym, ap, subst, ◌∙◌, arith, inl, inr}
use Rattle.std.specs.Prelude.{◌==◌, ◌&&◌, slice_get, ℤ, pos, negsuc, ◌-ℤ◌, ◌≤ℤ◌, ◌<ℤ◌, int_le, int_lt}
use Rattle.std.specs.List.{position_or_len}
use Rattle.std.proofs.lemmas.Bool.{cases_eq, and_parts, and_from, eq-eqb, eqb-true}
use Rattle.std.proofs.lemmas.Int.{ints}
use Rattle.std.proofs.lemmas.List.Sums.{passes_at_first}
use Rattle.acc_base.specs.declared.range.Range.{Range}
use Rattle.acc_batch.specs.declared.label.OpLabel.TheVariants.{Run}
use Rattle.acc_batch.specs.Lives.{Made}
use Rattle.acc_kernel.specs.Cells.{value_in}
use Rattle.acc_kernel.specs.Jobs.{Use, no_use, used_range, uses_have, AreDistinct, HoldReached}
use Rattle.acc_kernel.specs.Jobs as jobs
use Rattle.acc_kernel.specs.Kernels.{Loop, Reaches, value_after}
use Rattle.acc_kernel.proofs.ValueAfter.{within, loop_alike, loop_leaves}
use Rattle.acc_kernel.proofs.CellIn.{uses_array, used, its_place}
use Rattle.acc_memory.specs.Memories.{Row, HasRanges, ShowsRows, made_of, find_row, row_cell, row_has, is_whole}
use Rattle.acc_memory.specs.inner.Windows.{KeepsRows, row_for, cell_at, window_has, has_at, window_cells}
use Rattle.acc_memory.specs.Values.{Cell, Block_cell, is_in, or_zero, block_of, cells_by, use_with, after_loop, after_op}
use Rattle.acc_memory.proofs.CellsIn.{is_in-from, is_in-parts, get_zero}
use Rattle.acc_memory.proofs.Found.{each_fails, found_is, found_low, found_passes}
use Rattle.acc_memory.proofs.Rows.{find_block-row, made_there, row_there}
use Rattle.acc_memory.proofs.WindowCell.{row_for_is}

-- what a row shows of a cell, by its distance from the row's first
cell_is : (cells : List ℤ) (lo i : ℕ) → lo ≤ i → value_in cells (pos i -ℤ pos lo) ≡ or_zero (slice_get cells (i - lo))
cell_is cells lo i low =
    let far : pos i -ℤ pos lo ≡ pos (i - lo) = omega (arith, ints) in
    ap (value_in cells) far ∙ get_zero cells (i - lo)

is_within : (r : Range) (i : ℕ) → r.lo ≤ i → i < r.lo + r.len → (int_le (pos r.lo) (pos i) && int_lt (pos i) (pos (r.lo + r.len))) ≡ true
is_within r i low high =
    let above : int_le (pos r.lo) (pos i) ≡ true = grind (arith, ints) in
    let below : int_lt (pos i) (pos (r.lo + r.len)) ≡ true = grind (arith, ints) in
    and_from (int_le (pos r.lo) (pos i)) (int_lt (pos i) (pos (r.lo + r.len))) above below

-- ## Uses

abbrev names_cell : ℕ → ℕ → Use → Bool
names_cell n i u = (u.0 == n) && is_in u.1 i

-- the use that has a cell of an array
record UseOf (uses : List Use) (array : ℕ) (cell : ℤ) : Type 0 where
  pub here : jobs.place_of uses array < length uses
  pub same : (get_or uses (jobs.place_of uses array) no_use).1.array ≡ array
  pub at : ℕ
  pub is : cell ≡ pos at
  pub low : (get_or uses (jobs.place_of uses array) no_use).1.lo ≤ at
  pub high : at < (get_or uses (jobs.place_of uses array) no_use).1.lo + (get_or uses (jobs.place_of uses array) no_use).1.len

use_of : (uses : List Use) (array : ℕ) (cell : ℤ) → uses_have uses array cell ≡ true → UseOf uses array cell
use_of uses array cell has = by_cell cell has
  where
    by_cell : (cell : ℤ) → uses_have uses array cell ≡ true → UseOf uses array cell
    by_cell (negsuc n) has =
        let w = within (pos (used_range uses array).lo) (pos ((used_range uses array).lo + (used_range uses array).len)) (negsuc n) has in
        absurd (below_zero (used_range uses array).lo n w.0)
      where
        below_zero : (lo n : ℕ) → pos lo ≤ℤ negsuc n → ⊥
        below_zero lo n h = omega (arith, ints)
    by_cell (pos i) has =
        let w = within (pos (used_range uses array).lo) (pos ((used_range uses array).lo + (used_range uses array).len)) (pos i) has in
        let here = used uses array (pos i) has in
        record {
          here = here;
          same = eqb-true (get_or uses (jobs.place_of uses array) no_use).1.array array (passes_at_first (uses_array array) uses no_use here);
          at = i;
          is = refl;
          low = from (used_range uses array).lo i w.0;
          high = to i ((used_range uses array).lo + (used_range uses array).len) w.1;
        }
      where
        from : (a b : ℕ) → pos a ≤ℤ pos b → a ≤ b
        from a b h = omega (arith, ints)

        to : (a b : ℕ) → pos a <ℤ pos b → a < b
        to a b h = omega (arith, ints)

-- ## The blocks of the uses

pub record IsReadied (rows : List Row) (k : Loop) (uses : List Use) : Type 0 where
  pub whole : (n : ℕ) (row : Row) → find_row rows n ≡ Some row → is_whole row ≡ true
  pub held : HasRanges (map made_of rows) uses
  pub distinct : AreDistinct uses
  pub reached : HoldReached k uses

-- the block of a use, with a cell in its range
record BlockOf (rows : List Row) (uses : List Use) (u : Use) (i : ℕ) : Type 0 where
  pub row : Row
  pub found : find_row rows u.0 ≡ Some row
  pub own : block_of uses u.1.array ≡ u.0
  pub same_array : row.range.array ≡ u.1.array
  pub low : row.range.lo ≤ i
  pub high : i < row.range.lo + row.range.len
  pub whole : is_whole row ≡ true

module _ (rows : List Row) (k : Loop) (uses : List Use) (r : IsReadied rows k uses) where
  block_of_use : (j i : ℕ) → j < length uses → (get_or uses j no_use).1.lo ≤ i → i < (get_or uses j no_use).1.lo + (get_or uses j no_use).1.len
      → BlockOf rows uses (get_or uses j no_use) i
  block_of_use j i here low high =
      let u : Use = get_or uses j no_use in
      let h = r.held j no_use here in
      let t = row_there rows u.0 (record { block = u.0; range = h.whole_range }) h.held in
      let range : t.row.range ≡ h.whole_range = ap (λ (m : Made). m.range) t.made in
      let inside = h.inside u.1.array i (refl, low, high) in
      record {
        row = t.row;
        found = t.found;
        own = ap (λ p. (get_or uses p no_use).0) (its_place uses j r.distinct here);
        same_array = ap (λ (s : Range). s.array) range ∙ sym inside.0;
        low = rw range inside.1;
        high = rw range inside.2;
        whole = r.whole u.0 t.row t.found;
      }

  row_seen : (u : Use) (i : ℕ) (b : BlockOf rows uses u i) → row_for rows uses u.1.array ≡ Some b.row
  row_seen u i b = row_for_is rows uses u.1.array b.row (ap (find_row rows) b.own ∙ b.found) b.same_array

  -- what a use has is seen
  pub has_seen : (array : ℕ) (cell : ℤ) → uses_have uses array cell ≡ true → window_has rows uses array cell ≡ true
  has_seen array cell has =
      let o = use_of uses array cell has in
      let b = block_of_use (jobs.place_of uses array) o.at o.here o.low o.high in
      let there : row_for rows uses array ≡ Some b.row = ap (row_for rows uses) (sym o.same) ∙ row_seen (get_or uses (jobs.place_of uses array) no_use) o.at b in
      ap (has_at (row_for rows uses array)) o.is
      ∙ (ap (λ q. has_at q (pos o.at)) there
      ∙ and_from (is_whole b.row) (int_le (pos b.row.range.lo) (pos o.at) && int_lt (pos o.at) (pos (b.row.range.lo + b.row.range.len)))
      b.whole (is_within b.row.range o.at b.low b.high))

  -- and it is what its block shows
  pub seen_was : (device : ℕ) (was : Cell → ℤ) → ShowsRows device rows was → (array : ℕ) (cell : ℤ) → uses_have uses array cell ≡ true
      → window_cells rows uses array cell ≡ cells_by uses device was array cell
  seen_was device was shows array cell has =
      let o = use_of uses array cell has in
      let u : Use = get_or uses (jobs.place_of uses array) no_use in
      let b = block_of_use (jobs.place_of uses array) o.at o.here o.low o.high in
      let there : row_for rows uses array ≡ Some b.row = ap (row_for rows uses) (sym o.same) ∙ row_seen (get_or uses (jobs.place_of uses array) no_use) o.at b in
      let shown : row_cell (find_row rows u.0) o.at ≡ was (Block_cell device u.0 o.at) =
      shows u.0 o.at (rw b.found (is_in-from b.row.range o.at b.low b.high)) in
      ap (cell_at (row_for rows uses array)) o.is
      ∙ (ap (λ q. cell_at q (pos o.at)) there
      ∙ (cell_is b.row.cells b.row.range.lo o.at b.low
      ∙ (ap (λ row. row_cell row o.at) (sym b.found) ∙ (shown ∙ ap (cells_by uses device was array) (sym o.is)))))

  -- ## What a loop makes of a cell

  module _ (rows' : List Row) (kept : KeepsRows uses rows rows') (ran : window_cells rows' uses ≡ value_after k (window_cells rows uses))
      (device : ℕ) (was : Cell → ℤ) (shows : ShowsRows device rows was) where
    -- a block before and after
    record Both (n : ℕ) (i : ℕ) : Type 0 where
      pub old : Row
      pub new : Row
      pub found_old : find_row rows n ≡ Some old
      pub found_new : find_row rows' n ≡ Some new
      pub range : new.range ≡ old.range
      pub low : old.range.lo ≤ i
      pub inside : is_in old.range i ≡ true

    both : (n i : ℕ) (row : Row) → find_row rows' n ≡ Some row → is_in row.range i ≡ true → Both n i
    both n i row found inside =
        let t = row_there rows n (made_of row) (sym (kept.blocks n) ∙ (find_block-row rows' n ∙ ap made_there found)) in
        let range : row.range ≡ t.row.range = ap (λ (m : Made). m.range) (sym t.made) in
        let within : is_in t.row.range i ≡ true = ap (λ (s : Range). is_in s i) (sym range) ∙ inside in
        record { old = t.row; new = row; found_old = t.found; found_new = found; range = range; low = (is_in-parts t.row.range i within).0; inside = within }

    module _ (n i : ℕ) (b : Both n i) where
      -- the block's cell before
      cell_before : row_cell (Some b.old) i ≡ was (Block_cell device n i)
      cell_before = ap (λ row. row_cell row i) (sym b.found_old) ∙ shows n i (rw b.found_old b.inside)

      -- the block's cell is what the loop sees, where the block is used for its array
      seen_old : block_of uses b.old.range.array ≡ n → window_cells rows uses b.old.range.array (pos i) ≡ row_cell (Some b.old) i
      seen_old own =
          ap (λ o. cell_at o (pos i)) (row_for_is rows uses b.old.range.array b.old (ap (find_row rows) own ∙ b.found_old) refl)
          ∙ cell_is b.old.cells b.old.range.lo i b.low

      seen_new : block_of uses b.old.range.array ≡ n → window_cells rows' uses b.old.range.array (pos i) ≡ row_cell (Some b.new) i
      seen_new own =
          let low : b.new.range.lo ≤ i = rw b.range b.low in
          ap (λ o. cell_at o (pos i)) (row_for_is rows' uses b.old.range.array b.new (ap (find_row rows') own ∙ b.found_new) (ap (λ (s : Range). s.array) b.range))
          ∙ cell_is b.new.cells b.new.range.lo i low

      -- a cell that a use has
      cell_used : (u : Use) → use_with uses n i ≡ Some u → row_cell (Some b.new) i ≡ value_after k (cells_by uses device was) u.1.array (pos i)
      cell_used u found =
          let place = position_or_len (names_cell n i) uses in
          let here = found_low (names_cell n i) uses u found in
          let is : get_or uses (position_or_len (names_cell n i) uses) no_use ≡ u = found_is (names_cell n i) uses u no_use found in
          let parts = and_parts (u.0 == n) (is_in u.1 i) (found_passes (names_cell n i) uses u found) in
          let name : u.0 ≡ n = eqb-true u.0 n parts.0 in
          let ends = is_in-parts u.1 i parts.1 in
          let o : BlockOf rows uses u i = subst (λ (v : Use). BlockOf rows uses v i) is
          (block_of_use place i here (rw is ends.0) (rw is ends.1)) in
          let two : Some o.row ≡ Some b.old = sym o.found ∙ (ap (find_row rows) name ∙ b.found_old) in
          let row : o.row ≡ b.old = cc in
          let array : b.old.range.array ≡ u.1.array = sym (ap (λ (k : Row). k.range.array) row) ∙ o.same_array in
          let own : block_of uses b.old.range.array ≡ n = ap (block_of uses) array ∙ (o.own ∙ name) in
          let first : jobs.place_of uses u.1.array ≡ place = ap (λ (v : Use). jobs.place_of uses v.1.array) (sym is) ∙ its_place uses place r.distinct here in
          let mine : get_or uses (jobs.place_of uses u.1.array) no_use ≡ u = ap (λ p. get_or uses p no_use) first ∙ is in
          let has : uses_have uses u.1.array (pos i) ≡ true =
          subst (λ (v : Use). (int_le (pos v.1.lo) (pos i) && int_lt (pos i) (pos (v.1.lo + v.1.len))) ≡ true) (sym mine) (is_within u.1 i ends.0 ends.1) in
          sym (seen_new own)
          ∙ (ap (λ a. window_cells rows' uses a (pos i)) array
          ∙ (ap (λ g. g u.1.array (pos i)) ran
          ∙ loop_alike k (window_cells rows uses) (cells_by uses device was) u.1.array (pos i)
          (λ a c reach. seen_was device was shows a c (r.reached a c reach)) (seen_was device was shows u.1.array (pos i) has)))

      -- one that none has
      cell_unused : use_with uses n i ≡ None → row_cell (Some b.new) i ≡ was (Block_cell device n i)
      cell_unused none = elim (cases_eq (block_of uses b.old.range.array) n) [
        | inl own ↦
            sym (seen_new own)
            ∙ (ap (λ g. g b.old.range.array (pos i)) ran
            ∙ (loop_leaves k (window_cells rows uses) b.old.range.array (pos i) (not_reached own) ∙ (seen_old own ∙ cell_before)))
        | inr apart ↦ is_kept (kept.others n b.old b.found_old apart)
      ]
        where
          not_reached : block_of uses b.old.range.array ≡ n → Reaches k b.old.range.array (pos i) → ⊥
          not_reached own reach =
              let o = use_of uses b.old.range.array (pos i) (r.reached b.old.range.array (pos i) reach) in
              let u : Use = get_or uses (jobs.place_of uses b.old.range.array) no_use in
              let same : i ≡ o.at = pos_same i o.at o.is in
              let inside : is_in u.1 i ≡ true = rw same (is_in-from u.1 o.at o.low o.high) in
              let yes : names_cell n i u ≡ true = and_from (u.0 == n) (is_in u.1 i) (eq-eqb u.0 n own) inside in
              let no : names_cell n i u ≡ false = each_fails (names_cell n i) uses (jobs.place_of uses b.old.range.array) no_use none o.here in
              cc
            where
              pos_same : (a c : ℕ) → pos a ≡ pos c → a ≡ c
              pos_same a c e = omega (arith, ints)

          is_kept : find_row rows' n ≡ Some b.old → row_cell (Some b.new) i ≡ was (Block_cell device n i)
          is_kept stays =
              let two : Some b.new ≡ Some b.old = sym b.found_new ∙ stays in
              let row : b.new ≡ b.old = cc in
              ap (λ (q : Row). row_cell (Some q) i) row ∙ cell_before

      cell_ran : (o : Option Use) → use_with uses n i ≡ o → row_cell (Some b.new) i ≡ after_loop k (cells_by uses device was) o i (was (Block_cell device n i))
      cell_ran None e = cell_unused e
      cell_ran (Some u) e = cell_used u e

    pub shows_run : ShowsRows device rows' (after_op device (Run k uses) was)
    shows_run n i has = by_row (find_row rows' n) refl has
      where
        by_row : (o : Option Row) → find_row rows' n ≡ o → row_has o i ≡ true → row_cell o i ≡ after_op device (Run k uses) was (Block_cell device n i)
        by_row None e h = let never : ⊥ = cc in absurd never
        by_row (Some row) e h =
            let b = both n i row e h in
            let rows : Some row ≡ Some b.new = sym e ∙ b.found_new in
            rw (eq-eqb device device refl) (ap (λ o. row_cell o i) rows ∙ cell_ran n i b (use_with uses n i) refl)
