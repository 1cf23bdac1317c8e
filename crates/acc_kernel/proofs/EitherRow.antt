-- Cells that are written to the outputs of a job or to its inputs.
use Rattle.std.proofs.Common.{◌≡◌, ℕ, ◌+◌, ◌<◌, Bool, true, false, List, [], length, get_or, refl, sym, ap, subst, ◌∙◌, arith}
use Rattle.std.specs.Prelude.{ℤ, pos, ◌-ℤ◌, ◌==◌, ◌&&◌, if◌then◌else◌}
use Rattle.std.specs.Ordering.{int_eq}
use Rattle.std.proofs.Math.Path.{fun_ext}
use Rattle.std.proofs.lemmas.Bool.Decides.{Decides-eqb}
use Rattle.std.proofs.lemmas.List.{ext_get_or}
use Rattle.acc_base.specs.declared.range.Range.{Range}
use Rattle.acc_kernel.specs.Cells.{is_among, value_in, with_cell, with_cells}
use Rattle.acc_kernel.specs.Jobs.{Use, no_use, cell_in, is_used, AreDistinct, AreRows}
use Rattle.acc_kernel.specs.inner.JobViews.{cell_in_either, KeepsUses}
use Rattle.acc_kernel.specs.inner.RowTables.{RowsView}
use Rattle.acc_kernel.proofs.CellIn.{value_of}
use Rattle.acc_kernel.proofs.ValueAfter.{CellsOf}

-- what a write makes of cells: it changes those of an array alone, each by itself
pub record IsWrite (array : ℕ) (write : CellsOf → CellsOf) : Type 0 where
  pub stays : (f : CellsOf) (a : ℕ) (c : ℤ) → (array == a) ≡ false → write f a c ≡ f a c
  pub alike : (f g : CellsOf) (a : ℕ) (c : ℤ) → f a c ≡ g a c → write f a c ≡ write g a c

pub one_is_write : (array : ℕ) (cell value : ℤ) → IsWrite array (λ f. with_cell f array cell value)
one_is_write array cell value = record {
  stays = λ f a c other. ap (λ (b : Bool). if b && int_eq cell c then value else f a c) other;
  alike = λ f g a c e. ap (λ (z : ℤ). if (array == a) && int_eq cell c then value else z) e;
}

pub all_is_write : (array : ℕ) (first : ℤ) (count : ℕ) (values : List ℤ) → IsWrite array (λ f. with_cells f array first count values)
all_is_write array first count values = record {
  stays = λ f a c other. ap (λ (b : Bool). if b && is_among first count c then value_in values (c -ℤ first) else f a c) other;
  alike = λ f g a c e. ap (λ (z : ℤ). if (array == a) && is_among first count c then value_in values (c -ℤ first) else z) e;
}

module _ (array : ℕ) (write : CellsOf → CellsOf) (is : IsWrite array write) where
  -- an array with another answer is another
  other_array : (uses : List Use) (a : ℕ) (b : Bool) → (array == a) ≡ b → is_used uses array ≡ true → is_used uses a ≡ false → b ≡ false
  other_array uses a true e here none = let same : array ≡ a = (Decides-eqb array a).0 e in let never : ⊥ = let moved = ap (is_used uses) same in cc in absurd never
  other_array uses a false e here none = refl

  also_other : (uses : List Use) (a : ℕ) (b : Bool) → (array == a) ≡ b → is_used uses array ≡ false → is_used uses a ≡ true → b ≡ false
  also_other uses a true e none here = let same : array ≡ a = (Decides-eqb array a).0 e in let never : ⊥ = let moved = ap (is_used uses) same in cc in absurd never
  also_other uses a false e none here = refl

  pub outputs_written : (ins outs new : RowsView) → new.uses ≡ outs.uses → cell_in new.uses new.rows ≡ write (cell_in outs.uses outs.rows) → is_used outs.uses array ≡ true
      → cell_in_either ins new ≡ write (cell_in_either ins outs)
  outputs_written ins outs new uses cells used = fun_ext (λ (a : ℕ). fun_ext (λ (c : ℤ). by a c (is_used outs.uses a) refl))
    where
      by : (a : ℕ) (c : ℤ) (b : Bool) → is_used outs.uses a ≡ b → cell_in_either ins new a c ≡ write (cell_in_either ins outs) a c
      by a c true e =
          ap (λ (b : Bool). if b then cell_in new.uses new.rows a c else cell_in ins.uses ins.rows a c) (ap (λ (us : List Use). is_used us a) uses ∙ e)
          ∙ (ap (λ (f : CellsOf). f a c) cells
          ∙ is.alike (cell_in outs.uses outs.rows) (cell_in_either ins outs) a c (sym (ap (λ (b : Bool). if b then cell_in outs.uses outs.rows a c else cell_in ins.uses ins.rows a c) e)))
      by a c false e =
          ap (λ (b : Bool). if b then cell_in new.uses new.rows a c else cell_in ins.uses ins.rows a c) (ap (λ (us : List Use). is_used us a) uses ∙ e)
          ∙ sym (is.stays (cell_in_either ins outs) a c (other_array outs.uses a (array == a) refl used e)
          ∙ ap (λ (b : Bool). if b then cell_in outs.uses outs.rows a c else cell_in ins.uses ins.rows a c) e)

  pub inputs_written : (ins outs new : RowsView) → cell_in new.uses new.rows ≡ write (cell_in ins.uses ins.rows) → is_used outs.uses array ≡ false
      → cell_in_either new outs ≡ write (cell_in_either ins outs)
  inputs_written ins outs new cells unused = fun_ext (λ (a : ℕ). fun_ext (λ (c : ℤ). by a c (is_used outs.uses a) refl))
    where
      by : (a : ℕ) (c : ℤ) (b : Bool) → is_used outs.uses a ≡ b → cell_in_either new outs a c ≡ write (cell_in_either ins outs) a c
      by a c true e =
          ap (λ (b : Bool). if b then cell_in outs.uses outs.rows a c else cell_in new.uses new.rows a c) e
          ∙ sym (is.stays (cell_in_either ins outs) a c (also_other outs.uses a (array == a) refl unused e)
          ∙ ap (λ (b : Bool). if b then cell_in outs.uses outs.rows a c else cell_in ins.uses ins.rows a c) e)
      by a c false e =
          ap (λ (b : Bool). if b then cell_in outs.uses outs.rows a c else cell_in new.uses new.rows a c) e
          ∙ (ap (λ (f : CellsOf). f a c) cells
          ∙ is.alike (cell_in ins.uses ins.rows) (cell_in_either ins outs) a c (sym (ap (λ (b : Bool). if b then cell_in outs.uses outs.rows a c else cell_in ins.uses ins.rows a c) e)))

  -- the inputs of arrays that have outputs stay, as the write is to another array
  pub keeps_hidden : (ins outs new : RowsView) → new.uses ≡ ins.uses → cell_in new.uses new.rows ≡ write (cell_in ins.uses ins.rows) → is_used outs.uses array ≡ false
      → AreDistinct ins.uses → AreRows ins.uses ins.rows → AreRows new.uses new.rows → KeepsUses ins outs new outs
  keeps_hidden ins outs new uses cells unused distinct shape new_shape = record {
    inputs = uses;
    outputs = refl;
    hidden = λ place lt used.
        let r : Range = (get_or ins.uses place no_use).1 in
        let other : (array == r.array) ≡ false = also_other outs.uses r.array (array == r.array) refl unused used in
        let kept : AreRows ins.uses new.rows = subst (λ (us : List Use). AreRows us new.rows) uses new_shape in
        ext_get_or (pos 0) (get_or new.rows place []) (get_or ins.rows place []) (kept.lengths place lt ∙ sym (shape.lengths place lt))
        (λ n low.
        let cell : ℤ = pos (r.lo + n) in
        sym (value_of ins.uses new.rows (cell_in ins.uses ins.rows) distinct place n lt)
        ∙ (ap (λ (us : List Use). cell_in us new.rows r.array cell) (sym uses)
        ∙ (ap (λ (f : CellsOf). f r.array cell) cells
        ∙ (is.stays (cell_in ins.uses ins.rows) r.array cell other ∙ value_of ins.uses ins.rows (cell_in ins.uses ins.rows) distinct place n lt))));
  }
