-- A memory of which the blocks of one device change, or a host array.
use Rattle.std.proofs.Common.{◌≡◌, ℕ, zero, suc, ◌+◌, ◌<◌, ◌≤◌, true, false, List, [], ◌∷◌, length, map, set, get_or, Some, refl, sym, ap, ◌∙◌, arith, inl, inr}
use Rattle.std.specs.Prelude.{◌||◌, slice_get, take, drop, ℤ, All}
use Rattle.std.specs.Option.{option_map}
use Rattle.std.proofs.lemmas.Bool.{cases_eq, eq-eqb, ne_eqb}
use Rattle.std.proofs.lemmas.List.{length-map, length-set, map-set}
use Rattle.std.proofs.lemmas.List.Elements.{All-head, All-tail}
use Rattle.std.proofs.lemmas.Option.{slice_get-map, slice_get_read}
use Rattle.acc_base.specs.Configurations.{lengths_of}
use Rattle.acc_base.specs.declared.range.Range.{Range}
use Rattle.acc_batch.specs.declared.label.OpLabel.{OpLabel}
use Rattle.acc_batch.specs.declared.label.OpLabel.TheVariants.{CopyOut}
use Rattle.acc_memory.specs.declared.device.Device.{Device}
use Rattle.acc_memory.specs.Memories.{Row, DeviceView, MemoryView, SameBlocks, is_made, is_made_by, rows_in, was_made_in, find_row, find_block, row_cell, row_has, cell_of, Shows, ShowsRows, ShowsArray, blocks_after, made_of, PerformsOn}
use Rattle.acc_memory.specs.Values.{Cell, Host_cell, Block_cell, or_empty, or_zero, values_of, after_op, after_write}
use Rattle.acc_memory.specs.inner.Devices.{IsFresh, memory_of, view_of}
use Rattle.acc_memory.proofs.HostArrays.{IsReplaced, replace_at}
use Rattle.acc_memory.proofs.CopyCells.{slice_get-set_same, slice_get-set_other, values_are}

abbrev pub memory : List (List ℤ) → List DeviceView → MemoryView
memory arrays devices = record { arrays = arrays; devices = devices }

abbrev pub cell_in : List (List ℤ) → ℕ → ℕ → ℤ
cell_in arrays array cell = or_zero (slice_get (or_empty (slice_get arrays array)) cell)

-- ## One device

-- a device that is there
pub device_at : (ds : List Device) (device i : ℕ) (x : Device) → device < length (map view_of ds) → i ≡ device → x ≡ get_or ds i x → slice_get (map view_of ds) device ≡ Some (view_of x)
device_at ds device i x low same is =
    slice_get-map view_of ds device ∙ ap (option_map view_of) (slice_get_read ds (length ds) device x refl (omega (arith, low, length-map ds view_of)) (rw same at is))

-- no block is there before the first operation, and none was ever made
pub fresh_rows : (ds : List Device) (d : ℕ) → All IsFresh ds → rows_in (slice_get (map view_of ds) d) ≡ []
fresh_rows [] d all = refl
fresh_rows (x ∷ ds) zero all = (All-head IsFresh x ds all).rows
fresh_rows (x ∷ ds) (suc d) all = fresh_rows ds d (All-tail IsFresh x ds all)

pub fresh_made : (ds : List Device) (d b : ℕ) → All IsFresh ds → was_made_in (slice_get (map view_of ds) d) b ≡ false
fresh_made [] d b all = refl
fresh_made (x ∷ ds) zero b all = (All-head IsFresh x ds all).made b
fresh_made (x ∷ ds) (suc d) b all = fresh_made ds d b (All-tail IsFresh x ds all)

-- its rows show what the memory shows
pub shows_rows : (arrays : List (List ℤ)) (ds : List DeviceView) (device : ℕ) (x : DeviceView) (was : Cell → ℤ) → slice_get ds device ≡ Some x → Shows (memory arrays ds) was → ShowsRows device x.rows was
shows_rows arrays ds device x was at shows k i has =
    let rows : rows_in (slice_get ds device) ≡ x.rows = ap rows_in at in
    ap (λ rows. row_cell (find_row rows k) i) (sym rows) ∙ shows (Block_cell device k i) (ap (λ rows. row_has (find_row rows k) i) rows ∙ has)

-- a host array shows what the memory shows
pub shows_array : (arrays : List (List ℤ)) (ds : List DeviceView) (array : ℕ) (cells : List ℤ) (was : Cell → ℤ) → slice_get arrays array ≡ Some cells → Shows (memory arrays ds) was → ShowsArray array cells was
shows_array arrays ds array cells was at shows i = ap (λ o. or_zero (slice_get (or_empty o) i)) (sym at) ∙ shows (Host_cell array i) refl

-- A memory of which the host arrays and one device show an operation's effect performs it.
pub performs_on : (device : ℕ) (op : OpLabel) (arrays arrays' : List (List ℤ)) (ds ds' : List DeviceView) (x y : DeviceView) → IsReplaced ds ds' device x y → length ds' ≡ length ds
    → SameBlocks (map made_of y.rows) (blocks_after op (map made_of x.rows)) → ((b : ℕ) → is_made y.makes b ≡ (is_made_by b op || is_made x.makes b)) → lengths_of arrays' ≡ lengths_of arrays
    → ((was : Cell → ℤ) → Shows (memory arrays ds) was → (a i : ℕ) → cell_in arrays' a i ≡ after_op device op was (Host_cell a i))
    → ((was : Cell → ℤ) → Shows (memory arrays ds) was → ShowsRows device y.rows (after_op device op was))
    → PerformsOn device op (memory arrays ds) (memory arrays' ds')
performs_on device op arrays arrays' ds ds' x y is count blocks made lengths hosts rows = record {
  shows = λ was shows. by_cell was shows;
  blocks = λ n. ap (λ o. find_block (map made_of (rows_in o)) n) is.at ∙ (blocks n ∙ ap (λ o. find_block (blocks_after op (map made_of (rows_in o))) n) (sym is.was));
  others = λ d other. ap (λ o. map made_of (rows_in o)) (is.others d other);
  made = λ b. ap (λ o. was_made_in o b) is.at ∙ (made b ∙ ap (λ o. is_made_by b op || was_made_in o b) (sym is.was));
  others_made = λ d other b. ap (λ o. was_made_in o b) (is.others d other);
  lengths = lengths;
  devices = count;
}
  where
    here : (was : Cell → ℤ) → Shows (memory arrays ds) was → (k i : ℕ) → row_has (find_row (rows_in (slice_get ds' device)) k) i ≡ true
        → row_cell (find_row (rows_in (slice_get ds' device)) k) i ≡ after_op device op was (Block_cell device k i)
    here was shows k i has =
        let at : rows_in (slice_get ds' device) ≡ y.rows = ap rows_in is.at in
        ap (λ rows. row_cell (find_row rows k) i) at ∙ rows was shows k i (ap (λ rows. row_has (find_row rows k) i) (sym at) ∙ has)

    by_cell : (was : Cell → ℤ) → Shows (memory arrays ds) was → Shows (memory arrays' ds') (after_op device op was)
    by_cell was shows (Host_cell a i) held = hosts was shows a i
    by_cell was shows (Block_cell d k i) held = elim (cases_eq d device) [
      | inl same ↦ rw same (here was shows k i (rw same at held))
      | inr other ↦
          let before : rows_in (slice_get ds' d) ≡ rows_in (slice_get ds d) = ap rows_in (is.others d other) in
          rw (ne_eqb d device other)
          (ap (λ rows. row_cell (find_row rows k) i) before ∙ shows (Block_cell d k i) (ap (λ rows. row_has (find_row rows k) i) (sym before) ∙ held))
    ]

-- So does one of which only the device changes, where the operation leaves the host arrays.
pub device_performs : (device : ℕ) (op : OpLabel) (arrays : List (List ℤ)) (ds : List Device) (i : ℕ) (x y : Device) → device < length (map view_of ds) → i ≡ device → x ≡ get_or ds i x
    → ((was : Cell → ℤ) (a k : ℕ) → was (Host_cell a k) ≡ after_op device op was (Host_cell a k)) → SameBlocks (map made_of y.blocks) (blocks_after op (map made_of x.blocks))
    → ((b : ℕ) → is_made y.makes b ≡ (is_made_by b op || is_made x.makes b))
    → ((was : Cell → ℤ) → Shows (memory_of arrays ds) was → ShowsRows device x.blocks was → ShowsRows device y.blocks (after_op device op was))
    → PerformsOn device op (memory_of arrays ds) (memory_of arrays (set ds i y))
device_performs device op arrays ds i x y low same is hosts blocks made rows =
    let at = device_at ds device i x low same is in
    rw (map-set view_of ds i y, same) (performs_on device op arrays arrays (map view_of ds) (set (map view_of ds) device (view_of y)) (view_of x) (view_of y)
    (replace_at (map view_of ds) device (view_of x) (view_of y) at) (length-set (map view_of ds) device (view_of y)) blocks made refl
    (λ was shows a k. shows (Host_cell a k) refl ∙ hosts was a k)
    (λ was shows. rows was shows (shows_rows arrays (map view_of ds) device (view_of x) was at shows)))

-- the host arrays after a copy out of a block, where the array shows it
pub hosts_copy_out : (device n : ℕ) (r : Range) (old new : List (List ℤ)) (ds : List DeviceView) (before after : List ℤ) (was : Cell → ℤ) → IsReplaced old new r.array before after
    → Shows (memory old ds) was → ShowsArray r.array after (after_op device (CopyOut r n) was) → (a i : ℕ) → cell_in new a i ≡ after_op device (CopyOut r n) was (Host_cell a i)
hosts_copy_out device n r old new ds before after was is shows array a i = elim (cases_eq a r.array) [
  | inl same ↦ rw same (ap (λ o. or_zero (slice_get (or_empty o) i)) is.at ∙ array i)
  | inr other ↦ rw (ne_eqb a r.array other) (ap (λ o. or_zero (slice_get (or_empty o) i)) (is.others a other) ∙ shows (Host_cell a i) refl)
]

-- the rows of a device show after a copy out what they showed
pub rows_copy_out : (device n : ℕ) (r : Range) (rows : List Row) (was : Cell → ℤ) → ShowsRows device rows was → ShowsRows device rows (after_op device (CopyOut r n) was)
rows_copy_out device n r rows was shows k i has = rw (eq-eqb device device refl) (shows k i has)

-- ## A host's write

pub shows_write : (old new : List (List ℤ)) (ds : List DeviceView) (array cell : ℕ) (value : ℤ) (before : List ℤ) (was : Cell → ℤ) → cell < length before
    → IsReplaced old new array before (set before cell value)
    → Shows (memory old ds) was → Shows (memory new ds) (after_write array cell value was)
shows_write old new ds array cell value before was low is shows (Block_cell d k i) held = shows (Block_cell d k i) held
shows_write old new ds array cell value before was low is shows (Host_cell a i) held =
    elim (cases_eq a array) [
      | inr other ↦ rw (ne_eqb a array other) (ap (λ o. or_zero (slice_get (or_empty o) i)) (is.others a other) ∙ shows (Host_cell a i) refl)
      | inl eq ↦
          let now : cell_in new a i ≡ or_zero (slice_get (set before cell value) i) = ap (λ k. cell_in new k i) eq ∙ ap (λ o. or_zero (slice_get (or_empty o) i)) is.at in
          let old_cell : or_zero (slice_get before i) ≡ cell_in old a i = ap (λ o. or_zero (slice_get (or_empty o) i)) (sym is.was) ∙ ap (λ k. cell_in old k i) (sym eq) in
          elim (cases_eq i cell) [
            | inl here ↦
                rw (eq-eqb a array eq, eq-eqb i cell here)
                (now ∙ (ap (λ k. or_zero (slice_get (set before cell value) k)) here ∙ ap or_zero (slice_get-set_same before cell value low)))
            | inr past ↦
                rw (eq-eqb a array eq, ne_eqb i cell past)
                (now ∙ (ap or_zero (slice_get-set_other before cell value i past) ∙ (old_cell ∙ shows (Host_cell a i) refl)))
          ]
    ]

-- the values of a range are those of its array's cells
pub range_values : (m : MemoryView) (r : Range) (arr : List ℤ) → slice_get m.arrays r.array ≡ Some arr → r.lo + r.len ≤ length arr → take r.len (drop r.lo arr) ≡ values_of (cell_of m) r
range_values m r arr array long =
    values_are (λ i. cell_of m (Host_cell r.array i)) arr r.lo r.len long (λ i. ap (λ o. or_zero (slice_get (or_empty o) i)) (sym array))
