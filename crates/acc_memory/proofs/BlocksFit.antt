-- The blocks of a memory lie in their arrays, and an operation leaves it so.
use Rattle.std.proofs.Common.{◌≡◌, ℕ, ◌+◌, ◌-◌, ◌<◌, ◌≤◌, true, List, Some, refl, sym, ap, ◌∙◌, arith, inl, inr}
use Rattle.std.specs.Prelude.{◌==◌, not, slice_get, Option, None}
use Rattle.std.proofs.lemmas.Bool.{cases_eq, eq-eqb, ne_eqb, le-leb, leb-true}
use Rattle.acc_memory.proofs.FindBlock.{find_passed}
use Rattle.acc_base.specs.declared.range.Range.{Range}
use Rattle.acc_batch.specs.declared.label.OpLabel.{OpLabel}
use Rattle.acc_batch.specs.declared.label.OpLabel.TheVariants.{Make, CopyIn, CopyOut, Release, Run, Await, Close}
use Rattle.acc_memory.specs.Memories.{MemoryView, AllFit, HasRange, PerformsOn, reaches, ends_in, has_array, held_blocks, blocks_after, find_block}
use Rattle.acc_base.specs.Configurations.{lengths_of}
use Rattle.acc_batch.specs.Lives.{Made}

-- an end before one that an array reaches
reaches_before : (len : Option ℕ) (near far : ℕ) → near ≤ far → reaches len far ≡ true → reaches len near ≡ true
reaches_before None near far low h = h
reaches_before (Some len) near far low h = le-leb near len (omega (arith, low, leb-true far len h))

-- A range that has a cell, of a block that is there, ends in its array.
pub range_fits : (m : MemoryView) (device n : ℕ) (r : Range) → AllFit m → HasRange (held_blocks m device) n r → 0 < r.len → has_array m r ≡ true
range_fits m device n r fit h some =
    let whole : Made = record { block = n; range = h.whole_range } in
    let fits : ends_in (lengths_of m.arrays) h.whole_range ≡ true = fit device n whole h.held in
    let first = h.inside r.array r.lo (refl, omega arith, omega (arith, some)) in
    let last = h.inside r.array (r.lo + (r.len - 1)) (refl, omega arith, omega (arith, some)) in
    let high : r.lo + r.len ≤ h.whole_range.lo + h.whole_range.len = omega (arith, last.2, some) in
    reaches_before (slice_get (lengths_of m.arrays) r.array) (r.lo + r.len) (h.whole_range.lo + h.whole_range.len) high (rw first.0 fits)

-- a block that an operation makes lies in its array
abbrev pub MakesFit : List ℕ → OpLabel → Type 0
MakesFit lengths (Make r b) = ends_in lengths r ≡ true
MakesFit lengths (CopyIn r b) = Unit {0}
MakesFit lengths (CopyOut r b) = Unit {0}
MakesFit lengths (Release b) = Unit {0}
MakesFit lengths (Run k uses) = Unit {0}
MakesFit lengths (Await q n) = Unit {0}
MakesFit lengths Close = Unit {0}

abbrev FoundFit : List ℕ → List Made → Type 0
FoundFit lengths bs = (n : ℕ) (b : Made) → find_block bs n ≡ Some b → ends_in lengths b.range ≡ true

blocks_fit : (lengths : List ℕ) (op : OpLabel) (bs : List Made) → MakesFit lengths op → FoundFit lengths bs → FoundFit lengths (blocks_after op bs)
blocks_fit lengths (Make r b) bs makes h = λ n m found. elim (cases_eq b n) [
  | inl same ↦
      let first : find_block (blocks_after (Make r b) bs) n ≡ Some (record { block = b; range = r }) = rw (eq-eqb b n same) refl in
      let e : Some (record { block = b; range = r }) ≡ Some m = sym first ∙ found in
      let is : record { block = b; range = r } ≡ m = cc in
      ap (λ (k : Made). ends_in lengths k.range) (sym is) ∙ makes
  | inr other ↦
      let next : find_block (blocks_after (Make r b) bs) n ≡ find_block bs n = rw (ne_eqb b n other) refl in
      h n m (sym next ∙ found)
]
blocks_fit lengths (CopyIn r b) bs makes h = h
blocks_fit lengths (CopyOut r b) bs makes h = h
blocks_fit lengths (Run k uses) bs makes h = h
blocks_fit lengths (Await q n) bs makes h = h
blocks_fit lengths Close bs makes h = h
blocks_fit lengths (Release b) bs makes h = λ n m found. elim (cases_eq n b) [
  | inl same ↦
      let gone : find_block (blocks_after (Release b) bs) n ≡ None = find_passed (λ k. not (k == b)) bs n ∙ rw (eq-eqb n b same) refl in
      let e : None ≡ Some m = sym gone ∙ found in
      let never : ⊥ = cc in absurd never
  | inr other ↦
      let next : find_block (blocks_after (Release b) bs) n ≡ find_block bs n = find_passed (λ k. not (k == b)) bs n ∙ rw (ne_eqb n b other) refl in
      h n m (sym next ∙ found)
]

-- So the blocks lie in their arrays after an operation.
pub fits_after : (device : ℕ) (op : OpLabel) (old new : MemoryView) → AllFit old → MakesFit (lengths_of old.arrays) op → PerformsOn device op old new → AllFit new
fits_after device op old new fit makes p d n b found =
    rw p.lengths (elim (cases_eq d device) [
      | inl same ↦ blocks_fit (lengths_of old.arrays) op (held_blocks old device) makes (fit device) n b (sym (p.blocks n) ∙ rw same at found)
      | inr other ↦ fit d n b (rw (p.others d other) at found)
    ])

-- and where the arrays are as long and the blocks the same
pub fits_kept : (old new : MemoryView) → AllFit old → lengths_of new.arrays ≡ lengths_of old.arrays → ((d : ℕ) → held_blocks new d ≡ held_blocks old d) → AllFit new
fits_kept old new fit lengths blocks d n b found = rw lengths (fit d n b (rw (blocks d) at found))
