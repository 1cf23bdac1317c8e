-- The values of live cells behind one more operation depend on the values of live cells before it alone.
use Rattle.std.proofs.Common.{inl, inr, ◌⊎◌, ◌≡◌, ℕ, suc, ◌+◌, ◌<◌, ◌≤◌, Bool, true, false, ◌&&◌, cond, List, [], ◌∷◌, ◌++◌, length, get_or, refl, sym, ap, ◌∙◌, subst, Some, None, Option, ℤ, pos, negsuc, nat_le, nat_lt, ◌==◌, arith}
use Rattle.std.specs.Prelude.{All, find, slice_get, ◌≤ℤ◌, ◌<ℤ◌}
use Rattle.std.proofs.lemmas.Bool.{cases_Bool, and_parts, and_from, eq-eqb, eqb-true, eqb-false, ne_eqb, le-leb, lt-ltb, leb-true, ltb-true}
use Rattle.std.proofs.lemmas.Int.{ints}
use Rattle.std.proofs.lemmas.List.Elements.{Contains-append_left, Contains-push_cases}
use Rattle.std.proofs.lemmas.Option.{get_or_from_slice_get, slice_get_within}
use Rattle.acc_base.specs.declared.ids.QueueAt.{QueueAt}
use Rattle.acc_base.specs.declared.range.Range.{Range}
use Rattle.acc_base.specs.Ranges.{Includes}
use Rattle.acc_batch.specs.declared.label.OpLabel.{OpLabel}
use Rattle.acc_batch.specs.declared.label.OpLabel.TheVariants.{Make, CopyIn, CopyOut, Release, Run, Await, Close}
use Rattle.acc_batch.specs.Lives.{HoldsBlock, UsesLive}
use Rattle.acc_batch.specs.Ops.{HasItsCells}
use Rattle.acc_kernel.specs.Jobs.{Use, no_use, place_of, used_range, uses_have, AreDistinct, HoldReached}
use Rattle.acc_kernel.specs.Kernels.{Loop, value_after}
use Rattle.acc_kernel.proofs.ValueAfter.{within, loop_alike}
use Rattle.acc_kernel.proofs.CellIn.{used, its_place}
use Rattle.acc_memory.specs.Values.{Cell, Host_cell, Block_cell, is_in, after_op, block_of, cells_by, use_with, after_loop}
use Rattle.acc_batch.specs.declared.entry.WorkEntry.{WorkEntry}
use Rattle.acc_batch.specs.declared.entry.WorkEntry.TheVariants as entry
use Rattle.acc_work.specs.Logs.{device_ops, value, one_more}
use Rattle.acc_work.proofs.MadeAndReleased.{made_op, op_made, op_released, released_op}
use Rattle.acc_explore.specs.Alike.{IsLive, SameCells}

pub if_alike : (c : Bool) (x y u v : ℤ) → (c ≡ true → x ≡ u) → (c ≡ false → y ≡ v) → cond c x y ≡ cond c u v
if_alike true x y u v f g = f refl
if_alike false x y u v f g = g refl

-- A block that is held behind one more operation was held before it, or the operation makes it.
pub record IsMade (op : OpLabel) (b : ℕ) (r : Range) : Type 0 where
  pub whole : Range
  pub makes : op ≡ Make whole b
  pub inside : Includes whole r

pub held_cases : (ops : List OpLabel) (op : OpLabel) (b : ℕ) (r : Range) → HoldsBlock (ops ++ op ∷ []) b r → HoldsBlock ops b r ⊎ IsMade op b r
held_cases ops op b r h =
    elim (Contains-push_cases ops op (Make h.whole_range b) (made_op (ops ++ op ∷ []) b h.whole_range h.is_made)) [
      | inl before ↦ inl (record {
        whole_range = h.whole_range;
        is_made = op_made ops b h.whole_range before;
        not_released = λ gone. h.not_released (op_released (ops ++ op ∷ []) b (Contains-append_left ops (op ∷ []) (Release b) (released_op ops b gone)));
        inside = h.inside;
      })
      | inr now ↦ inr (record { whole = h.whole_range; makes = now; inside = h.inside })
    ]

-- a cell of a range is one of a range around it
pub in_wider : (whole r : Range) (cell : ℕ) → Includes whole r → is_in r cell ≡ true → is_in whole cell ≡ true
in_wider whole r cell inside e =
    let parts = and_parts (nat_le r.lo cell) (nat_lt cell (r.lo + r.len)) e in
    let there = inside r.array cell (refl, leb-true r.lo cell parts.0, ltb-true cell (r.lo + r.len) parts.1) in
    and_from (nat_le whole.lo cell) (nat_lt cell (whole.lo + whole.len)) (le-leb whole.lo cell there.1) (lt-ltb cell (whole.lo + whole.len) there.2)

-- the use that is found stands at an index
pub find_at : (p : Use → Bool) (uses : List Use) (u : Use) → find p uses ≡ Some u → (j : ℕ) × (slice_get uses j ≡ Some u) × (p u ≡ true)
find_at p [] u found = let never : ⊥ = cc in absurd never
find_at p (v ∷ uses) u found = by (λ later. find_at p uses u later) (p v) refl
  where
    by : (find p uses ≡ Some u → (j : ℕ) × (slice_get uses j ≡ Some u) × (p u ≡ true)) → (b : Bool) → p v ≡ b → (j : ℕ) × (slice_get (v ∷ uses) j ≡ Some u) × (p u ≡ true)
    by ih true e =
        let first : find p (v ∷ uses) ≡ Some v = rw e refl in
        let both : Some v ≡ Some u = sym first ∙ found in
        let is : v ≡ u = cc in
        (0, both, ap p (sym is) ∙ e)
    by ih false e =
        let next : find p (v ∷ uses) ≡ find p uses = rw e refl in
        let later = ih (sym next ∙ found) in
        (suc later.0, later.1, later.2)

-- Two readings of the cells of a device that agree on those of some blocks in some ranges.
module _ (Holds : ℕ → Range → Type 0) (d : ℕ) (f g : Cell → ℤ) where
  abbrev pub Agree : Type 0
  Agree = (b i : ℕ) (r : Range) → Holds b r → is_in r i ≡ true → f (Block_cell d b i) ≡ g (Block_cell d b i)

  -- what a loop with these uses sees is alike where its use has the cell
  seen_alike : (uses : List Use) (array i : ℕ) → Agree → All (λ (u : Use). Holds u.0 u.1) uses → place_of uses array < length uses
      → is_in (used_range uses array) i ≡ true → cells_by uses d f array (pos i) ≡ cells_by uses d g array (pos i)
  seen_alike uses array i agree held low has = agree (block_of uses array) i (used_range uses array) (held (place_of uses array) no_use low) has

  reached_alike : (uses : List Use) (array : ℕ) (cell : ℤ) → Agree → All (λ (u : Use). Holds u.0 u.1) uses → uses_have uses array cell ≡ true
      → cells_by uses d f array cell ≡ cells_by uses d g array cell
  reached_alike uses array (negsuc n) agree held has = refl
  reached_alike uses array (pos i) agree held has =
      let r = used_range uses array in
      let w = within (pos r.lo) (pos (r.lo + r.len)) (pos i) has in
      seen_alike uses array i agree held (used uses array (pos i) has)
      (and_from (nat_le r.lo i) (nat_lt i (r.lo + r.len)) (le-leb r.lo i (from r.lo i w.0)) (lt-ltb i (r.lo + r.len) (to i (r.lo + r.len) w.1)))
    where
      from : (a b : ℕ) → pos a ≤ℤ pos b → a ≤ b
      from a b h = omega (arith, ints)

      to : (a b : ℕ) → pos a <ℤ pos b → a < b
      to a b h = omega (arith, ints)

  -- a loop gives a cell of its uses the same value
  loop_same : (k : Loop) (uses : List Use) (block cell : ℕ) (u : Use) → Agree → All (λ (u : Use). Holds u.0 u.1) uses → AreDistinct uses → HoldReached k uses
      → use_with uses block cell ≡ Some u → value_after k (cells_by uses d f) u.1.array (pos cell) ≡ value_after k (cells_by uses d g) u.1.array (pos cell)
  loop_same k uses block cell u agree held distinct reached found =
      let at = find_at (λ (v : Use). (v.0 == block) && is_in v.1 cell) uses u found in
      let is : get_or uses at.0 no_use ≡ u = get_or_from_slice_get uses at.0 u no_use at.1 in
      let low : at.0 < length uses = slice_get_within uses at.0 u at.1 in
      let place : place_of uses u.1.array ≡ at.0 = subst (λ (v : Use). place_of uses v.1.array ≡ at.0) is (its_place uses at.0 distinct low) in
      let range : used_range uses u.1.array ≡ u.1 = ap (λ n. (get_or uses n no_use).1) place ∙ ap (λ (v : Use). v.1) is in
      let has : is_in u.1 cell ≡ true = (and_parts (u.0 == block) (is_in u.1 cell) at.2).1 in
      loop_alike k (cells_by uses d f) (cells_by uses d g) u.1.array (pos cell)
      (λ a c r. reached_alike uses a c agree held (reached a c r))
      (seen_alike uses u.1.array cell agree held (subst (λ n. n < length uses) (sym place) low) (ap (λ (r : Range). is_in r cell) range ∙ has))

  pub by_use : (k : Loop) (uses : List Use) (block cell : ℕ) (o : Option Use) → Agree → All (λ (u : Use). Holds u.0 u.1) uses → AreDistinct uses → HoldReached k uses
      → use_with uses block cell ≡ o → f (Block_cell d block cell) ≡ g (Block_cell d block cell)
      → after_loop k (cells_by uses d f) o cell (f (Block_cell d block cell)) ≡ after_loop k (cells_by uses d g) o cell (g (Block_cell d block cell))
  by_use k uses block cell None agree held distinct reached found here = here
  by_use k uses block cell (Some u) agree held distinct reached found here = loop_same k uses block cell u agree held distinct reached found

-- Two that agree on live ones.
module _ (before : List OpLabel) (d : ℕ) (f g : Cell → ℤ) where
  abbrev Hosts : Type 0
  Hosts = (array i : ℕ) → f (Host_cell array i) ≡ g (Host_cell array i)

  -- a cell of a block of the device
  block_same : (arrays : List (List ℤ)) (op : OpLabel) (block cell : ℕ) (r : Range) → Hosts → Agree (HoldsBlock before) d f g → UsesLive arrays op before → HasItsCells op
      → HoldsBlock (before ++ op ∷ []) block r → is_in r cell ≡ true → after_op d op f (Block_cell d block cell) ≡ after_op d op g (Block_cell d block cell)
  block_same arrays op block cell r hosts agree uses cells held has = rw (eq-eqb d d refl) (by op uses cells (held_cases before op block r held))
    where
      kept : HoldsBlock before block r → f (Block_cell d block cell) ≡ g (Block_cell d block cell)
      kept h = agree block cell r h has

      by : (op : OpLabel) → UsesLive arrays op before → HasItsCells op → HoldsBlock before block r ⊎ IsMade op block r
          → Rattle.acc_memory.specs.Values.block_after op d f block cell ≡ Rattle.acc_memory.specs.Values.block_after op d g block cell
      by (Make s b) uses cells (inl h) =
          if_alike ((block == b) && is_in s cell) (pos 0) (f (Block_cell d block cell)) (pos 0) (g (Block_cell d block cell)) (λ e. refl) (λ e. kept h)
      by (Make s b) uses cells (inr m) =
          let number : b ≡ block = let e = m.makes in cc in
          let range : s ≡ m.whole = let e = m.makes in cc in
          let here : is_in s cell ≡ true = ap (λ (q : Range). is_in q cell) range ∙ in_wider m.whole r cell m.inside has in
          let made : ((block == b) && is_in s cell) ≡ true = and_from (block == b) (is_in s cell) (eq-eqb block b (sym number)) here in
          rw made refl
      by (CopyIn s b) uses cells (inl h) =
          if_alike ((block == b) && is_in s cell) (f (Host_cell s.array cell)) (f (Block_cell d block cell)) (g (Host_cell s.array cell)) (g (Block_cell d block cell)) (λ e. hosts s.array cell) (λ e. kept h)
      by (CopyOut s b) uses cells (inl h) = kept h
      by (Release b) uses cells (inl h) = kept h
      by (Await q n) uses cells (inl h) = kept h
      by Close uses cells (inl h) = kept h
      by (Run k us) uses cells (inl h) = by_use (HoldsBlock before) d f g k us block cell (use_with us block cell) agree uses cells.0 cells.1 refl (kept h)
      by (CopyIn s b) uses cells (inr m) = let e = m.makes in let never : ⊥ = cc in absurd never
      by (CopyOut s b) uses cells (inr m) = let e = m.makes in let never : ⊥ = cc in absurd never
      by (Release b) uses cells (inr m) = let e = m.makes in let never : ⊥ = cc in absurd never
      by (Await q n) uses cells (inr m) = let e = m.makes in let never : ⊥ = cc in absurd never
      by Close uses cells (inr m) = let e = m.makes in let never : ⊥ = cc in absurd never
      by (Run k us) uses cells (inr m) = let e = m.makes in let never : ⊥ = cc in absurd never

  -- a cell of a host array
  host_same : (arrays : List (List ℤ)) (op : OpLabel) (array cell : ℕ) → Hosts → Agree (HoldsBlock before) d f g → UsesLive arrays op before
      → after_op d op f (Host_cell array cell) ≡ after_op d op g (Host_cell array cell)
  host_same arrays (CopyOut r b) array cell hosts agree uses =
      if_alike ((array == r.array) && is_in r cell) (f (Block_cell d b cell)) (f (Host_cell array cell)) (g (Block_cell d b cell)) (g (Host_cell array cell))
      (λ e. agree b cell r uses (and_parts (array == r.array) (is_in r cell) e).1) (λ e. hosts array cell)
  host_same arrays (Make r b) array cell hosts agree uses = hosts array cell
  host_same arrays (CopyIn r b) array cell hosts agree uses = hosts array cell
  host_same arrays (Release b) array cell hosts agree uses = hosts array cell
  host_same arrays (Run k us) array cell hosts agree uses = hosts array cell
  host_same arrays (Await q n) array cell hosts agree uses = hosts array cell
  host_same arrays Close array cell hosts agree uses = hosts array cell

-- One more operation on both leaves live cells alike.
pub cells_after : (arrays : List (List ℤ)) (old new : List WorkEntry) (at : QueueAt) (op : OpLabel) → SameCells arrays old new
    → UsesLive arrays op (device_ops at.device old) → HasItsCells op → SameCells arrays (entry.Op at op ∷ old) (entry.Op at op ∷ new)
cells_after arrays old new at op s uses cells = by
  where
    f : Cell → ℤ
    f = value arrays old

    g : Cell → ℤ
    g = value arrays new

    by : (c : Cell) → IsLive (entry.Op at op ∷ old) c → value arrays (entry.Op at op ∷ old) c ≡ value arrays (entry.Op at op ∷ new) c
    by (Host_cell array cell) live =
        host_same (device_ops at.device old) at.device (value arrays old) (value arrays new) arrays op array cell (λ a i. s (Host_cell a i) tt) (λ b i r held has. s (Block_cell at.device b i) (r, held, has)) uses
    by (Block_cell dd block cell) live = elim (cases_Bool (dd == at.device)) [
      | inl here ↦ (
          let same : dd ≡ at.device = eqb-true dd at.device here in
          let there : (at.device == dd) ≡ true = eq-eqb at.device dd (sym same) in
          let held : HoldsBlock (device_ops dd old ++ op ∷ []) block live.0 = subst (λ (b : Bool). HoldsBlock (one_more b (device_ops dd old) op) block live.0) there live.1 in
          subst (λ n. after_op at.device op (value arrays old) (Block_cell n block cell) ≡ after_op at.device op (value arrays new) (Block_cell n block cell)) (sym same)
          (block_same (device_ops at.device old) at.device (value arrays old) (value arrays new) arrays op block cell live.0 (λ a i. s (Host_cell a i) tt) (λ b i r h has. s (Block_cell at.device b i) (r, h, has)) uses cells
          (subst (λ n. HoldsBlock (device_ops n old ++ op ∷ []) block live.0) same held) live.2)
          )
      | inr other ↦ (
          let there : (at.device == dd) ≡ false = ne_eqb at.device dd (λ e. eqb-false dd at.device other (sym e)) in
          let held : HoldsBlock (device_ops dd old) block live.0 = subst (λ (b : Bool). HoldsBlock (one_more b (device_ops dd old) op) block live.0) there live.1 in
          rw other (s (Block_cell dd block cell) (live.0, held, live.2))
          )
    ]
