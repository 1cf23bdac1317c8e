-- Accesses that don't conflict, and operations that commute as theirs don't.
use Rattle.std.proofs.Common.{inl, inr, ◌≡◌, ℕ, ◌+◌, Bool, true, false, ◌&&◌, ◌||◌, cond, List, [], ◌∷◌, map, get_or, refl, sym, ap, ◌∙◌, subst, Some, None, Option, ℤ, pos, nat_le, nat_lt, ◌==◌, arith, true≢false, ◌<◌, ◌≤◌, zero, suc}
use Rattle.std.specs.Prelude.{All, int_le, int_lt, slice_get}
use Rattle.std.specs.List.{list_any}
use Rattle.std.proofs.lemmas.Bool.{and_from, and_parts, and_right, cases_Bool, eq-eqb, eqb-true, le-leb, leb-true, lt-ltb, ltb-true, or_cases, or_from, or_left, or_parts, or_right, false_from_ne_true}
use Rattle.std.proofs.lemmas.Option.{get_or_from_slice_get, slice_get-get_or, slice_get_within}
use Rattle.acc_base.proofs.ContainsAndOverlaps.{overlaps_is_meets}
use Rattle.acc_base.specs.declared.ids.QueueAt.{QueueAt}
use Rattle.acc_base.specs.declared.range.Range.{Range}
use Rattle.acc_base.specs.Ranges.{range_overlaps}
use Rattle.acc_batch.specs.declared.entry.Told.{Told}
use Rattle.acc_batch.specs.declared.entry.Told.TheVariants as told
use Rattle.acc_batch.specs.declared.entry.WorkEntry.{WorkEntry}
use Rattle.acc_batch.specs.declared.entry.WorkEntry.TheVariants as entry
use Rattle.acc_batch.specs.declared.label.OpLabel.{OpLabel}
use Rattle.acc_batch.specs.declared.label.OpLabel.TheVariants.{Make, CopyIn, CopyOut, Release, Run, Await, Close}
use Rattle.acc_batch.specs.Ops.{HasItsCells}
use Rattle.acc_kernel.specs.Faults.{is_assigned}
use Rattle.acc_kernel.specs.Jobs.{Use, no_use, place_of, AreDistinct}
use Rattle.acc_kernel.specs.Kernels.{Loop, value_after}
use Rattle.acc_kernel.proofs.CellIn.{its_place}
use Rattle.acc_kernel.proofs.LoopTurns.{turn_unassigned}
use Rattle.acc_memory.specs.Values.{Cell, Host_cell, Block_cell, after_loop, after_op, block_after, block_of, cells_by, is_in, use_with}
use Rattle.acc_work.specs.Logs.{value}
use Rattle.acc_explore.specs.Alike.{AlikeLogs, SameCells}
use Rattle.acc_explore.specs.declared.conflicts.Access.{Access}
use Rattle.acc_explore.specs.ApartOperations.{any_conflict, block_accesses, conflict, host_accesses, ops_conflict, writes_too}
use Rattle.acc_explore.specs.inner.Apart.{use_access}
use Rattle.acc_explore.proofs.LiveCells.{by_use, find_at, if_alike}
use Rattle.acc_explore.proofs.TurnedLogs.{item_turned, ops_turned}

-- ## Cells of accesses

abbrev pub has : Access → ℕ → ℕ → Bool
has x array cell = (array == x.cells.array) && is_in x.cells cell

-- one of them has the cell, and one that writes has it
abbrev pub reached : List Access → ℕ → ℕ → Bool
reached xs array cell = list_any (λ (x : Access). has x array cell) xs

abbrev pub written : List Access → ℕ → ℕ → Bool
written xs array cell = list_any (λ (x : Access). x.writes && has x array cell) xs

overlap_at : (x y : Access) (array cell : ℕ) → has x array cell ≡ true → has y array cell ≡ true → range_overlaps x.cells y.cells ≡ true
overlap_at x y array cell here there = (overlaps_is_meets x.cells y.cells).1 (array, cell, one x here, one y there)
  where
    one : (z : Access) → has z array cell ≡ true → (array ≡ z.cells.array) × (z.cells.lo ≤ cell) × (cell < z.cells.lo + z.cells.len)
    one z e =
        let parts = and_parts (array == z.cells.array) (is_in z.cells cell) e in
        let ends = and_parts (nat_le z.cells.lo cell) (nat_lt cell (z.cells.lo + z.cells.len)) parts.1 in
        (eqb-true array z.cells.array parts.0, leb-true z.cells.lo cell ends.0, ltb-true cell (z.cells.lo + z.cells.len) ends.1)

conflict_at : (x y : Access) (array cell : ℕ) → has x array cell ≡ true → has y array cell ≡ true → (x.writes || y.writes) ≡ true → conflict x y ≡ true
conflict_at x y array cell here there writes = and_from (x.writes || y.writes) (range_overlaps x.cells y.cells) writes (overlap_at x y array cell here there)

-- where none conflicts with an access, none has a cell that it writes, and none writes one that it has
writes_alone : (x : Access) (ys : List Access) (array cell : ℕ) → list_any (conflict x) ys ≡ false → x.writes ≡ true → has x array cell ≡ true → reached ys array cell ≡ false
writes_alone x [] array cell none writes here = refl
writes_alone x (y ∷ ys) array cell none writes here =
    let parts = or_parts (conflict x y) (list_any (conflict x) ys) none in
    or_from (has y array cell) (reached ys array cell)
    (false_from_ne_true (has y array cell) (λ there. true≢false (sym (conflict_at x y array cell here there (ap (λ (b : Bool). b || y.writes) writes)) ∙ parts.0)))
    (writes_alone x ys array cell parts.1 writes here)

none_writes : (x : Access) (ys : List Access) (array cell : ℕ) → list_any (conflict x) ys ≡ false → has x array cell ≡ true → written ys array cell ≡ false
none_writes x [] array cell none here = refl
none_writes x (y ∷ ys) array cell none here =
    let parts = or_parts (conflict x y) (list_any (conflict x) ys) none in
    or_from (y.writes && has y array cell) (written ys array cell)
    (false_from_ne_true (y.writes && has y array cell) (λ both. (
    let there = and_parts y.writes (has y array cell) both in
    true≢false (sym (conflict_at x y array cell here there.1 (or_right x.writes y.writes there.0)) ∙ parts.0)
    )))
    (none_writes x ys array cell parts.1 here)

pub writes_apart : (xs ys : List Access) (array cell : ℕ) → any_conflict xs ys ≡ false → written xs array cell ≡ true → reached ys array cell ≡ false
writes_apart [] ys array cell none wrote = absurd (true≢false (sym wrote))
writes_apart (x ∷ xs) ys array cell none wrote =
    let parts = or_parts (list_any (conflict x) ys) (any_conflict xs ys) none in
    elim (or_cases (x.writes && has x array cell) (written xs array cell) wrote) [
      | inl here ↦ (let both = and_parts x.writes (has x array cell) here in writes_alone x ys array cell parts.0 both.0 both.1)
      | inr later ↦ writes_apart xs ys array cell parts.1 later
    ]

pub reached_apart : (xs ys : List Access) (array cell : ℕ) → any_conflict xs ys ≡ false → reached xs array cell ≡ true → written ys array cell ≡ false
reached_apart [] ys array cell none found = absurd (true≢false (sym found))
reached_apart (x ∷ xs) ys array cell none found =
    let parts = or_parts (list_any (conflict x) ys) (any_conflict xs ys) none in
    elim (or_cases (has x array cell) (reached xs array cell) found) [
      | inl here ↦ none_writes x ys array cell parts.0 here
      | inr later ↦ reached_apart xs ys array cell parts.1 later
    ]

-- what none reaches none writes
unwritten : (xs : List Access) (array cell : ℕ) → reached xs array cell ≡ false → written xs array cell ≡ false
unwritten [] array cell none = refl
unwritten (x ∷ xs) array cell none =
    let parts = or_parts (has x array cell) (reached xs array cell) none in
    or_from (x.writes && has x array cell) (written xs array cell) (and_right x.writes (has x array cell) parts.0) (unwritten xs array cell parts.1)

-- ## What an operation makes of a cell

-- it reaches the cell, and writes it
abbrev pub touches : ℕ → OpLabel → Cell → Bool
touches d op (Host_cell array cell) = reached (host_accesses op) array cell
touches d op (Block_cell e block cell) = (e == d) && reached (block_accesses op) block cell

abbrev pub changes : ℕ → OpLabel → Cell → Bool
changes d op (Host_cell array cell) = written (host_accesses op) array cell
changes d op (Block_cell e block cell) = (e == d) && written (block_accesses op) block cell

pub untouched : (d : ℕ) (op : OpLabel) (c : Cell) → touches d op c ≡ false → changes d op c ≡ false
untouched d op (Host_cell array cell) none = unwritten (host_accesses op) array cell none
untouched d op (Block_cell e block cell) none = by (e == d) none
  where
    by : (b : Bool) → (b && reached (block_accesses op) block cell) ≡ false → (b && written (block_accesses op) block cell) ≡ false
    by true none = unwritten (block_accesses op) block cell none
    by false none = refl

-- the first of a list of one
only : (b : Bool) → (b || false) ≡ false → b ≡ false
only b e = (or_parts b false e).0

-- a loop leaves the arrays that it doesn't assign
loop_unassigned : (k : Loop) (f : ℕ → ℤ → ℤ) (array : ℕ) (cell : ℤ) → is_assigned k.statements array ≡ false → value_after k f array cell ≡ f array cell
loop_unassigned k f array cell un = by (int_le k.lo cell && int_lt cell k.hi)
  where
    by : (b : Bool) → cond b (Rattle.acc_kernel.specs.Values.after_turn f cell k.statements array cell) (f array cell) ≡ f array cell
    by true = turn_unassigned f cell k.statements array cell un
    by false = refl

any_mapped : {X Y : Type 0} (p : Y → Bool) (f : X → Y) (xs : List X) (i : ℕ) (x : X) → slice_get xs i ≡ Some x → p (f x) ≡ true → list_any p (map f xs) ≡ true
any_mapped p f [] i x at e = cc
any_mapped p f (y ∷ xs) zero x at e = let same : y ≡ x = cc in or_left (p (f y)) (list_any p (map f xs)) (ap (λ z. p (f z)) same ∙ e)
any_mapped p f (y ∷ xs) (suc i) x at e = or_right (p (f y)) (list_any p (map f xs)) (any_mapped p f xs i x at e)

abbrev Stands : List Use → ℕ → Range → Type 0
Stands uses b r = (i : ℕ) × (slice_get uses i ≡ Some (b, r))

all_stand : (uses : List Use) → All (λ (u : Use). Stands uses u.0 u.1) uses
all_stand uses n d low = (n, slice_get-get_or uses n d low)

-- a cell of a block that a loop doesn't write
run_leaves : (k : Loop) (uses : List Use) (d : ℕ) (f : Cell → ℤ) (block cell : ℕ) → AreDistinct uses → written (map (use_access k) uses) block cell ≡ false
    → block_after (Run k uses) d f block cell ≡ f (Block_cell d block cell)
run_leaves k uses d f block cell distinct none = by (use_with uses block cell) refl
  where
    by : (o : Option Use) → use_with uses block cell ≡ o → after_loop k (cells_by uses d f) (use_with uses block cell) cell (f (Block_cell d block cell)) ≡ f (Block_cell d block cell)
    by None e = ap (λ (o : Option Use). after_loop k (cells_by uses d f) o cell (f (Block_cell d block cell))) e
    by (Some u) e =
        let at = find_at (λ (v : Use). (v.0 == block) && is_in v.1 cell) uses u e in
        let parts = and_parts (u.0 == block) (is_in u.1 cell) at.2 in
        let number : u.0 ≡ block = eqb-true u.0 block parts.0 in
        let is : get_or uses at.0 no_use ≡ u = get_or_from_slice_get uses at.0 u no_use at.1 in
        let place : place_of uses u.1.array ≡ at.0 = subst (λ (v : Use). place_of uses v.1.array ≡ at.0) is (its_place uses at.0 distinct (slice_get_within uses at.0 u at.1)) in
        let its : block_of uses u.1.array ≡ block = ap (λ n. (get_or uses n no_use).0) place ∙ (ap (λ (v : Use). v.0) is ∙ number) in
        let un : is_assigned k.statements u.1.array ≡ false = false_from_ne_true (is_assigned k.statements u.1.array) (λ assigned.
        true≢false (sym (any_mapped (λ (x : Access). x.writes && has x block cell) (use_access k) uses at.0 u at.1
        (and_from (is_assigned k.statements u.1.array) ((block == u.0) && is_in u.1 cell) assigned (and_from (block == u.0) (is_in u.1 cell) (eq-eqb block u.0 (sym number)) parts.1))) ∙ none)) in
        ap (λ (o : Option Use). after_loop k (cells_by uses d f) o cell (f (Block_cell d block cell))) e
        ∙ (loop_unassigned k (cells_by uses d f) u.1.array (pos cell) un ∙ ap (λ b. f (Block_cell d b cell)) its)

module _ (d : ℕ) (op : OpLabel) (cells : HasItsCells op) where
  -- A cell that it doesn't write it leaves.
  leaves_block : (f : Cell → ℤ) (block cell : ℕ) → written (block_accesses op) block cell ≡ false → block_after op d f block cell ≡ f (Block_cell d block cell)
  leaves_block f block cell none = by op cells none
    where
      by : (op : OpLabel) → HasItsCells op → written (block_accesses op) block cell ≡ false → block_after op d f block cell ≡ f (Block_cell d block cell)
      by (Make r b) cells none = rw (only ((block == b) && is_in r cell) none) refl
      by (CopyIn r b) cells none = rw (only ((block == b) && is_in r cell) none) refl
      by (CopyOut r b) cells none = refl
      by (Release b) cells none = refl
      by (Run k uses) cells none = run_leaves k uses d f block cell cells.0 none
      by (Await q n) cells none = refl
      by Close cells none = refl

  leaves_host : (f : Cell → ℤ) (array cell : ℕ) → written (host_accesses op) array cell ≡ false → after_op d op f (Host_cell array cell) ≡ f (Host_cell array cell)
  leaves_host f array cell none = by op none
    where
      by : (op : OpLabel) → written (host_accesses op) array cell ≡ false → after_op d op f (Host_cell array cell) ≡ f (Host_cell array cell)
      by (Make r b) none = refl
      by (CopyIn r b) none = refl
      by (CopyOut r b) none = rw (only ((array == r.array) && is_in r cell) none) refl
      by (Release b) none = refl
      by (Run k uses) none = refl
      by (Await q n) none = refl
      by Close none = refl

  pub leaves_cell : (f : Cell → ℤ) (c : Cell) → changes d op c ≡ false → after_op d op f c ≡ f c
  leaves_cell f (Host_cell array cell) none = leaves_host f array cell none
  leaves_cell f (Block_cell e block cell) none = elim (cases_Bool (e == d)) [
    | inl here ↦
        let same : e ≡ d = eqb-true e d here in
        rw here (subst (λ n. block_after op d f block cell ≡ f (Block_cell n block cell)) (sym same)
        (leaves_block f block cell (ap (λ (b : Bool). b && written (block_accesses op) block cell) (sym here) ∙ none)))
    | inr other ↦ rw other refl
  ]

  -- What it makes of a cell depends on this cell and on those that it reaches.
  module _ (f g : Cell → ℤ) (agree : (c : Cell) → touches d op c ≡ true → f c ≡ g c) where
    sees_block : (block cell : ℕ) → f (Block_cell d block cell) ≡ g (Block_cell d block cell) → block_after op d f block cell ≡ block_after op d g block cell
    sees_block block cell here = by op cells (λ array i e. agree (Host_cell array i) e) (λ b i e. agree (Block_cell d b i) (and_from (d == d) (reached (block_accesses op) b i) (eq-eqb d d refl) e))
      where
        by : (op : OpLabel) → HasItsCells op → ((array i : ℕ) → reached (host_accesses op) array i ≡ true → f (Host_cell array i) ≡ g (Host_cell array i))
            → ((b i : ℕ) → reached (block_accesses op) b i ≡ true → f (Block_cell d b i) ≡ g (Block_cell d b i)) → block_after op d f block cell ≡ block_after op d g block cell
        by (Make r b) cells hosts blocks = ap (λ (z : ℤ). cond ((block == b) && is_in r cell) (pos 0) z) here
        by (CopyIn r b) cells hosts blocks =
            if_alike ((block == b) && is_in r cell) (f (Host_cell r.array cell)) (f (Block_cell d block cell)) (g (Host_cell r.array cell)) (g (Block_cell d block cell))
            (λ e. hosts r.array cell (or_left ((r.array == r.array) && is_in r cell) false
            (and_from (r.array == r.array) (is_in r cell) (eq-eqb r.array r.array refl) (and_parts (block == b) (is_in r cell) e).1)))
            (λ e. here)
        by (CopyOut r b) cells hosts blocks = here
        by (Release b) cells hosts blocks = here
        by (Run k uses) cells hosts blocks =
            by_use (Stands uses) d f g k uses block cell (use_with uses block cell)
            (λ b i r at e. blocks b i (any_mapped (λ (x : Access). has x b i) (use_access k) uses at.0 (b, r) at.1 (and_from (b == b) (is_in r i) (eq-eqb b b refl) e)))
            (all_stand uses) cells.0 cells.1 refl here
        by (Await q n) cells hosts blocks = here
        by Close cells hosts blocks = here

    sees_host : (array cell : ℕ) → f (Host_cell array cell) ≡ g (Host_cell array cell) → after_op d op f (Host_cell array cell) ≡ after_op d op g (Host_cell array cell)
    sees_host array cell here = by op (λ b i e. agree (Block_cell d b i) (and_from (d == d) (reached (block_accesses op) b i) (eq-eqb d d refl) e))
      where
        by : (op : OpLabel) → ((b i : ℕ) → reached (block_accesses op) b i ≡ true → f (Block_cell d b i) ≡ g (Block_cell d b i)) → after_op d op f (Host_cell array cell) ≡ after_op d op g (Host_cell array cell)
        by (Make r b) blocks = here
        by (CopyIn r b) blocks = here
        by (CopyOut r b) blocks =
            if_alike ((array == r.array) && is_in r cell) (f (Block_cell d b cell)) (f (Host_cell array cell)) (g (Block_cell d b cell)) (g (Host_cell array cell))
            (λ e. blocks b cell (or_left ((b == b) && is_in r cell) false (and_from (b == b) (is_in r cell) (eq-eqb b b refl) (and_parts (array == r.array) (is_in r cell) e).1)))
            (λ e. here)
        by (Release b) blocks = here
        by (Run k uses) blocks = here
        by (Await q n) blocks = here
        by Close blocks = here

    pub sees_cell : (c : Cell) → f c ≡ g c → after_op d op f c ≡ after_op d op g c
    sees_cell (Host_cell array cell) here = sees_host array cell here
    sees_cell (Block_cell e block cell) here = elim (cases_Bool (e == d)) [
      | inl at ↦ rw at (sees_block block cell (subst (λ n. f (Block_cell n block cell) ≡ g (Block_cell n block cell)) (eqb-true e d at) here))
      | inr other ↦ rw other here
    ]

-- ## Two that don't conflict

module _ (d e : ℕ) (op x : OpLabel) (none : ops_conflict d op e x ≡ false) where
  hosts_apart : any_conflict (host_accesses op) (host_accesses x) ≡ false
  hosts_apart = (or_parts (any_conflict (host_accesses op) (host_accesses x)) ((d == e) && any_conflict (block_accesses op) (block_accesses x)) none).0

  blocks_apart : (n : ℕ) → (n == d) ≡ true → (n == e) ≡ true → any_conflict (block_accesses op) (block_accesses x) ≡ false
  blocks_apart n one two =
      let same : (d == e) ≡ true = eq-eqb d e (sym (eqb-true n d one) ∙ eqb-true n e two) in
      ap (λ (b : Bool). b && any_conflict (block_accesses op) (block_accesses x)) (sym same)
      ∙ (or_parts (any_conflict (host_accesses op) (host_accesses x)) ((d == e) && any_conflict (block_accesses op) (block_accesses x)) none).1

  -- what the one writes the other doesn't reach, and what it reaches the other doesn't write
  first_alone : (c : Cell) → changes d op c ≡ true → touches e x c ≡ false
  first_alone (Host_cell array cell) wrote = writes_apart (host_accesses op) (host_accesses x) array cell hosts_apart wrote
  first_alone (Block_cell n block cell) wrote = false_from_ne_true ((n == e) && reached (block_accesses x) block cell) (λ found.
      let one = and_parts (n == d) (written (block_accesses op) block cell) wrote in
      let two = and_parts (n == e) (reached (block_accesses x) block cell) found in
      true≢false (sym two.1 ∙ writes_apart (block_accesses op) (block_accesses x) block cell (blocks_apart n one.0 two.0) one.1))

  first_kept : (c : Cell) → touches d op c ≡ true → changes e x c ≡ false
  first_kept (Host_cell array cell) found = reached_apart (host_accesses op) (host_accesses x) array cell hosts_apart found
  first_kept (Block_cell n block cell) found = false_from_ne_true ((n == e) && written (block_accesses x) block cell) (λ wrote.
      let one = and_parts (n == d) (reached (block_accesses op) block cell) found in
      let two = and_parts (n == e) (written (block_accesses x) block cell) wrote in
      true≢false (sym two.1 ∙ reached_apart (block_accesses op) (block_accesses x) block cell (blocks_apart n one.0 two.0) one.1))

-- ## Logs

-- Two operations of queues commute.
module _ (arrays : List (List ℤ)) (work : List WorkEntry) (at q : QueueAt) (op x : OpLabel) (none : ops_conflict at.device op q.device x ≡ false) (cells : HasItsCells op) (theirs : HasItsCells x) where
  -- the other one leaves what the operation reaches, and the operation what the other one does
  op_sees : (c : Cell) → touches at.device op c ≡ true → value arrays work c ≡ value arrays (entry.Op q x ∷ work) c
  op_sees c found = sym (leaves_cell q.device x theirs (value arrays work) c (first_kept at.device q.device op x none c found))

  other_sees : (c : Cell) → touches q.device x c ≡ true → value arrays (entry.Op at op ∷ work) c ≡ value arrays work c
  other_sees c found = leaves_cell at.device op cells (value arrays work) c
      (false_from_ne_true (changes at.device op c) (λ wrote. true≢false (sym found ∙ first_alone at.device q.device op x none c wrote)))

  cells_turned : SameCells arrays (entry.Op q x ∷ entry.Op at op ∷ work) (entry.Op at op ∷ entry.Op q x ∷ work)
  cells_turned c live = elim (cases_Bool (changes at.device op c)) [
    | inl wrote ↦ (
        let kept : changes q.device x c ≡ false = untouched q.device x c (first_alone at.device q.device op x none c wrote) in
        leaves_cell q.device x theirs (value arrays (entry.Op at op ∷ work)) c kept
        ∙ sees_cell at.device op cells (value arrays work) (value arrays (entry.Op q x ∷ work)) op_sees c (sym (leaves_cell q.device x theirs (value arrays work) c kept))
        )
    | inr kept ↦
        sees_cell q.device x theirs (value arrays (entry.Op at op ∷ work)) (value arrays work) other_sees c (leaves_cell at.device op cells (value arrays work) c kept)
        ∙ sym (leaves_cell at.device op cells (value arrays (entry.Op q x ∷ work)) c kept)
  ]

  pub apart_turned : AlikeLogs arrays (entry.Op q x ∷ entry.Op at op ∷ work) (entry.Op at op ∷ entry.Op q x ∷ work)
  apart_turned = ops_turned arrays work at q op x cells_turned

-- what a host tells writes no more than a cell
abbrev pub told_accesses : Told → List Access
told_accesses (told.Write array cell new_value) = writes_too (record { array = array; lo = cell; len = 1 }) ∷ []
told_accesses (told.Print range values) = []
told_accesses (told.Seen device counts) = []
told_accesses (told.Test device answer counts) = []

one_cell : (array lo cell : ℕ) → (cell == lo) ≡ true → is_in (record { array = array; lo = lo; len = 1 }) cell ≡ true
one_cell array lo cell e =
    let same : cell ≡ lo = eqb-true cell lo e in
    and_from (nat_le lo cell) (nat_lt cell (lo + 1)) (le-leb lo cell (omega (arith, same))) (lt-ltb cell (lo + 1) (omega (arith, same)))

-- An operation commutes with what a host tells.
module _ (arrays : List (List ℤ)) (work : List WorkEntry) (at : QueueAt) (op : OpLabel) (cells : HasItsCells op) (host : ℕ) where
  abbrev Alone : Told → Type 0
  Alone what = any_conflict (host_accesses op) (told_accesses what) ≡ false

  elsewhere : (a i : ℕ) (z : ℤ) (array cell : ℕ) → Alone (told.Write a i z) → reached (host_accesses op) array cell ≡ true → ((array == a) && (cell == i)) ≡ false
  elsewhere a i z array cell none found = false_from_ne_true ((array == a) && (cell == i)) (λ here.
      let parts = and_parts (array == a) (cell == i) here in
      true≢false (sym (and_from (array == a) (is_in (record { array = a; lo = i; len = 1 }) cell) parts.0 (one_cell a i cell parts.1))
      ∙ only ((array == a) && is_in (record { array = a; lo = i; len = 1 }) cell) (reached_apart (host_accesses op) (told_accesses (told.Write a i z)) array cell none found)))

  told_sees : (what : Told) → Alone what → (c : Cell) → touches at.device op c ≡ true → value arrays work c ≡ value arrays (entry.Item host what ∷ work) c
  told_sees (told.Write a i z) none (Host_cell array cell) found = rw (elsewhere a i z array cell none found) refl
  told_sees (told.Write a i z) none (Block_cell d block cell) found = refl
  told_sees (told.Print range values) none c found = refl
  told_sees (told.Seen device counts) none c found = refl
  told_sees (told.Test device answer counts) none c found = refl

  told_turned : (what : Told) → Alone what → SameCells arrays (entry.Item host what ∷ entry.Op at op ∷ work) (entry.Op at op ∷ entry.Item host what ∷ work)
  told_turned (told.Write a i z) none (Host_cell array cell) live = elim (cases_Bool ((array == a) && (cell == i))) [
    | inl here ↦ (
        let untaken : reached (host_accesses op) array cell ≡ false = false_from_ne_true (reached (host_accesses op) array cell) (λ found. true≢false (sym here ∙ elsewhere a i z array cell none found)) in
        let kept = leaves_cell at.device op cells (value arrays (entry.Item host (told.Write a i z) ∷ work)) (Host_cell array cell) (untouched at.device op (Host_cell array cell) untaken) in
        ap (λ (b : Bool). cond b z (value arrays (entry.Op at op ∷ work) (Host_cell array cell))) here
        ∙ sym (kept ∙ ap (λ (b : Bool). cond b z (value arrays work (Host_cell array cell))) here)
        )
    | inr other ↦
        ap (λ (b : Bool). cond b z (value arrays (entry.Op at op ∷ work) (Host_cell array cell))) other
        ∙ sees_cell at.device op cells (value arrays work) (value arrays (entry.Item host (told.Write a i z) ∷ work)) (told_sees (told.Write a i z) none) (Host_cell array cell)
        (sym (ap (λ (b : Bool). cond b z (value arrays work (Host_cell array cell))) other))
  ]
  told_turned (told.Write a i z) none (Block_cell d block cell) live =
      sees_cell at.device op cells (value arrays work) (value arrays (entry.Item host (told.Write a i z) ∷ work)) (told_sees (told.Write a i z) none) (Block_cell d block cell) refl
  told_turned (told.Print range values) none c live = sees_cell at.device op cells (value arrays work) (value arrays (entry.Item host (told.Print range values) ∷ work)) (told_sees (told.Print range values) none) c refl
  told_turned (told.Seen device counts) none c live = sees_cell at.device op cells (value arrays work) (value arrays (entry.Item host (told.Seen device counts) ∷ work)) (told_sees (told.Seen device counts) none) c refl
  told_turned (told.Test device answer counts) none c live = sees_cell at.device op cells (value arrays work) (value arrays (entry.Item host (told.Test device answer counts) ∷ work)) (told_sees (told.Test device answer counts) none) c refl

  pub item_apart : (what : Told) → Alone what → AlikeLogs arrays (entry.Item host what ∷ entry.Op at op ∷ work) (entry.Op at op ∷ entry.Item host what ∷ work)
  item_apart what none = item_turned arrays work at op host what (told_turned what none)
