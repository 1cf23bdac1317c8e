-- What a loop reads and what it assigns of its uses.
use Rattle.std.proofs.Common.{◌≡◌, ◌≢◌, ℕ, zero, suc, ◌+◌, ◌<◌, Bool, true, false, List, [], ◌∷◌, ◌++◌, length, map, take, cond, get_or, refl, sym, ap, subst, ◌∙◌, arith, inl, inr}
use Rattle.std.specs.Prelude.{ℤ, pos, negsuc, ◌+ℤ◌, ◌-ℤ◌, ◌≤ℤ◌, ◌<ℤ◌, ◌&&◌, ◌||◌, ◌==◌, nat_lt, int_le, int_lt, filter, unsigned_abs, if◌then◌else◌, Option, Some, None}
use Rattle.std.specs.List.{Contains, list_any}
use Rattle.std.proofs.Math.Path.{fun_ext}
use Rattle.std.proofs.lemmas.Bool.Decides.{nat_tests}
use Rattle.std.proofs.lemmas.Bool.{cases_lt, and_from, and_parts, eqb-true, eq-eqb}
use Rattle.std.proofs.lemmas.Int.{ints}
use Rattle.std.proofs.lemmas.List.{get_or-map, length-map, map-append}
use Rattle.std.proofs.lemmas.List.Elements.{All-contains, All-head, Contains-get_or, filter_more}
use Rattle.std.proofs.lemmas.List.Folds.{list_any-append}
use Rattle.std.proofs.lemmas.List.Kept.{AllPairs-filter}
use Rattle.std.proofs.lemmas.Map.Views.{any-filter_same}
use Rattle.acc_base.specs.declared.range.Range.{Range}
use Rattle.acc_base.specs.Ranges.{Includes}
use Rattle.acc_kernel.specs.declared.assign.Assign.{Assign}
use Rattle.acc_kernel.specs.declared.reach.Reach.{Reach}
use Rattle.acc_kernel.specs.Cells.{is_among}
use Rattle.acc_kernel.specs.Faults.{is_assigned, is_off, IsLoopWithinLimits}
use Rattle.acc_kernel.specs.Jobs.{Use, no_use, place_of, used_range, uses_have, is_read, is_used, range_of, reached_uses, read_uses, written_uses, AreDistinct, HoldReached}
use Rattle.acc_kernel.specs.Kernels.{Loop, references, references_at, Reaches, IsReach, reach_of}
use Rattle.acc_kernel.specs.Trees.{Reference, references_of}
use Rattle.acc_kernel.proofs.CellIn.{uses_array, used, its_place}
use Rattle.acc_kernel.proofs.HeldBy.{has_between}
use Rattle.acc_kernel.proofs.LoopTurns.{reads_apart}
use Rattle.acc_kernel.proofs.ReachOf.{Tells, reach_tells}
use Rattle.acc_kernel.proofs.ShownRows.{any_has, has_any, has_use, use_has}
use Rattle.acc_kernel.proofs.SplicedRow.{among_in}
use Rattle.acc_kernel.proofs.ValueAfter.{at_statement, plus_zero, within}
use Rattle.acc_kernel.proofs.WithinLimits.{none_passes}

pub and_true : (b : Bool) → (b && true) ≡ b
and_true true = refl
and_true false = refl

-- ## Tests of uses

one_more : (m n : ℕ) → nat_lt m n ≡ nat_lt (1 + m) (suc n)
one_more m n =
    elim (cases_lt m n) [
      | inl low ↦ (let a : nat_lt m n ≡ true = grind (arith, nat_tests) in let b : nat_lt (1 + m) (suc n) ≡ true = grind (arith, nat_tests) in a ∙ sym b)
      | inr high ↦ (let a : nat_lt m n ≡ false = grind (arith, nat_tests) in let b : nat_lt (1 + m) (suc n) ≡ false = grind (arith, nat_tests) in a ∙ sym b)
    ]

some_place : (n : ℕ) → true ≡ nat_lt 0 (suc n)
some_place n = let low : nat_lt 0 (suc n) ≡ true = grind (arith, nat_tests) in sym low

-- an array is used where its first use has a place
pub is_used-place : (uses : List Use) (array : ℕ) → is_used uses array ≡ nat_lt (place_of uses array) (length uses)
is_used-place [] array = refl
is_used-place (u ∷ uses) array = by (is_used-place uses array) (u.1.array == array) refl
  where
    by : is_used uses array ≡ nat_lt (place_of uses array) (length uses) → (b : Bool) → (u.1.array == array) ≡ b
        → ((u.1.array == array) || is_used uses array) ≡ nat_lt (place_of (u ∷ uses) array) (suc (length uses))
    by others true e = rw e (some_place (length uses))
    by others false e = rw e (others ∙ one_more (place_of uses array) (length uses))

pub used_if_has : (uses : List Use) (array : ℕ) (cell : ℤ) → uses_have uses array cell ≡ true → is_used uses array ≡ true
used_if_has uses array cell has =
    let here : place_of uses array < length uses = used uses array cell has in
    is_used-place uses array ∙ at_place here
  where
    at_place : place_of uses array < length uses → nat_lt (place_of uses array) (length uses) ≡ true
    at_place h = grind arith

any-map : (q : Use → Bool) (f : Use → Use) (uses : List Use) → list_any q (map f uses) ≡ list_any (λ u. q (f u)) uses
any-map q f [] = refl
any-map q f (u ∷ uses) = ap (λ (b : Bool). q (f u) || b) (any-map q f uses)

any-and : (q : Use → Bool) (z : Bool) (uses : List Use) → list_any (λ u. q u && z) uses ≡ (list_any q uses && z)
any-and q z [] = refl
any-and q z (u ∷ uses) = ap (λ (b : Bool). (q u && z) || b) (any-and q z uses) ∙ spread (q u) (list_any q uses)
  where
    spread : (a b : Bool) → ((a && z) || (b && z)) ≡ ((a || b) && z)
    spread true true = by z
      where
        by : (c : Bool) → (c || c) ≡ c
        by true = refl
        by false = refl
    spread true false = by z
      where
        by : (c : Bool) → (c || false) ≡ c
        by true = refl
        by false = refl
    spread false b = refl

-- ## The uses of the arrays that are chosen, with the cells that a loop reaches

pub range_array : (array : ℕ) (o : Option Reach) → (range_of array o).array ≡ array
range_array array None = refl
range_array array (Some r) = refl

abbrev is_in_reach : Loop → ℕ → ℤ → Bool
is_in_reach k array cell =
    let r : Range = range_of array (reach_of k array) in
    is_among (pos r.lo) r.len cell

module _ (chosen : ℕ → Bool) (k : Loop) where
  abbrev part : Use → Use
  part u = (u.0, range_of u.1.array (reach_of k u.1.array))

  abbrev wanted : Use → Bool
  wanted u = chosen u.1.array

  same_array : (u : Use) → (part u).1.array ≡ u.1.array
  same_array u = range_array u.1.array (reach_of k u.1.array)

  pub next_reached : (uses : List Use) (n : ℕ) (u : Use) → n < length uses → u ≡ get_or uses n u
      → reached_uses chosen k (take (n + 1) uses) ≡ reached_uses chosen k (take n uses) ++ cond (chosen u.1.array) ((u.0, range_of u.1.array (reach_of k u.1.array)) ∷ []) []
  next_reached uses n u lt at =
      ap (map part) (filter_more wanted uses n u lt ∙ ap (λ (v : Use). filter wanted (take n uses) ++ cond (wanted v) (v ∷ []) []) (sym at))
      ∙ (map-append part (filter wanted (take n uses)) (cond (wanted u) (u ∷ []) []) ∙ ap (λ (l : List Use). reached_uses chosen k (take n uses) ++ l) (one (wanted u)))
    where
      one : (b : Bool) → map part (cond b (u ∷ []) []) ≡ cond b (part u ∷ []) []
      one true = refl
      one false = refl

  pub distinct_reached : (uses : List Use) → AreDistinct uses → AreDistinct (reached_uses chosen k uses)
  distinct_reached uses distinct = apart (filter wanted uses) (AllPairs-filter (λ u v. u.1.array ≢ v.1.array) wanted uses distinct)
    where
      at : (us : List Use) (i : ℕ) (d : Use) → i < length us → (get_or (map part us) i d).1.array ≡ (get_or us i no_use).1.array
      at us i d lt = ap (λ (u : Use). u.1.array) (get_or-map part us i no_use d lt) ∙ same_array (get_or us i no_use)

      apart : (us : List Use) → AreDistinct us → AreDistinct (map part us)
      apart us h i j d lt inside same =
          let long : length (map part us) ≡ length us = length-map us part in
          let there : j < length us = omega (arith, inside, long) in
          h i j no_use lt there (sym (at us i d (omega (arith, lt, there))) ∙ (same ∙ at us j d there))

  pub used_reached : (uses : List Use) (array : ℕ) → is_used (reached_uses chosen k uses) array ≡ (chosen array && is_used uses array)
  used_reached uses array =
      any-map (uses_array array) part (filter wanted uses)
      ∙ (ap (λ (q : Use → Bool). list_any q (filter wanted uses)) (fun_ext (λ (u : Use). ap (λ (n : ℕ). n == array) (same_array u)))
      ∙ any-filter_same (uses_array array) wanted (chosen array) (λ u h. ap chosen (eqb-true u.1.array array h)) uses)

  any_reached : (uses : List Use) (array : ℕ) (cell : ℤ) → list_any (has_use array cell) (reached_uses chosen k uses) ≡ (chosen array && (is_used uses array && is_in_reach k array cell))
  any_reached uses array cell =
      let z : Bool = is_in_reach k array cell in
      any-map (has_use array cell) part (filter wanted uses)
      ∙ (ap (λ (q : Use → Bool). list_any q (filter wanted uses)) (fun_ext (λ (u : Use). ap (λ (n : ℕ). (n == array) && is_in_reach k u.1.array cell) (same_array u) ∙ own u (u.1.array == array) refl))
      ∙ (any-filter_same (λ (u : Use). (u.1.array == array) && z) wanted (chosen array) (λ u h. ap chosen (eqb-true u.1.array array (and_parts (u.1.array == array) z h).0)) uses
      ∙ ap (λ (b : Bool). chosen array && b) (any-and (uses_array array) z uses)))
    where
      own : (u : Use) (b : Bool) → (u.1.array == array) ≡ b → ((u.1.array == array) && is_in_reach k u.1.array cell) ≡ ((u.1.array == array) && is_in_reach k array cell)
      own u true e = ap (λ (a : ℕ). (u.1.array == array) && is_in_reach k a cell) (eqb-true u.1.array array e)
      own u false e = rw e refl

-- the cells that are assigned, of an array that is read
pub begun_has : (k : Loop) (uses : List Use) (place n : ℕ) → AreDistinct uses → place < length (written_uses k uses)
    → is_used (read_uses k uses) (get_or (written_uses k uses) place no_use).1.array ≡ true → n < (get_or (written_uses k uses) place no_use).1.len
    → uses_have (read_uses k uses) (get_or (written_uses k uses) place no_use).1.array (pos (get_or (written_uses k uses) place no_use).1.lo +ℤ pos n) ≡ true
begun_has k uses place n distinct lt known below =
    let r : Range = (get_or (written_uses k uses) place no_use).1 in
    let cell : ℤ = pos r.lo +ℤ pos n in
    let read : Bool = is_read k.statements r.array in
    let assigned : Bool = is_assigned k.statements r.array in
    let inside : Bool = is_used uses r.array && is_in_reach k r.array cell in
    let has = use_has (written_uses k uses) place cell (distinct_reached (is_assigned k.statements) k uses distinct) lt (omega (arith, ints)) (omega (arith, ints, below)) in
    has_any (read_uses k uses) r.array cell (distinct_reached (is_read k.statements) k uses distinct)
    (any_reached (is_read k.statements) k uses r.array cell
    ∙ and_from read inside (and_parts read (is_used uses r.array) (sym (used_reached (is_read k.statements) k uses r.array) ∙ known)).0
    (and_parts assigned inside (sym (any_reached (is_assigned k.statements) k uses r.array cell) ∙ any_has (written_uses k uses) r.array cell has)).1)

-- ## What a loop reaches

-- some reference is to an array that is assigned or read
named : (statements : List Assign) (array : ℕ) → list_any (λ (r : Reference). r.array == array) (references statements) ≡ (is_assigned statements array || is_read statements array)
named [] array = refl
named (s ∷ rest) array =
    list_any-append (λ (r : Reference). r.array == array) (references_at s) (references rest)
    ∙ (ap (λ (b : Bool). ((s.array == array) || list_any (λ (r : Reference). r.array == array) (references_of s.value)) || b) (named rest array)
    ∙ mixed (s.array == array) (list_any (λ (r : Reference). r.array == array) (references_of s.value)) (is_assigned rest array) (is_read rest array))
  where
    mixed : (a b c d : Bool) → ((a || b) || (c || d)) ≡ ((a || c) || (b || d))
    mixed true b c d = refl
    mixed false true true d = refl
    mixed false true false d = refl
    mixed false false c d = refl

-- an array that is reached and not assigned is read
pub read_if_reached : (k : Loop) (array : ℕ) (cell : ℤ) → Reaches k array cell → is_assigned k.statements array ≡ false → is_read k.statements array ≡ true
read_if_reached k array cell r un = by (is_read k.statements array) refl
  where
    by : (b : Bool) → is_read k.statements array ≡ b → b ≡ true
    by true e = refl
    by false e =
        let none : list_any (λ (x : Reference). x.array == array) (references k.statements) ≡ false =
        named k.statements array ∙ (ap (λ (b : Bool). b || is_read k.statements array) un ∙ e) in
        let other : (r.reference.array == array) ≡ false =
        All-contains (λ (x : Reference). (x.array == array) ≡ false) (references k.statements) r.reference (none_passes (λ (x : Reference). x.array == array) (references k.statements) none) r.named in
        let never : ⊥ = let same = eq-eqb r.reference.array array r.same_array in cc in
        absurd never

-- an array that is assigned is reached at the loop's indices
pub reached_if_assigned : (k : Loop) (array : ℕ) (cell : ℤ) → is_assigned k.statements array ≡ true → k.lo ≤ℤ cell → cell <ℤ k.hi → Reaches k array cell
reached_if_assigned k array cell assigned from to =
    let s = at_some k.statements assigned in
    record {
      index = cell;
      reference = record { array = (get_or k.statements s.0 s.1).array; offset = pos 0 };
      from = from;
      to = to;
      named =
          All-head (Contains (references k.statements)) (record { array = (get_or k.statements s.0 s.1).array; offset = pos 0 }) (references_of (get_or k.statements s.0 s.1).value)
          (at_statement (Contains (references k.statements)) k.statements (Contains-get_or (references k.statements)) s.0 s.1 s.2);
      same_array = eqb-true (get_or k.statements s.0 s.1).array array s.3;
      same_cell = plus_zero cell;
    }
  where
    at_some : (statements : List Assign) → is_assigned statements array ≡ true → (n : ℕ) × (d : Assign) × (n < length statements) × (((get_or statements n d).array == array) ≡ true)
    at_some [] h = let never : ⊥ = cc in absurd never
    at_some (s ∷ rest) h = here (λ later. at_some rest later) (s.array == array) refl
      where
        here : (is_assigned rest array ≡ true → (n : ℕ) × (d : Assign) × (n < length rest) × (((get_or rest n d).array == array) ≡ true)) → (b : Bool) → (s.array == array) ≡ b
            → (n : ℕ) × (d : Assign) × (n < length (s ∷ rest)) × (((get_or (s ∷ rest) n d).array == array) ≡ true)
        here others true e = (zero, s, omega arith, e)
        here others false e =
            let later = others (sym (ap (λ (b : Bool). b || is_assigned rest array) e) ∙ h) in
            (suc later.0, later.1, (let low = later.2 in omega (arith, low)), later.3)

-- and nowhere else
pub assigned_at_indices : (k : Loop) (array : ℕ) (cell : ℤ) → IsLoopWithinLimits k → Reaches k array cell → is_assigned k.statements array ≡ true → (k.lo ≤ℤ cell) × (cell <ℤ k.hi)
assigned_at_indices k array cell limits r assigned =
    let quiet : is_off k.statements r.reference ≡ false = All-contains (λ (x : Reference). is_off k.statements x ≡ false) (references k.statements) r.reference limits.apart r.named in
    elim (reads_apart k.statements r.index r.reference quiet) [
      | inl at ↦
          let same : cell ≡ r.index = sym r.same_cell ∙ at in
          (subst (λ (c : ℤ). k.lo ≤ℤ c) (sym same) r.from, subst (λ (c : ℤ). c <ℤ k.hi) (sym same) r.to)
      | inr un ↦ (let never : ⊥ = let same = ap (is_assigned k.statements) r.same_array in cc in absurd never)
    ]

-- ## The cells of what a loop reaches

-- a cell that isn't before the least one that a loop reaches of its array, nor behind the greatest
pub record IsInReach (k : Loop) (array : ℕ) (cell : ℤ) : Type 0 where
  pub reach : Reach
  pub ends : IsReach k array reach
  pub low : reach.first ≤ℤ cell
  pub high : cell ≤ℤ reach.last

module _ (k : Loop) (uses : List Use) (reached : HoldReached k uses) where
  -- no cell that is reached is below zero
  not_below : (array : ℕ) (cell : ℤ) → Reaches k array cell → pos 0 ≤ℤ cell
  not_below array cell r =
      let low : pos (used_range uses array).lo ≤ℤ cell = (within (pos (used_range uses array).lo) (pos ((used_range uses array).lo + (used_range uses array).len)) cell (reached array cell r)).0 in
      omega (arith, ints)

  above : (n : ℤ) → pos 0 ≤ℤ n → pos (unsigned_abs n) ≡ n
  above (pos n) h = refl
  above (negsuc n) h = absurd (omega (arith, ints))

  -- the range of a reach begins and ends with it
  spread : (array : ℕ) (r : Reach) → IsReach k array r → (pos (range_of array (Some r)).lo ≡ r.first) × (pos (range_of array (Some r)).lo +ℤ pos (range_of array (Some r)).len ≡ r.last +ℤ pos 1)
  spread array r is =
      let order : r.first ≤ℤ r.last = (is.between r.first is.first).1 in
      let first : pos (unsigned_abs r.first) ≡ r.first = above r.first (not_below array r.first is.first) in
      let count : pos (unsigned_abs ((r.last +ℤ pos 1) -ℤ r.first)) ≡ (r.last +ℤ pos 1) -ℤ r.first = above ((r.last +ℤ pos 1) -ℤ r.first) (omega (arith, ints)) in
      (first, omega (arith, ints))

  among : (array : ℕ) (cell : ℤ) (o : Option Reach) → Tells k array o → Reaches k array cell → is_among (pos (range_of array o).lo) (range_of array o).len cell ≡ true
  among array cell None none r = absurd (none cell r)
  among array cell (Some s) is r =
      let ends = spread array s is in
      let inside = is.between cell r in
      among_in (pos (range_of array (Some s)).lo) cell (range_of array (Some s)).len (omega (arith, ints, ends, inside)) (omega (arith, ints, ends, inside))

  inside : (array : ℕ) (cell : ℤ) (o : Option Reach) → Tells k array o → is_among (pos (range_of array o).lo) (range_of array o).len cell ≡ true → IsInReach k array cell
  inside array cell None none h = let w = within (pos 0) (pos 0 +ℤ pos 0) cell h in absurd (omega (arith, ints, w))
  inside array cell (Some s) is h =
      let ends = spread array s is in
      let w = within (pos (range_of array (Some s)).lo) (pos (range_of array (Some s)).lo +ℤ pos (range_of array (Some s)).len) cell h in
      record { reach = s; ends = is; low = omega (arith, ints, ends, w); high = omega (arith, ints, ends, w) }

  -- the uses have it
  has_in_reach : (array : ℕ) (cell : ℤ) → IsInReach k array cell → uses_have uses array cell ≡ true
  has_in_reach array cell at =
      has_between uses array at.reach.first at.reach.last cell (reached array at.reach.first at.ends.first) (reached array at.reach.last at.ends.last) at.low at.high

  -- a use includes what the loop reaches of its array
  pub use_includes : (place : ℕ) → AreDistinct uses → place < length uses
      → Includes (get_or uses place no_use).1 (range_of (get_or uses place no_use).1.array (reach_of k (get_or uses place no_use).1.array))
  use_includes place distinct lt array cell is =
      let u : Range = (get_or uses place no_use).1 in
      let r : Range = range_of u.array (reach_of k u.array) in
      let among : is_among (pos r.lo) r.len (pos cell) ≡ true = among_in (pos r.lo) (pos cell) r.len (omega (arith, ints, is)) (omega (arith, ints, is)) in
      let has = has_in_reach u.array (pos cell) (inside u.array (pos cell) (reach_of k u.array) (reach_tells k u.array) among) in
      let there = subst (λ (p : ℕ). (int_le (pos (get_or uses p no_use).1.lo) (pos cell) && int_lt (pos cell) (pos ((get_or uses p no_use).1.lo + (get_or uses p no_use).1.len))) ≡ true) (its_place uses place distinct lt) has in
      let ends = within (pos u.lo) (pos (u.lo + u.len)) (pos cell) there in
      (is.0 ∙ range_array u.array (reach_of k u.array), omega (arith, ints, ends), omega (arith, ints, ends))

module _ (chosen : ℕ → Bool) (k : Loop) (uses : List Use) (reached : HoldReached k uses) where
  -- the cells that the loop reaches of the arrays are there
  pub reached_has : (array : ℕ) (cell : ℤ) → AreDistinct uses → chosen array ≡ true → Reaches k array cell → uses_have (reached_uses chosen k uses) array cell ≡ true
  reached_has array cell distinct is r =
      has_any (reached_uses chosen k uses) array cell (distinct_reached chosen k uses distinct)
      (any_reached chosen k uses array cell
      ∙ and_from (chosen array) (is_used uses array && is_in_reach k array cell) is
      (and_from (is_used uses array) (is_in_reach k array cell) (used_if_has uses array cell (reached array cell r)) (among k uses reached array cell (reach_of k array) (reach_tells k array) r)))

  -- and no others but those between them
  pub chosen_in_reach : (array : ℕ) (cell : ℤ) → uses_have (reached_uses chosen k uses) array cell ≡ true → (chosen array ≡ true) × IsInReach k array cell
  chosen_in_reach array cell has =
      let parts = and_parts (chosen array) (is_used uses array && is_in_reach k array cell) (sym (any_reached chosen k uses array cell) ∙ any_has (reached_uses chosen k uses) array cell has) in
      (parts.0, inside k uses reached array cell (reach_of k array) (reach_tells k array) (and_parts (is_used uses array) (is_in_reach k array cell) parts.1).1)

  -- which the uses have
  pub has_if_reached : (array : ℕ) (cell : ℤ) → uses_have (reached_uses chosen k uses) array cell ≡ true → uses_have uses array cell ≡ true
  has_if_reached array cell has = has_in_reach k uses reached array cell (chosen_in_reach array cell has).1

-- what is assigned are the cells at the loop's indices of the arrays that it assigns
pub assigned_if_written : (k : Loop) (uses : List Use) (array : ℕ) (cell : ℤ) → IsLoopWithinLimits k → HoldReached k uses → uses_have (written_uses k uses) array cell ≡ true
    → (is_assigned k.statements array ≡ true) × (k.lo ≤ℤ cell) × (cell <ℤ k.hi)
assigned_if_written k uses array cell limits reached has =
    let at = chosen_in_reach (is_assigned k.statements) k uses reached array cell has in
    let first = (assigned_at_indices k array at.1.reach.first limits at.1.ends.first at.0).0 in
    let last = (assigned_at_indices k array at.1.reach.last limits at.1.ends.last at.0).1 in
    let low : at.1.reach.first ≤ℤ cell = at.1.low in
    let high : cell ≤ℤ at.1.reach.last = at.1.high in
    (at.0, omega (arith, ints), omega (arith, ints))

-- a job has all cells that its loop reaches, among its outputs or its inputs
pub either_has : (k : Loop) (uses : List Use) → AreDistinct uses → HoldReached k uses → (array : ℕ) (cell : ℤ) → Reaches k array cell
    → (if is_used (written_uses k uses) array then uses_have (written_uses k uses) array cell else uses_have (read_uses k uses) array cell) ≡ true
either_has k uses distinct reached array cell r = by (is_assigned k.statements array) refl
  where
    written : is_used (written_uses k uses) array ≡ is_assigned k.statements array
    written =
        used_reached (is_assigned k.statements) k uses array
        ∙ (ap (λ (b : Bool). is_assigned k.statements array && b) (used_if_has uses array cell (reached array cell r)) ∙ and_true (is_assigned k.statements array))

    by : (b : Bool) → is_assigned k.statements array ≡ b
        → (if is_used (written_uses k uses) array then uses_have (written_uses k uses) array cell else uses_have (read_uses k uses) array cell) ≡ true
    by true e =
        ap (λ (b : Bool). if b then uses_have (written_uses k uses) array cell else uses_have (read_uses k uses) array cell) (written ∙ e)
        ∙ reached_has (is_assigned k.statements) k uses reached array cell distinct e r
    by false e =
        ap (λ (b : Bool). if b then uses_have (written_uses k uses) array cell else uses_have (read_uses k uses) array cell) (written ∙ e)
        ∙ reached_has (is_read k.statements) k uses reached array cell distinct (read_if_reached k array cell r e) r
