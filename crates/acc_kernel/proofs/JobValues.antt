-- What a job gives is what its loop gives.
use Rattle.std.proofs.Common.{◌≡◌, ℕ, ◌+◌, ◌<◌, Bool, true, false, List, [], ◌∷◌, length, get_or, refl, sym, ap, subst, ◌∙◌, arith, inl, inr}
use Rattle.std.specs.Prelude.{ℤ, pos, ◌+ℤ◌, ◌≤ℤ◌, ◌<ℤ◌, ◌&&◌, ◌||◌, ◌==◌, ◌⊎◌, int_le, int_lt, if◌then◌else◌}
use Rattle.std.specs.List.{All, list_any}
use Rattle.std.specs.Ordering.{int_eq}
use Rattle.std.proofs.Math.Path.{fun_ext}
use Rattle.std.proofs.lemmas.Bool.{and_from, and_parts, eq-eqb}
use Rattle.std.proofs.lemmas.Bool.Decides.{Decides-int_eq}
use Rattle.std.proofs.lemmas.Int.{ints}
use Rattle.std.proofs.lemmas.List.{ext_get_or}
use Rattle.std.proofs.lemmas.List.Elements.{All-head, All-tail, Contains-get_or}
use Rattle.std.proofs.lemmas.List.Folds.{list_any_at}
use Rattle.acc_base.specs.declared.range.Range.{Range}
use Rattle.acc_kernel.specs.declared.assign.Assign.{Assign}
use Rattle.acc_kernel.specs.Cells.{with_cell}
use Rattle.acc_kernel.specs.Faults.{is_assigned, IsLoopWithinLimits}
use Rattle.acc_kernel.specs.Jobs.{Use, no_use, place_of, uses_have, cell_in, is_read, is_used, read_uses, written_uses, shown, stored, values_shown, AreDistinct, AreRows, HoldReached}
use Rattle.acc_kernel.specs.Kernels.{Loop, references, Reaches, value_after}
use Rattle.acc_kernel.specs.Trees.{Reference, references_of}
use Rattle.acc_kernel.specs.Values.{value_at, after_turn}
use Rattle.acc_kernel.specs.inner.JobViews.{cell_in_either, KeepsUses}
use Rattle.acc_kernel.specs.inner.RowTables.{RowsView}
use Rattle.acc_kernel.proofs.CellIn.{used, uses_array, value_of}
use Rattle.acc_kernel.proofs.LoopTurns.{either_way, turn_unassigned}
use Rattle.acc_kernel.proofs.ReadAndWritten.{and_true, assigned_if_written, distinct_reached, reached_has, reached_if_assigned, used_reached, used_if_has}
use Rattle.acc_kernel.proofs.ShownRows.{any_has, has_any, are_values, cell_of_shown, cell_shown, found_range, has_use, rows_shown, stored_at, use_has}
use Rattle.acc_kernel.proofs.ValueAfter.{At, AgreeOn, CellsOf, at_statement, reaches_at, values_alike, within, written_alike}

-- ## Over cells that agree where a loop reads, it gives what it assigns the same values

module _ (i : ℤ) where
  abbrev ReadsAt : (ℕ → ℤ → Type 0) → Assign → Type 0
  ReadsAt P s = All (At P i) (references_of s.value)

  -- what the statements assigned at the index agrees too
  abbrev OrAssigned : (ℕ → ℤ → Type 0) → List Assign → ℕ → ℤ → Type 0
  OrAssigned P rest a c = P a c ⊎ ((is_assigned rest a ≡ true) × (c ≡ i))

  assigned_alike : (P : ℕ → ℤ → Type 0) (f g : CellsOf) (rest : List Assign) → AgreeOn P f g → All (ReadsAt P) rest → AgreeOn (OrAssigned P rest) (after_turn f i rest) (after_turn g i rest)
  assigned_alike P f g [] agree reads a c (inl h) = agree a c h
  assigned_alike P f g [] agree reads a c (inr h) = let assigned = h.0 in let never : ⊥ = cc in absurd never
  assigned_alike P f g (s ∷ rest) agree reads a c h =
      let v : ℤ = value_at f i s.value in
      let w : ℤ = value_at g i s.value in
      let same : v ≡ w = values_alike P i f g s.value agree (All-head (ReadsAt P) s rest reads) in
      let later : AgreeOn (OrAssigned (OrAssigned P (s ∷ [])) rest) (after_turn f i (s ∷ rest)) (after_turn g i (s ∷ rest)) =
      assigned_alike (OrAssigned P (s ∷ [])) (with_cell f s.array i v) (with_cell g s.array i w) rest (now v w same)
      (λ n t lt m r low. inl (All-tail (ReadsAt P) s rest reads n t lt m r low)) in
      later a c (sooner h)
    where
      now : (v w : ℤ) → v ≡ w → AgreeOn (OrAssigned P (s ∷ [])) (with_cell f s.array i v) (with_cell g s.array i w)
      now v w same b d (inl p) = written_alike P i f g s.array v w same agree b d p
      now v w same b d (inr q) =
          let here : ((s.array == b) && int_eq i d) ≡ true = and_from (s.array == b) (int_eq i d) (only (s.array == b) q.0) ((Decides-int_eq i d).1 (sym q.1)) in
          ap (λ (e : Bool). if e then v else f b d) here ∙ (same ∙ sym (ap (λ (e : Bool). if e then w else g b d) here))
        where
          only : (e : Bool) → (e || false) ≡ true → e ≡ true
          only true k = refl
          only false k = k

      sooner : OrAssigned P (s ∷ rest) a c → OrAssigned (OrAssigned P (s ∷ [])) rest a c
      sooner (inl p) = inl (inl p)
      sooner (inr q) = by (s.array == a) refl
        where
          by : (e : Bool) → (s.array == a) ≡ e → OrAssigned (OrAssigned P (s ∷ [])) rest a c
          by true e = inl (inr (ap (λ (b : Bool). b || false) e, q.1))
          by false e = inr (sym (ap (λ (b : Bool). b || is_assigned rest a) e) ∙ q.0, q.1)

-- an array that an expression of a loop refers to is read
abbrev IsRead : Loop → ℕ → ℤ → Type 0
IsRead k array cell = (is_read k.statements array ≡ true) × Reaches k array cell

pub same_after : (k : Loop) (f g : CellsOf) (array : ℕ) (cell : ℤ) → ((a : ℕ) (c : ℤ) → is_read k.statements a ≡ true → Reaches k a c → f a c ≡ g a c)
    → is_assigned k.statements array ≡ true → k.lo ≤ℤ cell → cell <ℤ k.hi → value_after k f array cell ≡ value_after k g array cell
same_after k f g array cell agree assigned from to =
    ap (λ (b : Bool). if b then after_turn f cell k.statements array cell else f array cell) between
    ∙ (assigned_alike cell (IsRead k) f g k.statements (λ a c h. agree a c h.0 h.1) reads array cell (inr (assigned, refl))
    ∙ sym (ap (λ (b : Bool). if b then after_turn g cell k.statements array cell else g array cell) between))
  where
    between : (int_le k.lo cell && int_lt cell k.hi) ≡ true
    between =
        let low : int_le k.lo cell ≡ true = grind (arith, ints) in
        let high : int_lt cell k.hi ≡ true = grind (arith, ints) in
        and_from (int_le k.lo cell) (int_lt cell k.hi) low high

    reads : All (λ (s : Assign). All (At (IsRead k) cell) (references_of s.value)) k.statements
    reads n s lt m r low =
        let t : Assign = get_or k.statements n s in
        let q : Reference = get_or (references_of t.value) m r in
        let read : is_read k.statements q.array ≡ true =
        list_any_at (λ (x : Assign). list_any (λ (y : Reference). y.array == q.array) (references_of x.value)) k.statements n s lt
        (list_any_at (λ (y : Reference). y.array == q.array) (references_of t.value) m r low (eq-eqb q.array q.array refl)) in
        let there = at_statement (λ (x : Reference). Reaches k x.array (cell +ℤ x.offset)) k.statements
        (λ j d under. reaches_at k cell from to (get_or (references k.statements) j d) (Contains-get_or (references k.statements) j d under)) n s lt in
        (read, All-tail (λ (x : Reference). Reaches k x.array (cell +ℤ x.offset)) (record { array = t.array; offset = pos 0 }) (references_of t.value) there m r low)

-- a loop leaves the arrays that it doesn't assign
loop_unassigned : (k : Loop) (f : CellsOf) (array : ℕ) (cell : ℤ) → is_assigned k.statements array ≡ false → value_after k f array cell ≡ f array cell
loop_unassigned k f array cell un = either_way (int_le k.lo cell && int_lt cell k.hi) (after_turn f cell k.statements array cell) (f array cell) (turn_unassigned f cell k.statements array cell un)

-- ## What is stored

-- The values that a loop gives over its inputs, stored in cells that show these, make of them what the loop does.
pub commits : (k : Loop) (uses : List Use) (inputs : List (List ℤ)) (cells : CellsOf) → IsLoopWithinLimits k → AreDistinct uses → HoldReached k uses → inputs ≡ shown (read_uses k uses) cells
    → stored (written_uses k uses) (shown (written_uses k uses) (value_after k (cell_in (read_uses k uses) inputs))) cells ≡ value_after k cells
commits k uses inputs cells limits distinct reached same =
    fun_ext
    (λ (array : ℕ).
    fun_ext
    (λ (cell : ℤ). stored_at (value_after k (cell_in (read_uses k uses) inputs)) (written_uses k uses) cells array cell ∙ by array cell (list_any (has_use array cell) (written_uses k uses)) refl))
  where
    agree : (a : ℕ) (c : ℤ) → is_read k.statements a ≡ true → Reaches k a c → cell_in (read_uses k uses) inputs a c ≡ cells a c
    agree a c read r =
        ap (λ (rows : List (List ℤ)). cell_in (read_uses k uses) rows a c) same ∙ cell_shown (read_uses k uses) cells a c (reached_has (is_read k.statements) k uses reached a c distinct read r)

    by : (array : ℕ) (cell : ℤ) (b : Bool) → list_any (has_use array cell) (written_uses k uses) ≡ b
        → (if b then value_after k (cell_in (read_uses k uses) inputs) array cell else cells array cell) ≡ value_after k cells array cell
    by array cell true any =
        let at = assigned_if_written k uses array cell limits reached (has_any (written_uses k uses) array cell (distinct_reached (is_assigned k.statements) k uses distinct) any) in
        same_after k (cell_in (read_uses k uses) inputs) cells array cell agree at.0 at.1 at.2
    by array cell false none = sym (left (int_le k.lo cell && int_lt cell k.hi) refl)
      where
        left : (b : Bool) → (int_le k.lo cell && int_lt cell k.hi) ≡ b → (if b then after_turn cells cell k.statements array cell else cells array cell) ≡ cells array cell
        left false e = refl
        left true e =
            let ends = within k.lo k.hi cell e in
            turn_unassigned cells cell k.statements array cell (un ends.0 ends.1 (is_assigned k.statements array) refl)
          where
            un : k.lo ≤ℤ cell → cell <ℤ k.hi → (b : Bool) → is_assigned k.statements array ≡ b → b ≡ false
            un from to true assigned =
                let any : list_any (has_use array cell) (written_uses k uses) ≡ true =
                any_has (written_uses k uses) array cell (reached_has (is_assigned k.statements) k uses reached array cell distinct assigned (reached_if_assigned k array cell assigned from to)) in
                let never : ⊥ = cc in
                absurd never
            un from to false assigned = refl

-- ## What is computed

module _ (k : Loop) (uses : List Use) (limits : IsLoopWithinLimits k) (distinct : AreDistinct uses) (reached : HoldReached k uses) where
  -- the inputs, and the cells as the loop sees them with these outputs
  abbrev read : List (List ℤ) → CellsOf
  read ins = cell_in (read_uses k uses) ins

  abbrev seen : List (List ℤ) → List (List ℤ) → CellsOf
  seen ins outs = cell_in_either (record { uses = read_uses k uses; rows = ins }) (record { uses = written_uses k uses; rows = outs })

  -- each output that has an input begins with it
  abbrev pub AreBegun : List (List ℤ) → List (List ℤ) → Type 0
  AreBegun ins outs =
      (place : ℕ) → place < length (written_uses k uses) → is_used (read_uses k uses) (get_or (written_uses k uses) place no_use).1.array ≡ true
      → get_or outs place [] ≡ values_shown (read ins) (get_or (written_uses k uses) place no_use).1

  begun : (ins outs : List (List ℤ)) → AreBegun ins outs → (a : ℕ) (c : ℤ) → is_read k.statements a ≡ true → Reaches k a c → seen ins outs a c ≡ read ins a c
  begun ins outs begin a c is r = by (is_used (written_uses k uses) a) refl
    where
      own : is_assigned k.statements a ≡ true → cell_in (written_uses k uses) outs a c ≡ read ins a c
      own assigned =
          let ws : List Use = written_uses k uses in
          let has : uses_have ws a c ≡ true = reached_has (is_assigned k.statements) k uses reached a c distinct assigned r in
          let used_too : is_used (read_uses k uses) a ≡ true =
          used_reached (is_read k.statements) k uses a ∙ and_from (is_read k.statements a) (is_used uses a) is (used_if_has uses a c (reached a c r)) in
          let row = begin (place_of ws a) (used ws a c has) (subst (λ (b : ℕ). is_used (read_uses k uses) b ≡ true) (sym (found_range ws a c has)) used_too) in
          cell_of_shown ws outs (read ins) a c has row

      by : (b : Bool) → is_used (written_uses k uses) a ≡ b → (if b then cell_in (written_uses k uses) outs a c else read ins a c) ≡ read ins a c
      by false e = refl
      by true e = own (and_parts (is_assigned k.statements a) (is_used uses a) (sym (used_reached (is_assigned k.statements) k uses a) ∙ e)).0

  -- after the loop the outputs are what it gives of the inputs
  pub outputs_computed : (ins outs new_ins new_outs : List (List ℤ)) → AreBegun ins outs → AreRows (written_uses k uses) new_outs → seen new_ins new_outs ≡ value_after k (seen ins outs)
      → new_outs ≡ shown (written_uses k uses) (value_after k (read ins))
  outputs_computed ins outs new_ins new_outs begin shape ran =
      let apart : AreDistinct (written_uses k uses) = distinct_reached (is_assigned k.statements) k uses distinct in
      rows_shown (written_uses k uses) new_outs (value_after k (read ins)) shape.count
      (λ place lt.
      let ws : List Use = written_uses k uses in
      let u : Range = (get_or ws place no_use).1 in
      are_values (value_after k (read ins)) u (get_or new_outs place []) (shape.lengths place lt)
      (λ n low.
      let below : n < u.len = omega (arith, low, shape.lengths place lt) in
      let cell : ℤ = pos (u.lo + n) in
      let same : cell ≡ pos u.lo +ℤ pos n = omega (arith, ints) in
      let has : uses_have ws u.array cell ≡ true = use_has ws place cell apart lt (omega (arith, ints)) (omega (arith, ints, below)) in
      let at = assigned_if_written k uses u.array cell limits reached has in
      sym (value_of ws new_outs (seen ins outs) apart place n lt)
      ∙ (sym (ap (λ (b : Bool). if b then cell_in ws new_outs u.array cell else read new_ins u.array cell) (used_if_has ws u.array cell has))
      ∙ (ap (λ (f : CellsOf). f u.array cell) ran
      ∙ (same_after k (seen ins outs) (read ins) u.array cell (begun ins outs begin) at.0 at.1 at.2 ∙ ap (value_after k (read ins) u.array) same)))))

  -- and the inputs are as they were
  pub inputs_left : (ins outs new_ins new_outs : List (List ℤ)) → AreRows (read_uses k uses) ins → AreRows (read_uses k uses) new_ins → seen new_ins new_outs ≡ value_after k (seen ins outs)
      → ((place : ℕ) → place < length (read_uses k uses) → is_used (written_uses k uses) (get_or (read_uses k uses) place no_use).1.array ≡ true → get_or new_ins place [] ≡ get_or ins place [])
      → new_ins ≡ ins
  inputs_left ins outs new_ins new_outs shape new_shape ran hidden =
      ext_get_or [] new_ins ins (new_shape.count ∙ sym shape.count) (λ place low. row place (omega (arith, low, new_shape.count)))
    where
      row : (place : ℕ) → place < length (read_uses k uses) → get_or new_ins place [] ≡ get_or ins place []
      row place lt = by (is_used (written_uses k uses) (get_or (read_uses k uses) place no_use).1.array) refl
        where
          by : (b : Bool) → is_used (written_uses k uses) (get_or (read_uses k uses) place no_use).1.array ≡ b → get_or new_ins place [] ≡ get_or ins place []
          by true e = hidden place lt e
          by false e =
              let rs : List Use = read_uses k uses in
              let u : Range = (get_or rs place no_use).1 in
              let apart : AreDistinct rs = distinct_reached (is_read k.statements) k uses distinct in
              let in_uses : is_used uses u.array ≡ true =
              (and_parts (is_read k.statements u.array) (is_used uses u.array) (sym (used_reached (is_read k.statements) k uses u.array) ∙ list_any_at (uses_array u.array) rs place no_use lt (eq-eqb u.array u.array refl))).1 in
              let un : is_assigned k.statements u.array ≡ false = sym (and_true (is_assigned k.statements u.array)) ∙ (ap (λ (b : Bool). is_assigned k.statements u.array && b) (sym in_uses) ∙ (sym (used_reached (is_assigned k.statements) k uses u.array) ∙ e)) in
              ext_get_or (pos 0) (get_or new_ins place []) (get_or ins place []) (new_shape.lengths place lt ∙ sym (shape.lengths place lt))
              (λ n low.
              let cell : ℤ = pos (u.lo + n) in
              sym (value_of rs new_ins (seen ins outs) apart place n lt)
              ∙ (sym (ap (λ (b : Bool). if b then cell_in (written_uses k uses) new_outs u.array cell else read new_ins u.array cell) e)
              ∙ (ap (λ (f : CellsOf). f u.array cell) ran
              ∙ (loop_unassigned k (seen ins outs) u.array cell un
              ∙ (ap (λ (b : Bool). if b then cell_in (written_uses k uses) outs u.array cell else read ins u.array cell) e
              ∙ value_of rs ins (seen ins outs) apart place n lt)))))

  -- so of the cells of a job: what it begins with, and what its loop leaves
  pub computes : (i o begun_i begun_o new_i new_o : RowsView) → i.uses ≡ read_uses k uses → o.uses ≡ written_uses k uses → begun_i ≡ i → begun_o.uses ≡ o.uses
      → ((place : ℕ) → place < length o.uses → is_used i.uses (get_or o.uses place no_use).1.array ≡ true → get_or begun_o.rows place [] ≡ values_shown (cell_in i.uses i.rows) (get_or o.uses place no_use).1)
      → KeepsUses begun_i begun_o new_i new_o → AreRows i.uses i.rows → AreRows new_i.uses new_i.rows → AreRows new_o.uses new_o.rows
      → cell_in_either new_i new_o ≡ value_after k (cell_in_either begun_i begun_o)
      → (new_i.rows ≡ i.rows) × (new_o.rows ≡ shown (written_uses k uses) (value_after k (read i.rows)))
  computes i o begun_i begun_o new_i new_o reads writes same_i same_o begin keeps shape shape_i shape_o cells =
      let in_uses : begun_i.uses ≡ read_uses k uses = ap (λ (v : RowsView). v.uses) same_i ∙ reads in
      let out_uses : begun_o.uses ≡ written_uses k uses = same_o ∙ writes in
      let made : List Use → List (List ℤ) → RowsView = λ us rows. record { uses = us; rows = rows } in
      let ran : seen new_i.rows new_o.rows ≡ value_after k (seen i.rows begun_o.rows) =
      sym (ap (λ (us : List Use). cell_in_either (made us new_i.rows) new_o) (keeps.inputs ∙ in_uses) ∙ ap (λ (us : List Use). cell_in_either (made (read_uses k uses) new_i.rows) (made us new_o.rows)) (keeps.outputs ∙ out_uses))
      ∙ (cells
      ∙ ap (value_after k)
      (ap (λ (v : RowsView). cell_in_either v begun_o) same_i
      ∙ (ap (λ (us : List Use). cell_in_either (made us i.rows) begun_o) reads ∙ ap (λ (us : List Use). cell_in_either (made (read_uses k uses) i.rows) (made us begun_o.rows)) out_uses))) in
      let start : AreBegun i.rows begun_o.rows =
      subst
      (λ (us : List Use).
      (place : ℕ) → place < length us → is_used (read_uses k uses) (get_or us place no_use).1.array ≡ true → get_or begun_o.rows place [] ≡ values_shown (read i.rows) (get_or us place no_use).1)
      writes
      (subst
      (λ (us : List Use).
      (place : ℕ) → place < length o.uses → is_used us (get_or o.uses place no_use).1.array ≡ true → get_or begun_o.rows place [] ≡ values_shown (cell_in us i.rows) (get_or o.uses place no_use).1)
      reads begin) in
      let hidden =
      subst
      (λ (us : List Use). (place : ℕ) → place < length (read_uses k uses) → is_used us (get_or (read_uses k uses) place no_use).1.array ≡ true → get_or new_i.rows place [] ≡ get_or i.rows place [])
      out_uses
      (subst
      (λ (v : RowsView). (place : ℕ) → place < length v.uses → is_used begun_o.uses (get_or v.uses place no_use).1.array ≡ true → get_or new_i.rows place [] ≡ get_or v.rows place [])
      (same_i ∙ ap (λ (us : List Use). made us i.rows) reads) keeps.hidden) in (
        inputs_left i.rows begun_o.rows new_i.rows new_o.rows (subst (λ (us : List Use). AreRows us i.rows) reads shape)
            (subst (λ (us : List Use). AreRows us new_i.rows) (keeps.inputs ∙ in_uses) shape_i) ran hidden,
        outputs_computed i.rows begun_o.rows new_i.rows new_o.rows start (subst (λ (us : List Use). AreRows us new_o.rows) (keeps.outputs ∙ out_uses) shape_o) ran,
      )
