use Rattle.std.proofs.Common.{◌≡◌, ℕ, ◌<◌, ◌+◌, true, List, length, get_or, inl, inr, ◌∙◌, sym, ap, arith}
use Rattle.std.proofs.lemmas.Bool.{cases_lt}
use Rattle.std.proofs.lemmas.List.{get_or_default}
use Rattle.acc_kernel.specs.Jobs.{Use, no_use, cell_in, is_used, values_shown}
use Rattle.acc_kernel.specs.inner.RowTables.{RowsView}
use Rattle.acc_kernel.proofs.ShownRows.{known_next}
use Rattle.acc_kernel.proofs.rows.Rows.load_known.Goals as goal
use Rattle.acc_kernel.proofs.rows.Rows.load_known.Goals.{then-has_array, else-has_array}

pub loop-place-preserved : goal.loop-place-preserved
loop-place-preserved c =
    let uses = c.loop-place.self-inside.uses.items in
    let i = c.loop-place.invariant in
    let n = c.loop-place.place in
    let cells = cell_in c.args.source.now.uses c.args.source.now.rows in
    let low : n < length uses = omega (arith, c.loop-place-test.true, c.len-place-end.ensures, c.self.invariant.shape.count, ap (λ (v : RowsView). length v.uses) c.self.view_is, ap length i.1) in
    let at = c.index.ensures ∙ get_or_default uses n c.index.result.now no_use low in
    elim c.if-has_array.branch [
      | then-has_array w ↦
          let next =
          known_next (λ place. is_used c.args.source.now.uses (get_or uses place no_use).1.array ≡ true) uses c.loop-place.self-inside.places.items c.loop-place.self-inside.rows.items cells n
          w.read_row.new.row i.0 low (w.read_row.ensures ∙ ap (λ (u : Use). values_shown cells u.1) at) (rw (← i.1) at i.2) in
          rw w.self-inside-is (next.0, i.1, rw (← i.1) next.1)
      | else-has_array w ↦
          rw w.self-inside-is (
            i.0,
            i.1,
            λ place below wants. elim (cases_lt place n) [
              | inl before ↦ i.2 place before wants
              | inr from ↦
                  (let same : n ≡ place = omega (arith, below, from) in
                  let here : c.index.result.now ≡ get_or c.args.self.now.uses place no_use = at ∙ (ap (λ (us : List Use). get_or us n no_use) i.1 ∙ ap (λ (m : ℕ). get_or c.args.self.now.uses m no_use) same) in
                  let known : true ≡ c.has_array.result = sym wants ∙ (ap (λ (u : Use). is_used c.args.source.now.uses u.1.array) (sym here) ∙ sym c.has_array.ensures) in
                  let never : ⊥ = let unknown = w.if-has_array.false in cc in
                  absurd never)
            ],
          )
    ]
