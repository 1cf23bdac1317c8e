-- `in_order` lends two windows of a slice by their addresses. Assumes `Logic`.
use Rattle.std.proofs.Common.{◌≡◌, ℕ, ◌+◌, ◌*◌, ◌<◌, ◌≤◌, ◌^◌, List, [], ◌∷◌, length, refl, sym, subst, arith}
use Rattle.std.specs.Prelude.{ℤ}
use native.Mathlib.Nat.{mul-le-mul_right}
use base.Logic.{emp}
use base.Fml.{ftrue, flft, GName}
use mir.Syntax.{named}
use mir.Val.{Val, WT, vstruct, vcons, vnil}
use contract.Monad.{fact, fact_i}
use contract.Running.{tables}
use types.Kit.{‵, raw, ◌⊛◌, some as some_of, later, at_ret, ◌$◌, ◌∵◌, !, qed, by, move, keep, use0, use2, split, split3, join, pick, rewrite, await, fjoin}
use types.Part.{whole, sub, agg}
use types.Run.{enter, of_opd, lit, bin, addr, from, stop, fld, hop, no_more, and_then, first, blocks, exec, returns}
use types.ByLocal.{alloc_all, pass_all, free_all, look_at, look_in_at, get, get_in, sets, sets_last, env}
use denote.Builtin.{i64}
use denote.Exit.{yes, no}
use denote.Ref.{MutBor}
use denote.Signature.{plain, mut_slice_of}
use denote.Slice.{Room, slice_val, mut_slice_vals, mut_slice_Tells}
use denote.Steps.{nothing, heard}
use denote.Struct.Laws.{vals, tells}
use denote.Struct.Loose.{loose_lawful}
use denote.Triple.Walked.{Stays, walk_of, stay_dropped, Goes-dropped, Goes-spent_slice}
use Rattle.std.proofs.raw_atomic.Walks.{proved, leaves}
use Rattle.std_alloc.proofs.VecSteps.Shapes.{after}
use Rattle.acc_raw.specs.declared.cells.Window.{Window}
use Rattle.acc_raw.specs.Windows.{IsWithin, cells_in, with_window}
use Rattle.acc_raw.specs.contracts.cells.Window as window
use Rattle.acc_raw.specs.contracts.cells.in_order as f
use Rattle.acc_raw.proofs.cells.Window.TheLaws.{the_laws, the_loose}
use Rattle.acc_raw.proofs.cells.in_order.Statement.{statement}
use Rattle.acc_raw.proofs.cells.in_order.Code as code
use Rattle.acc_raw.proofs.TwoParts.{slice_at, ends_by, lends_parts, Pair, pair_word, pair_made}
use Rattle.acc_raw.proofs.WithWindows.{before, between, behind, in_parts, with_both, first_there, second_there, length-cells_in}

abbrev stayed : Stays f.ended.signature.params f.ended.kept
stayed = (stay_dropped (mut_slice_of (0 ∷ []) tt (plain (λ _. i64))) no, (stay_dropped _ yes, (stay_dropped _ yes, tt)))

pub in_order_spec : {M : Type 1} → statement M
in_order_spec 𝓤 𝓛 𝓜 𝓡 wired =
    let promised = f.clauses 𝓛 𝓜.mem 𝓡.returns in let Walk = walk_of 𝓛 f.ended stayed promised in let table = tables 𝓤 𝓛.H 𝓜 𝓡 𝓡.env in
    let goes = Goes-dropped 𝓛 1 (plain (λ _. window.the_row)) yes (λ κs x w. refl) in
    let words_of = vals window.the_type the_laws in let well_typed = (loose_lawful window.the_type the_loose 𝓛).typed in
    proved 𝓛 f.ended stayed promised 𝓜 𝓡 (Goes-spent_slice 𝓛 1 (0 ∷ []) tt (plain (λ _. i64)), (goes, (goes, tt)))
    f.Key.name code.function (code.unfolded 𝓤 𝓛.H 𝓜 𝓡 wired)
    (λ κs. (mut_slice_vals, (words_of, (words_of, tt)))) (λ κs. (mut_slice_Tells (named 0) κs.0 i64, (tells window.the_type the_laws, (tells window.the_type the_laws, tt)))) (λ κs qs bounds args g values.
    let κ = κs.0 in let q = qs.0 in let s : MutBor (List ℤ) = args.0 in let v : Window = args.1.0 in let w : Window = args.1.1.0 in
    let xs : List ℤ = s.now in let b = s.ref_ptr.0 in let o = s.ref_ptr.1 in let γ = s.ghost_name in
    let entry : Walk.Ghost = ((κs, qs, bounds, args, (mut_slice_vals s, (words_of v, (words_of w, tt)))), g) in
    qed 𝓛 (((‵ (flft κ q) ⊛ ‵ ftrue) ⊛ ‵ (slice_at (named 0) κ b o γ xs) ⊛ ‵ (window.the_row.own_val v (words_of v)) ⊛ ‵ (window.the_row.own_val w (words_of w)) ⊛ ‵ ftrue)
    ∷ (raw (fact 𝓤 (IsWithin (length xs) w)) ⊛ raw (fact 𝓤 (v.start + v.len ≤ w.start))) ∷ []) ∵
    move ! (1 ∷ []) $ split ! $ heard ! _ (λ in_row. heard ! _ (λ apart. split ! $ split ! $ move ! (2 ∷ []) $ split ! $ keep ! (0 ∷ 2 ∷ []) $
    -- [the slice; the token]
    let room : Room i64 (length xs) = values.0.0.1 in
    let some : (k : ℕ) → k ≤ length xs → Room i64 k = λ k le. (let bytes = mul-le-mul_right 8 le in (omega (arith, room.0), omega (arith, room.1, bytes))) in
    let long_v : length (cells_in v xs) ≡ v.len = length-cells_in v xs (omega arith) in let long_w : length (cells_in w xs) ≡ w.len = length-cells_in w xs in_row in
    let room_v : Room i64 v.len = some v.len (omega arith) in let room_w : Room i64 w.len = some w.len (omega arith) in
    let v_far : v.start * 8 < 2 ^ 64 = (let small = (some v.start (omega arith)).1 in omega (arith, small)) in
    let w_far : w.start * 8 < 2 ^ 64 = (let small = (some w.start (omega arith)).1 in omega (arith, small)) in
    let p : ℕ = v.start * 8 + o in let p' : ℕ = w.start * 8 + o in
    let wt_v : WT (slice_val (b, p) v.len) = (tt, (record { fits = room_v.0 }, tt)) in let wt_w : WT (slice_val (b, p') w.len) = (tt, (record { fits = room_w.0 }, tt)) in
    enter ! _ _ _ _ _ $ alloc_all ! (λ spots. pass_all ! refl ((tt, (tt, (record { fits = room.0 }, tt))), ((well_typed v _ values.1.0).0, ((well_typed w _ values.1.1.0).0, tt))) $
    sets ! (addr ! (from ! (fld ! refl (hop ! (look_in_at ! 1 (sub ! 0 refl (whole !))) (stop !))))) refl (tt, tt) $ first ! $ blocks ! $
    sets ! (bin ! (get_in ! (fld ! refl (stop !)) (sub ! 0 refl (whole !))) (lit ! tt) (record { fits = v_far })) refl (tt, record { fits = v_far }) $
    sets ! (bin ! (get ! refl) (get ! refl) tt) refl (tt, tt) $
    sets ! (agg ! (and_then ! (get ! refl) (and_then ! (get_in ! (fld ! refl (stop !)) (sub ! 1 refl (whole !))) (no_more !)))) refl (tt, wt_v) $
    sets ! (bin ! (get_in ! (fld ! refl (stop !)) (sub ! 0 refl (whole !))) (lit ! tt) (record { fits = w_far })) refl (tt, record { fits = w_far }) $
    sets ! (bin ! (get ! refl) (get ! refl) tt) refl (tt, tt) $
    sets ! (agg ! (and_then ! (get ! refl) (and_then ! (get_in ! (fld ! refl (stop !)) (sub ! 1 refl (whole !))) (no_more !)))) refl (tt, wt_w) $
    sets_last ! (agg ! (and_then ! (get ! refl) (and_then ! (get ! refl) (no_more !)))) refl (tt, (wt_v, (wt_w, tt))) $
    exec ! table.C table.Λ (env code.Mir.locals spots) (after 2 code.function.body) (at_ret _ (Walk.post entry)) $ sets ! (of_opd ! (get ! refl)) refl (tt, (wt_v, (wt_w, tt))) $
    -- [the slice; the token; the locals]
    use2 𝓛 (later (some_of (λ (γs : GName × GName). ‵ (slice_at (named 0) κ b p γs.0 (cells_in v xs)) ⊛ ‵ (slice_at (named 0) κ b p' γs.1 (cells_in w xs)) ⊛ ‵ (flft κ q) ⊛ ‵ (ends_by γ γs (λ x z. with_window (with_window xs w z) v x)))))
    (lends_parts 𝓛 b o p p' (before v xs) (cells_in v xs) (between v w xs) (cells_in w xs) (behind w xs) (first_there v w xs apart in_row o) (second_there v w xs apart in_row o) (named 0) κ q γ xs
    (in_parts v w xs apart in_row) (λ x z. with_window (with_window xs w z) v x) (with_both v w xs apart in_row) (subst (λ (k : ℕ). Room i64 k) (sym long_v) room_v) (subst (λ (k : ℕ). Room i64 k) (sym long_w) room_w)) $
    await ! tt $ pick ! (λ γs. split3 ! $ move ! (2 ∷ []) $ split ! $
    -- [the token; what the slice ends as; the first; the second; the locals]
    let x : MutBor (List ℤ) = record { ref_ptr = (b, p); ghost_name = γs.0; now = cells_in v xs } in let x' : MutBor (List ℤ) = record { ref_ptr = (b, p'); ghost_name = γs.1; now = cells_in w xs } in
    let answer : Val = vstruct (vcons (slice_val (b, p) v.len) (vcons (slice_val (b, p') w.len) vnil)) in
    let is_out : pair_word 𝓛 (named 0) κ x x' ≡ answer = λ k. vstruct (vcons (slice_val (b, p) (long_v k)) (vcons (slice_val (b, p') (long_w k)) vnil)) in
    move ! (2 ∷ 3 ∷ []) $ use2 𝓛 (‵ ((Pair 𝓛 (named 0) κ).own_val (x, x') (pair_word 𝓛 (named 0) κ x x' ∷ []))) (pair_made 𝓛 (named 0) κ x x') $
    rewrite ! 0 (λ (u : Val). ‵ ((Pair 𝓛 (named 0) κ).own_val (x, x') (u ∷ []))) is_out refl $ returns ! (look_at ! 0 refl) $ free_all ! refl $
    -- [the pair; the token; what the slice ends as]
    move ! (2 ∷ []) $ use0 𝓛 (raw (fact 𝓤 (cells_in w xs ≡ cells_in w xs))) (fact_i 𝓤 _ (emp 𝓤) refl) $ join ! $ use0 𝓛 (raw (fact 𝓤 (cells_in v xs ≡ cells_in v xs))) (fact_i 𝓤 _ (emp 𝓤) refl) $
    join ! $
    nothing ! $ move ! (3 ∷ 0 ∷ []) $ join ! $ nothing ! $ nothing ! $ fjoin ! $ nothing ! $ fjoin ! $ nothing ! $ fjoin ! $ move ! (1 ∷ 0 ∷ 3 ∷ 2 ∷ []) $
    by ! (leaves 𝓛 f.ended stayed promised entry answer (x, x') (tt, (tt, (tt, tt))) (tt, (tt, (tt, tt)))))))))
