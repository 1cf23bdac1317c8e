-- `slice` shows the cells that a block lends. Assumes `Logic`.
use Rattle.std.proofs.Common.{◌≡◌, ℕ, ◌*◌, ◌<◌, ◌^◌, List, [], ◌∷◌, length, refl, sym, ap, subst}
use Rattle.std.specs.Prelude.{ℤ}
use base.Logic.{never, id⊢, emp}
use base.Fml.{ftrue, flft}
use contract.Monad.{fact, fact_i}
use contract.Running.{tables}
use denote.Builtin.{usize, RefOf}
use denote.Exit.{yes}
use denote.Opens.{hide, unhide}
use denote.Plain.{uint_vals, uint_Tells}
use denote.RawPtr.{Ptr, ptr_val, in_a_block}
use denote.Ref.{ShrRef, shr_vals, shr_Tells}
use denote.Signature.{plain}
use denote.Slice.{slice_val}
use denote.Steps.{nothing, heard}
use denote.Struct.Laws.{vals, tells}
use denote.Struct.Loose.{loose_lawful}
use denote.Triple.Walked.{Stays, walk_of, stay_dropped, Goes-dropped}
use mir.Syntax.{named, w64}
use mir.Val.{Val, vint, vstruct, vcons, vnil}
use types.ByLocal.{alloc_all, pass_all, free_all, look_at, get, get_in, is, sets, sets_last, env}
use types.Kit.{‵, raw, ◌⊛◌, at_ret, ◌$◌, ◌∵◌, !, qed, by, move, keep, drop as let_go, use0, split, join, rewrite, fsplit, fjoin, feq_i, flt_i, flt_l}
use types.Part.{whole, sub, agg}
use types.Run.{stop, fld, of_opd, no_more, and_then, first, blocks, exec, returns, enter}
use Rattle.std.proofs.raw_atomic.Walks.{proved, leaves}
use Rattle.acc_raw.specs.Blocks.{block_lends}
use Rattle.acc_raw.specs.contracts.block.Block as block
use Rattle.acc_raw.specs.contracts.block.Start as start
use Rattle.acc_raw.specs.contracts.block.Block.slice as f
use Rattle.acc_raw.proofs.block.Start.TheLaws.{the_laws, the_loose}
use Rattle.acc_raw.proofs.block.Block.slice.Statement.{statement}
use Rattle.acc_raw.proofs.block.Block.slice.Code as code

abbrev stayed : Stays f.ended.signature.params f.ended.kept
stayed = (stay_dropped _ yes, (stay_dropped _ yes, (stay_dropped _ yes, tt)))

pub slice_spec : {M : Type 1} → statement M
slice_spec 𝓤 𝓛 𝓜 𝓡 wired =
    let promised = f.clauses 𝓛 𝓜.mem 𝓡.returns in let Walk = walk_of 𝓛 f.ended stayed promised in let table = tables 𝓤 𝓛.H 𝓜 𝓡 𝓡.env in
    let words_of = vals start.the_type the_laws in let well_typed = (loose_lawful start.the_type the_loose 𝓛).typed in
    proved 𝓛 f.ended stayed promised 𝓜 𝓡
    (Goes-dropped 𝓛 1 (RefOf (0 ∷ []) tt (plain (λ _. block.the_row)) (λ _. tt)) yes (λ κs x w. refl), (Goes-dropped 𝓛 1 (plain (λ _. start.the_row)) yes (λ κs x w. refl), (Goes-dropped 𝓛 1 (plain (λ _. usize)) yes (λ κs x w. refl), tt)))
    f.Key.name code.function (code.unfolded 𝓤 𝓛.H 𝓜 𝓡 wired)
    (λ κs. (shr_vals, (words_of, (uint_vals w64, tt)))) (λ κs. (shr_Tells (named 0) κs.0 block.the_row, (tells start.the_type the_laws, (uint_Tells w64, tt)))) (λ κs qs bounds args g values.
    let κ = κs.0 in let q = qs.0 in let owner = args.0.now in let p : Ptr = args.1.0.ptr in let n : ℕ = args.1.1.0 in let xs : List ℤ = owner.cells in
    let entry : Walk.Ghost = ((κs, qs, bounds, args, (shr_vals args.0, (words_of args.1.0, (uint_vals w64 n, tt)))), g) in
    qed 𝓛 (((‵ (flft κ q) ⊛ ‵ ftrue) ⊛ ‵ ((ShrRef (named 0) κ block.the_row).own_val args.0 (shr_vals args.0)) ⊛ ‵ (start.the_row.own_val args.1.0 (words_of args.1.0)) ⊛ ‵ (usize.own_val n (uint_vals w64 n)) ⊛ ‵ ftrue)
    ∷ raw (fact 𝓤 ((p ≡ owner.at) × (n ≡ length xs) × (n ≡ owner.len))) ∷ []) ∵
    move ! (1 ∷ []) $ heard ! _ (λ asked. split ! $ split ! $ move ! (2 ∷ []) $ split ! $ keep ! (0 ∷ 2 ∷ []) $ fsplit ! $ let_go ! $
    let fits : n < 2 ^ 64 = values.1.1.0.1 in
    enter ! _ _ _ _ _ $ alloc_all ! (λ spots. pass_all ! refl ((tt, tt), ((well_typed args.1.0 _ values.1.0).0, ((tt, record { fits = fits }), tt))) $
    unhide ! $ fsplit ! $ let_go ! $ rewrite ! 0 (λ (r : Ptr). ‵ (block_lends r owner.len xs κ)) (sym asked.0) refl $
    in_a_block ! p (λ r. block_lends r owner.len xs κ) (id⊢ 𝓤 (never 𝓤)) (λ b o there. fsplit ! $ flt_l ! (λ small. hide ! $ first ! $ blocks ! $
    let answer : Val = slice_val (b, o) n in let small' : n * 8 < 2 ^ 63 = subst (λ (k : ℕ). k * 8 < 2 ^ 63) (sym asked.2) small in
    sets_last ! (is ! (agg ! (and_then ! (get_in ! (fld ! refl (stop !)) (sub ! 0 refl (whole !))) (and_then ! (get ! refl) (no_more !))))
    (ap (λ (r : Ptr). vstruct (vcons (ptr_val r) (vcons (vint w64 n) vnil))) there)) refl (tt, (tt, (record { fits = fits }, tt))) $
    exec ! table.C table.Λ (env code.Mir.locals spots) code.Mir.t-2 (at_ret _ (Walk.post entry)) $
    sets ! (of_opd ! (get ! refl)) refl (tt, (tt, (record { fits = fits }, tt))) $
    flt_i ! (length xs * 8) (2 ^ 63) (subst (λ (k : ℕ). k * 8 < 2 ^ 63) asked.1 small') $ flt_i ! (length xs) (2 ^ 64) (subst (λ (k : ℕ). k < 2 ^ 64) asked.1 fits) $ fjoin ! $
    feq_i ! (List Val) (answer ∷ []) (slice_val (b, o) (length xs) ∷ []) (ap (λ (k : ℕ). slice_val (b, o) k ∷ []) asked.1) $ fjoin ! $ fjoin ! $
    returns ! (look_at ! 0 refl) $ free_all ! refl $
    use0 𝓛 (raw (fact 𝓤 (xs ≡ xs))) (fact_i 𝓤 _ (emp 𝓤) refl) $ nothing ! $ move ! (3 ∷ 0 ∷ []) $ join ! $
    nothing ! $ nothing ! $ fjoin ! $ nothing ! $ fjoin ! $ nothing ! $ fjoin ! $ move ! (1 ∷ 0 ∷ 3 ∷ 2 ∷ []) $
    by ! (leaves 𝓛 f.ended stayed promised entry answer (record { ref_ptr = (b, o); now = xs }) (tt, (tt, (tt, tt))) (tt, (tt, (tt, tt)))))))))
