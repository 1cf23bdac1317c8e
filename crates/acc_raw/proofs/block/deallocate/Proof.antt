-- `deallocate` makes room of the cells, and gives it back with the right that came with it. Assumes `Logic`.
use Rattle.std.proofs.Common.{◌≡◌, ℕ, ◌*◌, ◌<◌, ◌^◌, List, [], ◌∷◌, ◌++◌, length, refl, sym, ap, subst, arith, lit<}
use Rattle.std.specs.Prelude.{ℤ}
use lib.Dec.{T}
use base.Logic.{SProp, never, emp, id⊢}
use base.Fml.{ftrue, flft, froom}
use contract.Monad.{fact, fact_i}
use contract.Running.{tables}
use denote.Builtin.{usize, unit, RefOf}
use denote.Exit.{yes}
use denote.Laws.{Is}
use denote.Plain.{uint_Tells}
use denote.RattleType.{owns}
use denote.RawPtr.{Ptr, block_ptr, ptr_val, in_a_block}
use denote.Ref.{ShrRef, shr_vals, shr_Tells}
use denote.Signature.{plain, types_at}
use denote.Steps.{nothing, heard, only}
use denote.Struct.Laws.{vals, tells}
use denote.Struct.Loose.{loose_lawful}
use denote.Triple.Call.{calls_at_last}
use denote.Triple.Clauses.{Lasts, lasts}
use denote.Triple.Spec.{triple_of}
use denote.Triple.Table.{framed}
use denote.Triple.Walked.{Stays, walk_of, stay_dropped, Goes-dropped}
use mir.Syntax.{named, w64, ty_int, ty_array, ty_unit}
use mir.Val.{Val, WT, has_ty, vint, vptr, vstruct, vnil, vunit}
use prog.Memory.{capped, size, align}
use prog.Wp.{WpFn}
use types.ByLocal.{alloc_all, pass_all, free_all, look_at, get, get_in, is, sets, lands_last, env}
use types.Kit.{‵, raw, prop, ◌⊛◌, some, later, at_ret, ◌$◌, ◌∵◌, !, qed, by, move, keep, drop as let_go, use0, use1, split, join, pick, rewrite, regoal, await, fsplit, fjoin, feq_i, feq_l, flt_i, flt_l}
use types.Part.{whole, sub}
use types.Run.{stop, fld, lit, bin, of_opd, unit_lit, no_more, and_then, first, blocks, exec, returns, enter}
use Rattle.core.proofs.alloc.Calls.{Goes-blank}
use Rattle.std.specs.contracts.alloc.Global as global
use Rattle.std.specs.contracts.impls.GlobalAllocator.deallocate as gives
use Rattle.std.proofs.impls.GlobalAllocator.deallocate.Met.{met}
use Rattle.std_alloc.proofs.VecSteps.Shapes.{after}
use Rattle.std.proofs.raw_atomic.Walks.{proved_at, leaves}
use Rattle.acc_raw.specs.Blocks.{room_for, block_owns}
use Rattle.acc_raw.specs.contracts.block.Block as block
use Rattle.acc_raw.specs.contracts.block.Start as start
use Rattle.acc_raw.specs.contracts.block.deallocate as f
use Rattle.acc_raw.proofs.Filling.{emptied}
use Rattle.acc_raw.proofs.Heap.{bytes_of, aligned}
use Rattle.acc_raw.proofs.block.Start.TheLaws.{the_laws, the_loose}
use Rattle.acc_raw.proofs.block.deallocate.Statement.{statement}
use Rattle.acc_raw.proofs.block.deallocate.Code as code

abbrev stayed : Stays f.ended.signature.params f.ended.kept
stayed = (stay_dropped _ yes, (stay_dropped _ yes, (stay_dropped _ yes, (stay_dropped _ yes, tt))))

pub deallocate_spec : {M : Type 1} → statement M
deallocate_spec 𝓤 𝓛 𝓜 𝓡 wired =
    let promised = f.clauses 𝓛 𝓜.mem 𝓡.returns in let Walk = walk_of 𝓛 f.ended stayed promised in let table = tables 𝓤 𝓛.H 𝓜 𝓡 𝓡.env in
    let words_of = vals start.the_type the_laws in let well_typed = (loose_lawful start.the_type the_loose 𝓛).typed in
    let plainly = Goes-dropped 𝓛 1 (plain (λ _. usize)) yes (λ κs x w. refl) in
    proved_at 𝓛 f.ended stayed promised 𝓜 𝓡 (
      Goes-dropped 𝓛 1 (RefOf (0 ∷ []) tt (plain (λ _. global.the_row)) (λ _. tt)) yes (λ κs x w. refl),
      (Goes-dropped 𝓛 1 (plain (λ _. start.the_row)) yes (λ κs x w. refl), (plainly, (Goes-blank 𝓛 1 (plain (λ _. block.the_row)) yes (λ κs x w. tt), tt))),
    )
    f.Key.name code.function (code.unfolded 𝓤 𝓛.H 𝓜 𝓡 wired) (λ entry values.
    let κs = entry.0.0 in let qs = entry.0.1 in let args = entry.0.3 in let vss = entry.0.4 in let κ = κs.0 in let q = qs.0 in
    let p : Ptr = args.1.0.ptr in let n : ℕ = args.1.1.0 in let k : block.the_row.Denot = args.1.1.1.0 in let xs : List ℤ = k.cells in let τ = room_for n in
    let G = triple_of 𝓛 gives.signature (gives.spec 𝓛 𝓜.mem 𝓡.returns) in let wanted : Val → SProp 𝓤 = Walk.post entry in
    let Asked : Type 0 = (p ≡ k.at) × (n ≡ k.len) × (n ≡ length xs) in
    let e₀ : vss.0 ≡ shr_vals args.0 = shr_Tells (named 0) κ global.the_row args.0 vss.0 values.0 in
    let e₁ : vss.1.0 ≡ words_of args.1.0 = tells start.the_type the_laws args.1.0 vss.1.0 values.1.0 in
    let e₂ : vss.1.1.0 ≡ vint w64 n ∷ [] = uint_Tells w64 n vss.1.1.0 values.1.1.0 in
    let e₃ : vss.1.1.1.0 ≡ vstruct vnil ∷ [] = values.1.1.1.0.0.1.0 in
    let fits : n < 2 ^ 64 = values.1.1.0.1 in
    qed 𝓛 (((‵ (flft κ q) ⊛ ‵ ftrue) ⊛ ‵ (owns (types_at f.ended.signature.params κs) args vss)) ∷ raw (fact 𝓤 Asked) ∷ []) ∵
    move ! (1 ∷ []) $ heard ! _ (λ asked. split ! $ split ! $ move ! (2 ∷ []) $
    fsplit ! $ move ! (1 ∷ []) $ fsplit ! $ let_go ! $ fsplit ! $ let_go ! $ fsplit ! $ fsplit ! $ let_go ! $ keep ! (0 ∷ 2 ∷ 3 ∷ []) $
    -- [the block; the handle; the token]
    rewrite ! 1 (λ (ws : List Val). ‵ ((ShrRef (named 0) κ global.the_row).own_val args.0 ws)) e₀ refl $
    regoal ! (λ (ws : List Val). prop (WpFn 𝓤 𝓛.H table.C table.Λ code.function ws wanted)) (λ j. e₀ j ++ (e₁ j ++ (e₂ j ++ (e₃ j ++ [])))) refl $ enter ! _ _ _ _ _ $
    alloc_all ! (λ spots. pass_all ! refl ((tt, tt), ((well_typed args.1.0 _ (subst (λ (vs : List Val). Is start.the_row args.1.0 vs) e₁ values.1.0)).0, ((tt, record { fits = fits }), ((tt, tt), tt)))) $
    let here = env code.Mir.locals spots in
    rewrite ! 0 (λ (t : Ptr × ℕ). ‵ (block_owns t.0 t.1 xs)) {x = (p, n)} (λ i. (sym asked.0 i, sym asked.1 i)) refl $
    in_a_block ! p (λ t. block_owns t n xs) (id⊢ 𝓤 (never 𝓤)) (λ b o there. fsplit ! $ fsplit ! $ flt_l ! (λ small. move ! (1 ∷ []) $ fsplit ! $ move ! (1 ∷ []) $ let_go ! $
    let bytes : n * 8 < 2 ^ 64 = omega (arith, small) in
    let given : G.Ghost = ((κs, qs, entry.0.2, (args.0, (block_ptr b o, (n * 8, (8, tt)))), (shr_vals args.0, (vptr b o ∷ [], (vint w64 (n * 8) ∷ [], (vint w64 8 ∷ [], tt))))), τ) in
    use1 𝓛 (‵ (froom (ty_array (ty_int w64) (length xs)) b o)) (emptied 𝓛 b xs o) $ rewrite ! 0 (λ (j : ℕ). ‵ (froom (ty_array (ty_int w64) j) b o)) (sym asked.2) refl $
    use1 𝓛 (‵ (froom τ b o)) (𝓛.laws.room-raw (ty_array (ty_int w64) n) b o) $ first ! $ blocks ! $
    -- `start.ptr as *mut u8` and `len * 8`
    sets ! (is ! (of_opd ! (get_in ! (fld ! refl (stop !)) (sub ! 0 refl (whole !)))) (ap ptr_val there)) refl (tt, tt) $
    sets ! (bin ! (get ! refl) (lit ! tt) (record { fits = bytes })) refl (tt, record { fits = bytes }) $
    -- [the room; the right to give it back; the handle; the token]
    fjoin ! $ use0 𝓛 (raw (fact 𝓤 ((capped (size τ) ≡ n * 8) × (capped (align τ) ≡ 8)))) (fact_i 𝓤 _ (emp 𝓤) (bytes_of n bytes, aligned n)) $ join ! $
    nothing ! $ flt_i ! 8 (2 ^ 64) (lit< tt) $ feq_i ! (List Val) (vint w64 8 ∷ []) (vint w64 8 ∷ []) refl $ fjoin ! $ fjoin ! $
    flt_i ! (n * 8) (2 ^ 64) bytes $ feq_i ! (List Val) (vint w64 (n * 8) ∷ []) (vint w64 (n * 8) ∷ []) refl $ fjoin ! $ fjoin ! $
    -- the pointer and the handle
    feq_i ! (List Val) (vptr b o ∷ []) (vptr b o ∷ []) refl $ fjoin ! $ move ! (2 ∷ 0 ∷ []) $ fjoin ! $
    -- and the token
    nothing ! $ move ! (3 ∷ 0 ∷ []) $ join ! $ join ! $ join ! $ use1 𝓛 (raw (G.pre given)) (id⊢ 𝓤 _) $
    calls_at_last ! (framed 𝓤 𝓛.H 𝓜 table) G (met 𝓤 𝓛 𝓜 𝓡 (code.calls-std::impls::GlobalAllocator::deallocate 𝓡.env wired)) given
    (and_then ! (get ! refl) (and_then ! (get ! refl) (and_then ! (get ! refl) (and_then ! (lit ! tt) (no_more !))))) (λ v.
    use1 𝓛 (later (some (λ (r : Unit {0}). ((‵ (flft κ q) ⊛ ‵ ftrue) ⊛ ‵ (unit.own_val r (v ∷ []))) ⊛
    some (λ (ws : Lasts gives.ended κs (args.0, (block_ptr b o, (n * 8, (8, tt))))). ‵ (lasts gives.ended κs (args.0, (block_ptr b o, (n * 8, (8, tt)))) ws) ⊛ ‵ ftrue)))) (id⊢ 𝓤 _) $
    await ! tt $ pick ! (λ r. split ! $ split ! $ split ! $ move ! (2 ∷ []) $ feq_l ! (λ is_unit. move ! (1 ∷ []) $ let_go ! $ move ! (1 ∷ []) $ let_go ! $
    lands_last ! refl (subst (λ (u : Val). T (has_ty ty_unit u) × WT u) (sym (ap only is_unit)) (tt, tt)) $ exec ! table.C table.Λ here (after 1 code.function.body) (at_ret here wanted) $
    -- `()`
    sets ! (of_opd ! (unit_lit !)) refl (tt, tt) $
    -- the end
    returns ! (look_at ! 0 refl) $ free_all ! refl $ nothing ! $ move ! (1 ∷ 0 ∷ []) $ join ! $
    feq_i ! (List Val) (vunit ∷ []) (vunit ∷ []) refl $ nothing ! $ nothing ! $ fjoin ! $ nothing ! $ fjoin ! $ nothing ! $ fjoin ! $ nothing ! $ fjoin ! $ nothing ! $ move ! (3 ∷ 1 ∷ 2 ∷ 0 ∷ []) $
    by ! (leaves 𝓛 f.ended stayed promised entry vunit tt (tt, (tt, (tt, (tt, tt)))) (tt, (tt, (tt, (tt, tt)))))))))))))
