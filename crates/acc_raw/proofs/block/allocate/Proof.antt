-- `allocate` asks the heap, and makes a block of what it grants. Assumes `Logic`.
use Rattle.std.proofs.Common.{◌≡◌, ℕ, ◌*◌, ◌<◌, ◌^◌, List, [], ◌∷◌, refl, arith, lit<}
use Rattle.std.specs.Prelude.{true, false, Ok, Err}
use base.Logic.{SProp, emp, id⊢}
use base.Fml.{ftrue, flft}
use contract.Monad.{fact, fact_i}
use contract.Running.{tables}
use denote.Builtin.{usize, RefOf}
use denote.Exit.{yes}
use denote.Laws.{Is}
use denote.Plain.{uint_vals, uint_Tells}
use denote.RattleType.{RattleType}
use denote.RawPtr.{block_ptr}
use denote.Ref.{ShrRef, shr_vals, shr_Tells}
use denote.Signature.{plain}
use denote.Steps.{nothing, heard, owned}
use denote.Struct.Declared as Declared
use denote.Struct.Struct.{Struct, Struct-Makes}
use denote.Triple.Call.{calls_at}
use denote.Triple.Clauses.{Lasts, lasts}
use denote.Triple.Spec.{triple_of}
use denote.Triple.Table.{framed}
use denote.Triple.Walked.{Stays, walk_of, stay_dropped, Goes-dropped}
use mir.Syntax.{named, w64}
use mir.Val.{Val, WT, vint, vstruct, vcons, vnil}
use prog.Memory.{capped, size, align}
use prog.Wp.{Wp, after_seq, at_return}
use types.ByLocal.{alloc_all, pass_all, free_all, look_at, get, get_in, get_tag, sets, sets_last, lands_as, env}
use types.Kit.{Post as After, any_q, ‵, raw, ◌⊛◌, some, later, at_ret, ◌$◌, ◌∵◌, !, qed, by, move, keep, drop as let_go, use0, use1, use2, split, join, pick, await, fjoin, flt_i, feq_i}
use types.Match.{live, vrt, in_variant}
use types.Part.{whole, agg}
use types.Run.{stop, fld, lit, bin, of_opd, no_more, and_then, first, switches_on, exec, returns, enter}
use Rattle.core.proofs.alloc.Calls.{Answer, Answer-typed, Answered, answers}
use Rattle.core.specs.Allocator.{block_if_ok}
use Rattle.core.specs.contracts.result.Result as RS
use Rattle.core.specs.contracts.alloc.AllocError as AE
use Rattle.std.specs.contracts.alloc.Global as global
use Rattle.std.specs.contracts.impls.GlobalAllocator.allocate as asks
use Rattle.std.proofs.impls.GlobalAllocator.allocate.Met.{met}
use Rattle.std_alloc.proofs.ResultValues.{ok_of, err_of}
use Rattle.std_alloc.proofs.VecSteps.Shapes.{after, head, arm_body}
use Rattle.std.proofs.raw_atomic.Walks.{proved, leaves}
use Rattle.acc_raw.specs.Blocks.{room_for}
use Rattle.acc_raw.specs.inner.Ownership.{heap, frees}
use Rattle.acc_raw.specs.contracts.block.allocate as f
use Rattle.acc_raw.proofs.Heap.{Heap, bytes_of, aligned, answered}
use Rattle.acc_raw.proofs.Making.{Pair, start_val, pair_val, pair_made, at, made}
use Rattle.acc_raw.proofs.block.allocate.Statement.{statement}
use Rattle.acc_raw.proofs.block.allocate.Code as code

abbrev stayed : Stays f.ended.signature.params f.ended.kept
stayed = (stay_dropped _ yes, (stay_dropped _ yes, tt))

abbrev Out : RattleType
Out = RS.the_row Pair AE.the_row

pub allocate_spec : {M : Type 1} → statement M
allocate_spec 𝓤 𝓛 𝓜 𝓡 wired =
    let promised = f.clauses 𝓛 𝓜.mem 𝓡.returns in let Walk = walk_of 𝓛 f.ended stayed promised in let table = tables 𝓤 𝓛.H 𝓜 𝓡 𝓡.env in
    proved 𝓛 f.ended stayed promised 𝓜 𝓡
    (Goes-dropped 𝓛 1 (RefOf (0 ∷ []) tt (plain (λ _. global.the_row)) (λ _. tt)) yes (λ κs x w. refl), (Goes-dropped 𝓛 1 (plain (λ _. usize)) yes (λ κs x w. refl), tt))
    f.Key.name code.function (code.unfolded 𝓤 𝓛.H 𝓜 𝓡 wired)
    (λ κs. (shr_vals, (uint_vals w64, tt))) (λ κs. (shr_Tells (named 0) κs.0 global.the_row, (uint_Tells w64, tt))) (λ κs qs bounds args g values.
    let κ = κs.0 in let q = qs.0 in let n : ℕ = args.1.0 in let τ = room_for n in
    let Run = asks.spec 𝓛 𝓜.mem 𝓡.returns in let T = triple_of 𝓛 asks.signature Run in
    let entry : Walk.Ghost = ((κs, qs, bounds, args, (shr_vals args.0, (uint_vals w64 n, tt))), g) in let wanted : Val → SProp 𝓤 = Walk.post entry in
    qed 𝓛 (((‵ (flft κ q) ⊛ ‵ ftrue) ⊛ ‵ ((ShrRef (named 0) κ global.the_row).own_val args.0 (shr_vals args.0)) ⊛ ‵ (usize.own_val n (uint_vals w64 n)) ⊛ ‵ ftrue) ∷ raw (fact 𝓤 (n * 8 < 2 ^ 63)) ∷ []) ∵
    move ! (1 ∷ []) $ heard ! _ (λ small. split ! $ split ! $ move ! (2 ∷ []) $ split ! $ keep ! (0 ∷ 2 ∷ []) $
    -- [the handle; the token]
    let fits : n < 2 ^ 64 = values.1.0.1 in let bytes : n * 8 < 2 ^ 64 = omega (arith, small) in
    enter ! _ _ _ _ _ $ alloc_all ! (λ spots. pass_all ! refl ((tt, tt), ((tt, record { fits = fits }), tt)) $
    let here = env code.Mir.locals spots in let arms = head (after 2 code.function.body) in
    let asked : T.Ghost = ((κs, qs, bounds, (args.0, (n * 8, (8, tt))), (shr_vals args.0, (vint w64 (n * 8) ∷ [], (vint w64 8 ∷ [], tt)))), τ) in
    sets ! (bin ! (get ! refl) (lit ! tt) (record { fits = bytes })) refl (tt, record { fits = bytes }) $
    nothing ! $ flt_i ! 8 (2 ^ 64) (lit< tt) $ feq_i ! (List Val) (vint w64 8 ∷ []) (vint w64 8 ∷ []) refl $ fjoin ! $ fjoin ! $
    flt_i ! (n * 8) (2 ^ 64) bytes $ feq_i ! (List Val) (vint w64 (n * 8) ∷ []) (vint w64 (n * 8) ∷ []) refl $ fjoin ! $ fjoin ! $
    move ! (1 ∷ 0 ∷ []) $ fjoin ! $ nothing ! $ move ! (2 ∷ 0 ∷ []) $ join ! $ join ! $
    use0 𝓛 (raw (fact 𝓤 ((capped (size τ) ≡ n * 8) × (capped (align τ) ≡ 8)))) (fact_i 𝓤 _ (emp 𝓤) (bytes_of n bytes, aligned n)) $ move ! (1 ∷ 0 ∷ []) $ join ! $
    use1 𝓛 (raw (T.pre asked)) (id⊢ 𝓤 _) $
    calls_at ! (framed 𝓤 𝓛.H 𝓜 table) T (met 𝓤 𝓛 𝓜 𝓡 (code.calls-std::impls::GlobalAllocator::allocate 𝓡.env wired)) asked (and_then ! (get ! refl) (and_then ! (get ! refl) (and_then ! (lit ! tt) (no_more !)))) (λ v.
    use1 𝓛 (later (some (λ (r : Answer.Denot). ((‵ (flft κ q) ⊛ ‵ ftrue) ⊛ ‵ (Answer.own_val r (v ∷ []))) ⊛
    some (λ (ws : Lasts asks.ended κs (args.0, (n * 8, (8, tt)))). ‵ (lasts asks.ended κs (args.0, (n * 8, (8, tt))) ws) ⊛ ‵ (block_if_ok frees τ r))))) (id⊢ 𝓤 _) $
    await ! tt $ pick ! (λ r. split ! $ split ! $ split ! $ move ! (3 ∷ []) $ pick ! (λ ws. split ! $ let_go ! $ move ! (2 ∷ []) $ let_go ! $ move ! (2 ∷ 0 ∷ []) $
    use2 𝓛 (raw (Answered Heap 𝓛 𝓜.mem 𝓡.returns heap τ v)) (answered 𝓛 𝓜.mem 𝓡.returns τ v r) $
    let beyond : After 𝓤 𝓛.H = any_q (after_seq 𝓤 𝓛.H (Wp 𝓤 𝓛.H table.C table.Λ here (after 3 code.function.body) (at_return 𝓤 𝓛.H here wanted)) (at_return 𝓤 𝓛.H here wanted)) in
    answers Heap ! 𝓜.mem 𝓡.returns heap τ v
    (λ b o there.
    let row : Val = pair_val (start_val b o) (vstruct vnil) in let answer : Val = live 0 (vcons row vnil) in
    let pair : Pair.Denot = (at 𝓛 b o n, made 𝓛 b o n) in
    let wt_row : WT row = ((tt, tt), (tt, tt)) in let wt : WT answer = (record { fits = lit< tt }, (wt_row, tt)) in
    -- the answer is `Ok`
    lands_as ! there refl (Answer-typed true b o) $ first ! $
    -- so its first arm is taken
    switches_on ! (get_tag ! (vrt ! refl (fld ! refl (stop !))) (whole !)) $
    -- what it does
    exec ! table.C table.Λ here (arm_body 0 arms) beyond $
    -- `memory`
    sets ! (of_opd ! (get_in ! (vrt ! refl (fld ! refl (stop !))) (in_variant ! 0 0 refl refl (whole !)))) refl (tt, tt) $
    -- `memory as *mut i64`
    sets ! (of_opd ! (get ! refl)) refl (tt, tt) $
    -- `Start { .. }`
    sets ! (agg ! (and_then ! (get ! refl) (no_more !))) refl (tt, (tt, tt)) $
    -- `Block {}`
    sets ! (agg ! (no_more !)) refl (tt, tt) $
    -- the pair of both
    sets ! (agg ! (and_then ! (get ! refl) (and_then ! (get ! refl) (no_more !)))) refl (tt, wt_row) $
    -- and what is returned
    sets_last ! (agg ! (and_then ! (lit ! tt) (and_then ! (get ! refl) (no_more !)))) refl (tt, wt) $
    exec ! table.C table.Λ here (after 3 code.function.body) (at_ret here wanted) $ sets ! (of_opd ! (get ! refl)) refl (tt, wt) $
    -- [the room; the right to give it back; the token]
    use2 𝓛 (‵ (Pair.own_val pair (row ∷ []))) (pair_made 𝓛 b o n small) $
    use1 𝓛 (‵ (Out.own_val (Ok pair) (answer ∷ []))) (ok_of 𝓛 Pair AE.the_row pair row) $ returns ! (look_at ! 0 refl) $ free_all ! refl $
    use0 𝓛 (raw (fact 𝓤 ((block_ptr b o ≡ block_ptr b o) × (n ≡ n) × (made 𝓛 b o n).cells ≡ []))) (fact_i 𝓤 _ (emp 𝓤) (refl, refl, refl)) $
    nothing ! $ move ! (3 ∷ 0 ∷ []) $ join ! $ nothing ! $ nothing ! $ fjoin ! $ nothing ! $ fjoin ! $ move ! (1 ∷ 0 ∷ 3 ∷ 2 ∷ []) $
    by ! (leaves 𝓛 f.ended stayed promised entry answer (Ok pair) (tt, (tt, tt)) (tt, (tt, tt))))
    (λ there.
    let Refused : RattleType = Struct (Declared.shape AE.the_type) in let answer : Val = live 1 (vcons (vstruct vnil) vnil) in let wt : WT answer = (record { fits = lit< tt }, (tt, tt)) in
    -- the answer is `Err`
    lands_as ! there refl (Answer-typed false 0 0) $ first ! $
    -- so its second arm is taken
    switches_on ! (get_tag ! (vrt ! refl (fld ! refl (stop !))) (whole !)) $
    -- what it does
    exec ! table.C table.Λ here (arm_body 1 arms) beyond $
    -- `error`
    sets ! (of_opd ! (get_in ! (vrt ! refl (fld ! refl (stop !))) (in_variant ! 1 0 refl refl (whole !)))) refl (tt, tt) $
    -- and what is returned
    sets_last ! (agg ! (and_then ! (lit ! tt) (and_then ! (get ! refl) (no_more !)))) refl (tt, wt) $
    exec ! table.C table.Λ here (after 3 code.function.body) (at_ret here wanted) $ sets ! (of_opd ! (get ! refl)) refl (tt, wt) $
    -- an `AllocError` is made of nothing
    owned ! Refused (Is Refused) (Struct-Makes 𝓛 (Declared.shape AE.the_type) tt) tt (vstruct vnil ∷ []) (tt, (refl, tt)) $
    use1 𝓛 (‵ (Out.own_val (Err (record {})) (answer ∷ []))) (err_of 𝓛 Pair AE.the_row (record {}) (vstruct vnil)) $
    -- the end
    returns ! (look_at ! 0 refl) $ free_all ! refl $
    use0 𝓛 (raw (fact 𝓤 (Unit {0}))) (fact_i 𝓤 _ (emp 𝓤) tt) $
    nothing ! $ move ! (3 ∷ 0 ∷ []) $ join ! $ nothing ! $ nothing ! $ fjoin ! $ nothing ! $ fjoin ! $ move ! (1 ∷ 0 ∷ 3 ∷ 2 ∷ []) $
    by ! (leaves 𝓛 f.ended stayed promised entry answer (Err (record {})) (tt, (tt, tt)) (tt, (tt, tt))))))))))
