-- `push_zero` writes one cell in the room behind the others. Assumes `Logic`.
use Rattle.std.proofs.Common.{◌≡◌, ℕ, ◌+◌, ◌-◌, ◌*◌, ◌<◌, ◌^◌, List, [], ◌∷◌, ◌++◌, length, refl, sym, ap, subst, ◌∙◌, arith, lit<}
use Rattle.std.specs.Prelude.{ℤ, pos}
use base.Fraction.{full_share}
use base.Logic.{never, id⊢, emp}
use base.Fml.{Fml, ftrue, flft, fat, froom}
use contract.Monad.{fact, fact_i}
use contract.Running.{tables}
use denote.Builtin.{i64, usize}
use denote.Exit.{yes}
use denote.Memory.{mem, part_at}
use denote.Param.{layout}
use denote.Plain.{uint_vals, uint_Tells}
use denote.RawPtr.{Ptr, ptr_val, in_a_block}
use denote.Ref.{MutRef, mut_vals, mut_Tells}
use denote.Signature.{plain}
use denote.Signed.{sint_in}
use denote.Steps.{nothing, heard, opens, closes}
use denote.Struct.Laws.{vals, tells}
use denote.Struct.Loose.{loose_lawful}
use denote.Triple.Walked.{Stays, walk_of, stay_dropped, stay_ref, Goes-dropped, Goes-ref}
use mir.Syntax.{named, ty_int, w64}
use mir.Val.{Val, vunit, vstruct, vcons, vnil}
use types.ByLocal.{alloc_all, pass_all, free_all, look_at, get, get_in, through, take_at, give_at, sets, env}
use types.Kit.{‵, raw, ◌⊛◌, at_ret, ◌$◌, ◌∵◌, !, qed, by, move, keep, drop as let_go, use0, use1, use2, split, join, rewrite, fsplit, fsplit3, fjoin, fjoin3, feq_i, flt_i, flt_l}
use types.Part.{whole, sub}
use types.Run.{stop, fld, lit, bin, init, unit_lit, of_opd, assigns_last, first, blocks, exec, returns, enter}
use types.SemTy.{cells}
use Rattle.std.proofs.raw_atomic.Walks.{proved, leaves}
use Rattle.acc_raw.specs.Blocks.{room_for, block_owns}
use Rattle.acc_raw.specs.declared.block.Block.{Block}
use Rattle.acc_raw.specs.contracts.block.Block as block
use Rattle.acc_raw.specs.contracts.block.Start as start
use Rattle.acc_raw.specs.contracts.block.Block.push_zero as f
use Rattle.acc_raw.proofs.Filling.{cell_added, room_out}
use Rattle.acc_raw.proofs.block.Start.TheLaws.{the_laws, the_loose}
use Rattle.acc_raw.proofs.block.Block.push_zero.Statement.{statement}
use Rattle.acc_raw.proofs.block.Block.push_zero.Code as code

abbrev stayed : Stays f.ended.signature.params f.ended.kept
stayed = (stay_ref (0 ∷ []) tt (plain (λ _. block.the_row)), (stay_dropped _ yes, (stay_dropped _ yes, tt)))

pub push_zero_spec : {M : Type 1} → statement M
push_zero_spec 𝓤 𝓛 𝓜 𝓡 wired =
    let promised = f.clauses 𝓛 𝓜.mem 𝓡.returns in let Walk = walk_of 𝓛 f.ended stayed promised in let table = tables 𝓤 𝓛.H 𝓜 𝓡 𝓡.env in
    let words_of = vals start.the_type the_laws in let well_typed = (loose_lawful start.the_type the_loose 𝓛).typed in
    proved 𝓛 f.ended stayed promised 𝓜 𝓡
    (Goes-ref 𝓛 1 0 tt (plain (λ _. block.the_row)), (Goes-dropped 𝓛 1 (plain (λ _. start.the_row)) yes (λ κs x w. refl), (Goes-dropped 𝓛 1 (plain (λ _. usize)) yes (λ κs x w. refl), tt)))
    f.Key.name code.function (code.unfolded 𝓤 𝓛.H 𝓜 𝓡 wired)
    (λ κs. (mut_vals, (words_of, (uint_vals w64, tt)))) (λ κs. (mut_Tells (named 0) κs.0 block.the_row, (tells start.the_type the_laws, (uint_Tells w64, tt)))) (λ κs qs bounds args g values.
    let κ = κs.0 in let q = qs.0 in let owner : Block = args.0.now in let rb = args.0.ref_ptr.0 in let ro = args.0.ref_ptr.1 in
    let p : Ptr = args.1.0.ptr in let n : ℕ = args.1.1.0 in let xs : List ℤ = owner.cells in let zs : List ℤ = xs ++ pos 0 ∷ [] in
    let new : Block = record { at = owner.at; len = owner.len; cells = zs } in
    let entry : Walk.Ghost = ((κs, qs, bounds, args, (mut_vals args.0, (words_of args.1.0, (uint_vals w64 n, tt)))), g) in
    qed 𝓛 (((‵ (flft κ q) ⊛ ‵ ftrue) ⊛ ‵ ((MutRef (named 0) κ block.the_row).own_val args.0 (mut_vals args.0)) ⊛ ‵ (start.the_row.own_val args.1.0 (words_of args.1.0)) ⊛ ‵ (usize.own_val n (uint_vals w64 n)) ⊛ ‵ ftrue)
    ∷ raw (fact 𝓤 ((p ≡ owner.at) × (n ≡ length xs) × (n < owner.len))) ∷ []) ∵
    move ! (1 ∷ []) $ heard ! _ (λ asked. split ! $ split ! $ move ! (2 ∷ []) $ split ! $ keep ! (0 ∷ 2 ∷ []) $ fsplit3 ! $ let_go ! $
    let fits : n < 2 ^ 64 = values.1.1.0.1 in
    enter ! _ _ _ _ _ $ alloc_all ! (λ spots. pass_all ! refl ((tt, tt), ((well_typed args.1.0 _ values.1.0).0, ((tt, record { fits = fits }), tt))) $
    opens ! tt block.the_row {h = owner} rb ro (λ vs. move ! (1 ∷ []) $ fsplit ! $ move ! (1 ∷ []) $ rewrite ! 0 (λ (r : Ptr). ‵ (block_owns r owner.len xs)) (sym asked.0) refl $
    in_a_block ! p (λ r. block_owns r owner.len xs) (id⊢ 𝓤 (never 𝓤)) (λ b o there. fsplit ! $ fsplit ! $ flt_l ! (λ small. move ! (1 ∷ []) $ fsplit ! $
    -- [the cells; the room; the right to give it back; what is bare; its cell; the open borrow; the name's two sides]
    let far : n * 8 < 2 ^ 64 = omega (arith, asked.2, small) in let left : length xs < owner.len = subst (λ (j : ℕ). j < owner.len) asked.1 asked.2 in
    let Left : Fml = froom (room_for (owner.len - length zs)) b (length zs * 8 + o) in
    move ! (1 ∷ []) $ use1 𝓛 (‵ (froom (ty_int w64) b (length xs * 8 + o)) ⊛ ‵ Left) (room_out 𝓛 b xs (pos 0) owner.len o left) $ split ! $
    rewrite ! 0 (λ (j : ℕ). ‵ (froom (ty_int w64) b (j * 8 + o))) (sym asked.1) refl $ first ! $ blocks ! $
    sets ! (bin ! (get ! refl) (lit ! tt) (record { fits = far })) refl (tt, record { fits = far }) $
    take_at ! 2 $ rewrite ! 0 (λ (r : Ptr). ‵ (fat full_share (layout start.the_row) (spots 2) 0 (vstruct (vcons (ptr_val r) vnil)))) there refl $ give_at ! 2 $
    -- `start.ptr.add(at)`
    sets ! (bin ! (get_in ! (fld ! refl (stop !)) (sub ! 0 refl (whole !))) (get ! refl) tt) refl (tt, tt) $
    -- `.write(0)`
    assigns_last ! (of_opd ! (lit ! tt)) (through ! refl (stop !)) (init ! 0 refl (tt, record { fits = lit< tt })) $
    exec ! table.C table.Λ (env code.Mir.locals spots) code.Mir.t-2 (at_ret _ (Walk.post entry)) $
    sets ! (of_opd ! (unit_lit !)) refl (tt, tt) $
    -- [the new cell; the room; the cells; the right to give it back; what is bare; its cell; the open borrow; the name's two sides]
    use1 𝓛 (‵ (part_at i64 full_share (pos 0) b (n * 8 + o))) (sint_in 𝓛 full_share w64 (pos 0) b (n * 8 + o) (lit< tt)) $ move ! (2 ∷ 0 ∷ []) $
    use2 𝓛 (‵ (cells (mem i64) zs b o)) (cell_added 𝓛 b xs (pos 0) o (n * 8 + o) (ap (λ (j : ℕ). j * 8 + o) asked.1)) $ fjoin ! $
    move ! (1 ∷ []) $ flt_i ! (owner.len * 8) (2 ^ 63) small $ fjoin ! $ fjoin ! $ rewrite ! 0 (λ (r : Ptr). ‵ (block_owns r owner.len zs)) (sym (sym asked.0 ∙ there)) refl $
    move ! (1 ∷ 0 ∷ []) $ fjoin ! $ move ! (1 ∷ 0 ∷ []) $
    -- the block has the new cell
    closes ! tt block.the_row new vs rb ro $
    -- the end
    returns ! (look_at ! 0 refl) $ free_all ! refl $
    -- [the name; the borrow; the token]
    keep ! (0 ∷ 1 ∷ 2 ∷ []) $
    feq_i ! (List Val) (mut_vals args.0) (mut_vals args.0) refl $ fjoin3 ! $ nothing ! $ nothing ! $ fjoin ! $ nothing ! $ fjoin ! $ move ! (1 ∷ 0 ∷ []) $ fjoin ! $
    -- [what is left; the token]
    use0 𝓛 (raw (fact 𝓤 ((new.at ≡ owner.at) × (new.len ≡ owner.len) × (new.cells ≡ zs)))) (fact_i 𝓤 _ (emp 𝓤) (refl, refl, refl)) $
    feq_i ! (List Val) (vunit ∷ []) (vunit ∷ []) refl $ move ! (3 ∷ []) $ nothing ! $ move ! (1 ∷ 0 ∷ []) $ join ! $ move ! (0 ∷ 3 ∷ 1 ∷ 2 ∷ []) $
    by ! (leaves 𝓛 f.ended stayed promised entry vunit tt (new, (tt, (tt, tt))) (tt, (tt, (tt, tt))))))))))
