-- `slice_mut` lends the cells, and the block follows them. Assumes `Logic`.
use Rattle.std.proofs.Common.{◌≡◌, ℕ, ◌+◌, ◌-◌, ◌*◌, ◌<◌, ◌^◌, List, [], ◌∷◌, length, drop, refl, sym, ap, subst, ◌∙◌}
use Rattle.std.specs.Prelude.{ℤ}
use lib.Seq.{take_at}
use seplogic.Ra.Ura.{Ura}
use base.Fraction.{full_share}
use base.Logic.{SProp, ent, sep, never, id⊢, emp}
use base.Fml.{Fml, GName, ftrue, fsep, flft, froom}
use contract.Monad.{fact, fact_i}
use contract.Running.{tables}
use denote.Array.{Array}
use denote.Builtin.{i64, usize}
use denote.Exit.{yes, no}
use denote.Follow.{follows}
use denote.FollowSlice.{Elements, lends_Elements}
use denote.Memory.{mem, cell_at, part_of}
use denote.Plain.{uint_vals, uint_Tells}
use denote.RattleType.{RattleType}
use denote.RawPtr.{Ptr, block_ptr, ptr_val, in_a_block}
use denote.Ref.{MutBor, MutRef, mut_vals, mut_Tells}
use denote.Signature.{plain}
use denote.Slice.{MutSlice, slice_val}
use denote.Steps.{nothing, heard, opens}
use denote.Struct.Laws.{vals, tells}
use denote.Struct.Loose.{loose_lawful}
use denote.Struct.Owning.{shape}
use denote.Struct.Struct.{Struct}
use denote.Triple.Walked.{Stays, walk_of, stay_dropped, Goes-dropped, Goes-spent_ref}
use mir.Syntax.{named, w64}
use mir.Val.{Val, vint, vstruct, vcons, vnil}
use types.ByLocal.{alloc_all, pass_all, free_all, look_at, get, get_in, is, sets, sets_last, env}
use types.Kit.{‵, raw, ◌⊛◌, some, later, at_ret, ◌$◌, ◌∵◌, !, qed, by, move, keep, drop as let_go, use0, use1, split, split3, group, join, rewrite, pick, await, fsplit, fsplit3, fjoin, fjoin3, fpack, flt_i, flt_l}
use types.Logic.{Logic, sem}
use types.Part.{whole, sub, agg}
use types.Run.{stop, fld, of_opd, no_more, and_then, first, blocks, exec, returns, enter}
use types.SemTy.{cells}
use Rattle.std.proofs.raw_atomic.Walks.{proved, leaves}
use Rattle.acc_raw.specs.Blocks.{room_for, block_owns}
use Rattle.acc_raw.specs.inner.Ownership.{frees}
use Rattle.acc_raw.specs.Lends.{with_refill}
use Rattle.acc_raw.specs.declared.block.Block.{Block}
use Rattle.acc_raw.specs.contracts.block.Block as block
use Rattle.acc_raw.specs.contracts.block.Start as start
use Rattle.acc_raw.specs.contracts.block.Block.slice_mut as f
use Rattle.acc_raw.proofs.block.Start.TheLaws.{the_laws, the_loose}
use Rattle.acc_raw.proofs.block.Block.slice_mut.Statement.{statement}
use Rattle.acc_raw.proofs.block.Block.slice_mut.Code as code

-- args block has no bytes of its own
abbrev Bare : RattleType
Bare = Struct (shape block.the_type)

module _ {M : Type 1} {𝓤 : Ura M} (𝓛 : Logic 𝓤) (rb ro : ℕ) (owner : Block) (vs : List Val) (b o : ℕ) where
  -- all but the cells
  abbrev Rest : Fml
  Rest = fsep (fsep (froom (room_for (owner.len - length owner.cells)) b (length owner.cells * 8 + o)) (frees (room_for owner.len) (block_ptr b o))) (fsep (Bare.own_val tt vs) (cell_at full_share block.the_row.mir vs rb ro))

  -- it makes args block again with other cells, as many
  back : owner.at ≡ block_ptr b o → owner.len * 8 < 2 ^ 63 → (ws : List ℤ) → length ws ≡ length owner.cells
      → ent 𝓤 (sep 𝓤 (sem 𝓛 (cells (mem i64) ws b o)) (sem 𝓛 Rest)) (sem 𝓛 ((mem block.the_row).own_at (with_refill owner ws) rb ro))
  unfolding part_of
  back there small ws same =
      let zs : List ℤ = (with_refill owner ws).cells in
      let all : zs ≡ ws = take_at ws (drop (length ws) owner.cells) (length owner.cells) same in
      let long : length zs ≡ length owner.cells = ap length all ∙ same in
      qed 𝓛 (‵ (cells (mem i64) ws b o) ∷ ‵ Rest ∷ []) ∵ rewrite ! 0 (λ (spots : List ℤ). ‵ (cells (mem i64) spots b o)) (sym all) refl $
      move ! (1 ∷ []) $ fsplit3 ! $ fsplit ! $ rewrite ! 0 (λ (k : ℕ). ‵ (froom (room_for (owner.len - k)) b (k * 8 + o))) (sym long) refl $ move ! (4 ∷ 0 ∷ []) $ fjoin ! $
      move ! (1 ∷ []) $ flt_i ! (owner.len * 8) (2 ^ 63) small $ fjoin ! $ fjoin ! $ rewrite ! 0 (λ (p : Ptr). ‵ (block_owns p owner.len zs)) (sym there) refl $ move ! (1 ∷ 0 ∷ []) $ fjoin ! $
      move ! (1 ∷ 0 ∷ []) $ fjoin ! $
      fpack ! (List Val) (λ us. fsep (cell_at full_share block.the_row.mir us rb ro) (block.the_row.own_val (with_refill owner ws) us)) vs $ by ! (id⊢ 𝓤 _)

abbrev stayed : Stays f.ended.signature.params f.ended.kept
stayed = (stay_dropped _ no, (stay_dropped _ yes, (stay_dropped _ yes, tt)))

pub slice_mut_spec : {M : Type 1} → statement M
slice_mut_spec 𝓤 𝓛 𝓜 𝓡 wired =
    let promised = f.clauses 𝓛 𝓜.mem 𝓡.returns in let Walk = walk_of 𝓛 f.ended stayed promised in let table = tables 𝓤 𝓛.H 𝓜 𝓡 𝓡.env in
    let words_of = vals start.the_type the_laws in let well_typed = (loose_lawful start.the_type the_loose 𝓛).typed in
    proved 𝓛 f.ended stayed promised 𝓜 𝓡
    (Goes-spent_ref 𝓛 1 (0 ∷ []) tt (plain (λ _. block.the_row)), (Goes-dropped 𝓛 1 (plain (λ _. start.the_row)) yes (λ κs x w. refl), (Goes-dropped 𝓛 1 (plain (λ _. usize)) yes (λ κs x w. refl), tt)))
    f.Key.name code.function (code.unfolded 𝓤 𝓛.H 𝓜 𝓡 wired)
    (λ κs. (mut_vals, (words_of, (uint_vals w64, tt)))) (λ κs. (mut_Tells (named 0) κs.0 block.the_row, (tells start.the_type the_laws, (uint_Tells w64, tt)))) (λ κs qs bounds args g values.
    let κ = κs.0 in let q = qs.0 in let owner : Block = args.0.now in let rb = args.0.ref_ptr.0 in let ro = args.0.ref_ptr.1 in let γ = args.0.ghost_name in
    let p : Ptr = args.1.0.ptr in let n : ℕ = args.1.1.0 in let xs : List ℤ = owner.cells in
    let entry : Walk.Ghost = ((κs, qs, bounds, args, (mut_vals args.0, (words_of args.1.0, (uint_vals w64 n, tt)))), g) in
    qed 𝓛 (((‵ (flft κ q) ⊛ ‵ ftrue) ⊛ ‵ ((MutRef (named 0) κ block.the_row).own_val args.0 (mut_vals args.0)) ⊛ ‵ (start.the_row.own_val args.1.0 (words_of args.1.0)) ⊛ ‵ (usize.own_val n (uint_vals w64 n)) ⊛ ‵ ftrue)
    ∷ raw (fact 𝓤 ((p ≡ owner.at) × (n ≡ length xs) × (n ≡ owner.len))) ∷ []) ∵
    move ! (1 ∷ []) $ heard ! _ (λ asked. split ! $ split ! $ move ! (2 ∷ []) $ split ! $ keep ! (0 ∷ 2 ∷ []) $ fsplit3 ! $ let_go ! $
    -- [the name; the borrow; the token]
    let fits : n < 2 ^ 64 = values.1.1.0.1 in
    enter ! _ _ _ _ _ $ alloc_all ! (λ spots. pass_all ! refl ((tt, tt), ((well_typed args.1.0 _ values.1.0).0, ((tt, record { fits = fits }), tt))) $
    opens ! tt block.the_row {h = owner} rb ro (λ vs. move ! (1 ∷ []) $ fsplit ! $ move ! (1 ∷ []) $ rewrite ! 0 (λ (r : Ptr). ‵ (block_owns r owner.len xs)) (sym asked.0) refl $
    in_a_block ! p (λ r. block_owns r owner.len xs) (id⊢ 𝓤 (never 𝓤)) (λ b o there. fsplit ! $ fsplit ! $ flt_l ! (λ small. move ! (1 ∷ []) $ fsplit ! $
    -- [the cells; the room; the right to give it back; what is bare; its cell; the open borrow; the name's two sides]
    move ! (1 ∷ 2 ∷ []) $ fjoin ! $ move ! (0 ∷ 2 ∷ 3 ∷ []) $ fjoin3 ! $ first ! $ blocks ! $
    let roomy : length xs < 2 ^ 64 = subst (λ (k : ℕ). k < 2 ^ 64) asked.1 fits in
    let fitting : length xs * 8 < 2 ^ 63 = subst (λ (k : ℕ). k * 8 < 2 ^ 63) (sym asked.2 ∙ asked.1) small in
    let way = back 𝓛 rb ro owner vs b o (sym asked.0 ∙ there) small in
    let Out : GName → SProp 𝓤 = Elements 𝓛 block.the_row i64 (with_refill owner) (named 0) κ q rb ro b o γ xs (roomy, fitting) (sem 𝓛 (Rest 𝓛 rb ro owner vs b o)) way in
    sets_last ! (is ! (agg ! (and_then ! (get_in ! (fld ! refl (stop !)) (sub ! 0 refl (whole !))) (and_then ! (get ! refl) (no_more !))))
    (λ j. vstruct (vcons (ptr_val (there j)) (vcons (vint w64 (asked.1 j)) vnil)))) refl (tt, (tt, (record { fits = roomy }, tt))) $
    exec ! table.C table.Λ (env code.Mir.locals spots) code.Mir.t-2 (at_ret _ (Walk.post entry)) $
    sets ! (of_opd ! (get ! refl)) refl (tt, (tt, (record { fits = roomy }, tt))) $
    move ! (2 ∷ 3 ∷ 4 ∷ 1 ∷ 0 ∷ []) $ group ! 5 $
    use1 𝓛 (later (some (λ (δ : GName). raw (Out δ))))
    (lends_Elements 𝓛 block.the_row i64 (with_refill owner) (named 0) κ q rb ro b o γ xs (roomy, fitting) (sem 𝓛 (Rest 𝓛 rb ro owner vs b o)) way (block.the_row.coded.code owner) (block.the_row.coded.code owner)) $
    await ! tt $ pick ! (λ δ.
    let r : MutBor (List ℤ) = record { ref_ptr = (b, o); ghost_name = δ; now = xs } in
    returns ! (look_at ! 0 refl) $ free_all ! refl $ keep ! (0 ∷ []) $
    use1 𝓛 (‵ ((MutSlice (named 0) κ i64).own_val r (slice_val (b, o) (length xs) ∷ [])) ⊛ ‵ (flft κ q) ⊛ ‵ (follows block.the_row (Array i64 0) γ δ (with_refill owner))) (id⊢ 𝓤 _) $ split3 ! $
    -- [the slice; the token; what the block ends as]
    use0 𝓛 (raw (fact 𝓤 (xs ≡ xs))) (fact_i 𝓤 _ (emp 𝓤) refl) $ move ! (3 ∷ 0 ∷ []) $ join ! $ nothing ! $ move ! (3 ∷ 0 ∷ []) $ join ! $
    nothing ! $ nothing ! $ fjoin ! $ nothing ! $ fjoin ! $ nothing ! $ fjoin ! $ move ! (1 ∷ 0 ∷ 3 ∷ 2 ∷ []) $
    by ! (leaves 𝓛 f.ended stayed promised entry (slice_val (b, o) (length xs)) r (tt, (tt, (tt, tt))) (tt, (tt, (tt, tt)))))))))))
