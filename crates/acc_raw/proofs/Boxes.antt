-- A box of `Global` at a call of `Box::into_raw` and of `Box::from_raw`: what each asks and what it gives. Assumes `Logic`.
use Rattle.std.proofs.Common.{◌≡◌, ℕ, List, [], ◌∷◌, refl, ap, ◌∙◌}
use base.Fml.{Lft, Share, ftrue, flft}
use base.Logic.{SProp, id⊢}
use contract.BorrowLft.{◌⊑◌, ⊑_static}
use contract.Monad.{Fun, fact}
use contract.Running.{Running}
use denote.Exit.{no}
use denote.Laws.{Is, shows}
use denote.Param.{arg, layout, param}
use denote.Param.Glue.{Met}
use denote.Param.Laws.{Laws, arg_laws}
use denote.Param.NoDrop.{glues}
use denote.RattleType.{RattleType}
use denote.RawPtr.{Ptr, RawPtr, block_ptr, ptr_val}
use denote.Steps.{nothing, only, peeks, heard}
use denote.Triple.Clauses.{Lasts, lasts}
use denote.Triple.Spec.{triple_of}
use denote.Triple.Statement.{Contract}
use mir.Raw.{raw as bare}
use mir.Syntax.{Dict, impl, tcons, tnil, dnil}
use mir.Val.{Val, vptr}
use prog.Memory.{Memory}
use prog.Model.{Model}
use prog.Routine.{Routine}
use prog.Wired.{Wired}
use seplogic.Ra.Ura.{Ura}
use types.Kit.{Item, Goal, Soaks, Seq, Step, step, ‵, raw, ◌⊛◌, some, later, ◌$◌, move, drop, use1, await, pick, split, split3, join, fjoin, feq_i, feq_l}
use types.Logic.{Logic}
use Rattle.std.proofs.alloc.Global.TheLaws as heap_laws
use Rattle.std.specs.contracts.alloc.Global as heap
use Rattle.std.specs.contracts.impls.GlobalAllocator.TheImpl.{ghosts, dict}
use Rattle.std_alloc.specs.contracts.boxed.Box.from_raw as from_raw
use Rattle.std_alloc.specs.contracts.boxed.Box.into_raw as into_raw
use Rattle.acc_raw.proofs.Destruct++none.drop.Code as none
use Rattle.acc_raw.proofs.Owned.{One}
use Rattle.acc_raw.proofs.Reaching.{both_live, lies_there, states}
use Rattle.acc_raw.proofs.Words.{Boxed, box_vals, heap_vals}

-- `Global` as a call names it
abbrev pub Heap : RattleType
Heap = arg (bare (layout heap.the_row)) no heap.the_row

abbrev pub heap_lawful : Laws Heap
heap_lawful = arg_laws (bare (layout heap.the_row)) no heap.the_row heap_laws.the_row_laws refl

-- its handle is let go without any code
abbrev pub undropped : Dict
undropped = impl ("acc_raw::Destruct++none::drop" ∷ []) (tcons (layout Heap) tnil) dnil

pub handle_goes : {M : Type 1} (𝓤 : Ura M) (𝓛 : Logic 𝓤) (𝓜 : Model 𝓤 𝓛.H) (𝓡 : Running 𝓤 𝓛.H 𝓜) → Wired 𝓡.env none.code → Met 𝓛 𝓜 𝓡 𝓡.env Heap undropped
unfolding none.code
handle_goes 𝓤 𝓛 𝓜 𝓡 wired = glues "acc_raw::Destruct++none::drop" 𝓡.env wired Heap heap_lawful _ 𝓤 𝓛 𝓜 𝓡

module _ (T : RattleType) where
  abbrev X : RattleType
  X = param 0 T

  abbrev B : RattleType
  B = Boxed X

-- at a type, a model, and two lifetimes with the shares of their tokens: that of the type, and that of the handle
module _ (T : RattleType) {M : Type 1} {𝓤 : Ura M} (𝓛 : Logic 𝓤) (in_memory : Memory → SProp 𝓤) (run : Routine → Fun 𝓤) (κ κ' : Lft) (q q' : Share) where
  abbrev pub IntoRaw : Dict → Contract 𝓤
  IntoRaw drops = triple_of 𝓛 (into_raw.signature T Heap ghosts dict undropped drops) (into_raw.spec T Heap ghosts dict undropped drops 𝓛 in_memory run)

  abbrev pub FromRaw : Contract 𝓤
  FromRaw = triple_of 𝓛 (from_raw.signature T Heap ghosts dict undropped) (from_raw.spec T Heap ghosts dict undropped 𝓛 in_memory run)

  abbrev pub at_into_raw : (drops : Dict) → (B T).Denot → (IntoRaw drops).Ghost
  at_into_raw drops b = (((κ, (κ', tt)), (q, (q', tt)), tt, (b, tt), (box_vals (X T) b, tt)), tt)

  abbrev pub at_from_raw : heap.the_row.Denot → ℕ × ℕ → T.Denot → FromRaw.Ghost
  at_from_raw a at x = (((κ, (κ', tt)), (q, (q', tt)), tt, (a, (block_ptr at.0 at.1, tt)), (heap_vals a, (vptr at.0 at.1 ∷ [], tt))), x)

  module _ {K : Type 0} {Γ : List (Item 𝓤)} {G : Goal 𝓤 𝓛.H} where
    -- `into_raw` asks for a box
    pub asks_into : K → κ ⊑ T.lives → (drops : Dict) (b : (B T).Denot)
        → Step K 𝓛 (raw ((IntoRaw drops).pre (at_into_raw drops b)) ∷ Γ) G (‵ (flft κ q) ∷ ‵ (flft κ' q') ∷ ‵ ((B T).own_val b (box_vals (X T) b)) ∷ Γ) G
    asks_into t within drops b = step (λ go.
        both_live t κ κ' q q' $ nothing t $ move t (2 ∷ 0 ∷ []) $ fjoin t $ move t (1 ∷ 0 ∷ []) $ join t $
        nothing t $ states t (κ' ⊑ heap.the_row.lives) (⊑_static κ') $ join t $ states t (κ ⊑ T.lives) within $ join t $ move t (1 ∷ 0 ∷ []) $ join t $
        use1 𝓛 (raw ((IntoRaw drops).pre (at_into_raw drops b))) (id⊢ 𝓤 _) $ go)

    -- and gives where its value lies, and what it owned there
    pub gives_into : K → Soaks G → (drops : Dict) (b : (B T).Denot) (u : Val)
        → ((c o : ℕ) → u ≡ vptr c o → Seq K 𝓛 (‵ (One (X T) (block_ptr c o) b.value) ∷ ‵ (flft κ q) ∷ ‵ (flft κ' q') ∷ Γ) G)
        → Seq K 𝓛 (raw ((IntoRaw drops).post (at_into_raw drops b) u) ∷ Γ) G
    gives_into t soaks drops b u go =
        let Ended = into_raw.ended T Heap ghosts dict undropped drops in
        let y = at_into_raw drops b in
        use1 𝓛 (later (some (λ (p : Ptr). ((‵ (flft κ q) ⊛ ‵ (flft κ' q') ⊛ ‵ ftrue) ⊛ ‵ (RawPtr.own_val p (u ∷ []))) ⊛
        some (λ (ws : Lasts Ended y.0.0 y.0.3). ‵ (lasts Ended y.0.0 y.0.3 ws) ⊛ ‵ (One (X T) p b.value))))) (id⊢ 𝓤 _) $
        await t soaks $ pick t (λ p. split t $ move t (1 ∷ []) $ pick t (λ ws. split t $ drop t $ lies_there t (X T) p b.value (λ c o there.
        -- [what is owned; the tokens with the pointer]
        move t (1 ∷ []) $ split t $ move t (1 ∷ []) $ feq_l t (λ is. split3 t $ move t (2 ∷ []) $ drop t $ move t (2 ∷ []) $
        go c o (ap only is ∙ ap ptr_val there)))))

    -- `from_raw` asks for what a box owns
    pub asks_from : K → κ ⊑ T.lives → (a : heap.the_row.Denot) (c o : ℕ) (x : T.Denot)
        → Step K 𝓛 (raw (FromRaw.pre (at_from_raw a (c, o) x)) ∷ Γ) G
        (‵ (flft κ q) ∷ ‵ (flft κ' q') ∷ ‵ (heap.the_row.own_val a (heap_vals a)) ∷ ‵ (One (X T) (block_ptr c o) x) ∷ Γ) G
    asks_from t within a c o x = step (λ go.
        both_live t κ κ' q q' $ nothing t $ feq_i t (List Val) (vptr c o ∷ []) (vptr c o ∷ []) refl $ fjoin t $ move t (2 ∷ 0 ∷ []) $ fjoin t $ move t (1 ∷ 0 ∷ []) $ join t $
        move t (1 ∷ []) $ states t (κ' ⊑ heap.the_row.lives) (⊑_static κ') $ join t $ states t (κ ⊑ T.lives) within $ join t $ move t (1 ∷ 0 ∷ []) $ join t $
        use1 𝓛 (raw (FromRaw.pre (at_from_raw a (c, o) x))) (id⊢ 𝓤 _) $ go)

    -- and gives the box
    pub gives_from : K → Soaks G → (a : heap.the_row.Denot) (at : ℕ × ℕ) (x : T.Denot) (u : Val)
        → ((b : (B T).Denot) → b.value ≡ x → Is (B T) b (u ∷ []) → Seq K 𝓛 (‵ ((B T).own_val b (u ∷ [])) ∷ ‵ (flft κ q) ∷ ‵ (flft κ' q') ∷ Γ) G)
        → Seq K 𝓛 (raw (FromRaw.post (at_from_raw a at x) u) ∷ Γ) G
    gives_from t soaks a at x u go =
        let Ended = from_raw.ended T Heap ghosts dict undropped in
        let y = at_from_raw a at x in
        use1 𝓛 (later (some (λ (b : (B T).Denot). ((‵ (flft κ q) ⊛ ‵ (flft κ' q') ⊛ ‵ ftrue) ⊛ ‵ ((B T).own_val b (u ∷ []))) ⊛
        some (λ (ws : Lasts Ended y.0.0 y.0.3). ‵ (lasts Ended y.0.0 y.0.3 ws) ⊛ raw (fact 𝓤 (b.value ≡ x)) ⊛ raw (fact 𝓤 (b.alloc ≡ a)))))) (id⊢ 𝓤 _) $
        await t soaks $ pick t (λ b. split t $ move t (1 ∷ []) $ pick t (λ ws. split3 t $ drop t $ heard t _ (λ holds. drop t $
        split t $ move t (1 ∷ []) $ peeks t (B T) (Is (B T)) (shows 𝓛 (B T)) b (u ∷ []) (λ is. move t (1 ∷ []) $ split3 t $
        -- [the tokens; nothing; the box]
        move t (2 ∷ []) $ drop t $ move t (2 ∷ []) $ go b holds is))))
