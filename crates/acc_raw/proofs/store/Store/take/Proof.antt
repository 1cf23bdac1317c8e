-- `take` makes a box of one of the nodes. Assumes `Logic`.
use Rattle.std.proofs.Common.{◌≡◌, [], ◌∷◌, refl, sym, ap, ◌∙◌, Some, slice_get}
use base.Fml.{ftrue, flft}
use contract.BorrowLft.{◌⊑◌}
use contract.Monad.{fact}
use contract.Running.{tables}
use denote.Exit.{yes}
use denote.Param.{param, bounded}
use denote.RawPtr.{ptr_val}
use denote.Ref.{MutRef, mut_vals, mut_Tells}
use denote.Signature.{plain}
use denote.Steps.{heard}
use denote.Triple.Call.{calls_at_last}
use denote.Triple.Walked.{Stays, stay_dropped, stay_ref, walk_of, Goes-dropped, Goes-ref}
use mir.MapTy.{inst_fn}
use mir.Syntax.{a_type, dcons, dnil, named}
use types.ByLocal.{alloc_all, pass_all, free_all, look_at, get, get_in, is, sets, lands_last, env}
use types.Kit.{‵, raw, ◌⊛◌, at_ret, ◌$◌, ◌∵◌, !, qed, by, keep, move, split, split3, join, fjoin}
use types.Part.{whole, sub}
use types.Run.{stop, fld, of_opd, and_then, no_more, first, blocks, exec, returns, enter}
use Rattle.core.proofs.atomic.Steps.{fm}
use Rattle.std.proofs.alloc.Global.TheLaws as heap_laws
use Rattle.std.proofs.impls.GlobalAllocator.TheImpl.Met as heap_met
use Rattle.std.proofs.raw_atomic.Walks.{proved, leaves}
use Rattle.std.specs.contracts.alloc.Global as heap
use Rattle.std.specs.contracts.impls.GlobalAllocator.TheImpl.{ghosts, dict}
use Rattle.std_alloc.proofs.RcSteps.{word-Good}
use Rattle.std_alloc.proofs.VecSteps.Shapes.{after}
use Rattle.std_alloc.proofs.boxed.Box.from_raw.Met as from_raw
use Rattle.acc_raw.specs.contracts.link.Place as place
use Rattle.acc_raw.specs.contracts.nth.Nth as nth
use Rattle.acc_raw.specs.contracts.store.Store as store
use Rattle.acc_raw.specs.contracts.store.Store.take as f
use Rattle.acc_raw.specs.contracts.store.Store.take.Key as key
use Rattle.acc_raw.specs.inner.Lends.{with_links}
use Rattle.acc_raw.specs.inner.Links.{IsAt, without}
use Rattle.acc_raw.proofs.Boxes.{Heap, heap_lawful, undropped, handle_goes, FromRaw, at_from_raw, asks_from, gives_from}
use Rattle.acc_raw.proofs.Reaching.{spends, states, both_live, parts_one, opens_store, closes_store}
use Rattle.acc_raw.proofs.Words.{box_typed, heap_vals, heap_tells, place_vals, place_tells, place_goes, nth_vals, nth_tells, nth_goes}
use Rattle.acc_raw.proofs.store.Store.take.Code as code
use Rattle.acc_raw.proofs.store.Store.take.Statement.{statement}

pub take_spec : {M : Type 1} → statement M
take_spec 𝓤 𝓛 𝓜 𝓡 wired T L drops dropped =
    let X = param 0 T in let S = store.the_row X in let Z = heap.the_row in let ended = f.ended T drops in let clauses = f.clauses T drops 𝓛 𝓜.mem 𝓡.returns in let given = bounded (a_type ∷ []) (T, tt) (dcons drops dnil) in
    let body = inst_fn given code.function in let 𝓣 = tables 𝓤 𝓛.H 𝓜 𝓡 𝓡.env in
    let left : Stays ended.signature.params ended.kept = (stay_ref (0 ∷ []) tt (plain (λ _. S)), (stay_dropped _ yes, (stay_dropped _ yes, (stay_dropped _ yes, tt)))) in
    let heap = heap_met.passed 𝓡.env (code.calls-std_heap::GlobalAllocator::allocate 𝓡.env wired) (code.calls-std_heap::GlobalAllocator::deallocate 𝓡.env wired) (code.calls-std_heap::GlobalAllocator::grow 𝓡.env wired) (code.calls-std_heap::GlobalAllocator::shrink 𝓡.env wired) _ 𝓤 𝓛 𝓜 𝓡 in
    let handle = handle_goes 𝓤 𝓛 𝓜 𝓡 (code.calls-acc_raw::Destruct++none::drop 𝓡.env wired) in
    let known = from_raw.met 𝓤 𝓛 𝓜 𝓡 (code.calls-std_alloc::boxed::Box::from_raw 𝓡.env wired) T Heap L heap_lawful ghosts dict undropped heap handle in
    proved 𝓛 ended left clauses 𝓜 𝓡 (
      Goes-ref 𝓛 2 0 tt (plain (λ _. S)),
      (Goes-dropped 𝓛 2 (plain (λ _. Z)) yes (λ κs x w. refl), (place_goes 𝓛 2, (nth_goes 𝓛 2, tt))),
    )
    (key.name given) body (code.unfolded 𝓤 𝓛.H 𝓜 𝓡 wired (T, tt) drops)
    (λ κs. (mut_vals, (heap_vals, (place_vals, (nth_vals, tt))))) (λ κs. (mut_Tells (named 0) κs.0 S, (heap_tells, (place_tells, (nth_tells, tt))))) (λ κs qs bounds a g are.
    let r = a.0 in let alloc = a.1.0 in let at = a.1.1.0 in let i = a.1.1.1.0 in let κ = κs.0 in let κT = κs.1.0 in let q = qs.0 in let qT = qs.1.0 in
    let y : (walk_of 𝓛 ended left clauses).Ghost = ((κs, qs, bounds, a, (mut_vals r, (heap_vals alloc, (place_vals at, (nth_vals i, tt))))), g) in
    let good = (heap_laws.the_row_laws.lawful 𝓛).typed alloc (heap_vals alloc) are.1.0 in
    qed 𝓛 (((‵ (flft κ q) ⊛ ‵ (flft κT qT) ⊛ ‵ ftrue) ⊛ ‵ ((MutRef (named 0) κ S).own_val r (mut_vals r)) ⊛ ‵ (Z.own_val alloc (heap_vals alloc)) ⊛ ‵ (place.the_row.own_val at (place_vals at)) ⊛ ‵ (nth.the_row.own_val i (nth_vals i)) ⊛ ‵ ftrue)
    ∷ (raw (fact 𝓤 (κT ⊑ T.lives)) ⊛ raw (fact 𝓤 (IsAt r.now.links i.n at.ptr))) ∷ []) ∵
    move ! (1 ∷ []) $ split ! $ heard ! _ (λ within. heard ! _ (λ asked. let l = asked.0 in let others = without r.now.links i.n in
    split ! $ split3 ! $ move ! (3 ∷ []) $ split3 ! $ keep ! (0 ∷ 3 ∷ 1 ∷ 4 ∷ []) $
    enter ! _ _ _ _ _ $ alloc_all ! (λ m. let here = env body.locals m in pass_all ! refl ((tt, tt), (good.0, (word-Good [] at.ptr, ((tt, tt), tt)))) $
    opens_store X ! tt r (λ us. parts_one X ! r.now.links i.n at.ptr l asked.1 (λ b o there.
    -- [the node; the others, behind a `&mut`, in five; the handle; the token of T]
    move ! (1 ∷ 2 ∷ 3 ∷ 4 ∷ 5 ∷ []) $ closes_store X ! tt r others us $
    -- [self, with its nodes; its token; the node; the handle; the token of T]
    first ! $ blocks ! $ sets ! (is ! (of_opd ! (get_in ! (fld ! refl (stop !)) (sub ! 0 refl (whole !)))) (ap ptr_val there)) refl (tt, tt) $
    move ! (4 ∷ 1 ∷ 3 ∷ 2 ∷ []) $ asks_from T 𝓛 𝓜.mem 𝓡.returns κT κ qT q ! within alloc b o l $
    calls_at_last ! (fm 𝓛 𝓜 𝓡) (FromRaw T 𝓛 𝓜.mem 𝓡.returns κT κ qT q) known (at_from_raw T 𝓛 𝓜.mem 𝓡.returns κT κ qT q alloc (b, o) l) (and_then ! (get ! refl) (and_then ! (get ! refl) (no_more !))) (λ u.
    gives_from T 𝓛 𝓜.mem 𝓡.returns κT κ qT q ! tt alloc (b, o) l u (λ boxed same told. let typed = (box_typed X 𝓛 boxed (u ∷ []) told).0 in
    lands_last ! refl typed $ exec ! 𝓣.C 𝓣.Λ here (after 1 body.body) (at_ret here ((walk_of 𝓛 ended left clauses).post y)) $ sets ! (of_opd ! (get ! refl)) refl typed $
    returns ! (look_at ! 0 refl) $ free_all ! refl $ keep ! (3 ∷ 2 ∷ 1 ∷ 0 ∷ []) $
    -- [self, with its nodes; the tokens of self and of T; the box]
    spends ! 3 $ move ! (1 ∷ []) $ fjoin ! $ move ! (1 ∷ 2 ∷ []) $ both_live ! κ κT q qT $
    let Value = slice_get r.now.links i.n ≡ Some (at.ptr, boxed.value) in
    states ! (others ≡ others) refl $ states ! Value (asked.1 ∙ ap (λ x. Some (at.ptr, x)) (sym same)) $ join ! $ move ! (1 ∷ 2 ∷ 3 ∷ 0 ∷ []) $
    by ! (leaves 𝓛 ended left clauses y u boxed (with_links r.now others, (tt, (tt, (tt, tt)))) (tt, (tt, (tt, (tt, tt)))))))))))))
