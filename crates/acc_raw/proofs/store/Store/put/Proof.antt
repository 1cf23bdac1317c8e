-- `put` takes a box apart, and what it owned comes among the nodes. Assumes `Logic`.
use Rattle.std.proofs.Common.{◌≡◌, [], ◌∷◌, refl}
use base.Fml.{ftrue, flft}
use contract.BorrowLft.{◌⊑◌}
use contract.Monad.{fact}
use denote.Exit.{yes, no}
use denote.Param.{param, bounded}
use denote.RawPtr.{block_ptr}
use denote.Ref.{MutRef, mut_vals, mut_Tells}
use denote.Signature.{plain}
use denote.Steps.{heard}
use denote.Triple.Call.{calls_at}
use denote.Triple.Walked.{Stays, stay_dropped, stay_ref, walk_of, Goes-ref}
use mir.MapTy.{inst_fn}
use mir.Syntax.{a_type, dcons, dnil, named}
use types.ByLocal.{alloc_all, pass_all, free_all, look_at, get, sets, lands_as}
use types.Kit.{‵, raw, ◌⊛◌, ◌$◌, ◌∵◌, !, qed, by, keep, drop, move, use2, split, split3, fjoin}
use types.Part.{agg}
use types.Run.{of_opd, and_then, no_more, returns, enter}
use Rattle.core.proofs.alloc.Calls.{Goes-blank}
use Rattle.core.proofs.atomic.Steps.{fm}
use Rattle.std.proofs.impls.GlobalAllocator.TheImpl.Met as heap_met
use Rattle.std.proofs.raw_atomic.Walks.{proved, leaves}
use Rattle.std.specs.contracts.impls.GlobalAllocator.TheImpl.{ghosts, dict}
use Rattle.std_alloc.proofs.RcSteps.{word, word-Good}
use Rattle.std_alloc.proofs.boxed.Box.into_raw.Met as into_raw
use Rattle.std_collections.proofs.TreeMemory.Owned.{word_made}
use Rattle.acc_raw.specs.contracts.nth.Nth as nth
use Rattle.acc_raw.specs.contracts.store.Store as store
use Rattle.acc_raw.specs.contracts.store.Store.put as f
use Rattle.acc_raw.specs.contracts.store.Store.put.Key as key
use Rattle.acc_raw.specs.inner.Lends.{with_links}
use Rattle.acc_raw.specs.inner.Links.{with_at}
use Rattle.acc_raw.specs.inner.Ownership.{links_own}
use Rattle.acc_raw.proofs.Boxes.{Heap, heap_lawful, undropped, handle_goes, IntoRaw, at_into_raw, asks_into, gives_into}
use Rattle.acc_raw.proofs.Owned.{one_in}
use Rattle.acc_raw.proofs.Reaching.{spends, states, both_live, opens_store, closes_store}
use Rattle.acc_raw.proofs.Words.{Boxed, box_vals, box_tells, box_typed, nth_vals, nth_tells, nth_goes}
use Rattle.acc_raw.proofs.store.Store.put.Code as code
use Rattle.acc_raw.proofs.store.Store.put.Statement.{statement}

pub put_spec : {M : Type 1} → statement M
put_spec 𝓤 𝓛 𝓜 𝓡 wired T L drops dropped =
    let X = param 0 T in let S = store.the_row X in let B = Boxed X in let ended = f.ended T drops in let clauses = f.clauses T drops 𝓛 𝓜.mem 𝓡.returns in let at = bounded (a_type ∷ []) (T, tt) (dcons drops dnil) in
    let left : Stays ended.signature.params ended.kept = (stay_ref (0 ∷ []) tt (plain (λ _. S)), (stay_dropped _ no, (stay_dropped _ yes, tt))) in
    let heap = heap_met.passed 𝓡.env (code.calls-std_heap::GlobalAllocator::allocate 𝓡.env wired) (code.calls-std_heap::GlobalAllocator::deallocate 𝓡.env wired) (code.calls-std_heap::GlobalAllocator::grow 𝓡.env wired) (code.calls-std_heap::GlobalAllocator::shrink 𝓡.env wired) _ 𝓤 𝓛 𝓜 𝓡 in
    let handle = handle_goes 𝓤 𝓛 𝓜 𝓡 (code.calls-acc_raw::Destruct++none::drop 𝓡.env wired) in
    let known = into_raw.met 𝓤 𝓛 𝓜 𝓡 (code.calls-std_alloc::boxed::Box::into_raw 𝓡.env wired) T Heap L heap_lawful ghosts dict undropped drops heap handle dropped in
    proved 𝓛 ended left clauses 𝓜 𝓡
    (Goes-ref 𝓛 2 0 tt (plain (λ _. S)), (Goes-blank 𝓛 2 (plain (λ _. B)) no (λ κs x w. tt), (nth_goes 𝓛 2, tt)))
    (key.name at) (inst_fn at code.function) (code.unfolded 𝓤 𝓛.H 𝓜 𝓡 wired (T, tt) drops)
    (λ κs. (mut_vals, (box_vals X, (nth_vals, tt)))) (λ κs. (mut_Tells (named 0) κs.0 S, (box_tells X, (nth_tells, tt)))) (λ κs qs bounds a g are.
    let r = a.0 in let b = a.1.0 in let i = a.1.1.0 in let κ = κs.0 in let κT = κs.1.0 in let q = qs.0 in let qT = qs.1.0 in
    let y : (walk_of 𝓛 ended left clauses).Ghost = ((κs, qs, bounds, a, (mut_vals r, (box_vals X b, (nth_vals i, tt)))), g) in
    let typed = (box_typed X 𝓛 b (box_vals X b) are.1.0).0 in
    qed 𝓛 (((‵ (flft κ q) ⊛ ‵ (flft κT qT) ⊛ ‵ ftrue) ⊛ ‵ ((MutRef (named 0) κ S).own_val r (mut_vals r)) ⊛ ‵ (B.own_val b (box_vals X b)) ⊛ ‵ (nth.the_row.own_val i (nth_vals i)) ⊛ ‵ ftrue)
    ∷ (raw (fact 𝓤 (κT ⊑ T.lives)) ⊛ ‵ ftrue) ∷ []) ∵
    move ! (1 ∷ []) $ split ! $ heard ! _ (λ within. drop ! $ split ! $ split3 ! $ move ! (3 ∷ []) $ split3 ! $ keep ! (4 ∷ 3 ∷ 1 ∷ 0 ∷ []) $
    enter ! _ _ _ _ _ $ alloc_all ! (λ l. pass_all ! refl ((tt, tt), (typed, ((tt, tt), tt))) $
    sets ! (of_opd ! (get ! refl)) refl typed $
    asks_into T 𝓛 𝓜.mem 𝓡.returns κT κ qT q ! within drops b $
    calls_at ! (fm 𝓛 𝓜 𝓡) (IntoRaw T 𝓛 𝓜.mem 𝓡.returns κT κ qT q drops) known (at_into_raw T 𝓛 𝓜.mem 𝓡.returns κT κ qT q drops b) (and_then ! (get ! refl) (no_more !)) (λ u.
    gives_into T 𝓛 𝓜.mem 𝓡.returns κT κ qT q ! tt drops b u (λ c o is.
    let p = block_ptr c o in let new = with_at r.now.links i.n (p, b.value) in
    lands_as ! is refl (tt, tt) $ sets ! (of_opd ! (get ! refl)) refl (tt, tt) $ sets ! (agg ! (and_then ! (get ! refl) (no_more !))) refl (word-Good [] p) $
    -- [the node; the tokens of T and of self; self]
    move ! (3 ∷ 2 ∷ []) $ opens_store X ! tt r (λ us. move ! (5 ∷ 0 ∷ []) $
    use2 𝓛 (‵ (links_own X new)) (one_in X 𝓛 r.now.links i.n (p, b.value)) $ closes_store X ! tt r new us $
    returns ! (look_at ! 0 refl) $ free_all ! refl $ keep ! (0 ∷ 1 ∷ 2 ∷ []) $
    -- [self, with its nodes; the tokens of self and of T]
    spends ! 2 $ move ! (1 ∷ []) $ fjoin ! $ move ! (1 ∷ 2 ∷ []) $ both_live ! κ κT q qT $ word_made ! p $ states ! (new ≡ new) refl $ move ! (2 ∷ 3 ∷ 1 ∷ 0 ∷ []) $
    by ! (leaves 𝓛 ended left clauses y (word p) (record { ptr = p }) (with_links r.now new, (tt, (tt, tt))) (tt, (tt, (tt, tt))))))))))
