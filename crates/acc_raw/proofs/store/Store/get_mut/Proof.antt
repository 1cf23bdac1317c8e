-- `get_mut` lends what one node holds, to be changed. Assumes `Logic`.
use Rattle.std.proofs.Common.{◌≡◌, [], ◌∷◌, refl, ap, Some, slice_get}
use base.Fml.{ftrue, flft}
use contract.BorrowLft.{◌⊑◌}
use contract.Monad.{fact}
use contract.Running.{tables}
use denote.Exit.{yes, no}
use denote.Param.{param, layouts}
use denote.RawPtr.{ptr_val}
use denote.Ref.{MutRef, mut_vals, mut_Tells}
use denote.Signature.{plain}
use denote.Steps.{heard}
use denote.Triple.Walked.{Stays, stay_dropped, walk_of, Goes-spent_ref}
use mir.MapTy.{inst_fn}
use mir.Syntax.{a_type, named}
use mir.Val.{vptr}
use types.ByLocal.{alloc_all, pass_all, free_all, look_at, get, get_in, through, sets, sets_last, is, env}
use types.Kit.{‵, raw, ◌⊛◌, at_ret, ◌$◌, ◌∵◌, !, qed, by, keep, move, drop, split, split3, join}
use types.Part.{whole, sub}
use types.Run.{stop, fld, of_opd, addr, first, blocks, exec, returns, enter}
use Rattle.std.proofs.raw_atomic.Walks.{proved, leaves}
use Rattle.std_alloc.proofs.RcSteps.{word-Good}
use Rattle.std_alloc.proofs.VecSteps.Shapes.{after}
use Rattle.acc_raw.specs.contracts.link.Place as place
use Rattle.acc_raw.specs.contracts.nth.Nth as nth
use Rattle.acc_raw.specs.contracts.store.Store as store
use Rattle.acc_raw.specs.contracts.store.Store.get_mut as f
use Rattle.acc_raw.specs.contracts.store.Store.get_mut.Key as key
use Rattle.acc_raw.specs.inner.Links.{IsAt}
use Rattle.acc_raw.proofs.Lending.{lends_one}
use Rattle.acc_raw.proofs.Reaching.{spends, states, both_live, parts_one, opens_store}
use Rattle.acc_raw.proofs.Words.{place_vals, place_tells, place_goes, nth_vals, nth_tells, nth_goes}
use Rattle.acc_raw.proofs.store.Store.get_mut.Code as code
use Rattle.acc_raw.proofs.store.Store.get_mut.Statement.{statement}

pub get_mut_spec : {M : Type 1} → statement M
get_mut_spec 𝓤 𝓛 𝓜 𝓡 wired T L =
    let X = param 0 T in let S = store.the_row X in let ended = f.ended T in let clauses = f.clauses T 𝓛 𝓜.mem 𝓡.returns in
    let given = layouts (a_type ∷ []) (T, tt) in let body = inst_fn given code.function in let 𝓣 = tables 𝓤 𝓛.H 𝓜 𝓡 𝓡.env in
    let left : Stays ended.signature.params ended.kept = (stay_dropped _ no, (stay_dropped _ yes, (stay_dropped _ yes, tt))) in
    proved 𝓛 ended left clauses 𝓜 𝓡 (Goes-spent_ref 𝓛 2 (0 ∷ []) tt (plain (λ _. S)), (place_goes 𝓛 2, (nth_goes 𝓛 2, tt)))
    (key.name given) body (code.unfolded 𝓤 𝓛.H 𝓜 𝓡 wired (T, tt))
    (λ κs. (mut_vals, (place_vals, (nth_vals, tt)))) (λ κs. (mut_Tells (named 0) κs.0 S, (place_tells, (nth_tells, tt)))) (λ κs qs bounds a g are.
    let r = a.0 in let at = a.1.0 in let i = a.1.1.0 in let κ = κs.0 in let κT = κs.1.0 in let q = qs.0 in let qT = qs.1.0 in
    let y : (walk_of 𝓛 ended left clauses).Ghost = ((κs, qs, bounds, a, (mut_vals r, (place_vals at, (nth_vals i, tt)))), g) in
    qed 𝓛 (((‵ (flft κ q) ⊛ ‵ (flft κT qT) ⊛ ‵ ftrue) ⊛ ‵ ((MutRef (named 0) κ S).own_val r (mut_vals r)) ⊛ ‵ (place.the_row.own_val at (place_vals at)) ⊛ ‵ (nth.the_row.own_val i (nth_vals i)) ⊛ ‵ ftrue)
    ∷ (raw (fact 𝓤 (κT ⊑ T.lives)) ⊛ raw (fact 𝓤 (IsAt r.now.links i.n at.ptr))) ∷ []) ∵
    move ! (1 ∷ []) $ split ! $ drop ! $ heard ! _ (λ asked. let l = asked.0 in
    split ! $ split3 ! $ move ! (3 ∷ []) $ split ! $ keep ! (0 ∷ 2 ∷ 3 ∷ []) $
    enter ! _ _ _ _ _ $ alloc_all ! (λ m. let here = env body.locals m in pass_all ! refl ((tt, tt), (word-Good [] at.ptr, ((tt, tt), tt))) $
    opens_store X ! tt r (λ us. parts_one X ! r.now.links i.n at.ptr l asked.1 (λ b o there. lends_one X r i.n at.ptr b o ! tt κ q there l asked.1 us (λ δ.
    first ! $ blocks ! $ sets ! (is ! (of_opd ! (get_in ! (fld ! refl (stop !)) (sub ! 0 refl (whole !)))) (ap ptr_val there)) refl (tt, tt) $
    sets_last ! (addr ! (through ! refl (stop !))) refl (tt, tt) $
    exec ! 𝓣.C 𝓣.Λ here (after 1 body.body) (at_ret here ((walk_of 𝓛 ended left clauses).post y)) $ sets ! (of_opd ! (get ! refl)) refl (tt, tt) $
    returns ! (look_at ! 0 refl) $ free_all ! refl $ keep ! (0 ∷ 1 ∷ 2 ∷ 3 ∷ []) $
    -- [the loan; its token; what the store ends as; the token of T]
    move ! (1 ∷ 3 ∷ []) $ both_live ! κ κT q qT $
    states ! (slice_get r.now.links i.n ≡ Some (at.ptr, l)) asked.1 $ move ! (3 ∷ 0 ∷ []) $ join ! $ spends ! 3 $ move ! (2 ∷ 0 ∷ 3 ∷ 1 ∷ []) $
    by ! (leaves 𝓛 ended left clauses y (vptr b o) (record { ref_ptr = (b, o); ghost_name = δ; now = l }) (tt, (tt, (tt, tt))) (tt, (tt, (tt, tt))))))))))
