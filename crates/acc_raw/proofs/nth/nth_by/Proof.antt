-- `nth_by` makes a number that no code holds. Assumes `Logic`.
use Rattle.std.proofs.Common.{◌≡◌, [], ◌∷◌, refl}
use base.Fml.{ftrue, flft}
use denote.Builtin.{RefOf}
use denote.Exit.{yes}
use denote.Param.{param, layouts}
use denote.Ref.{ShrRef, shr_vals, shr_Tells}
use denote.Shadow.{pure_i}
use denote.Signature.{plain}
use denote.Triple.Walked.{Stays, stay_dropped, walk_of, Goes-dropped}
use mir.MapTy.{inst_fn}
use mir.Syntax.{a_type, named}
use mir.Val.{vstruct, vnil}
use types.ByLocal.{alloc_all, pass_all, free_all, look_at, sets}
use types.Kit.{‵, raw, ◌⊛◌, ◌$◌, ◌∵◌, !, qed, by, keep, split}
use types.Part.{agg}
use types.Run.{no_more, returns, enter}
use Rattle.std.proofs.raw_atomic.Walks.{proved, leaves}
use Rattle.acc_raw.specs.contracts.nth.Nth as nth
use Rattle.acc_raw.specs.contracts.nth.nth_by as f
use Rattle.acc_raw.specs.contracts.nth.nth_by.Key as key
use Rattle.acc_raw.proofs.Reaching.{spends, states}
use Rattle.acc_raw.proofs.nth.nth_by.Code as code
use Rattle.acc_raw.proofs.nth.nth_by.Statement.{statement}

pub nth_by_spec : {M : Type 1} → statement M
nth_by_spec 𝓤 𝓛 𝓜 𝓡 wired T L =
    let X = param 0 T in let ended = f.ended T in let clauses = f.clauses T 𝓛 𝓜.mem 𝓡.returns in let given = layouts (a_type ∷ []) (T, tt) in
    let left : Stays ended.signature.params ended.kept = (stay_dropped _ yes, tt) in
    proved 𝓛 ended left clauses 𝓜 𝓡 (Goes-dropped 𝓛 2 (RefOf (0 ∷ []) tt (plain (λ _. X)) (λ _. tt)) yes (λ κs x w. refl), tt)
    (key.name given) (inst_fn given code.function) (code.unfolded 𝓤 𝓛.H 𝓜 𝓡 wired (T, tt)) (λ κs. (shr_vals, tt)) (λ κs. (shr_Tells (named 0) κs.0 X, tt)) (λ κs qs bounds a n are.
    let y : (walk_of 𝓛 ended left clauses).Ghost = ((κs, qs, bounds, a, (shr_vals a.0, tt)), n) in
    qed 𝓛 (((‵ (flft κs.0 qs.0) ⊛ ‵ (flft κs.1.0 qs.1.0) ⊛ ‵ ftrue) ⊛ ‵ ((ShrRef (named 0) κs.0 X).own_val a.0 (shr_vals a.0)) ⊛ ‵ ftrue) ∷ raw ((clauses κs a).requires n) ∷ []) ∵ split ! $ keep ! (0 ∷ []) $
    enter ! _ _ _ _ _ $ alloc_all ! (λ m.
    pass_all ! refl ((tt, tt), tt) $ spends ! 1 $ sets ! (agg ! (no_more !)) refl (tt, tt) $
    pure_i ! (nth.the_row.own_val (record { n = n }) (vstruct vnil ∷ [])) ((λ us. (tt, tt)), tt) ((tt, (refl, tt)), tt) $ states ! (n ≡ n) refl $
    returns ! (look_at ! 0 refl) $ free_all ! refl $ keep ! (3 ∷ 2 ∷ 1 ∷ 0 ∷ []) $
    by ! (leaves 𝓛 ended left clauses y (vstruct vnil) (record { n = n }) (tt, tt) (tt, tt))))
