-- `new` owns no node. Assumes `Logic`.
use Rattle.std.proofs.Common.{◌≡◌, [], ◌∷◌, refl}
use base.Fml.{ftrue, flft}
use denote.Param.{param, layouts}
use denote.Triple.Walked.{walk_of}
use mir.MapTy.{inst_fn}
use mir.Syntax.{a_type}
use types.ByLocal.{alloc_all, pass_all, free_all, look_at, get, sets}
use types.Kit.{‵, raw, ◌⊛◌, ◌$◌, ◌∵◌, !, qed, by, keep, use0, split}
use types.Part.{agg}
use types.Run.{no_more, and_then, returns, enter}
use Rattle.std.proofs.raw_atomic.Walks.{proved, leaves}
use Rattle.acc_raw.specs.contracts.store.Store as store
use Rattle.acc_raw.specs.contracts.store.Store.new as f
use Rattle.acc_raw.specs.contracts.store.Store.new.Key as key
use Rattle.acc_raw.proofs.Owned.{no_bytes, none, none_owned}
use Rattle.acc_raw.proofs.Reaching.{spends, states}
use Rattle.acc_raw.proofs.store.Store.new.Code as code
use Rattle.acc_raw.proofs.store.Store.new.Statement.{statement}

pub new_spec : {M : Type 1} → statement M
new_spec 𝓤 𝓛 𝓜 𝓡 wired T L =
    let X = param 0 T in let clauses = f.clauses T 𝓛 𝓜.mem 𝓡.returns in let given = layouts (a_type ∷ []) (T, tt) in
    proved 𝓛 (f.ended T) tt clauses 𝓜 𝓡 tt (key.name given) (inst_fn given code.function) (code.unfolded 𝓤 𝓛.H 𝓜 𝓡 wired (T, tt)) (λ κs. tt) (λ κs. tt) (λ κs qs bounds a g are.
    let y : (walk_of 𝓛 (f.ended T) tt clauses).Ghost = ((κs, qs, bounds, a, tt), g) in
    qed 𝓛 (((‵ (flft κs.0 qs.0) ⊛ ‵ ftrue) ⊛ ‵ ftrue) ∷ raw ((clauses κs a).requires g) ∷ []) ∵
    split ! $ keep ! (0 ∷ []) $
    enter ! _ _ _ _ _ $ alloc_all ! (λ m.
    pass_all ! refl tt $ sets ! (agg ! (no_more !)) refl (tt, tt) $
    use0 𝓛 (‵ ((store.the_row X).own_val (none X) (no_bytes ∷ []))) (none_owned X 𝓛) $
    sets ! (agg ! (and_then ! (get ! refl) (no_more !))) refl (tt, (tt, tt)) $
    states ! ((none X).links ≡ []) refl $ spends ! 0 $
    returns ! (look_at ! 0 refl) $ free_all ! refl $ keep ! (3 ∷ 0 ∷ 2 ∷ 1 ∷ []) $ by ! (leaves 𝓛 (f.ended T) tt clauses y no_bytes (none X) tt tt)))
