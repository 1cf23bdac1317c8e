-- What a store owns and lends of one node. Assumes `Logic`.
use Rattle.std.proofs.Common.{◌≡◌, ℕ, zero, suc, refl, subst, List, [], ◌∷◌, slice_get, slice_set, Some}
use base.Fml.{Fml, Lft}
use base.Logic.{ent, emp, sep, via, fst∗, snd∗, id⊢}
use denote.RattleType.{RattleType}
use denote.RawPtr.{Ptr}
use denote.Shadow.{makes_shadow}
use denote.Struct.Lending.{lent_at}
use mir.Val.{Val, vstruct, vcons, vnil}
use seplogic.Ra.Ura.{Ura}
use types.Kit.{‵, ◌⊛◌, ◌$◌, ◌∵◌, !, qed, move, use1, use2, split, fsplit, fjoin, done}
use types.Logic.{Logic, sem}
use Rattle.std_alloc.specs.Box.Ownership.{box_owns}
use Rattle.acc_raw.specs.contracts.store.Store as store
use Rattle.acc_raw.specs.inner.Links.{Lying, without, with_at}
use Rattle.acc_raw.specs.inner.Ownership.{frees, links_own, links_lent}

-- no node is the i-th of none, and the first is the first
none_there : {L : Type 0} (i : ℕ) (n : Lying L) → slice_get {X = Lying L} [] i ≡ Some n → ⊥
none_there i n e = cc

first_is : {L : Type 0} (q : Lying L) (qs : List (Lying L)) (n : Lying L) → slice_get (q ∷ qs) 0 ≡ Some n → q ≡ n
first_is q qs n e = cc

-- a store's machine value
abbrev pub no_bytes : Val
no_bytes = vstruct (vcons (vstruct vnil) vnil)

module _ (R : RattleType) where
  abbrev pub none : (store.the_row R).Denot
  none = record { mark = record {}; links = [] }

  -- ownership of one node, and the right to free it
  abbrev pub One : Ptr → R.Denot → Fml
  One = box_owns frees R

  module _ {M : Type 1} {𝓤 : Ura M} (𝓛 : Logic 𝓤) where
    -- what a `&` to the store has of the i-th node
    pub one_lent : (κ : Lft) (ps : List (Lying R.Denot)) (i : ℕ) (n : Lying R.Denot) → slice_get ps i ≡ Some n
        → ent 𝓤 (sem 𝓛 (links_lent R ps κ)) (sem 𝓛 (lent_at R n.0 n.1 κ))
    one_lent κ [] i n e = absurd (none_there i n e)
    one_lent κ (q ∷ qs) zero n e =
        let Has = λ (r : Lying R.Denot). ent 𝓤 (sem 𝓛 (links_lent R (q ∷ qs) κ)) (sem 𝓛 (lent_at R r.0 r.1 κ)) in
        subst Has (first_is q qs n e) (fst∗ 𝓤 _ (sem 𝓛 (links_lent R qs κ)))
    one_lent κ (q ∷ qs) (suc i) n e = via 𝓤 _ (snd∗ 𝓤 (sem 𝓛 (lent_at R q.0 q.1 κ)) _) (one_lent κ qs i n e)

    -- the i-th node leaves the others
    pub one_out : (ps : List (Lying R.Denot)) (i : ℕ) (n : Lying R.Denot) → slice_get ps i ≡ Some n
        → ent 𝓤 (sem 𝓛 (links_own R ps)) (sep 𝓤 (sem 𝓛 (One n.0 n.1)) (sem 𝓛 (links_own R (without ps i))))
    one_out [] i n e = absurd (none_there i n e)
    one_out (q ∷ qs) zero n e =
        let Out = λ (r : Lying R.Denot). ent 𝓤 (sem 𝓛 (links_own R (q ∷ qs))) (sep 𝓤 (sem 𝓛 (One r.0 r.1)) (sem 𝓛 (links_own R qs))) in
        subst Out (first_is q qs n e) (id⊢ 𝓤 _)
    one_out (q ∷ qs) (suc i) n e =
        qed 𝓛 (‵ (links_own R (q ∷ qs)) ∷ []) ∵ fsplit ! $ move ! (1 ∷ []) $
        use1 𝓛 (‵ (One n.0 n.1) ⊛ ‵ (links_own R (without qs i))) (one_out qs i n e) $ split ! $
        -- [the node; the others behind q; q]
        move ! (2 ∷ 1 ∷ []) $ fjoin ! $ move ! (1 ∷ []) $ done !

    -- a node comes before the i-th
    pub one_in : (ps : List (Lying R.Denot)) (i : ℕ) (n : Lying R.Denot)
        → ent 𝓤 (sep 𝓤 (sem 𝓛 (One n.0 n.1)) (sem 𝓛 (links_own R ps))) (sem 𝓛 (links_own R (with_at ps i n)))
    one_in [] zero n = id⊢ 𝓤 _
    one_in [] (suc i) n = id⊢ 𝓤 _
    one_in (q ∷ qs) zero n = id⊢ 𝓤 _
    one_in (q ∷ qs) (suc i) n =
        qed 𝓛 (‵ (One n.0 n.1) ∷ ‵ (links_own R (q ∷ qs)) ∷ []) ∵ move ! (1 ∷ []) $ fsplit ! $
        -- [q; the others behind it; the node]
        move ! (2 ∷ 1 ∷ []) $ use2 𝓛 (‵ (links_own R (with_at qs i n))) (one_in qs i n) $ move ! (1 ∷ []) $ fjoin ! $ done !

    -- the i-th node comes back, with another value
    pub one_back : (ps : List (Lying R.Denot)) (i : ℕ) (n : Lying R.Denot) (l : R.Denot) → slice_get ps i ≡ Some n
        → ent 𝓤 (sep 𝓤 (sem 𝓛 (One n.0 l)) (sem 𝓛 (links_own R (without ps i)))) (sem 𝓛 (links_own R (slice_set ps i (n.0, l))))
    one_back [] i n l e = absurd (none_there i n e)
    one_back (q ∷ qs) zero n l e = id⊢ 𝓤 _
    one_back (q ∷ qs) (suc i) n l e =
        qed 𝓛 (‵ (One n.0 l) ∷ ‵ (links_own R (without (q ∷ qs) (suc i))) ∷ []) ∵ move ! (1 ∷ []) $ fsplit ! $
        move ! (2 ∷ 1 ∷ []) $ use2 𝓛 (‵ (links_own R (slice_set qs i (n.0, l)))) (one_back qs i n l e) $ move ! (1 ∷ []) $ fjoin ! $ done !

    -- a store of none is had for nothing: its one field takes no bytes
    pub none_owned : ent 𝓤 (emp 𝓤) (sem 𝓛 ((store.the_row R).own_val none (no_bytes ∷ [])))
    none_owned = makes_shadow 𝓛 ((store.the_row R).own_val none (no_bytes ∷ [])) ((λ us. (tt, ((λ vs. (tt, tt)), tt))), tt) (((vstruct vnil ∷ [], tt), (refl, ((tt, (refl, tt)), tt))), tt)
