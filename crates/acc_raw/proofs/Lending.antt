-- One node is lent by a `&mut` to the store. Assumes `Logic`.
use Rattle.std.proofs.Common.{◌≡◌, ℕ, List, [], ◌∷◌, refl, sym, Some, slice_get, slice_set}
use base.Fml.{Lft, Share, Fml, GName, fsep, flft, fobs, fauth, fobor}
use base.Fraction.{full_share}
use base.Logic.{ent, sep, id⊢}
use denote.Follow.{follows, Part, lends_Part}
use denote.Memory.{mem, cell_at, part_of, part_at, lone}
use denote.RattleType.{RattleType}
use denote.RawPtr.{Ptr, block_ptr}
use denote.Ref.{MutBor, MutRef}
use mir.Raw.{raw as bare}
use mir.Syntax.{named}
use mir.Val.{Val, vptr}
use seplogic.Ra.Ura.{Ura}
use types.Kit.{Item, Goal, Soaks, Seq, ‵, raw, ◌⊛◌, some, later, ◌$◌, ◌∵◌, !, qed, move, use1, use2, await, pick, split3, group, rewrite, fsplit, fjoin, fpack, done}
use types.Logic.{Logic, sem}
use types.SemTy.{Body}
use Rattle.acc_raw.specs.contracts.store.Store as store
use Rattle.acc_raw.specs.inner.Lends.{with_links}
use Rattle.acc_raw.specs.inner.Links.{without}
use Rattle.acc_raw.specs.inner.Ownership.{frees, links_own}
use Rattle.acc_raw.proofs.Owned.{One, one_back}
use Rattle.acc_raw.proofs.Reaching.{Shell}

-- a store behind the `&mut` r whose i-th node, at p in the block (b, o), is lent
module _ (R : RattleType) (r : MutBor (store.the_row R).Denot) (i : ℕ) (p : Ptr) (b o : ℕ) where
  abbrev S : RattleType
  S = store.the_row R

  -- what it becomes where that node ends as w
  abbrev pub ends_as : R.Denot → S.Denot
  ends_as w = with_links r.now (slice_set r.now.links i (p, w))

  -- what it keeps: the right to free the block, the other nodes, and its own cell
  abbrev Keeps : List Val → Fml
  Keeps us = fsep (fsep (frees (bare (lone R.mir)) (block_ptr b o)) (links_own R (without r.now.links i))) (Shell R r.now us r.ref_ptr)

  -- with the node it is whole again
  whole_again : {M : Type 1} {𝓤 : Ura M} (𝓛 : Logic 𝓤) → p ≡ block_ptr b o → (l : R.Denot) → slice_get r.now.links i ≡ Some (p, l) → (us : List Val) (w : R.Denot)
      → ent 𝓤 (sep 𝓤 (sem 𝓛 ((mem R).own_at w b o)) (sem 𝓛 (Keeps us))) (sem 𝓛 ((mem S).own_at (ends_as w) r.ref_ptr.0 r.ref_ptr.1))
  unfolding part_of
  whole_again 𝓛 there l was us w =
      let new = ends_as w in
      qed 𝓛 (‵ (part_at R full_share w b o) ∷ ‵ (Keeps us) ∷ []) ∵ move ! (1 ∷ []) $ fsplit ! $ fsplit ! $
      -- [the right to free; the other nodes; the cell; the node]
      move ! (3 ∷ 0 ∷ []) $ fjoin ! $ rewrite ! 0 (λ (at : Ptr). ‵ (One R at w)) (sym there) refl $
      use2 𝓛 (‵ (links_own R new.links)) (one_back R 𝓛 r.now.links i (p, l) w was) $ move ! (1 ∷ []) $ fsplit ! $
      move ! (0 ∷ 2 ∷ []) $ fjoin ! $ move ! (1 ∷ 0 ∷ []) $ fjoin ! $
      fpack ! (List Val) (λ vs. fsep (cell_at full_share S.mir vs r.ref_ptr.0 r.ref_ptr.1) (S.own_val new vs)) us $ done !

  module _ {M : Type 1} {𝓤 : Ura M} {𝓛 : Logic 𝓤} {K : Type 0} {Γ : List (Item 𝓤)} {G : Goal 𝓤 𝓛.H} where
    pub lends_one : K → Soaks G → (κ : Lft) (q : Share) → p ≡ block_ptr b o → (l : R.Denot) → slice_get r.now.links i ≡ Some (p, l) → (us : List Val)
        → ((δ : GName) → Seq K 𝓛 (‵ ((MutRef (named 0) κ R).own_val (record { ref_ptr = (b, o); ghost_name = δ; now = l }) (vptr b o ∷ [])) ∷ ‵ (flft κ q) ∷ ‵ (follows S R r.ghost_name δ ends_as) ∷ Γ) G)
        → Seq K 𝓛 (‵ (One R (block_ptr b o) l) ∷ ‵ (links_own R (without r.now.links i)) ∷ ‵ (Shell R r.now us r.ref_ptr) ∷ ‵ (fobor κ q (Body (mem S) r.ref_ptr.0 r.ref_ptr.1 r.ghost_name))
        ∷ ‵ (fobs r.ghost_name (S.coded.code r.now)) ∷ ‵ (fauth r.ghost_name (S.coded.code r.now)) ∷ Γ) G
    lends_one t soaks κ q there l was us go =
        let kept = sem 𝓛 (Keeps us) in
        let again = whole_again 𝓛 there l was us in
        let code = S.coded.code r.now in
        let Lent = Part 𝓛 S R ends_as (named 0) κ q r.ref_ptr.0 r.ref_ptr.1 b o r.ghost_name kept again in
        let Loan = (MutRef (named 0) κ R).own_val in
        fsplit t $
        -- [what the node holds; the right to free it; the others; the cell; the open borrow, in three]
        move t (1 ∷ 2 ∷ []) $ fjoin t $ move t (0 ∷ 2 ∷ []) $ fjoin t $ move t (2 ∷ 3 ∷ 4 ∷ 1 ∷ 0 ∷ []) $ group t 5 $
        use1 𝓛 (later (some (λ (δ : GName). raw (Lent l δ)))) (lends_Part 𝓛 S R ends_as (named 0) κ q r.ref_ptr.0 r.ref_ptr.1 b o r.ghost_name kept again code code l) $
        await t soaks $ pick t (λ δ.
        use1 𝓛 (‵ (Loan (record { ref_ptr = (b, o); ghost_name = δ; now = l }) (vptr b o ∷ [])) ⊛ ‵ (flft κ q) ⊛ ‵ (follows S R r.ghost_name δ ends_as)) (id⊢ 𝓤 _) $ split3 t $ go δ)
