-- How the code of a store reaches a node, as steps of a walk. Assumes `Logic`.
use Rattle.std.proofs.Common.{◌≡◌, ℕ, zero, suc, List, [], ◌∷◌, refl, Some, slice_get}
use base.Fml.{Lft, Share, Fml, ftrue, fsep, flft, fobs, fauth, fobor}
use base.Fraction.{full_share}
use base.Logic.{emp, never, fst∗}
use base.Stored.{Gv}
use contract.Monad.{fact, fact_i}
use denote.Memory.{lone, cell_at, mem, shared_of}
use denote.Opens.{hide}
use denote.RattleType.{RattleType}
use denote.RawPtr.{Ptr, block_ptr, null_ptr, in_a_block}
use denote.Ref.{MutBor, MutRef, ShrRef, mut_vals}
use denote.Steps.{nothing, opens, closes}
use denote.Struct.Lending.{lent_at}
use denote.Struct.Owning.{shape}
use denote.Struct.Struct.{Struct}
use mir.Raw.{raw as bare}
use mir.Syntax.{named}
use mir.Val.{Val, vptr}
use seplogic.Ra.Ura.{Ura}
use types.Kit.{Item, Goal, Soaks, Seq, Step, step, ‵, raw, ◌⊛◌, ◌$◌, move, drop, use0, use1, split, join, fsplit, fsplit3, fjoin, fjoin3, feq_i}
use types.Logic.{Logic, sem}
use types.SemTy.{Body}
use Rattle.acc_raw.specs.contracts.store.Store as store
use Rattle.acc_raw.specs.inner.Lends.{with_links}
use Rattle.acc_raw.specs.inner.Links.{Lying, without}
use Rattle.acc_raw.specs.inner.Ownership.{frees, links_own, links_lent}
use Rattle.acc_raw.proofs.Owned.{One, one_lent, one_out}

-- what is left of n parameters that are used up
abbrev pub spent : ℕ → Fml
spent zero = ftrue
spent (suc n) = fsep ftrue (spent n)

module _ {M : Type 1} {𝓤 : Ura M} {𝓛 : Logic 𝓤} {K : Type 0} {Γ : List (Item 𝓤)} {G : Goal 𝓤 𝓛.H} where
  pub spends : K → (n : ℕ) → Step K 𝓛 (‵ (spent n) ∷ Γ) G Γ G
  spends t zero = nothing t
  spends t (suc n) = step (λ go. spends t n $ nothing t $ fjoin t $ go)

  -- a fact for the clauses
  pub states : K → (A : Type 0) → A → Step K 𝓛 (raw (fact 𝓤 A) ∷ Γ) G Γ G
  states t A a = use0 𝓛 (raw (fact 𝓤 A)) (fact_i 𝓤 A (emp 𝓤) a)

  -- the tokens of two lifetimes, as a call takes and gives them
  pub both_live : K → (κ κ' : Lft) (q q' : Share) → Step K 𝓛 ((‵ (flft κ q) ⊛ ‵ (flft κ' q') ⊛ ‵ ftrue) ∷ Γ) G (‵ (flft κ q) ∷ ‵ (flft κ' q') ∷ Γ) G
  both_live t κ κ' q q' = step (λ go. nothing t $ move t (2 ∷ 0 ∷ []) $ join t $ move t (1 ∷ 0 ∷ []) $ join t $ go)

  -- a node that is owned lies at a block
  pub lies_there : K → (R : RattleType) (p : Ptr) (l : R.Denot) → ((b o : ℕ) → p ≡ block_ptr b o → Seq K 𝓛 (‵ (One R (block_ptr b o) l) ∷ Γ) G) → Seq K 𝓛 (‵ (One R p l) ∷ Γ) G
  lies_there t R p l go = in_a_block t p (λ r. One R r l) (fst∗ 𝓤 (never 𝓤) (sem 𝓛 (frees (bare (lone R.mir)) null_ptr))) go

module _ (R : RattleType) where
  abbrev S : RattleType
  S = store.the_row R

  -- a store behind a `&mut` without its nodes: its one field, which takes no bytes, and where it lies
  abbrev pub Shell : S.Denot → List Val → ℕ × ℕ → Fml
  Shell s us at = fsep ((Struct (shape (store.the_type R))).own_val (tt, tt) us) (cell_at full_share S.mir us at.0 at.1)

  module _ {M : Type 1} {𝓤 : Ura M} {𝓛 : Logic 𝓤} {K : Type 0} {Γ : List (Item 𝓤)} {G : Goal 𝓤 𝓛.H} where
    -- at the block of the i-th node, which a `&` to the store lends
    pub sees_one : K → (κ : Lft) (ps : List (Lying R.Denot)) (i : ℕ) (p : Ptr) (l : R.Denot) → slice_get ps i ≡ Some (p, l)
        → ((b o : ℕ) → p ≡ block_ptr b o → Seq K 𝓛 (‵ ((ShrRef (named 0) κ R).own_val (record { ref_ptr = (b, o); now = l }) (vptr b o ∷ [])) ∷ Γ) G)
        → Seq K 𝓛 (‵ (links_lent R ps κ) ∷ Γ) G
    sees_one t κ ps i p l e go =
        use1 𝓛 (‵ (lent_at R p l κ)) (one_lent R 𝓛 κ ps i (p, l) e) $
        in_a_block t p (λ r. lent_at R r l κ) (fst∗ 𝓤 (never 𝓤) (sem 𝓛 (shared_of R l 0 0 κ))) (λ b o there.
        fsplit t $ drop t $ hide t $ feq_i t (List Val) (vptr b o ∷ []) (vptr b o ∷ []) refl $ fjoin t $ go b o there)

    -- the i-th node is taken from the others
    pub parts_one : K → (ps : List (Lying R.Denot)) (i : ℕ) (p : Ptr) (l : R.Denot) → slice_get ps i ≡ Some (p, l)
        → ((b o : ℕ) → p ≡ block_ptr b o → Seq K 𝓛 (‵ (One R (block_ptr b o) l) ∷ ‵ (links_own R (without ps i)) ∷ Γ) G)
        → Seq K 𝓛 (‵ (links_own R ps) ∷ Γ) G
    parts_one t ps i p l e go = use1 𝓛 (‵ (One R p l) ⊛ ‵ (links_own R (without ps i))) (one_out R 𝓛 ps i (p, l) e) $ split t $ lies_there t R p l go

    -- the nodes of a store behind a `&mut`
    pub opens_store : K → Soaks G → (r : MutBor S.Denot) {κ : Lft} {q : Share}
        → ((us : List Val) → Seq K 𝓛 (‵ (links_own R r.now.links) ∷ ‵ (Shell r.now us r.ref_ptr) ∷ ‵ (fobor κ q (Body (mem S) r.ref_ptr.0 r.ref_ptr.1 r.ghost_name))
        ∷ ‵ (fobs r.ghost_name (S.coded.code r.now)) ∷ ‵ (fauth r.ghost_name (S.coded.code r.now)) ∷ Γ) G)
        → Seq K 𝓛 (‵ ((MutRef (named 0) κ S).own_val r (mut_vals r)) ∷ ‵ (flft κ q) ∷ Γ) G
    opens_store t soaks r go =
        fsplit3 t $ drop t $ opens t soaks S {h = r.now} r.ref_ptr.0 r.ref_ptr.1 (λ us. move t (1 ∷ []) $ fsplit t $
        -- [the field; the nodes; the cell; the open borrow]
        move t (0 ∷ 2 ∷ []) $ fjoin t $ move t (1 ∷ []) $ go us)

    -- and other nodes in their place
    pub closes_store : K → Soaks G → (r : MutBor S.Denot) {κ : Lft} {q : Share} {u v : Gv} (new : List (Lying R.Denot)) (us : List Val)
        → Step K 𝓛 (‵ ((MutRef (named 0) κ S).own_val (record r { now = with_links r.now new }) (mut_vals r)) ∷ ‵ (flft κ q) ∷ Γ) G
        (‵ (links_own R new) ∷ ‵ (Shell r.now us r.ref_ptr) ∷ ‵ (fobor κ q (Body (mem S) r.ref_ptr.0 r.ref_ptr.1 r.ghost_name)) ∷ ‵ (fobs r.ghost_name u) ∷ ‵ (fauth r.ghost_name v) ∷ Γ) G
    closes_store t soaks r new us = step (λ go.
        move t (1 ∷ []) $ fsplit t $ move t (0 ∷ 2 ∷ []) $ fjoin t $ move t (1 ∷ []) $ closes t soaks S (with_links r.now new) us r.ref_ptr.0 r.ref_ptr.1 $
        feq_i t (List Val) (mut_vals r) (mut_vals r) refl $ fjoin3 t $ go)
