-- Two parts of a slice of cells are lent at once, while the cells around them wait. Assumes `Logic`.
use Rattle.std.proofs.Common.{◌≡◌, ℕ, ◌+◌, List, [], ◌∷◌, ◌++◌, length, refl, sym, ap, ◌∙◌, arith}
use Rattle.std.specs.Prelude.{ℤ}
use lib.ListN.{length-append}
use seplogic.Ra.Ura.{Ura}
use mir.Syntax.{Lifetime}
use mir.Val.{Val, of_list, vstruct, vcons, vnil}
use base.Logic.{SProp, ent, sep, ex, wand}
use base.Stored.{Gv}
use base.Fml.{Fml, Lft, GName, Share, fsep, fobs, fbor, fres, flft}
use types.Logic.{Logic, sem}
use types.Kit.{‵, ◌⊛◌, some, later, ◌$◌, ◌∵◌, !, qed, by, move, each, assume, drop as let_go, use1, use2, use3, split, split3, pick, rewrite, group, fsplit, fsplit3, fjoin, fjoin3, fpack, feq_l, feq_i, show, await, updating, now, done}
use types.SemTy.{SemTy, Arr, Body, cells}
use types.Follow.{takes_two, followed₂}
use types.Mut.{open_ref}
use denote.Array.{Array}
use denote.Builtin.{i64}
use denote.Follow.{both_by, follows, followed, follows_both}
use denote.FollowSlice.{heres_id, slice_of}
use denote.Memory.{mem}
use denote.Laws.{Is}
use denote.RattleType.{RattleType, Valss}
use denote.Ref.{MutBor}
use denote.Slice.{MutSlice, Room, slice_val, mut_slice_vals, mut_slice_Tells}
use denote.Steps.{nothing, only}
use denote.Struct.Declared.{shape}
use denote.Struct.Struct.{within}
use denote.Struct.Tuple.{Tuple, tuple_type}
use borrow.Table.Elements.{at, cut_app, join_app}

abbrev Row : Type 0
Row = List ℤ

abbrev code : Row → Gv
code = (Arr (mem i64) 0).coded.code

-- a mutable slice of the cells xs, which lie at (b, o), under the name γ
abbrev pub slice_at : Lifetime → Lft → ℕ → ℕ → GName → Row → Fml
slice_at ℓ κ b o γ xs = (MutSlice ℓ κ i64).own_val (record { ref_ptr = (b, o); ghost_name = γ; now = xs }) (slice_val (b, o) (length xs) ∷ [])

-- what a slice ends as, from what two parts of it end as
abbrev pub ends_by : GName → GName × GName → (Row → Row → Row) → Fml
ends_by γ γs F = follows_both (Array i64 0) (Array i64 0) (Array i64 0) γ γs.0 γs.1 F

-- two of them as a pair
module _ {M : Type 1} {𝓤 : Ura M} (𝓛 : Logic 𝓤) (ℓ : Lifetime) (κ : Lft) where
  abbrev pub Slice : RattleType
  Slice = MutSlice ℓ κ i64

  abbrev pub Pair : RattleType
  Pair = Tuple (Slice ∷ Slice ∷ [])

  abbrev pub pair_word : MutBor Row → MutBor Row → Val
  pair_word x y = vstruct (vcons (slice_val x.ref_ptr (length x.now)) (vcons (slice_val y.ref_ptr (length y.now)) vnil))

  pub pair_made : (x y : MutBor Row) → ent 𝓤 (sep 𝓤 (sem 𝓛 (Slice.own_val x (mut_slice_vals x))) (sem 𝓛 (Slice.own_val y (mut_slice_vals y)))) (sem 𝓛 (Pair.own_val (x, y) (pair_word x y ∷ [])))
  pair_made x y = qed 𝓛 (‵ (Slice.own_val x (mut_slice_vals x)) ∷ ‵ (Slice.own_val y (mut_slice_vals y)) ∷ []) ∵
      nothing ! $ move ! (2 ∷ 0 ∷ []) $ fjoin ! $ move ! (1 ∷ 0 ∷ []) $ fjoin ! $ feq_i ! (List Val) (pair_word x y ∷ []) (pair_word x y ∷ []) refl $ fjoin ! $
      fpack ! (Valss (Slice ∷ Slice ∷ [])) (within (shape (tuple_type (Slice ∷ Slice ∷ []))) (x, (y, tt)) (pair_word x y ∷ [])) (mut_slice_vals x, (mut_slice_vals y, tt)) $ done !

  -- a pair of slices is one word, and each of them has a length that fits
  pub pair_tells : (x y : MutBor Row) (u : Val) → Is Pair (x, y) (u ∷ []) → u ≡ pair_word x y
  pair_tells x y u is =
      let first : is.0.0 ≡ mut_slice_vals x = mut_slice_Tells ℓ κ i64 x is.0.0 is.1.1.0 in
      let second : is.0.1.0 ≡ mut_slice_vals y = mut_slice_Tells ℓ κ i64 y is.0.1.0 is.1.1.1.0 in
      ap only (is.1.0 ∙ λ k. vstruct (of_list (first k ++ (second k ++ []))) ∷ [])

-- the row is a, v, m, w and z, one behind the other; v lies at p, and w at p'
module _ {M : Type 1} {𝓤 : Ura M} (𝓛 : Logic 𝓤) (b o p p' : ℕ) (a v m w z : Row) (v_there : at o 8 (length a) ≡ p) (w_there : at (at p 8 (length v)) 8 (length m) ≡ p') where
  abbrev Cells : Row → ℕ → Fml
  Cells xs k = cells (mem i64) xs b k

  -- the row with other cells for v and w
  abbrev with_parts : Row → Row → Row
  with_parts x y = a ++ (x ++ (m ++ (y ++ z)))

  abbrev Around : Fml
  Around = fsep (Cells a o) (fsep (Cells m (at p 8 (length v))) (Cells z (at p' 8 (length w))))

  taken_apart : ent 𝓤 (sem 𝓛 (Cells (with_parts v w) o)) (sep 𝓤 (sem 𝓛 (Cells v p)) (sep 𝓤 (sem 𝓛 (Cells w p')) (sem 𝓛 Around)))
  taken_apart = qed 𝓛 (‵ (Cells (with_parts v w) o) ∷ []) ∵
      use1 𝓛 (‵ (Cells a o) ⊛ ‵ (Cells (v ++ (m ++ (w ++ z))) (at o 8 (length a)))) (cut_app 𝓛 (mem i64) a (v ++ (m ++ (w ++ z))) b o) $ split ! $
      move ! (1 ∷ []) $ rewrite ! 0 (λ (k : ℕ). ‵ (Cells (v ++ (m ++ (w ++ z))) k)) v_there refl $
      use1 𝓛 (‵ (Cells v p) ⊛ ‵ (Cells (m ++ (w ++ z)) (at p 8 (length v)))) (cut_app 𝓛 (mem i64) v (m ++ (w ++ z)) b p) $ split ! $ move ! (1 ∷ []) $
      use1 𝓛 (‵ (Cells m (at p 8 (length v))) ⊛ ‵ (Cells (w ++ z) (at (at p 8 (length v)) 8 (length m)))) (cut_app 𝓛 (mem i64) m (w ++ z) b (at p 8 (length v))) $ split ! $
      move ! (1 ∷ []) $ rewrite ! 0 (λ (k : ℕ). ‵ (Cells (w ++ z) k)) w_there refl $
      use1 𝓛 (‵ (Cells w p') ⊛ ‵ (Cells z (at p' 8 (length w)))) (cut_app 𝓛 (mem i64) w z b p') $ split ! $
      -- [w; z; m; v; a]
      move ! (4 ∷ 2 ∷ 1 ∷ []) $ fjoin3 ! $ move ! (2 ∷ 1 ∷ 0 ∷ []) $ done !

  put_together : (x y : Row) → length x ≡ length v → length y ≡ length w
      → ent 𝓤 (sep 𝓤 (sem 𝓛 (Cells x p)) (sep 𝓤 (sem 𝓛 (Cells y p')) (sem 𝓛 Around))) (sem 𝓛 (Cells (with_parts x y) o))
  put_together x y e e' = qed 𝓛 (‵ (Cells x p) ∷ ‵ (Cells y p') ∷ ‵ Around ∷ []) ∵ move ! (2 ∷ []) $ fsplit3 ! $
      -- [a; m; z; x; y]
      rewrite ! 2 (λ (k : ℕ). ‵ (Cells z (at p' 8 k))) (sym e') refl $ move ! (4 ∷ 2 ∷ []) $ use2 𝓛 (‵ (Cells (y ++ z) p')) (join_app 𝓛 (mem i64) y z b p') $
      rewrite ! 0 (λ (k : ℕ). ‵ (Cells (y ++ z) k)) (sym w_there) refl $ move ! (2 ∷ 0 ∷ []) $
      use2 𝓛 (‵ (Cells (m ++ (y ++ z)) (at p 8 (length v)))) (join_app 𝓛 (mem i64) m (y ++ z) b (at p 8 (length v))) $
      rewrite ! 0 (λ (k : ℕ). ‵ (Cells (m ++ (y ++ z)) (at p 8 k))) (sym e) refl $ move ! (2 ∷ 0 ∷ []) $
      use2 𝓛 (‵ (Cells (x ++ (m ++ (y ++ z))) p)) (join_app 𝓛 (mem i64) x (m ++ (y ++ z)) b p) $
      rewrite ! 0 (λ (k : ℕ). ‵ (Cells (x ++ (m ++ (y ++ z))) k)) (sym v_there) refl $ move ! (1 ∷ 0 ∷ []) $
      use2 𝓛 (‵ (Cells (with_parts x y) o)) (join_app 𝓛 (mem i64) a (x ++ (m ++ (y ++ z))) b o) $ done !

  as_long : (x y : Row) → length x ≡ length v → length y ≡ length w → length (with_parts x y) ≡ length (with_parts v w)
  as_long x y e e' =
      let behind : length (y ++ z) ≡ length (w ++ z) = length-append y z ∙ ap (λ (k : ℕ). k + length z) e' ∙ sym (length-append w z) in
      let beyond : length (m ++ (y ++ z)) ≡ length (m ++ (w ++ z)) = length-append m (y ++ z) ∙ ap (λ (k : ℕ). length m + k) behind ∙ sym (length-append m (w ++ z)) in
      let from : length (x ++ (m ++ (y ++ z))) ≡ length (v ++ (m ++ (w ++ z))) = (let s = length-append x (m ++ (y ++ z)) in let t = length-append v (m ++ (w ++ z)) in omega (arith, s, t, e, beyond)) in
      length-append a (x ++ (m ++ (y ++ z))) ∙ ap (λ (k : ℕ). length a + k) from ∙ sym (length-append a (v ++ (m ++ (w ++ z))))

  module _ (ℓ : Lifetime) (κ : Lft) (q : Share) (γ : GName) (xs : Row) (is : xs ≡ with_parts v w) (F : Row → Row → Row) (same : (x y : Row) → with_parts x y ≡ F x y) where
    open 𝓛 use {H, A}

    abbrev Part : Row → SemTy
    Part ys = Arr (mem i64) (length ys)

    way_back : (x y : Row) → ent 𝓤 (sep 𝓤 (sem 𝓛 ((Part v).own_at x b p)) (sep 𝓤 (sem 𝓛 ((Part w).own_at y b p')) (sem 𝓛 Around))) (sem 𝓛 ((Part xs).own_at (F x y) b o))
    way_back x y = qed 𝓛 (‵ ((Part v).own_at x b p) ∷ ‵ ((Part w).own_at y b p') ∷ ‵ Around ∷ []) ∵ fsplit ! $ feq_l ! (λ e. move ! (1 ∷ []) $ fsplit ! $ feq_l ! (λ e'.
        move ! (1 ∷ 0 ∷ []) $ use3 𝓛 (‵ (Cells (with_parts x y) o)) (put_together x y e e') $ rewrite ! 0 (λ (l : Row). ‵ (Cells l o)) (same x y) refl $
        feq_i ! ℕ (length (F x y)) (length xs) (ap length (sym (same x y)) ∙ as_long x y e e' ∙ ap length (sym is)) $ fjoin ! $ done !))

    abbrev pub BothLent : GName × GName → SProp 𝓤
    BothLent γs = sep 𝓤 (sem 𝓛 (slice_at ℓ κ b p γs.0 v)) (sep 𝓤 (sem 𝓛 (slice_at ℓ κ b p' γs.1 w)) (sep 𝓤 (A.lft κ q) (sem 𝓛 (ends_by γ γs F))))

    pub lends_parts : Room i64 (length v) → Room i64 (length w) → ent 𝓤 (sep 𝓤 (sem 𝓛 (slice_at ℓ κ b o γ xs)) (A.lft κ q)) (H.⇛ (ex 𝓤 BothLent))
    unfolding both_by
    lends_parts room room' = qed 𝓛 (‵ (slice_at ℓ κ b o γ xs) ∷ ‵ (flft κ q) ∷ []) ∵ updating ! $ fsplit3 ! $ let_go ! $
        rewrite ! 0 (λ (l : Row). ‵ (fobs γ (code l))) (heres_id i64 xs) refl $ open_ref ! tt (Part xs) {b = b} {o = o} $ fsplit ! $ let_go ! $
        rewrite ! 0 (λ (l : Row). ‵ (Cells l o)) is refl $ use1 𝓛 (‵ (Cells v p) ⊛ ‵ (Cells w p') ⊛ ‵ Around) taken_apart $ split3 ! $
        feq_i ! ℕ (length v) (length v) refl $ fjoin ! $ move ! (1 ∷ []) $ feq_i ! ℕ (length w) (length w) refl $ fjoin ! $
        -- [w; v; what is around them; the open borrow; the name's two sides]
        move ! (3 ∷ 4 ∷ 5 ∷ 1 ∷ 0 ∷ 2 ∷ []) $ group ! 6 $
        use1 𝓛 (later (some (λ (γs : GName × GName). (‵ (fobs γs.0 (code v)) ⊛ ‵ (fbor κ (Body (Part v) b p γs.0))) ⊛ (‵ (fobs γs.1 (code w)) ⊛ ‵ (fbor κ (Body (Part w) b p' γs.1))) ⊛ ‵ (flft κ q) ⊛ ‵ (ends_by γ γs F))))
        (takes_two 𝓛 (Part xs) (Part v) (Part w) F κ q b o b p b p' γ (sem 𝓛 Around) way_back (code xs) (code xs) v w) $ await ! tt $ pick ! (λ γs. split3 ! $
        use1 𝓛 (‵ (slice_at ℓ κ b p γs.0 v)) (slice_of 𝓛 i64 ℓ κ b p γs.0 v room) $ move ! (1 ∷ []) $
        use1 𝓛 (‵ (slice_at ℓ κ b p' γs.1 w)) (slice_of 𝓛 i64 ℓ κ b p' γs.1 w room') $ move ! (1 ∷ 0 ∷ []) $ now ! $ show ! BothLent γs $ done !)

-- a value that holds a slice follows the slice, and so it follows the slice's two parts
pub follows_on : {M : Type 1} {𝓤 : Ura M} (𝓛 : Logic 𝓤) (S : RattleType) (γ₀ γ : GName) (γs : GName × GName) (K : Row → S.Denot) (F : Row → Row → Row)
    → ent 𝓤 (sep 𝓤 (sem 𝓛 (follows S (Array i64 0) γ₀ γ K)) (sem 𝓛 (ends_by γ γs F))) (sem 𝓛 (follows_both S (Array i64 0) (Array i64 0) γ₀ γs.0 γs.1 (λ x y. K (F x y))))
unfolding both_by
follows_on {𝓤 = 𝓤} 𝓛 S γ₀ γ γs K F =
    let A = 𝓛.A in
    qed 𝓛 (‵ (follows S (Array i64 0) γ₀ γ K) ∷ ‵ (ends_by γ γs F) ∷ []) ∵
    each ! (λ (z : Row × Row). wand 𝓤 (sep 𝓤 (A.res γs.0 (code z.0)) (A.res γs.1 (code z.1))) (A.res γ₀ (S.coded.code (K (F z.0 z.1))))) (λ z.
    assume ! (‵ (fres γs.0 (code z.0)) ⊛ ‵ (fres γs.1 (code z.1))) $ move ! (0 ∷ 2 ∷ []) $
    use2 𝓛 (‵ (fres γ (code (F z.0 z.1)))) (followed₂ 𝓛 (Arr (mem i64) 0) (Arr (mem i64) 0) (Arr (mem i64) 0) F γ γs.0 γs.1 z.0 z.1) $
    move ! (1 ∷ 0 ∷ []) $ by ! (followed 𝓛 S (Array i64 0) K γ₀ γ (F z.0 z.1)))
