-- Cells and the room behind them. Assumes `Logic`.
use Rattle.std.proofs.Common.{◌≡◌, ℕ, suc, ◌+◌, ◌-◌, ◌*◌, ◌<◌, List, [], ◌∷◌, ◌++◌, length, refl, arith}
use Rattle.std.specs.Prelude.{ℤ}
use lib.ListN.{length-append}
use seplogic.Ra.Ura.{Ura}
use base.Fraction.{full_share}
use base.Logic.{ent, sep}
use base.Fml.{froom, ftrue}
use denote.Builtin.{i64}
use denote.Memory.{mem, part_at}
use denote.Signed.{sint_out}
use mir.Syntax.{ty_int, ty_array, w64}
use mir.Val.{vint, of_z}
use base.Fml.{fat}
use types.Kit.{‵, ◌⊛◌, ◌$◌, ◌∵◌, !, qed, by, move, use1, use2, split, rewrite, fsplit, fjoin, done}
use types.Logic.{Logic, sem}
use types.SemTy.{cells}
use Rattle.acc_raw.specs.Blocks.{room_for}

module _ {M : Type 1} {𝓤 : Ura M} (𝓛 : Logic 𝓤) (b : ℕ) where
  open 𝓛 use {H}

  -- one more cell behind the others
  pub cell_added : (xs : List ℤ) (z : ℤ) (o at : ℕ) → at ≡ length xs * 8 + o → ent 𝓤 (sep 𝓤 (sem 𝓛 (cells (mem i64) xs b o)) (sem 𝓛 (part_at i64 full_share z b at))) (sem 𝓛 (cells (mem i64) (xs ++ z ∷ []) b o))
  cell_added [] z o at e = let start : at ≡ 0 * 8 + o = e in let here : at ≡ o = omega arith in qed 𝓛 (‵ ftrue ∷ ‵ (part_at i64 full_share z b at) ∷ []) ∵ move ! (1 ∷ []) $
      rewrite ! 0 (λ (k : ℕ). ‵ (part_at i64 full_share z b k)) here refl $ fjoin ! $ done !
  cell_added (x ∷ xs) z o at e = let further : at ≡ suc (length xs) * 8 + o = e in
      qed 𝓛 (‵ (cells (mem i64) (x ∷ xs) b o) ∷ ‵ (part_at i64 full_share z b at) ∷ []) ∵ fsplit ! $ move ! (1 ∷ 2 ∷ []) $
      use2 𝓛 (‵ (cells (mem i64) (xs ++ z ∷ []) b (o + 8))) (cell_added xs z (o + 8) at (omega arith)) $ move ! (1 ∷ 0 ∷ []) $ fjoin ! $ done !

  -- where not all of n are written, there is room for one more, and behind it for those that are then left
  pub room_out : (xs : List ℤ) (z : ℤ) (n o : ℕ) → length xs < n
      → ent 𝓤 (sem 𝓛 (froom (room_for (n - length xs)) b (length xs * 8 + o)))
      (sep 𝓤 (sem 𝓛 (froom (ty_int w64) b (length xs * 8 + o))) (sem 𝓛 (froom (room_for (n - length (xs ++ z ∷ []))) b (length (xs ++ z ∷ []) * 8 + o))))
  room_out xs z n o some_left =
      let k : ℕ = n - length (xs ++ z ∷ []) in let here : ℕ = length xs * 8 + o in
      let one_more : length (xs ++ z ∷ []) ≡ length xs + 1 = length-append xs (z ∷ []) in
      let left : n - length xs ≡ suc k = omega (arith, one_more, some_left) in
      let next : here + 8 ≡ length (xs ++ z ∷ []) * 8 + o = omega (arith, one_more) in
      qed 𝓛 (‵ (froom (room_for (n - length xs)) b here) ∷ []) ∵ rewrite ! 0 (λ (j : ℕ). ‵ (froom (room_for j) b here)) left refl $
      use1 𝓛 (‵ (froom (ty_array (ty_int w64) (suc k)) b here)) (𝓛.laws.raw-room (ty_array (ty_int w64) (suc k)) b here) $
      use1 𝓛 (‵ (froom (ty_int w64) b here) ⊛ ‵ (froom (ty_array (ty_int w64) k) b (here + 8))) (𝓛.laws.room_uncons (ty_int w64) k b here) $ split ! $ move ! (1 ∷ []) $
      rewrite ! 0 (λ (j : ℕ). ‵ (froom (ty_array (ty_int w64) k) b j)) next refl $
      use1 𝓛 (‵ (froom (room_for k) b (length (xs ++ z ∷ []) * 8 + o))) (𝓛.laws.room-raw (ty_array (ty_int w64) k) b (length (xs ++ z ∷ []) * 8 + o)) $ move ! (1 ∷ 0 ∷ []) $ done !

  -- cells are room
  pub emptied : (xs : List ℤ) (o : ℕ) → ent 𝓤 (sem 𝓛 (cells (mem i64) xs b o)) (H.room (ty_array (ty_int w64) (length xs)) b o)
  emptied [] o = 𝓛.laws.room_nil (ty_int w64) b o
  emptied (x ∷ xs) o = qed 𝓛 (‵ (cells (mem i64) (x ∷ xs) b o) ∷ []) ∵ fsplit ! $
      use1 𝓛 (‵ (fat full_share (ty_int w64) b o (vint w64 (of_z w64 x)))) (sint_out 𝓛 full_share w64 x b o) $
      use1 𝓛 (‵ (froom (ty_int w64) b o)) (𝓛.laws.at_room (ty_int w64) b o (vint w64 (of_z w64 x))) $ move ! (1 ∷ []) $
      use1 𝓛 (‵ (froom (ty_array (ty_int w64) (length xs)) b (o + 8))) (emptied xs (o + 8)) $ move ! (1 ∷ 0 ∷ []) $ by ! (𝓛.laws.room_cons (ty_int w64) (length xs) b o)
