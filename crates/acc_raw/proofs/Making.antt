-- What a new block is made of, and the `Result` that hands it out. Assumes `Logic`.
use Rattle.std.proofs.Common.{◌≡◌, ℕ, ◌*◌, ◌-◌, ◌+◌, ◌<◌, ◌^◌, List, [], ◌∷◌, length, refl, arith}
use Rattle.std.specs.Prelude.{ℤ}
use seplogic.Ra.Ura.{Ura}
use base.Logic.{ent, sep, emp, via}
use base.Fml.{froom}
use denote.RattleType.{RattleType, Valss}
use denote.RawPtr.{block_ptr}
use denote.Shadow.{makes_shadow}
use denote.Steps.{nothing}
use denote.Struct.Declared as Declared
use denote.Struct.Owning.{shape}
use denote.Struct.Struct.{Struct, within}
use denote.Struct.Tuple.{Tuple, tuple_type}
use mir.Val.{Val, vptr, vstruct, vcons, vnil}
use types.Kit.{‵, ◌$◌, ◌∵◌, !, qed, move, use0, rewrite, flt_i, fjoin, fpack, feq_i, done}
use types.Logic.{Logic, sem}
use Rattle.acc_raw.specs.Blocks.{room_for}
use Rattle.acc_raw.specs.inner.Ownership.{frees}
use Rattle.acc_raw.specs.contracts.block.Block as block
use Rattle.acc_raw.specs.contracts.block.Start as start

-- a block apart from what it owns, which takes no bytes
abbrev pub Bare : RattleType
Bare = Struct (shape block.the_type)

abbrev pub start_val : ℕ → ℕ → Val
start_val b o = vstruct (vcons (vptr b o) vnil)

abbrev pub pair_val : Val → Val → Val
pair_val u v = vstruct (vcons u (vcons v vnil))

abbrev pub Pair : RattleType
Pair = Tuple (start.the_row ∷ block.the_row ∷ [])

module _ {M : Type 1} {𝓤 : Ura M} (𝓛 : Logic 𝓤) (b o n : ℕ) where
  abbrev pub at : start.the_row.Denot
  at = record { ptr = block_ptr b o }

  abbrev pub made : block.the_row.Denot
  made = record { at = block_ptr b o; len = n; cells = [] }

  start_made : ent 𝓤 (emp 𝓤) (sem 𝓛 (start.the_row.own_val at (start_val b o ∷ [])))
  start_made = makes_shadow 𝓛 (start.the_row.own_val at (start_val b o ∷ [])) (λ vss. (tt, (tt, tt))) ((vptr b o ∷ [], tt), (refl, (refl, tt)))

  bare_made : ent 𝓤 (emp 𝓤) (sem 𝓛 (Bare.own_val tt (vstruct vnil ∷ [])))
  bare_made = makes_shadow 𝓛 (Bare.own_val tt (vstruct vnil ∷ [])) (λ vss. (tt, tt)) (tt, (refl, tt))

  -- room for n cells and the right to give it back are a block with no cell written
  block_made : n * 8 < 2 ^ 63 → ent 𝓤 (sep 𝓤 (sem 𝓛 (froom (room_for n) b o)) (sem 𝓛 (frees (room_for n) (block_ptr b o)))) (sem 𝓛 (block.the_row.own_val made (vstruct vnil ∷ [])))
  block_made small =
      let none : List ℤ = [] in
      let none_yet : length none ≡ 0 = refl in
      let all_room : n ≡ n - length none = omega (arith, none_yet) in
      let at_start : o ≡ length none * 8 + o = omega (arith, none_yet) in
      qed 𝓛 (‵ (froom (room_for n) b o) ∷ ‵ (frees (room_for n) (block_ptr b o)) ∷ []) ∵
      rewrite ! 0 (λ (p : ℕ × ℕ). ‵ (froom (room_for p.0) b p.1)) (λ i. (all_room i, at_start i)) refl $
      nothing ! $ fjoin ! $ move ! (1 ∷ []) $ flt_i ! (n * 8) (2 ^ 63) small $ fjoin ! $ fjoin ! $
      use0 𝓛 (‵ (Bare.own_val tt (vstruct vnil ∷ []))) bare_made $ fjoin ! $ done !

  -- with the address of the first one
  pub pair_made : n * 8 < 2 ^ 63 → ent 𝓤 (sep 𝓤 (sem 𝓛 (froom (room_for n) b o)) (sem 𝓛 (frees (room_for n) (block_ptr b o)))) (sem 𝓛 (Pair.own_val (at, made) (pair_val (start_val b o) (vstruct vnil) ∷ [])))
  pair_made small =
      let both : List RattleType = start.the_row ∷ block.the_row ∷ [] in
      let word : Val = pair_val (start_val b o) (vstruct vnil) in
      via 𝓤 _ (block_made small) (qed 𝓛 (‵ (block.the_row.own_val made (vstruct vnil ∷ [])) ∷ []) ∵
      nothing ! $ move ! (1 ∷ 0 ∷ []) $ fjoin ! $ use0 𝓛 (‵ (start.the_row.own_val at (start_val b o ∷ []))) start_made $ fjoin ! $
      feq_i ! (List Val) (word ∷ []) (word ∷ []) refl $ fjoin ! $
      fpack ! (Valss both) (within (Declared.shape (tuple_type both)) (at, (made, tt)) (word ∷ [])) (start_val b o ∷ [], (vstruct vnil ∷ [], tt)) $ done !)
