-- How memory for cells is asked of the heap, and given back to it. Assumes `Logic`.
use Rattle.std.proofs.Common.{◌≡◌, ℕ, ◌*◌, ◌<◌, ◌^◌, List, [], ◌∷◌, ◌++◌, ap, ◌∙◌}
use Rattle.std.specs.Prelude.{true, false, Bool, Ok, Err}
use seplogic.Ra.Ura.{Ura}
use base.Logic.{SProp, ent, sep, guard, never, fst∗}
use base.Fml.{Fml, fsep}
use denote.Builtin.{i64}
use denote.Memory.{lone}
use denote.RawPtr.{Ptr, null_ptr, ptr_val, in_a_block, room_for as room_at}
use denote.Steps.{only}
use mir.Syntax.{ty_array, Ty, given as dictionary}
use mir.Val.{Val, of_list, vptr}
use prog.Memory.{size, align, capped, Memory}
use prog.Routine.{Routine}
use contract.Monad.{Fun}
use prog.Capped.{capped_is}
use prog.RawLaws.{size-raw, align-raw}
use types.Kit.{‵, ◌$◌, ◌∵◌, !, qed, keep, drop as let_go, fsplit, fpick, feq_l, show, check, done}
use types.Logic.{Logic, sem}
use types.Match.{live}
use Rattle.core.proofs.alloc.Calls.{Al, Answer, Answered, answer_val, got}
use Rattle.core.specs.Allocator.{block_if_ok}
use Rattle.std.specs.contracts.alloc.Global as global
use Rattle.std.proofs.alloc.Global.TheLaws as laws
use Rattle.std.specs.contracts.impls.GlobalAllocator.TheImpl.{ghosts}
use Rattle.acc_raw.specs.Blocks.{room_for}
use Rattle.acc_raw.specs.inner.Ownership.{heap, frees}

-- the bytes of n cells, and where they may begin
pub bytes_of : (n : ℕ) → n * 8 < 2 ^ 64 → capped (size (room_for n)) ≡ n * 8
bytes_of n fits = ap capped (size-raw (ty_array (lone i64.mir) n)) ∙ capped_is (n * 8) fits

pub aligned : (n : ℕ) → capped (align (room_for n)) ≡ 8
aligned n = ap capped (align-raw (ty_array (lone i64.mir) n))

-- the heap, as the steps of allocators take it
abbrev pub Heap : Al
Heap = record { row = global.the_row; laws = laws.the_row_laws; g = ghosts; d = dictionary 0; drops = dictionary 0 }

-- its answer is memory with the right to give it back, or a refusal
module _ {M : Type 1} {𝓤 : Ura M} (𝓛 : Logic 𝓤) (at_mem : Memory → SProp 𝓤) (run : Routine → Fun 𝓤) (τ : Ty) (v : Val) where
  abbrev Granted : Bool × (ℕ × ℕ) → SProp 𝓤
  Granted how = guard 𝓤 (v ≡ answer_val how.0 how.1.0 how.1.1) (sem 𝓛 (got frees τ how.0 how.1.0 how.1.1))

  pub answered : (r : Answer.Denot) → ent 𝓤 (sep 𝓤 (sem 𝓛 (Answer.own_val r (v ∷ []))) (sem 𝓛 (block_if_ok frees τ r))) (Answered Heap 𝓛 at_mem run heap τ v)
  answered (Ok p) =
      let Block : Ptr → Fml = λ at. fsep (room_at τ at) (frees τ at) in
      qed 𝓛 (‵ (Answer.own_val (Ok p) (v ∷ [])) ∷ ‵ (Block p) ∷ []) ∵ fpick ! (λ words. fsplit ! $ feq_l ! (λ whole. fpick ! (λ parts. fsplit ! $ feq_l ! (λ inner. fsplit ! $ feq_l ! (λ word. let_go ! $
      in_a_block ! p Block (fst∗ 𝓤 (never 𝓤) (sem 𝓛 (frees τ null_ptr))) (λ b o there.
      let is_word : parts.0 ≡ vptr b o ∷ [] = word ∙ ap (λ (at : Ptr). ptr_val at ∷ []) there in
      let is_answer : v ≡ answer_val true b o = ap only whole ∙ ap (λ (us : List Val). live 0 (of_list us)) (inner ∙ ap (λ (us : List Val). us ++ []) is_word) in
      show ! Granted (true, (b, o)) $ check ! is_answer $ done !))))))
  answered (Err refused) =
      qed 𝓛 (‵ (Answer.own_val (Err refused) (v ∷ [])) ∷ ‵ (block_if_ok frees τ (Err refused)) ∷ []) ∵
      fpick ! (λ words. fsplit ! $ feq_l ! (λ whole. fpick ! (λ parts. fsplit ! $ feq_l ! (λ inner. fsplit ! $ fpick ! (λ bare. fsplit ! $ feq_l ! (λ word. keep ! [] $
      let is_answer : v ≡ answer_val false 0 0 = ap only whole ∙ ap (λ (us : List Val). live 1 (of_list us)) (inner ∙ ap (λ (us : List Val). us ++ []) word) in
      show ! Granted (false, (0, 0)) $ check ! is_answer $ done !))))))
