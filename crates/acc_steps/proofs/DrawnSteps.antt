-- Steps that are drawn one after another.
use Rattle.std.proofs.Common.{◌≡◌, ℕ, ◌+◌, List, [], ◌∷◌, ◌++◌, ◌<◌, length, take, refl, sym, ap, ◌∙◌, arith}
use Rattle.std.proofs.Math.ListN.{get_or}
use Rattle.std.proofs.lemmas.List.{append-nil, append_assoc, length-take-le, take_more}
use Rattle.acc_core.specs.Machine.{State, Step}
use Rattle.acc_host.specs.declared.state.Reply.{Reply}
use Rattle.acc_steps.specs.declared.walk.Numbered.{Numbered}
use Rattle.acc_steps.specs.Deeds.{deed_of, line_at}
use Rattle.acc_steps.specs.Lines.{Words, step_text}
use Rattle.acc_steps.specs.Pictures.{AreDrawn, DrawsOne, PicturesTellAll, boxed, joined}
use Rattle.acc_steps.proofs.DrawnBoxes.{joined_boxed}

-- what a step adds
abbrev added : Words → ℕ → Numbered → State → Reply → State → List (List ℕ)
added t number n old answer new = boxed (step_text t number n.line n.event (line_at old n.event) (deed_of old n.event answer new) new)

drawn_more : (t : Words) (first number : ℕ) (events : List Numbered) (n : Numbered) (answer : Reply) (old mid new : State) (lines : List (List ℕ))
    → number ≡ first + length events → AreDrawn t first events old mid lines → Step mid n.event answer new
    → AreDrawn t first (events ++ n ∷ []) old new (lines ++ added t number n mid answer new)
drawn_more t first number [] n answer old mid new lines is (same, none) step =
    let here : number ≡ first = omega (arith, is) in
    rw (none, here, ← same) (answer, new, [], step, (refl, refl), sym (append-nil _))
drawn_more t first number (e ∷ events) n answer old mid new lines is (reply, behind, rest, made, drawn, whole) step =
    let later = drawn_more t (first + 1) number events n answer behind mid new rest (omega (arith, is)) drawn step in (
      reply,
      behind,
      rest ++ added t number n mid answer new,
      made,
      later,
      ap (λ x. x ++ added t number n mid answer new) whole ∙ append_assoc (added t first e old reply behind) rest (added t number n mid answer new),
    )

pub drawn_next : (t : Words) (number i : ℕ) (events : List Numbered) (d : Numbered) (old mid new : State) (before after : List (List ℕ)) → i < length events
    → number ≡ i + 1 → AreDrawn t 1 (take i events) old mid before → DrawsOne t number (get_or events i d) mid new before after
    → AreDrawn t 1 (take (i + 1) events) old new after
drawn_next t number i events d old mid new before after below is drawn (answer, step, one) =
    let count : number ≡ 1 + length (take i events) = omega (arith, is, below, length-take-le i events (omega (arith, below))) in
    rw (take_more events i d below, one) (drawn_more t 1 number (take i events) (get_or events i d) answer old mid new before count drawn step)

pub pictures_tell_all : PicturesTellAll
pictures_tell_all t number [] old new lines (same, none) = (same, ap joined none)
pictures_tell_all t number (n ∷ others) old new lines (answer, mid, rest, step, drawn, whole) = (
  answer,
  mid,
  joined rest,
  step,
  pictures_tell_all t (number + 1) others mid new rest drawn,
  ap joined whole ∙ joined_boxed (step_text t number n.line n.event (line_at old n.event) (deed_of old n.event answer mid) mid) rest,
)
