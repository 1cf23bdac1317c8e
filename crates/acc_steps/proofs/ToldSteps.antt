-- One step more is told.
use Rattle.std.proofs.Common.{◌≡◌, ℕ, ◌+◌, List, [], ◌∷◌, ◌++◌, ◌<◌, length, take, refl, sym, ap, ◌∙◌, arith}
use Rattle.std.proofs.Math.ListN.{get_or}
use Rattle.std.proofs.lemmas.List.{append-nil, append_assoc, length-take-le, take_more}
use Rattle.acc_core.specs.Machine.{State, Step}
use Rattle.acc_host.specs.declared.state.Reply.{Reply}
use Rattle.acc_report.specs.Puts.{Sink}
use Rattle.acc_report.proofs.JoinedPuts.{puts_then}
use Rattle.acc_steps.specs.declared.walk.Numbered.{Numbered}
use Rattle.acc_steps.specs.Deeds.{deed_of, line_at}
use Rattle.acc_steps.specs.Lines.{Words, step_text}
use Rattle.acc_steps.specs.Walks.{AreTold, TellsSteps, TellsOne}

told_more : (t : Words) (first number : ℕ) (events : List Numbered) (n : Numbered) (answer : Reply) (old mid new : State) (text : List ℕ)
    → number ≡ first + length events → AreTold t first events old mid text → Step mid n.event answer new
    → AreTold t first (events ++ n ∷ []) old new (text ++ step_text t number n.line n.event (line_at mid n.event) (deed_of mid n.event answer new) new)
told_more t first number [] n answer old mid new text is (same, none) step =
    let here : number ≡ first = omega (arith, is) in
    rw (none, here, ← same) (answer, new, [], step, (refl, refl), sym (append-nil _))
told_more t first number (e ∷ events) n answer old mid new text is (reply, behind, rest, made, told, whole) step =
    let later = told_more t (first + 1) number events n answer behind mid new rest (omega (arith, is)) told step in
    (reply, behind, rest ++ step_text t number n.line n.event (line_at mid n.event) (deed_of mid n.event answer new) new, made, later, ap (λ x. x ++ step_text t number n.line n.event (line_at mid n.event) (deed_of mid n.event answer new) new) whole ∙ append_assoc _ rest _)

pub tells_more : (t : Words) (number : ℕ) (events : List Numbered) (n : Numbered) (old mid new : State) (a b c : Sink)
    → number ≡ 1 + length events → TellsSteps t events old mid a b → TellsOne t number n mid new b c → TellsSteps t (events ++ n ∷ []) old new a c
tells_more t number events n old mid new a b c is (text, told, puts) (answer, step, one) =
    (_, told_more t 1 number events n answer old mid new text is told step, puts_then puts one)

pub tells_next : (t : Words) (number i : ℕ) (events : List Numbered) (d : Numbered) (old mid new : State) (a b c : Sink) → i < length events
    → number ≡ i + 1 → TellsSteps t (take i events) old mid a b → TellsOne t number (get_or events i d) mid new b c
    → TellsSteps t (take (i + 1) events) old new a c
tells_next t number i events d old mid new a b c below is told step =
    let count : number ≡ 1 + length (take i events) = omega (arith, is, below, length-take-le i events (omega (arith, below))) in
    rw (take_more events i d below) (tells_more t number (take i events) (get_or events i d) old mid new a b c count told step)
