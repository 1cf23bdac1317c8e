-- An event that commutes with all others until it comes may go first.
use Rattle.std.proofs.Common.{inl, inr, ◌≡◌, Bool, false, List, [], ◌∷◌, sym, ap, subst, arith}
use Rattle.std.specs.Prelude.{All, IsTrue}
use Rattle.std.proofs.lemmas.List.Elements.{All-cons, All-head, All-tail}
use Rattle.acc_core.specs.Legality.{IsLegalState}
use Rattle.acc_core.specs.Machine.{State, Outcome, step}
use Rattle.acc_core.proofs.IdleSteps.{idle_keeps}
use Rattle.acc_host.specs.declared.event.Event.{Event}
use Rattle.acc_host.specs.declared.state.Reply.{Reply}
use Rattle.acc_host.specs.declared.state.Reply.TheVariants as reply
use Rattle.acc_explore.specs.Alike.{Alike}
use Rattle.acc_explore.specs.Explorations.{IsEnd}
use Rattle.acc_explore.specs.Reductions.{Commutes, LeadsSooner, MayGoFirst}
use Rattle.acc_explore.specs.Runs.{MayCome, after}
use Rattle.acc_explore.proofs.AlikeSteps.{alike_itself, alike_on}
use Rattle.acc_explore.proofs.Explored.{legal_step, legal_after}
use Rattle.acc_explore.proofs.Reduced.{alike_after}

-- an event that can't come leaves the state
pub idle_same : (w : State) (x : Event) → (step false w x).reply ≡ reply.Idle → (step false w x).state ≡ w
idle_same w x idle =
    let next = (step false w x).state in
    idle_keeps w next x (false, ap (λ (answer : Reply). let o : Outcome = record { reply = answer; state = next } in o) idle)

module _ (closing : Bool) (test : State → Bool) (e : Event) where
  by_events : Commutes closing test e → (events : List Event) (w : State) → IsLegalState w → IsTrue (test w) → All (MayCome closing) events → IsEnd (after w events) → LeadsSooner closing w e events
  by_events c [] w l r may ends = absurd (c.waits w l r ends)
  by_events c (x ∷ events) w l r may ends =
      let to = (step false w x).state in
      let rest_may = All-tail (MayCome closing) x events may in
      elim (c.kept w x l r (All-head (MayCome closing) x events may)) [
        | inl same ↦ record {
          rest = events;
          may = rest_may;
          fewer = omega arith;
          alike = subst (λ (y : Event). Alike (after (step false w e).state events) (after (step false w y).state events)) (sym same) (alike_itself (after (step false w e).state events));
        }
        | inr (inl idle) ↦ (
            let s = by_events c events w l r rest_may (subst (λ (v : State). IsEnd (after v events)) (idle_same w x idle) ends) in
            record {
              rest = s.rest;
              may = s.may;
              fewer = omega (arith, s.fewer);
              alike = subst (λ (v : State). Alike (after (step false w e).state s.rest) (after v events)) (sym (idle_same w x idle)) s.alike;
            }
            )
        | inr (inr other) ↦ (
            let s = by_events c events to (legal_step w x l) other.0 rest_may ends in
            let one = (step false (step false w e).state x).state in
            let two = (step false to e).state in
            let l_one = legal_step (step false w e).state x (legal_step w e l) in
            let l_two = legal_step to e (legal_step w x l) in
            let rest : List Event = s.rest in
            let moved : Alike (after one rest) (after two rest) = alike_after rest one two l_one l_two other.1 in
            let shown : Alike (after two rest) (after to events) = s.alike in
            record {
              rest = x ∷ rest;
              may = All-cons (MayCome closing) x rest (All-head (MayCome closing) x events may) s.may;
              fewer = omega (arith, s.fewer);
              alike = alike_on (after one rest) (after two rest) (after to events) (legal_after rest one l_one) (legal_after rest two l_two) moved shown;
            }
            )
      ]

pub goes_first : (closing : Bool) (test : State → Bool) (e : Event) → Commutes closing test e → (w : State) → IsLegalState w → IsTrue (test w) → MayGoFirst closing w e
goes_first closing test e c w l r = λ events may ends. by_events closing test e c events w l r may ends
