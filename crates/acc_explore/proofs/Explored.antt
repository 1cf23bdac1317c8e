-- What is explored misses nothing.
use Rattle.std.proofs.Common.{inl, inr, ◌≡◌, ◌≤◌, ◌+◌, ℕ, Bool, false, List, [], ◌∷◌, length, refl, sym, ap, subst, ◌∙◌, arith}
use Rattle.std.specs.Prelude.{All, Contains}
use Rattle.std.proofs.lemmas.List.Elements.{All-contains, All-head, All-tail}
use Rattle.acc_core.specs.Legality.{IsLegalState}
use Rattle.acc_core.specs.Machine.{State, Outcome, step}
use Rattle.acc_core.proofs.LegalSteps.{Step-legal}
use Rattle.acc_host.specs.declared.event.Event.{Event}
use Rattle.acc_host.specs.declared.program.HostProgram.{HostProgram}
use Rattle.acc_host.specs.declared.state.Reply.TheVariants as reply
use Rattle.acc_explore.specs.Alike.{Alike}
use Rattle.acc_explore.specs.Explorations.{FollowsAll, Found, HoldsAlike, IdleIsEnd, IsEnd, IsExplored, IsLedTo, TellsEnd}
use Rattle.acc_explore.specs.Runs.{MayCome, after, open_events, report_of}
use Rattle.acc_explore.proofs.AlikeReports.{report_same}
use Rattle.acc_explore.proofs.AlikeSteps.{step_keeps_alike, alike_itself, alike_on}
use Rattle.acc_explore.proofs.KnownEvents.{known}

-- ## What events lead to is legal

pub legal_step : (w : State) (e : Event) → IsLegalState w → IsLegalState (step false w e).state
legal_step w e l = let next = step false w e in Step-legal w next.state e next.reply l (false, refl)

pub legal_after : (events : List Event) (w : State) → IsLegalState w → IsLegalState (after w events)
legal_after [] w l = l
legal_after (e ∷ events) w l = legal_after events (step false w e).state (legal_step w e l)

abbrev pub AllLegal : List Found → Type 0
AllLegal found = (f : Found) → Contains found f → IsLegalState f.state

pub all_legal : (closing : Bool) (start : State) (found : List Found) → IsLegalState start → All (IsLedTo closing start) found → AllLegal found
all_legal closing start found l reached f listed =
    let r = All-contains (IsLedTo closing start) found f reached listed in
    subst IsLegalState r.there (legal_after r.events start l)

-- ## Ends

pub idle_ends : IdleIsEnd
idle_ends w idle e may = elim (known false w e may) [
  | inl can ↦ All-contains (λ (e : Event). (step false w e).reply ≡ reply.Idle) (open_events false w) e idle can
  | inr same ↦ ap (λ (o : Outcome). o.reply) same
]

-- what is like an end is an end
pub ends_too : (old new : State) → IsLegalState old → IsLegalState new → Alike old new → IsEnd new → IsEnd old
ends_too old new l k s ends e may = (step_keeps_alike false old new e l k s).reply ∙ ends e may

-- its report is that of the one which is like it
pub tells_end : (names : List (List ℕ)) (programs : List HostProgram) (limit : ℕ) (found : List Found) (w : State) → AllLegal found → IsLegalState w
    → HoldsAlike limit found w → IsEnd w → TellsEnd names programs limit found (report_of names programs w)
tells_end names programs limit found w each l h ends =
    let first = each h.one h.listed in
    record {
      one = h.one;
      listed = h.listed;
      soon = h.soon;
      ends = ends_too h.one.state w first l h.alike ends;
      text_is = sym (report_same names programs h.one.state w first l h.alike);
    }

-- ## One event after another

pub held_on : (limit top : ℕ) (found : List Found) (old new : State) → AllLegal found → IsLegalState old → limit ≤ top → HoldsAlike limit found old → Alike old new → HoldsAlike top found new
held_on limit top found old new each l low h s = record {
  one = h.one;
  listed = h.listed;
  soon = omega (arith, h.soon, low);
  alike = alike_on h.one.state old new (each h.one h.listed) l h.alike s;
}

-- an event that may come leads to one of them, where those do that can do something
pub leads_on : (closing : Bool) (found : List Found) (f : Found) (e : Event) → Contains found f → FollowsAll closing found f → MayCome closing e
    → HoldsAlike (f.depth + 1) found (step false f.state e).state
leads_on closing found f e listed all may = elim (known closing f.state e may) [
  | inl can ↦ All-contains (λ (e : Event). HoldsAlike (f.depth + 1) found (step false f.state e).state) (open_events closing f.state) e all can
  | inr same ↦ record {
    one = f;
    listed = listed;
    soon = omega arith;
    alike = subst (λ (o : Outcome). Alike f.state o.state) (sym same) (alike_itself f.state);
  }
]

holds_after : (closing : Bool) (found : List Found) → AllLegal found → All (FollowsAll closing found) found
    → (events : List Event) (w : State) (limit top : ℕ) → limit + length events ≤ top → All (MayCome closing) events → IsLegalState w → HoldsAlike limit found w → HoldsAlike top found (after w events)
holds_after closing found each all [] w limit top low may l h =
    held_on limit top found w w each l (omega (arith, low)) h (alike_itself w)
holds_after closing found each all (e ∷ events) w limit top low may l h =
    let f = h.one in
    let first = each f h.listed in
    let mid = (step false f.state e).state in
    let next = (step false w e).state in
    let there = leads_on closing found f e h.listed (All-contains (FollowsAll closing found) found f all h.listed) (All-head (MayCome closing) e events may) in
    let alike = (step_keeps_alike false f.state w e first l h.alike).state in
    holds_after closing found each all events next (limit + 1) top (omega (arith, low)) (All-tail (MayCome closing) e events may) (legal_step w e l)
    (held_on (f.depth + 1) (limit + 1) found mid next each (legal_step f.state e first) (omega (arith, h.soon)) there alike)

-- ## An exploration

pub nothing_missed : (closing : Bool) (start : State) (found : List Found) → IsLegalState start → IsExplored closing start found
    → (events : List Event) → All (MayCome closing) events → HoldsAlike (length events) found (after start events)
nothing_missed closing start found l x events may =
    holds_after closing found (all_legal closing start found l x.reached) x.closed events start 0 (length events) (omega arith) may l x.first

pub no_report_missed : (closing : Bool) (names : List (List ℕ)) (programs : List HostProgram) (start : State) (found : List Found)
    → IsLegalState start → IsExplored closing start found
    → (events : List Event) → All (MayCome closing) events → IsEnd (after start events)
    → TellsEnd names programs (length events) found (report_of names programs (after start events))
no_report_missed closing names programs start found l x events may ends =
    tells_end names programs (length events) found (after start events) (all_legal closing start found l x.reached) (legal_after events start l)
    (nothing_missed closing start found l x events may) ends
