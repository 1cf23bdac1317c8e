-- Where each queue is closed, no directive is accepted and closes do nothing: what any events lead to, they lead to without the closes.
use Rattle.std.proofs.Common.{inl, inr, ◌≡◌, ◌≤◌, ℕ, zero, suc, ◌+◌, ◌<◌, Bool, true, false, ◌&&◌, not, cond, List, [], ◌∷◌, ◌++◌, length, refl, sym, ap, subst, ◌∙◌, Some, None, Option, Ok, Err, Result, nat_lt, slice_get, arith}
use Rattle.std.specs.Prelude.{All, IfSome}
use Rattle.std.specs.List.{list_all, list_any}
use Rattle.std.proofs.lemmas.Bool.{and_from, and_parts, cases_Bool}
use Rattle.std.proofs.lemmas.List.Elements.{All-nil, All-cons, All-weaker}
use Rattle.acc_base.specs.declared.fault.Fault.{Fault}
use Rattle.acc_base.specs.declared.ids.QueueAt.{QueueAt}
use Rattle.acc_base.specs.Queues.{at_seat, numbers_from, queue_count, same_queue}
use Rattle.acc_batch.specs.declared.label.Label.{Label}
use Rattle.acc_batch.specs.declared.label.OpLabel.{OpLabel}
use Rattle.acc_core.specs.Legality.{IsLegalState}
use Rattle.acc_core.specs.Machine.{State, Outcome, batches_held, can_perform, closes, host_step, is_there, item_answer, item_state, labels_of, named_step, ops_left, perform_step, place_answer, place_fault, placed_state, queue_step, standing_of, step, take_step, unless, wait_answer, waited_state, with_closing}
use Rattle.acc_explore.specs.Alike.{Alike}
use Rattle.acc_explore.specs.Closed.{ClosedIsUnclosing, is_all_closed}
use Rattle.acc_explore.specs.Explorations.{IsEnd}
use Rattle.acc_explore.specs.Reductions.{MayGoFirst}
use Rattle.acc_explore.specs.Runs.{MayCome, after}
use Rattle.acc_explore.proofs.PlacingStays.{all_of, each_of}
use Rattle.acc_host.specs.declared.event.Event.{Event}
use Rattle.acc_host.specs.declared.event.Event.TheVariants as event
use Rattle.acc_host.specs.Hosts.{HostView, wants}
use Rattle.acc_host.specs.Steps.{Want, stays, sets, refuses, places, awaits, records}
use Rattle.acc_place.specs.Batches.{answer_of}
use Rattle.acc_place.specs.declared.directive.PlaceEntry.TheVariants as noted
use Rattle.acc_place.specs.Directives.{Directive}
use Rattle.acc_place.specs.Histories.{is_closed}
use Rattle.acc_place.specs.Standings.{Standing, walk_of}
use Rattle.acc_place.proofs.AcceptedDirective.{refused_closing}
use Rattle.acc_place.proofs.LastClose.{none_closed}
use Rattle.acc_work.specs.declared.item.ItemLabel.{ItemLabel}
use Rattle.acc_work.specs.declared.item.Shown.{Shown}

-- ## No directive is accepted

-- What was placed is as it was.
record KeepsPlaced (w v : State) : Type 0 where
  pub config : v.config ≡ w.config
  pub history : v.history ≡ w.history
  pub counts : v.counts ≡ w.counts

kept : (w : State) → KeepsPlaced w w
kept w = record { config = refl; history = refl; counts = refl }

waited : (w : State) (h device : ℕ) (counts : List ℕ) (answer : Result Bool Fault) → KeepsPlaced w (waited_state w h device counts answer)
waited w h device counts (Ok true) = record { config = refl; history = refl; counts = refl }
waited w h device counts (Ok false) = kept w
waited w h device counts (Err fault) = kept w

told : (w : State) (h : ℕ) (item : ItemLabel) (answer : Result Shown Fault) → KeepsPlaced w (item_state w h item answer)
told w h item (Ok shown) = record { config = refl; history = refl; counts = refl }
told w h item (Err fault) = kept w

chosen : (w : State) (b : Bool) (x y : Outcome) → KeepsPlaced w x.state → KeepsPlaced w y.state → KeepsPlaced w (cond b x y).state
chosen w true x y first second = first
chosen w false x y first second = second

took : (w : State) (labels : List Label) (at : QueueAt) (ops : List OpLabel) → KeepsPlaced w (take_step w labels at ops).state
took w labels at [] = chosen w (nat_lt 0 (batches_held w labels at)) _ _ (record { config = refl; history = refl; counts = refl }) (kept w)
took w labels at (op ∷ ops) = kept w

performed : (w : State) (labels : List Label) (at : QueueAt) (ops : List OpLabel) → KeepsPlaced w (perform_step w labels at ops).state
performed w labels at [] = kept w
performed w labels at (op ∷ ops) = chosen w (can_perform labels w.work at op) _ _ (record { config = refl; history = refl; counts = refl }) (kept w)

of_queue : (w : State) (there : Bool) (o : Outcome) → KeepsPlaced w o.state → KeepsPlaced w (queue_step there w o).state
of_queue w true o same = same
of_queue w false o same = kept w

module _ (w : State) (begun : (standing_of w).closing ≡ true) where
  placed : (h : ℕ) (d : Directive) → KeepsPlaced w (placed_state w h d (place_answer false w h d))
  placed h d =
      subst (λ fault. KeepsPlaced w (placed_state w h d (unless (place_fault false w h d fault) (answer_of (standing_of w) d (walk_of (standing_of w) h d)))))
      (sym (refused_closing w.config (standing_of w) h d begun)) (kept w)

  wanted : (h : ℕ) (host : HostView) (want : Want) → KeepsPlaced w (host_step false w h host want).state
  wanted h host stays = record { config = refl; history = refl; counts = refl }
  wanted h host (sets ids) = record { config = refl; history = refl; counts = refl }
  wanted h host (refuses fault) = record { config = refl; history = refl; counts = refl }
  wanted h host (places d) = let s = placed h d in record { config = s.config; history = s.history; counts = s.counts }
  wanted h host (awaits device counts) = let s = waited w h device counts (wait_answer false w device counts) in record { config = s.config; history = s.history; counts = s.counts }
  wanted h host (records item) = let s = told w h item (item_answer false w item) in record { config = s.config; history = s.history; counts = s.counts }

  named : (h : ℕ) (host : Option HostView) → KeepsPlaced w (named_step false w h host).state
  named h None = kept w
  named h (Some host) = wanted h host (wants w.config.devices host)

  keeps : (e : Event) → MayCome false e → KeepsPlaced w (step false w e).state
  keeps (event.Host h) may = named h (slice_get w.hosts h)
  keeps (event.Take at) may = of_queue w (is_there w at) _ (took w (labels_of w) at (ops_left w (labels_of w) at))
  keeps (event.Perform at) may = of_queue w (is_there w at) _ (performed w (labels_of w) at (ops_left w (labels_of w) at))
  keeps event.Close may = absurd cc

-- ## Closes do nothing

-- each of the first queues is closed
abbrev AreClosed : Standing → ℕ → Type 0
AreClosed st count = (n : ℕ) → n < count → is_closed st (at_seat n) ≡ true

no_closes : (w : State) (st : Standing) (count : ℕ) → AreClosed st count → closes w st count ≡ []
no_closes w st zero closed = refl
no_closes w st (suc n) closed =
    ap (λ b. cond (not b && nat_lt (batches_held w st.labels (at_seat n)) w.config.room) (noted.Closed (at_seat n) ∷ closes w st n) (closes w st n)) (closed n (omega arith))
    ∙ no_closes w st n (λ k low. closed k (omega (arith, low)))

-- Closing has begun, and each queue is closed.
record AllHaveClosed (w : State) : Type 0 where
  pub begun : (standing_of w).closing ≡ true
  pub closed : AreClosed (standing_of w) (queue_count w.config)

all_have_closed : (w : State) → is_all_closed w ≡ true → AllHaveClosed w
all_have_closed w e =
    let p : ℕ → Bool = λ n. is_closed (standing_of w) (at_seat n) in
    let parts = and_parts (standing_of w).closing (list_all p (numbers_from 0 (queue_count w.config))) e in
    record {
      begun = parts.0;
      closed = λ n low. (let same : n ≡ 0 + n = omega arith in ap p same ∙ each_of p 0 (queue_count w.config) n parts.1 low);
    }

-- It has begun where a queue is closed.
pub all_are_closed : (w : State) → IsLegalState w → 0 < queue_count w.config → ((n : ℕ) → n < queue_count w.config → is_closed (standing_of w) (at_seat n) ≡ true)
    → is_all_closed w ≡ true
all_are_closed w l some closed =
    let p : ℕ → Bool = λ n. is_closed (standing_of w) (at_seat n) in
    and_from (standing_of w).closing (list_all p (numbers_from 0 (queue_count w.config)))
    (elim (cases_Bool (standing_of w).closing) [
      | inl begun ↦ begun
      | inr early ↦
          let none : is_closed (standing_of w) (at_seat 0) ≡ false = ap (list_any (λ q. same_queue q (at_seat 0))) (none_closed w.config w.history w.counts l.accepted early) in
          let wrong : true ≡ false = sym (closed 0 some) ∙ none in
          absurd cc
    ])
    (all_of p 0 (queue_count w.config) (λ n low. (let same : 0 + n ≡ n = omega arith in ap p same ∙ closed n low)))

closes_nothing : (w : State) → AllHaveClosed w → (step false w event.Close).state ≡ w
closes_nothing w o =
    let st = standing_of w in
    let same : closes w st (queue_count w.config) ++ with_closing st w.history ≡ w.history =
    ap (λ es. es ++ with_closing st w.history) (no_closes w st (queue_count w.config) o.closed) ∙ ap (λ b. cond b w.history (noted.Closing ∷ w.history)) o.begun in
    ap (λ history. let v : State = record w { history = history } in v) same

still_closed : (w v : State) → KeepsPlaced w v → is_all_closed w ≡ true → is_all_closed v ≡ true
still_closed w v k e = rw (k.config, k.history, k.counts) e

-- ## Without the closes

-- Other events, no more, lead to the same, and none of them is a close.
record ComesUnclosed (w : State) (events : List Event) : Type 0 where
  pub rest : List Event
  pub may : All (MayCome false) rest
  pub few : length rest ≤ length events
  pub same : after w rest ≡ after w events

next_closed : (w : State) (e : Event) → MayCome false e → is_all_closed w ≡ true → is_all_closed (step false w e).state ≡ true
next_closed w e may closed = still_closed w (step false w e).state (keeps w (all_have_closed w closed).begun e may) closed

goes_on : (w : State) (e : Event) (events : List Event) → MayCome false e → ComesUnclosed (step false w e).state events → ComesUnclosed w (e ∷ events)
goes_on w e events may r = record { rest = e ∷ r.rest; may = All-cons (MayCome false) e r.rest may r.may; few = omega (arith, r.few); same = r.same }

comes_unclosed : (events : List Event) (w : State) → is_all_closed w ≡ true → ComesUnclosed w events
comes_unclosed [] w closed = record { rest = []; may = All-nil (MayCome false); few = omega arith; same = refl }
comes_unclosed (event.Host h ∷ events) w closed =
    goes_on w (event.Host h) events tt (comes_unclosed events (step false w (event.Host h)).state (next_closed w (event.Host h) tt closed))
comes_unclosed (event.Take at ∷ events) w closed =
    goes_on w (event.Take at) events tt (comes_unclosed events (step false w (event.Take at)).state (next_closed w (event.Take at) tt closed))
comes_unclosed (event.Perform at ∷ events) w closed =
    goes_on w (event.Perform at) events tt (comes_unclosed events (step false w (event.Perform at)).state (next_closed w (event.Perform at) tt closed))
comes_unclosed (event.Close ∷ events) w closed =
    let r = comes_unclosed events w closed in
    record { rest = r.rest; may = r.may; few = omega (arith, r.few); same = r.same ∙ ap (λ (v : State). after v events) (sym (closes_nothing w (all_have_closed w closed))) }

may_come : (e : Event) → MayCome false e → MayCome true e
may_come (event.Host h) may = tt
may_come (event.Take at) may = tt
may_come (event.Perform at) may = tt
may_come event.Close may = absurd cc

pub closed_is_unclosing : ClosedIsUnclosing
closed_is_unclosing w e closed first = λ events may ends.
    let r = comes_unclosed events w closed in
    let s = first r.rest r.may (subst (λ (v : State). IsEnd v) (sym r.same) ends) in
    record {
      rest = s.rest;
      may = All-weaker (MayCome false) (MayCome true) may_come s.rest s.may;
      fewer = omega (arith, s.fewer, r.few);
      alike = subst (λ (v : State). Alike (after (step false w e).state s.rest) v) r.same s.alike;
    }

pub either_closing : (closing : Bool) (w : State) (e : Event) → is_all_closed w ≡ true → MayGoFirst false w e → MayGoFirst closing w e
either_closing true w e closed first = closed_is_unclosing w e closed first
either_closing false w e closed first = first

pub first_of : (closing : Bool) (w : State) (o : Option Event) → ((e : Event) → MayGoFirst false w e → MayGoFirst closing w e)
    → IfSome o (λ e. MayGoFirst false w e) → IfSome o (λ e. MayGoFirst closing w e)
first_of closing w (Some e) so first = so e first
first_of closing w None so first = first
