-- A directive commutes with every event of the others, where these have none to place and no queue can be full.
use Rattle.std.proofs.Common.{inl, inr, ◌⊎◌, ◌≡◌, ℕ, ◌+◌, ◌<◌, ◌≤◌, Bool, true, false, ◌&&◌, not, List, [], ◌∷◌, length, refl, sym, ap, ap₂, ◌∙◌, subst, Some, None, Option, Ok, Err, Result, nat_lt, slice_get, slice_set, arith}
use Rattle.std.specs.Prelude.{All, IsTrue, ◌==◌}
use Rattle.std.proofs.lemmas.Bool.{and_from, cases_eq, lt-ltb, ne_eqb}
use Rattle.std.proofs.lemmas.List.{set_comm}
use Rattle.std.proofs.lemmas.List.Elements.{All-head}
use Rattle.acc_base.proofs.Lists.{All-behind}
use Rattle.acc_base.specs.Configurations.{Configuration}
use Rattle.acc_base.specs.declared.fault.Fault.{Fault}
use Rattle.acc_base.specs.declared.ids.QueueAt.{QueueAt}
use Rattle.acc_base.specs.declared.ids.TheConstants.{QUEUES}
use Rattle.acc_base.specs.Queues.{seat}
use Rattle.acc_batch.proofs.Seats.{set_there}
use Rattle.acc_batch.specs.declared.label.Label.{Label}
use Rattle.acc_batch.specs.declared.label.OpLabel.{OpLabel}
use Rattle.acc_core.specs.Legality.{IsLegalState}
use Rattle.acc_core.specs.Machine.{State, Outcome, step, standing_of, labels_of, is_empty, is_full, is_there, batches_held, idle, ops_left, perform_step, place_answer, place_fault, placed_state, queue_fault, take_step, unless, host_outcome, host_step, named_step}
use Rattle.acc_host.specs.declared.event.Event.{Event}
use Rattle.acc_host.specs.declared.event.Event.TheVariants as event
use Rattle.acc_host.specs.declared.state.Reply.TheVariants as reply
use Rattle.acc_host.specs.Hosts.{HostView, wants, after_place, host_after, owing, reply_to}
use Rattle.acc_host.specs.Steps.{Owed, nothing_owed, owes_seen, owes_test, owed_by, Want, places}
use Rattle.acc_place.proofs.LabelsSound.{walk_low}
use Rattle.acc_place.proofs.LabelsThere.{labels_there}
use Rattle.acc_place.specs.Accepting.{refusal}
use Rattle.acc_place.specs.Batches.{answer_of, batch_of, labels_with, next_number, walk_at}
use Rattle.acc_place.specs.declared.directive.PlaceEntry.TheVariants as noted
use Rattle.acc_place.specs.declared.directive.Placed.{Placed}
use Rattle.acc_place.specs.Directives.{Directive}
use Rattle.acc_place.specs.Standings.{Standing, Walk, walk_of}
use Rattle.acc_work.specs.Logs.{items_of}
use Rattle.acc_explore.specs.Alike.{Alike}
use Rattle.acc_explore.specs.Explorations.{IsEnd}
use Rattle.acc_explore.specs.Placements.{PlacementsCommute, may_place}
use Rattle.acc_explore.specs.Runs.{MayCome}
use Rattle.acc_explore.specs.Takes.{unplaced}
use Rattle.acc_explore.proofs.AddedBatches.{labels_placed}
use Rattle.acc_explore.proofs.AlikeSteps.{alike_itself}
use Rattle.acc_explore.proofs.Explored.{legal_step}
use Rattle.acc_explore.proofs.KnownEvents.{has_seat}
use Rattle.acc_explore.proofs.OtherHosts.{with_hosts, Apart, apart_take, apart_perform, apart_queue, beside_want}
use Rattle.acc_explore.proofs.PlacedBeside.{Beside as PlacedBeside, host_beside, perform_beside, take_beside}
use Rattle.acc_explore.proofs.PlacingStays.{StandsPlacing, Stays, is_tested, standing_stays, stands_placing, stands_still, stays_host, stays_perform, stays_queue, stays_take}
use Rattle.acc_explore.proofs.UnplacedDirectives.{had_one_more, unplaced_apart}

-- what a directive is answered where no queue is full
abbrev answer_by : State → ℕ → Directive → Standing → Result Placed Fault
answer_by w h d st = unless (refusal w.config st h d) (answer_of st d (walk_of st h d))

module _ (w : State) (l : IsLegalState w) (h : ℕ) (host : HostView) (d : Directive) (p : StandsPlacing w h host d) where
  -- ## It isn't refused for want of room

  abbrev st : Standing
  st = standing_of w

  abbrev walk : Walk
  walk = walk_of st h d

  -- what it places is on a queue that is there
  placed_there : refusal w.config st h d ≡ None → (op : OpLabel) (ops : List OpLabel) → batch_of st walk ≡ op ∷ ops → is_there w (walk_at walk) ≡ true
  placed_there accepted op ops batch =
      let b : Label = record { at = walk_at walk; number = next_number (walk_at walk) (labels_of w); host = h; items_done = items_of h w.work; ops = op ∷ ops } in
      let There : Label → Type 0 = λ (m : Label). (m.at.device < w.config.devices) × (m.at.queue < QUEUES) × (0 < length m.ops) in
      let all = labels_there w.config (noted.Accepted h d ∷ w.history) (items_of h w.work ∷ w.counts) (accepted, l.accepted) in
      let one : All There (b ∷ []) =
      All-behind There (labels_of w) (b ∷ [])
      (subst (λ (ls : List Label). All There ls) (labels_placed w h d ∙ ap (labels_with (walk_at walk) h (items_of h w.work) (labels_of w)) batch) all) in
      and_from (nat_lt walk.device w.config.devices) (nat_lt walk.queue QUEUES) (lt-ltb walk.device w.config.devices (All-head There b [] one).0) (lt-ltb walk.queue QUEUES (walk_low st h d))

  not_full : refusal w.config st h d ≡ None → is_full w st walk ≡ false
  not_full accepted = by (batch_of st walk) refl
    where
      by : (ops : List OpLabel) → batch_of st walk ≡ ops → is_full w st walk ≡ false
      by [] batch = ap (λ (ops : List OpLabel). not (is_empty ops) && (batches_held w (labels_of w) (walk_at walk) == w.config.room)) batch
      by (op ∷ ops) batch =
          let s = has_seat w (walk_at walk) (placed_there accepted op ops batch) in
          let held = batches_held w (labels_of w) (walk_at walk) in
          let low = p.room (seat (walk_at walk)) s.low in
          let room : held + unplaced w.hosts ≤ w.config.room = subst (λ (q : QueueAt). batches_held w (labels_of w) q + unplaced w.hosts ≤ w.config.room) s.same low in
          ap₂ (λ (ops : List OpLabel) (b : Bool). not (is_empty ops) && b) batch
          (ne_eqb held w.config.room (λ e. absurd (omega (arith, e, room, had_one_more w.config.devices host d p.want, p.own))))

  fault_by : (fault : Option Fault) → refusal w.config st h d ≡ fault → place_fault false w h d fault ≡ fault
  fault_by (Some fault) e = refl
  fault_by None e = ap queue_fault (not_full e)

  pub answer_is : place_answer false w h d ≡ answer_by w h d st
  answer_is = ap (λ fault. unless fault (answer_of st d walk)) (fault_by (refusal w.config st h d) refl)

  -- ## Its step

  pub places_it : step false w (event.Host h) ≡ host_outcome (placed_state w h d (place_answer false w h d)) h host (after_place d (place_answer false w h d))
  places_it = ap (named_step false w h) p.there ∙ ap (host_step false w h host) p.want

-- in another state with the same directives behind it, it is answered the same
answer_same : (w s : State) → IsLegalState w → IsLegalState s → (h : ℕ) (host : HostView) (d : Directive) → StandsPlacing w h host d → StandsPlacing s h host d → Stays w s h → place_answer false s h d ≡ place_answer false w h d
answer_same w s l m h host d p r x =
    answer_is s m h host d r
    ∙ (ap₂ (λ (c : Configuration) (st : Standing). unless (refusal c st h d) (answer_of st d (walk_of st h d))) x.config (standing_stays w s h x)
    ∙ sym (answer_is w l h host d p))

placed_hosts : (w : State) (h : ℕ) (d : Directive) (a : Result Placed Fault) → (placed_state w h d a).hosts ≡ w.hosts
placed_hosts w h d (Ok placed) = refl
placed_hosts w h d (Err fault) = refl

placed_config : (w : State) (h : ℕ) (d : Directive) (a : Result Placed Fault) → (placed_state w h d a).config ≡ w.config
placed_config w h d (Ok placed) = refl
placed_config w h d (Err fault) = refl

-- ## What commutes with it

abbrev Moves : State → ℕ → Event → Type 0
Moves w h x =
    IsTrue (may_place h (step false w x).state)
    × Alike (step false (step false w (event.Host h)).state x).state (step false (step false w x).state (event.Host h)).state

abbrev Keeps : State → ℕ → Event → Type 0
Keeps w h x = (x ≡ event.Host h) ⊎ ((step false w x).reply ≡ reply.Idle) ⊎ Moves w h x

module _ (w : State) (l : IsLegalState w) (h : ℕ) (host : HostView) (d : Directive) (p : StandsPlacing w h host d) where
  abbrev answer : Result Placed Fault
  answer = place_answer false w h d

  abbrev new : HostView
  new = host_after (after_place d answer) host

  abbrev placed : State
  placed = placed_state w h d answer

  abbrev hosts : List HostView
  hosts = slice_set w.hosts h new

  behind : (step false w (event.Host h)).state ≡ with_hosts placed hosts
  behind = ap (λ (o : Outcome). o.state) (places_it w l h host d p) ∙ ap (λ (hs : List HostView). with_hosts placed (slice_set hs h new)) (placed_hosts w h d answer)

  finish : (x : Event) (last : List HostView) → Stays w (step false w x).state h → (step false (with_hosts placed hosts) x).state ≡ with_hosts (placed_state (step false w x).state h d answer) last
      → slice_set (step false w x).state.hosts h new ≡ last → Moves w h x
  finish x last stays again set =
      let s = (step false w x).state in
      let r = stands_still w s h host d p stays in
      let m = legal_step w x l in
      let first : (step false (step false w (event.Host h)).state x).state ≡ with_hosts (placed_state s h d answer) last = ap (λ (v : State). (step false v x).state) behind ∙ again in
      let second : (step false s (event.Host h)).state ≡ with_hosts (placed_state s h d answer) last =
      ap (λ (o : Outcome). o.state) (places_it s m h host d r)
      ∙ (ap (λ (a : Result Placed Fault). (host_outcome (placed_state s h d a) h host (after_place d a)).state) (answer_same w s l m h host d p r stays)
      ∙ (ap (λ (hs : List HostView). with_hosts (placed_state s h d answer) (slice_set hs h new)) (placed_hosts s h d answer)
      ∙ ap (with_hosts (placed_state s h d answer)) set)) in (
        is_tested s h host d r,
        subst (λ (v : State). Alike (step false (step false w (event.Host h)).state x).state v) (first ∙ sym second) (alike_itself (step false (step false w (event.Host h)).state x).state),
      )

  -- ## A queue

  queue_moves : (x : Event) → Apart w hosts (step false w x) (step false (with_hosts w hosts) x) → Apart placed hosts (step false placed x) (step false (with_hosts placed hosts) x) → Stays w (step false w x).state h
      → (step false placed x).state ≡ placed_state (step false w x).state h d answer → Moves w h x
  queue_moves x a b stays beside =
      finish x hosts stays (b.same ∙ ap (λ (v : State). with_hosts v hosts) beside) (ap (λ (hs : List HostView). slice_set hs h new) a.kept)

  -- refused or not, the event does nothing, or does the same behind it
  abbrev AnsweredBeside : Result Placed Fault → Event → Type 0
  AnsweredBeside a x = ((step false w x).reply ≡ reply.Idle) ⊎ ((step false (placed_state w h d a) x).state ≡ placed_state (step false w x).state h d a)

  answered : (a : Result Placed Fault) (x : Event) → PlacedBeside w l h d x → AnsweredBeside a x
  answered (Ok given) x b = b
  answered (Err fault) x b = inr refl

  keeps_queue : (x : Event) → Apart w hosts (step false w x) (step false (with_hosts w hosts) x) → Apart placed hosts (step false placed x) (step false (with_hosts placed hosts) x) → Stays w (step false w x).state h → AnsweredBeside answer x → Keeps w h x
  keeps_queue x a b stays (inl idle) = inr (inl idle)
  keeps_queue x a b stays (inr beside) = inr (inr (queue_moves x a b stays beside))

  keeps_take : (at : QueueAt) → Keeps w h (event.Take at)
  keeps_take at =
      keeps_queue (event.Take at)
      (apart_queue (is_there w at) w hosts _ _ (apart_take w hosts (labels_of w) at (ops_left w (labels_of w) at)))
      (apart_queue (is_there placed at) placed hosts _ _ (apart_take placed hosts (labels_of placed) at (ops_left placed (labels_of placed) at)))
      (stays_queue w h (is_there w at) (take_step w (labels_of w) at (ops_left w (labels_of w) at)) (stays_take w h at (ops_left w (labels_of w) at)))
      (answered answer (event.Take at) (take_beside w l h d at))

  keeps_perform : (at : QueueAt) → Keeps w h (event.Perform at)
  keeps_perform at =
      keeps_queue (event.Perform at)
      (apart_queue (is_there w at) w hosts _ _ (apart_perform w hosts (labels_of w) at (ops_left w (labels_of w) at)))
      (apart_queue (is_there placed at) placed hosts _ _ (apart_perform placed hosts (labels_of placed) at (ops_left placed (labels_of placed) at)))
      (stays_queue w h (is_there w at) (perform_step w (labels_of w) at (ops_left w (labels_of w) at)) (stays_perform w h at (ops_left w (labels_of w) at)))
      (answered answer (event.Perform at) (perform_beside w l h d at))

  -- ## Another host

  -- it has no directive to place
  places_none : (k : ℕ) (one : HostView) → slice_get w.hosts k ≡ Some one → (k ≡ h → ⊥) → (want : Want) → wants w.config.devices one ≡ want → (e : Directive) → want ≡ places e → ⊥
  places_none k one here other want is e same =
      absurd (omega (arith, had_one_more w.config.devices one e (is ∙ same), unplaced_apart w.hosts h k host one p.there here other, p.own))

  host_answered : (a : Result Placed Fault) (k : ℕ) (one : HostView) (want : Want) → (k ≡ h → ⊥) → ((e : Directive) → want ≡ places e → ⊥)
      → (host_step false (placed_state w h d a) k one want).state ≡ placed_state (host_step false w k one want).state h d a
  host_answered (Ok given) k one want other none = host_beside w l h d k other one want none
  host_answered (Err fault) k one want other none = refl

  host_moves : (k : ℕ) (one : HostView) → slice_get w.hosts k ≡ Some one → (k ≡ h → ⊥) → (want : Want) → wants w.config.devices one ≡ want → Moves w h (event.Host k)
  host_moves k one here other want is =
      let none = places_none k one here other want is in
      let v = with_hosts placed hosts in
      let o = host_step false w k one want in
      let b = beside_want placed hosts k one want in
      let there : slice_get hosts k ≡ Some one = set_there w.hosts h k new (λ e. other (sym e)) ∙ here in
      let want_there : wants placed.config.devices one ≡ want = ap (λ (c : Configuration). wants c.devices one) (placed_config w h d answer) ∙ is in
      let one_step : step false w (event.Host k) ≡ o = ap (named_step false w k) here ∙ ap (host_step false w k one) is in
      let two_step : step false v (event.Host k) ≡ host_step false v k one want = ap (named_step false v k) there ∙ ap (host_step false v k one) want_there in
      let beside = host_answered answer k one want other none in
      let hosts_are : o.state.hosts ≡ slice_set w.hosts k b.host =
      sym (placed_hosts o.state h d answer)
      ∙ (ap (λ (u : State). u.hosts) (sym beside) ∙ (b.first ∙ ap (λ (hs : List HostView). slice_set hs k b.host) (placed_hosts w h d answer))) in
      let stays : Stays w o.state h = stays_host w h k one here other want is none in
      finish (event.Host k) (slice_set hosts k b.host)
      (subst (λ (q : Outcome). Stays w q.state h) (sym one_step) stays)
      (ap (λ (q : Outcome). q.state) two_step
      ∙ (b.same
      ∙ (ap (λ (u : State). with_hosts u (slice_set hosts k b.host)) beside
      ∙ ap (λ (q : Outcome). with_hosts (placed_state q.state h d answer) (slice_set hosts k b.host)) (sym one_step))))
      (ap (λ (q : Outcome). slice_set q.state.hosts h new) one_step
      ∙ (ap (λ (hs : List HostView). slice_set hs h new) hosts_are ∙ set_comm w.hosts k h b.host new other))

  keeps_host : (k : ℕ) → Keeps w h (event.Host k)
  keeps_host k = elim (cases_eq k h) [
    | inl same ↦ inl (ap event.Host same)
    | inr other ↦ by other (slice_get w.hosts k) refl
  ]
    where
      by : (k ≡ h → ⊥) → (o : Option HostView) → slice_get w.hosts k ≡ o → Keeps w h (event.Host k)
      by other None none = inr (inl (ap (λ (o : Option HostView). (named_step false w k o).reply) none))
      by other (Some one) here = inr (inr (host_moves k one here other (wants w.config.devices one) refl))

  keeps : (x : Event) → MayCome false x → Keeps w h x
  keeps (event.Host k) may = keeps_host k
  keeps (event.Take at) may = keeps_take at
  keeps (event.Perform at) may = keeps_perform at
  keeps event.Close may = cc

  -- it is still to come
  goes : (a : Result Placed Fault) → reply_to (after_place d a) ≡ reply.Idle → ⊥
  goes (Ok given) e = by (owed_by d given) e
    where
      by : (owed : Owed) → reply_to (Ok (owing owed)) ≡ reply.Idle → ⊥
      by nothing_owed e = cc
      by (owes_seen device counts) e = cc
      by (owes_test device counts) e = cc
  goes (Err fault) e = cc

  no_end : IsEnd w → ⊥
  no_end ends = goes answer (sym (ap (λ (o : Outcome). o.reply) (places_it w l h host d p)) ∙ ends (event.Host h) tt)

pub placements_commute : PlacementsCommute
placements_commute h = record {
  kept = λ w x l test may. let s = stands_placing w h test in keeps w l h s.0 s.1.0 s.1.1 x may;
  waits = λ w l test ends. let s = stands_placing w h test in no_end w l h s.0 s.1.0 s.1.1 ends;
}
