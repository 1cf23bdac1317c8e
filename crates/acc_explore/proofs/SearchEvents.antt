-- Which events a search follows.
use Rattle.std.proofs.Common.{inl, inr, ◌≡◌, ℕ, zero, suc, Bool, true, false, List, [], ◌∷◌, ◌++◌, length, reverse, refl, sym, ap, subst, ◌∙◌}
use Rattle.std.specs.Prelude.{All, Contains}
use Rattle.std.proofs.lemmas.List.{length-map, reverse-reverse}
use Rattle.std.proofs.lemmas.List.Elements.{All-append, All-cons, All-contains, All-contains_itself, All-nil, All-weaker, Contains-append_left, Contains-append_right}
use Rattle.acc_base.specs.Configurations.{Configuration}
use Rattle.acc_base.specs.Queues.{at_seat, queue_count}
use Rattle.acc_core.specs.Machine.{State, Outcome, step}
use Rattle.acc_core.specs.Worlds.{OnePerHost, first_state}
use Rattle.acc_explore.specs.Arrivals.{events_to, found_at}
use Rattle.acc_explore.specs.declared.arrival.Arrival.{Arrival}
use Rattle.acc_explore.specs.Explorations.{IsEnd}
use Rattle.acc_explore.specs.inner.Searching.{events_in_turn}
use Rattle.acc_explore.specs.Runs.{MayCome, after, closing_events, open_events, events_of_hosts, events_of_queues}
use Rattle.acc_explore.specs.Scripts.{AreOfOneScript}
use Rattle.acc_explore.proofs.AfterMore.{after_more}
use Rattle.acc_explore.proofs.ArrivalPaths.{events_lead}
use Rattle.acc_explore.proofs.KnownEvents.{known}
use Rattle.acc_explore.proofs.OneScript.{script_kept}
use Rattle.acc_host.specs.declared.event.Event.{Event}
use Rattle.acc_host.specs.declared.event.Event.TheVariants as event
use Rattle.acc_host.specs.declared.program.HostProgram.{HostProgram}
use Rattle.acc_host.specs.declared.state.Reply.TheVariants as reply
use Rattle.acc_host.specs.Hosts.{HostView, ready}
use Rattle.acc_place.proofs.AnswersKept.{All-reversed}

-- ## They are of one script

pub script_between : (start a b : State) → AreOfOneScript start a → AreOfOneScript start b → AreOfOneScript a b
script_between start a b p q = record { config = q.config ∙ sym p.config; statements = q.statements ∙ sym p.statements }

pub script_of_found : (start : State) (arrivals : List Arrival) (n : ℕ) → AreOfOneScript start (found_at start arrivals n).state
script_of_found start arrivals n =
    subst (AreOfOneScript start) (events_lead start arrivals n).0 (script_kept start (events_to arrivals n))

pub script_behind : (start : State) (arrivals : List Arrival) (n : ℕ) (e : Event) → AreOfOneScript start (step false (found_at start arrivals n).state e).state
script_behind start arrivals n e =
    let events = events_to arrivals n in
    subst (AreOfOneScript start) (after_more start events e ∙ ap (λ (w : State). (step false w e).state) (events_lead start arrivals n).0)
    (script_kept start (events ++ e ∷ []))

same_count : (a b : State) → AreOfOneScript a b → length b.hosts ≡ length a.hosts
same_count a b s =
    sym (length-map b.hosts (λ (host : HostView). host.statements))
    ∙ (ap length s.statements ∙ length-map a.hosts (λ (host : HostView). host.statements))

-- states of one script have the same events
pub events_same : (closing : Bool) (a b : State) → AreOfOneScript a b → open_events closing b ≡ open_events closing a
events_same closing a b s =
    ap (λ (n : ℕ). events_of_hosts n ++ (events_of_queues (queue_count b.config) ++ closing_events closing)) (same_count a b s)
    ∙ ap (λ (c : Configuration). events_of_hosts (length a.hosts) ++ (events_of_queues (queue_count c) ++ closing_events closing)) s.config

abbrev pub events_for : Bool → Configuration → List Event
events_for closing config = events_of_hosts config.hosts ++ (events_of_queues (queue_count config) ++ closing_events closing)

-- those of the state with which a search begins
pub events_at_first : (closing : Bool) (config : Configuration) (programs : List HostProgram) (before : List Event) → OnePerHost config programs
    → open_events closing (after (first_state config programs) before) ≡ events_for closing config
events_at_first closing config programs before one =
    events_same closing (first_state config programs) (after (first_state config programs) before) (script_kept (first_state config programs) before)
    ∙ ap (λ (n : ℕ). events_of_hosts n ++ (events_of_queues (queue_count config) ++ closing_events closing)) (length-map programs ready ∙ one.count)

-- ## In turn they are the same

turned : (xs : List Event) → All (Contains (reverse xs)) xs
turned xs = subst (All (Contains (reverse xs))) (reverse-reverse xs) (All-reversed (Contains (reverse xs)) (reverse xs) (All-contains_itself (reverse xs)))

turned_back : (xs : List Event) → All (Contains xs) (reverse xs)
turned_back xs = All-reversed (Contains xs) xs (All-contains_itself xs)

more : (xs ys zs : List Event) → ((e : Event) → Contains xs e → Contains ys e) → All (Contains xs) zs → All (Contains ys) zs
more xs ys zs within all = All-weaker (Contains xs) (Contains ys) within zs all

module _ (closing : Bool) (config : Configuration) where
  abbrev H : List Event
  H = events_of_hosts config.hosts

  abbrev Q : List Event
  Q = events_of_queues (queue_count config)

  abbrev C : List Event
  C = closing_events closing

  abbrev turn : List Event
  turn = events_in_turn closing config.hosts (queue_count config)

  abbrev every : List Event
  every = events_for closing config

  turn_has : All (Contains turn) every
  turn_has =
      All-append (Contains turn) H (Q ++ C)
      (more (reverse H) turn H (λ e x. Contains-append_left (reverse H ++ reverse Q) C e (Contains-append_left (reverse H) (reverse Q) e x)) (turned H))
      (All-append (Contains turn) Q C
      (more (reverse Q) turn Q (λ e x. Contains-append_left (reverse H ++ reverse Q) C e (Contains-append_right (reverse H) (reverse Q) e x)) (turned Q))
      (more C turn C (λ e x. Contains-append_right (reverse H ++ reverse Q) C e x) (All-contains_itself C)))

  -- each of those that come in turn is one of them
  pub every_has : All (Contains every) turn
  every_has =
      All-append (Contains every) (reverse H ++ reverse Q) C
      (All-append (Contains every) (reverse H) (reverse Q)
      (more H every (reverse H) (λ e x. Contains-append_left H (Q ++ C) e x) (turned_back H))
      (more Q every (reverse Q) (λ e x. Contains-append_right H (Q ++ C) e (Contains-append_left Q C e x)) (turned_back Q)))
      (more C every C (λ e x. Contains-append_right H (Q ++ C) e (Contains-append_right Q C e x)) (All-contains_itself C))

  -- what is so of those is so of each of them
  pub every_from_turn : (P : Event → Type 0) → All P turn → All P every
  every_from_turn P all = All-weaker (Contains turn) P (λ e x. All-contains P turn e all x) every turn_has

-- ## Those of a search

module _ (closing : Bool) (config : Configuration) (programs : List HostProgram) (before : List Event) (one : OnePerHost config programs) (events : List Event)
    (are : events ≡ events_in_turn closing config.hosts (queue_count config)) where
  abbrev start : State
  start = after (first_state config programs) before

  -- each is one of the start's
  pub each_listed : All (Contains (open_events closing start)) events
  each_listed =
      subst (λ (xs : List Event). All (Contains xs) events) (sym (events_at_first closing config programs before one))
      (subst (All (Contains (events_for closing config))) (sym are) (every_has closing config))

  -- what is so of each is so of those of a state that was found
  pub so_of_every : (arrivals : List Arrival) (n : ℕ) (P : Event → Type 0) → All P events → All P (open_events closing (found_at start arrivals n).state)
  so_of_every arrivals n P all =
      let w = (found_at start arrivals n).state in
      let same : open_events closing w ≡ events_for closing config = events_same closing start w (script_of_found start arrivals n) ∙ events_at_first closing config programs before one in
      subst (All P) (sym same) (every_from_turn closing config P (subst (All P) are all))

-- ## They may come

hosts_may : (closing : Bool) (n : ℕ) → All (MayCome closing) (events_of_hosts n)
hosts_may closing zero = All-nil (MayCome closing)
hosts_may closing (suc n) = All-cons (MayCome closing) (event.Host n) (events_of_hosts n) tt (hosts_may closing n)

queues_may : (closing : Bool) (n : ℕ) → All (MayCome closing) (events_of_queues n)
queues_may closing zero = All-nil (MayCome closing)
queues_may closing (suc n) =
    All-cons (MayCome closing) (event.Take (at_seat n)) (event.Perform (at_seat n) ∷ events_of_queues n) tt
    (All-cons (MayCome closing) (event.Perform (at_seat n)) (events_of_queues n) tt (queues_may closing n))

close_may : (closing : Bool) → All (MayCome closing) (closing_events closing)
close_may true = All-cons (MayCome true) event.Close [] refl (All-nil (MayCome true))
close_may false = All-nil (MayCome false)

pub may_come : (closing : Bool) (w : State) (e : Event) → Contains (open_events closing w) e → MayCome closing e
may_come closing w e listed =
    All-contains (MayCome closing) (open_events closing w) e
    (All-append (MayCome closing) (events_of_hosts (length w.hosts)) (events_of_queues (queue_count w.config) ++ closing_events closing) (hosts_may closing (length w.hosts))
    (All-append (MayCome closing) (events_of_queues (queue_count w.config)) (closing_events closing) (queues_may closing (queue_count w.config)) (close_may closing))) listed

may_too : (closing : Bool) (e : Event) → MayCome false e → MayCome closing e
may_too closing (event.Host h) may = tt
may_too closing (event.Take at) may = tt
may_too closing (event.Perform at) may = tt
may_too closing event.Close may = cc

-- all but a close may come where the owner doesn't close
pub may_unless_close : (e : Event) → (e ≡ event.Close → ⊥) → MayCome false e
may_unless_close (event.Host h) other = tt
may_unless_close (event.Take at) other = tt
may_unless_close (event.Perform at) other = tt
may_unless_close event.Close other = absurd (other refl)

pub no_close : (e : Event) → e ≡ event.Close → MayCome false e → ⊥
no_close (event.Host h) is may = cc
no_close (event.Take at) is may = cc
no_close (event.Perform at) is may = cc
no_close event.Close is may = cc

-- a host's or a queue's event does nothing
abbrev pub IsIdleAt : State → Event → Type 0
IsIdleAt w e = MayCome false e → (step false w e).reply ≡ reply.Idle

-- an end is where all of those do nothing
pub ends_idle : (closing : Bool) (w : State) → All (IsIdleAt w) (open_events closing w) → IsEnd w
ends_idle closing w all e may = elim (known closing w e (may_too closing e may)) [
  | inl can ↦ All-contains (IsIdleAt w) (open_events closing w) e all can may
  | inr same ↦ ap (λ (o : Outcome). o.reply) same
]
