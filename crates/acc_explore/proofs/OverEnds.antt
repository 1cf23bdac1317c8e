-- A run is over where no host and no queue can go on.
use Rattle.std.proofs.Common.{inl, inr, ◌≡◌, ℕ, suc, ◌+◌, ◌≤◌, Bool, true, false, cond, List, [], ◌∷◌, length, drop, refl, sym, ap, ◌∙◌, subst, Some, None, Option, Ok, Err, Result, slice_get, nat_lt, arith}
use Rattle.std.specs.Prelude.{All, IsTrue, ◌||◌}
use Rattle.std.proofs.Math.Seq.{drop-append_seam}
use Rattle.std.proofs.lemmas.Bool.{cases_Bool, le-leb, ltb-false}
use Rattle.std.proofs.lemmas.List.{take_all}
use Rattle.std.proofs.lemmas.List.Elements.{All-cons, All-drop, All-head, All-nil}
use Rattle.std.proofs.lemmas.Option.{slice_get_cases}
use Rattle.acc_base.specs.declared.fault.Fault.{Fault}
use Rattle.acc_base.specs.declared.fault.Fault.TheVariants.{BadAsync, BadDevice}
use Rattle.acc_base.specs.declared.ids.QueueAt.{QueueAt}
use Rattle.acc_batch.proofs.WholeBatches.{whole_reaches}
use Rattle.acc_batch.specs.declared.label.Label.{Label}
use Rattle.acc_batch.specs.Labels.{on_queue, ops_of}
use Rattle.acc_core.proofs.Enabled.{left_on, some_enabled}
use Rattle.acc_core.specs.Enabled.{is_did, is_left}
use Rattle.acc_core.specs.Following.{AllStand, StandsIn}
use Rattle.acc_core.specs.Legality.{IsLegalState, host_entries}
use Rattle.acc_core.specs.Machine.{State, host_step, item_answer, labels_of, named_step, place_answer, step, unless}
use Rattle.acc_explore.specs.Ends.{EndsAreOver, has_stopped}
use Rattle.acc_explore.specs.Explorations.{IsEnd}
use Rattle.acc_explore.proofs.OwedCounts.{EntryOwes, OwedThere, StandThere, entries_owe}
use Rattle.acc_host.specs.declared.event.Event.TheVariants as event
use Rattle.acc_host.specs.declared.program.Act.{Act}
use Rattle.acc_host.specs.declared.program.Act.TheVariants as act
use Rattle.acc_host.specs.declared.program.Statement.{Statement}
use Rattle.acc_host.specs.declared.state.Ids.{Ids}
use Rattle.acc_host.specs.declared.state.Phase.{Phase}
use Rattle.acc_host.specs.declared.state.Phase.TheVariants as phase
use Rattle.acc_host.specs.declared.state.Reply.TheVariants as reply
use Rattle.acc_host.specs.Engines.{HostEntry, Gave}
use Rattle.acc_host.specs.Following.{Behind, Owes, OwesFor}
use Rattle.acc_host.specs.Hosts.{HostView, after_answer, after_place, after_wait, owing, reply_to, state_in, state_of, wants}
use Rattle.acc_host.specs.Steps.{Owed, nothing_owed, owes_seen, owes_test, owed_by, Want, stays, sets, refuses, places, awaits, records, ids_after, is_async, set_or_refuse, wanted, with_ids}
use Rattle.acc_place.specs.declared.directive.Placed.{Placed}
use Rattle.acc_place.specs.Directives.{Directive}
use Rattle.acc_work.specs.declared.item.ItemLabel.TheVariants as to_record
use Rattle.acc_work.specs.declared.item.Shown.{Shown}
use Rattle.acc_work.specs.Enabled.{has_left}
use Rattle.acc_work.specs.Logs.{all_done, batches_done, performed}
use Rattle.acc_work.specs.Works.{item_fault}

none_left : (w : State) → IsLegalState w → IsEnd w → is_left w ≡ false
none_left w legal ends = elim (cases_Bool (is_left w)) [
  | inl left ↦
      let some = some_enabled w legal left in
      let idle : (is_did (step false w (event.Take some.0)).reply || is_did (step false w (event.Perform some.0)).reply) ≡ false =
      rw (ends (event.Take some.0) (tt {0})) (rw (ends (event.Perform some.0) (tt {0})) refl) in
      let wrong : true ≡ false = sym some.1 ∙ idle in
      absurd cc
  | inr none ↦ none
]

-- each queue has performed all of its batches
all_whole : (w : State) (at : QueueAt) → is_left w ≡ false → length (on_queue at (labels_of w)) ≤ batches_done (labels_of w) w.work at
all_whole w at none =
    let ls = on_queue at (labels_of w) in
    let here : has_left (labels_of w) w.work at ≡ false = elim (cases_Bool (has_left (labels_of w) w.work at)) [
      | inl left ↦ (let wrong : true ≡ false = sym (left_on w at left) ∙ none in absurd cc)
      | inr nothing ↦ nothing
    ] in
    let all = ltb-false (length (performed at w.work)) (length (ops_of ls)) here in
    whole_reaches ls (length ls) (length (performed at w.work)) (omega arith) (omega (arith, all, ap (λ (r : List Label). length (ops_of r)) (take_all (length ls) ls (omega arith))))

-- so it has performed what counts of its batches say
all_reached : (w : State) → is_left w ≡ false → (device q : ℕ) (counts : List ℕ) → StandThere (labels_of w) device q counts
    → all_done (labels_of w) w.work device q counts ≡ true
all_reached w none device q [] there = refl
all_reached w none device q (n ∷ ns) there =
    let at : QueueAt = record { device = device; queue = q } in
    rw (le-leb n (batches_done (labels_of w) w.work at) (omega (arith, there.0, all_whole w at none))) (all_reached w none device (q + 1) ns there.1)

-- ## What a host does

-- it can do something: it doesn't stay, and what it awaits is performed
abbrev Goes : State → Want → Type 0
Goes w stays = ⊥
Goes w (sets ids) = Unit {0}
Goes w (refuses fault) = Unit {0}
Goes w (places d) = Unit {0}
Goes w (awaits device counts) = all_done (labels_of w) w.work device 0 counts ≡ true
Goes w (records item) = Unit {0}

placed_moves : (d : Directive) (answer : Result Placed Fault) → reply_to (after_place d answer) ≡ reply.Idle → ⊥
placed_moves d (Ok placed) idle = by (owed_by d placed) idle
  where
    by : (owed : Owed) → reply_to (Ok (owing owed)) ≡ reply.Idle → ⊥
    by nothing_owed e = cc
    by (owes_seen device counts) e = cc
    by (owes_test device counts) e = cc
placed_moves d (Err fault) idle = cc

waited_moves : (fault : Option Fault) → reply_to (after_wait (unless fault true)) ≡ reply.Idle → ⊥
waited_moves None idle = cc
waited_moves (Some fault) idle = cc

item_moves : (answer : Result Shown Fault) → reply_to (after_answer answer) ≡ reply.Idle → ⊥
item_moves (Ok answer) idle = cc
item_moves (Err fault) idle = cc

moves : (w : State) (h : ℕ) (host : HostView) (want : Want) → Goes w want → (host_step false w h host want).reply ≡ reply.Idle → ⊥
moves w h host stays goes idle = goes
moves w h host (sets ids) goes idle = cc
moves w h host (refuses fault) goes idle = cc
moves w h host (places d) goes idle = placed_moves d (place_answer false w h d) idle
moves w h host (awaits device counts) goes idle =
    waited_moves (item_fault false w.work true) (ap (λ b. reply_to (after_wait (cond b (unless (item_fault false w.work true) true) (Ok false)))) (sym goes) ∙ idle)
moves w h host (records item) goes idle = item_moves (item_answer false w item) idle

-- a statement that is begun goes on
act_goes : (w : State) (ids : Ids) (a : Act) → Goes w (wanted w.config.devices ids a)
act_goes w ids (act.Place d) = tt {0}
act_goes w ids (act.Write array cell value) = tt {0}
act_goes w ids (act.Print range) = tt {0}
act_goes w ids (act.SetDevice n) = set_goes (nat_lt n w.config.devices) BadDevice (ids_after (act.SetDevice n) ids)
  where
    set_goes : (b : Bool) (fault : Fault) (next : Ids) → Goes w (set_or_refuse b fault next)
    set_goes true fault next = tt {0}
    set_goes false fault next = tt {0}
act_goes w ids (act.SetAsync v) = set_goes (is_async v) BadAsync (ids_after (act.SetAsync v) ids)
  where
    set_goes : (b : Bool) (fault : Fault) (next : Ids) → Goes w (set_or_refuse b fault next)
    set_goes true fault next = tt {0}
    set_goes false fault next = tt {0}
act_goes w ids act.ShowDevice = tt {0}
act_goes w ids act.ShowDevices = tt {0}

-- what a host waits for was placed
awaited : (w : State) (device : ℕ) (counts : List ℕ) (ids : Ids) (a : Act) (behind : List HostEntry) → All (EntryOwes (labels_of w)) behind
    → OwesFor ids a (owes_seen device counts) behind → StandThere (labels_of w) device 0 counts
awaited w device counts ids (act.Place d) behind all owes =
    let entry = All-head (EntryOwes (labels_of w)) (Gave (with_ids ids d) owes.0) [] (subst (All (EntryOwes (labels_of w))) owes.1 all) in
    subst (OwedThere (labels_of w)) owes.2 entry
awaited w device counts ids (act.Write array cell value) behind all owes = absurd owes
awaited w device counts ids (act.Print range) behind all owes = absurd owes
awaited w device counts ids (act.SetDevice n) behind all owes = absurd owes
awaited w device counts ids (act.SetAsync v) behind all owes = absurd owes
awaited w device counts ids act.ShowDevice behind all owes = absurd owes
awaited w device counts ids act.ShowDevices behind all owes = absurd owes

has_ended : (w : State) (h : ℕ) (host : HostView) → is_left w ≡ false → slice_get w.hosts h ≡ Some host → StandsIn w h host
    → (step false w (event.Host h)).reply ≡ reply.Idle → IsTrue (has_stopped (state_of host))
has_ended w h host none here stands idle = by_phase host.phase refl
  where
    wanted_idle : (want : Want) → wants w.config.devices host ≡ want → Goes w want → ⊥
    wanted_idle want e goes =
        moves w h host want goes
        (ap (λ (x : Want). (host_step false w h host x).reply) (sym e) ∙ (ap (λ (o : Option HostView). (named_step false w h o).reply) (sym here) ∙ idle))

    owed_all : All (EntryOwes (labels_of w)) stands.1.behind
    owed_all =
        subst (All (EntryOwes (labels_of w))) (ap (drop (length stands.1.past)) stands.1.parts ∙ drop-append_seam stands.1.past stands.1.behind)
        (All-drop (EntryOwes (labels_of w)) (length stands.1.past) (host_entries w h) (entries_owe w.config h w.history w.counts w.work))

    waits : (device : ℕ) (counts : List ℕ) → host.phase ≡ phase.Waits device counts → (s : Option Statement) → slice_get host.statements host.ended ≡ s
        → Owes host.ids s (owes_seen device counts) stands.1.behind → ⊥
    waits device counts e None at owes = owes
    waits device counts e (Some s) at owes =
        wanted_idle (awaits device counts) (rw e (rw at refl)) (all_reached w none device 0 counts (awaited w device counts host.ids s.act stands.1.behind owed_all owes))

    ready : host.phase ≡ phase.Ready → IsTrue (has_stopped (state_in host phase.Ready))
    ready e = elim (slice_get_cases host.statements host.ended).1 [
      | inl s ↦ absurd (wanted_idle (wanted w.config.devices host.ids s.0.act) (rw e (rw s.2 refl)) (act_goes w host.ids s.0.act))
      | inr past ↦ rw (le-leb (length host.statements) host.ended past.0) refl
    ]

    asks : (device : ℕ) (counts : List ℕ) → host.phase ≡ phase.Asks device counts → (s : Option Statement) → slice_get host.statements host.ended ≡ s
        → Owes host.ids s (owes_test device counts) stands.1.behind → ⊥
    asks device counts e None at owes = owes
    asks device counts e (Some s) at owes = wanted_idle (records (to_record.Test device counts)) (rw e (rw at refl)) (tt {0})

    next : (p : Phase) → host.phase ≡ p → Behind host.ids p (slice_get host.statements host.ended) stands.1.behind
    next p e = subst (λ (q : Phase). Behind host.ids q (slice_get host.statements host.ended) stands.1.behind) e stands.1.next

    by_phase : (p : Phase) → host.phase ≡ p → IsTrue (has_stopped (state_in host p))
    by_phase phase.Ready e = ready e
    by_phase (phase.Waits device counts) e =
        absurd (waits device counts e (slice_get host.statements host.ended) refl (next (phase.Waits device counts) e))
    by_phase (phase.Asks device counts) e = absurd (asks device counts e (slice_get host.statements host.ended) refl (next (phase.Asks device counts) e))
    by_phase (phase.Refused fault) e = refl

all_ended : (w : State) (h : ℕ) (hosts : List HostView) → is_left w ≡ false → IsEnd w
    → ((i : ℕ) → slice_get w.hosts (h + i) ≡ slice_get hosts i) → AllStand w h hosts
    → All (λ (host : HostView). IsTrue (has_stopped (state_of host))) hosts
all_ended w h [] none ends there stands = All-nil (λ (host : HostView). IsTrue (has_stopped (state_of host)))
all_ended w h (host ∷ hosts) none ends there stands =
    All-cons (λ (x : HostView). IsTrue (has_stopped (state_of x))) host hosts
    (has_ended w h host none (ap (slice_get w.hosts) (let same : h ≡ h + 0 = omega arith in same) ∙ there 0) stands.0 (ends (event.Host h) (tt {0})))
    (all_ended w (h + 1) hosts none ends (λ i. ap (slice_get w.hosts) (let same : h + 1 + i ≡ h + suc i = omega arith in same) ∙ there (suc i)) stands.1)

pub ends_are_over : EndsAreOver
ends_are_over w legal stands ends =
    let none = none_left w legal ends in
    record { performed = none; hosts = all_ended w 0 w.hosts none ends (λ i. ap (slice_get w.hosts) (let same : 0 + i ≡ i = omega arith in same)) stands }
