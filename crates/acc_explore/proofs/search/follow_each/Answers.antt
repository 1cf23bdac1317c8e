use Rattle.std.proofs.Common.{inr, ◌≡◌, ◌≤◌, ◌+◌, ◌∷◌, [], ◌++◌, ℕ, List, true, false, length, reverse, take, refl, sym, ap, subst, ◌∙◌, arith}
use Rattle.std.specs.Prelude.{All, Contains}
use Rattle.std.proofs.lemmas.List.{length-reverse, take_all, take_more}
use Rattle.acc_base.specs.Queues.{queue_count}
use Rattle.acc_core.specs.Machine.{State, step}
use Rattle.acc_core.specs.Worlds.{OnePerHost}
use Rattle.acc_explore.specs.Arrivals.{found_at, found_by}
use Rattle.acc_explore.specs.declared.arrival.Arrival.{Arrival}
use Rattle.acc_explore.specs.declared.search.Course.{Course}
use Rattle.acc_explore.specs.declared.search.Course.TheVariants.{Full}
use Rattle.acc_explore.specs.declared.task.Task.{Task}
use Rattle.acc_explore.specs.Explorations.{FollowsAll, Found, HoldsAlike, IsEnd}
use Rattle.acc_explore.specs.inner.Searching.{AreNear, IsFollowed, Takes, events_in_turn, start_of}
use Rattle.acc_explore.specs.Runs.{open_events}
use Rattle.acc_explore.proofs.FollowedEvents.{goes_on, still_busy, still_here, still_idle, still_there}
use Rattle.acc_explore.proofs.SearchEvents.{IsIdleAt, each_listed, ends_idle, so_of_every}
use Rattle.acc_explore.proofs.SearchSteps.{drops, goes_past, goes_past_end, near_still}
use Rattle.acc_host.specs.declared.event.Event.{Event}
use Rattle.acc_explore.proofs.search.follow_each.Goals as goal

-- each event of the state with a number is followed
all_followed : (t : Task) (events : List Event) (i : ℕ) (arrivals : List Arrival) (numbers : List ℕ) (n : ℕ) → OnePerHost t.config.now t.programs.now
    → events ≡ events_in_turn t.closing t.config.now.hosts (queue_count t.config.now) → take i events ≡ events
    → IsFollowed t.closing t.most (start_of t) arrivals numbers n (take i events)
    → FollowsAll t.closing (found_by (start_of t) arrivals) (found_at (start_of t) arrivals n)
all_followed t events i arrivals numbers n one are all f =
    let g = found_at (start_of t) arrivals n in
    let Q : Event → Type 0 = λ e. HoldsAlike (g.depth + 1) (found_by (start_of t) arrivals) (step false g.state e).state in
    so_of_every t.closing t.config.now t.programs.now t.before.now one events are arrivals n Q (subst (All Q) all f.these)

pub returns-then-is_full-clause-followed : goal.returns-then-is_full-clause-followed
returns-then-is_full-clause-followed c =
    let t = c.args.task.now in
    let start = start_of t in
    let old = reverse c.loop-event.found.arrivals.items in
    let new = reverse c.follow.new.found.arrivals.items in
    let full = c.is_full.ensures.0 c.if-is_full.true in
    let same : new ≡ old = (subst (λ (course : Course). Takes t.most start old new c.args.number (found_at start old c.args.number).state c.event-item.result course) full c.in_ok-course.ensures.course).0 in
    rw (same, c.follow.ensures.ends)
    (drops t.closing t.most start old c.loop-event.found.ends.items c.args.number (take c.loop-event.event-index c.args.events.now) c.loop-event.invariant.followed)

pub returns-then-is_full-clause-near : goal.returns-then-is_full-clause-near
returns-then-is_full-clause-near c =
    let t = c.args.task.now in
    let start = start_of t in
    let old = reverse c.loop-event.found.arrivals.items in
    let new = reverse c.follow.new.found.arrivals.items in
    let full = c.is_full.ensures.0 c.if-is_full.true in
    let same : new ≡ old = (subst (λ (course : Course). Takes t.most start old new c.args.number (found_at start old c.args.number).state c.event-item.result course) full c.in_ok-course.ensures.course).0 in
    let inv = c.loop-event.invariant in
    subst (λ (xs : List Arrival). AreNear start (reverse c.args.found.now.arrivals.items) xs c.args.number) (sym same)
    (near_still t.closing t.most start old c.loop-event.found.ends.items c.args.number (take c.loop-event.event-index c.args.events.now) inv.followed
    (reverse c.args.found.now.arrivals.items) (ap (λ (f : Found). f.depth) inv.same) (omega (arith, inv.there, length-reverse c.loop-event.found.arrivals.items)))

pub returns-then-is_full-clause-full : goal.returns-then-is_full-clause-full
returns-then-is_full-clause-full c = λ no_room.
    let t = c.args.task.now in
    let start = start_of t in
    let old = reverse c.loop-event.found.arrivals.items in
    let new = reverse c.follow.new.found.arrivals.items in
    let full = c.is_full.ensures.0 c.if-is_full.true in
    let stops = subst (λ (course : Course). Takes t.most start old new c.args.number (found_at start old c.args.number).state c.event-item.result course) full c.in_ok-course.ensures.course in
    let longer : length new ≡ length old = ap length stops.0 in
    omega (arith, stops.1, longer, length-reverse c.follow.new.found.arrivals.items)

pub loop-event-preserved : goal.loop-event-preserved
loop-event-preserved c =
    let t = c.args.task.now in
    let start = start_of t in
    let old = reverse c.loop-event.found.arrivals.items in
    let new = reverse c.follow.new.found.arrivals.items in
    let n = c.args.number in
    let w = (found_at start old n).state in
    let events = c.args.events.now in
    let i = c.loop-event.event-index in
    let done = take i events in
    let e = c.event-item.result in
    let course = c.in_ok-course.course in
    let takes = c.in_ok-course.ensures.course in
    let is_end = c.loop-event.is_end in
    let leaves = c.leaves_end-is_end.result in
    let inv = c.loop-event.invariant in
    let low : n ≤ length old = omega (arith, inv.there, length-reverse c.loop-event.found.arrivals.items) in
    let room : course ≡ Full → ⊥ = λ is. let yes : c.is_full.result ≡ true = c.is_full.ensures.1 is in let wrong : true ≡ false = sym yes ∙ c.if-is_full.false in cc in
    let listed : Contains (open_events t.closing start) e =
    subst (Contains (open_events t.closing start)) (sym c.event-item.is)
    (each_listed t.closing t.config.now t.programs.now t.before.now c.requires.hosts events c.requires.events i e c.loop-event-test.true) in
    let still : found_at start new n ≡ found_at start old n = still_here t.most start old new n w e course takes low in
    let further : take (i + 1) events ≡ done ++ e ∷ [] = take_more events i e c.loop-event-test.true ∙ ap (λ x. done ++ x ∷ []) (sym c.event-item.is) in
    record {
      followed = rw (further, c.follow.ensures.ends)
          (goes_on t.most start old new n w e t.closing c.loop-event.found.ends.items done refl low listed inv.followed course takes room);
      there = omega (arith, still_there t.most start old new n w e course takes low, length-reverse c.follow.new.found.arrivals.items);
      here = c.in_ok-course.ensures.here;
      worlds = c.in_ok-course.ensures.worlds;
      same = still ∙ inv.same;
      idle = λ both.
          rw further
          (subst (λ (v : State). All (IsIdleAt v) (done ++ e ∷ [])) (sym (ap (λ (f : Found). f.state) still))
          (still_idle t.most start old new n w e course is_end leaves done takes c.leaves_end-is_end.ensures.0 inv.idle both));
      busy = λ isnt ends.
          still_busy t.most start old new n w e course is_end leaves takes room c.leaves_end-is_end.ensures.1 inv.busy isnt
          (subst IsEnd (ap (λ (f : Found). f.state) still) ends);
    }

pub returns-in_ok-push-clause-followed : goal.returns-in_ok-push-clause-followed
returns-in_ok-push-clause-followed c =
    let t = c.args.task.now in
    let start = start_of t in
    let arrivals = reverse c.loop-event.found.arrivals.items in
    let n = c.args.number in
    let events = c.args.events.now in
    let i = c.loop-event.event-index in
    let inv = c.loop-event.invariant in
    let all = take_all i events c.loop-event-test.false in
    let low : n ≤ length arrivals = omega (arith, inv.there, length-reverse c.loop-event.found.arrivals.items) in
    let idle : All (IsIdleAt (found_at start arrivals n).state) events =
    subst (All (IsIdleAt (found_at start arrivals n).state)) all (inv.idle c.if-is_end.true) in
    let is_end = ends_idle t.closing (found_at start arrivals n).state (so_of_every t.closing t.config.now t.programs.now t.before.now c.requires.hosts events c.requires.events arrivals n (IsIdleAt (found_at start arrivals n).state) idle) in
    rw c.in_ok-push.ensures.items
    (goes_past_end t.closing t.most start arrivals c.loop-event.found.ends.items n (take i events) inv.followed low
    (inr (all_followed t events i arrivals c.loop-event.found.ends.items n c.requires.hosts c.requires.events all inv.followed)) is_end)

pub returns-else-is_end-clause-followed : goal.returns-else-is_end-clause-followed
returns-else-is_end-clause-followed c =
    let t = c.args.task.now in
    let start = start_of t in
    let arrivals = reverse c.loop-event.found.arrivals.items in
    let n = c.args.number in
    let events = c.args.events.now in
    let i = c.loop-event.event-index in
    let inv = c.loop-event.invariant in
    let all = take_all i events c.loop-event-test.false in
    let low : n ≤ length arrivals = omega (arith, inv.there, length-reverse c.loop-event.found.arrivals.items) in
    goes_past t.closing t.most start arrivals c.loop-event.found.ends.items n (take i events) inv.followed low
    (inr (all_followed t events i arrivals c.loop-event.found.ends.items n c.requires.hosts c.requires.events all inv.followed))
    (λ ends. inv.busy c.if-is_end.false ends)

pub returns-in_ok-push-clause-near : goal.returns-in_ok-push-clause-near
returns-in_ok-push-clause-near c =
    let t = c.args.task.now in
    let inv = c.loop-event.invariant in
    near_still t.closing t.most (start_of t) (reverse c.loop-event.found.arrivals.items) c.loop-event.found.ends.items c.args.number (take c.loop-event.event-index c.args.events.now) inv.followed
    (reverse c.args.found.now.arrivals.items) (ap (λ (f : Found). f.depth) inv.same) (omega (arith, inv.there, length-reverse c.loop-event.found.arrivals.items))

pub returns-else-is_end-clause-near : goal.returns-else-is_end-clause-near
returns-else-is_end-clause-near c =
    let t = c.args.task.now in
    let inv = c.loop-event.invariant in
    near_still t.closing t.most (start_of t) (reverse c.loop-event.found.arrivals.items) c.loop-event.found.ends.items c.args.number (take c.loop-event.event-index c.args.events.now) inv.followed
    (reverse c.args.found.now.arrivals.items) (ap (λ (f : Found). f.depth) inv.same) (omega (arith, inv.there, length-reverse c.loop-event.found.arrivals.items))
