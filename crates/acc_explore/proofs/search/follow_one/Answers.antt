use Rattle.std.proofs.Common.{◌≡◌, ◌∙◌, true, false, List, [], length, reverse, refl, sym, ap, subst, arith}
use Rattle.std.proofs.lemmas.List.{length-reverse}
use Rattle.acc_core.specs.Machine.{State}
use Rattle.acc_explore.specs.Arrivals.{found_at}
use Rattle.acc_explore.specs.declared.arrival.Arrival.{Arrival}
use Rattle.acc_explore.specs.declared.search.Course.{Course}
use Rattle.acc_explore.specs.declared.search.Course.TheVariants.{Full}
use Rattle.acc_explore.specs.inner.Searching.{AreNear, Takes, start_of}
use Rattle.acc_explore.specs.Reductions.{MayGoFirst}
use Rattle.acc_explore.proofs.FollowedEvents.{followed_alone, near_alone}
use Rattle.acc_explore.proofs.SearchSteps.{near_still}
use Rattle.acc_explore.proofs.search.follow_one.Goals as goal

pub returns-then-is_full-clause-followed : goal.returns-then-is_full-clause-followed
returns-then-is_full-clause-followed c =
    let t = c.args.task.now in
    let old = reverse c.args.found.now.arrivals.items in
    let new = reverse c.follow.new.found.arrivals.items in
    let full = c.is_full.ensures.0 c.if-is_full.true in
    let same : new ≡ old = (subst (λ (course : Course). Takes t.most (start_of t) old new c.args.number (found_at (start_of t) old c.args.number).state c.args.event course) full c.in_ok-course.ensures.course).0 in
    rw (same, c.follow.ensures.ends) c.requires.followed

pub returns-then-is_full-clause-full : goal.returns-then-is_full-clause-full
returns-then-is_full-clause-full c = λ no_room.
    let t = c.args.task.now in
    let old = reverse c.args.found.now.arrivals.items in
    let new = reverse c.follow.new.found.arrivals.items in
    let full = c.is_full.ensures.0 c.if-is_full.true in
    let stops = subst (λ (course : Course). Takes t.most (start_of t) old new c.args.number (found_at (start_of t) old c.args.number).state c.args.event course) full c.in_ok-course.ensures.course in
    let longer : length new ≡ length old = ap length stops.0 in
    omega (arith, stops.1, longer, length-reverse c.follow.new.found.arrivals.items)

pub returns-clause-followed : goal.returns-clause-followed
returns-clause-followed c =
    let t = c.args.task.now in
    let old = reverse c.args.found.now.arrivals.items in
    let new = reverse c.follow.new.found.arrivals.items in
    let course = c.in_ok-course.course in
    let room : course ≡ Full → ⊥ = λ is. let yes : c.is_full.result ≡ true = c.is_full.ensures.1 is in let wrong : true ≡ false = sym yes ∙ c.if-is_full.false in cc in
    rw c.follow.ensures.ends
    (followed_alone t.closing t.most (start_of t) old new c.args.found.now.ends.items c.args.number (found_at (start_of t) old c.args.number).state c.args.event course refl
    (omega (arith, c.requires.there, length-reverse c.args.found.now.arrivals.items)) c.requires.listed
    (subst (λ (v : State). MayGoFirst t.closing v c.args.event) c.requires.world c.requires.first) c.requires.followed c.in_ok-course.ensures.course room)

pub returns-then-is_full-clause-near : goal.returns-then-is_full-clause-near
returns-then-is_full-clause-near c =
    let t = c.args.task.now in
    let old = reverse c.args.found.now.arrivals.items in
    let new = reverse c.follow.new.found.arrivals.items in
    let full = c.is_full.ensures.0 c.if-is_full.true in
    let same : new ≡ old = (subst (λ (course : Course). Takes t.most (start_of t) old new c.args.number (found_at (start_of t) old c.args.number).state c.args.event course) full c.in_ok-course.ensures.course).0 in
    subst (λ (xs : List Arrival). AreNear (start_of t) old xs c.args.number) (sym same)
    (near_still t.closing t.most (start_of t) old c.args.found.now.ends.items c.args.number [] c.requires.followed old refl
    (omega (arith, c.requires.there, length-reverse c.args.found.now.arrivals.items)))

pub returns-clause-near : goal.returns-clause-near
returns-clause-near c =
    let t = c.args.task.now in
    let old = reverse c.args.found.now.arrivals.items in
    let new = reverse c.follow.new.found.arrivals.items in
    let course = c.in_ok-course.course in
    let room : course ≡ Full → ⊥ = λ is. let yes : c.is_full.result ≡ true = c.is_full.ensures.1 is in let wrong : true ≡ false = sym yes ∙ c.if-is_full.false in cc in
    near_alone t.closing t.most (start_of t) old new c.args.found.now.ends.items c.args.number (found_at (start_of t) old c.args.number).state c.args.event course refl
    (omega (arith, c.requires.there, length-reverse c.args.found.now.arrivals.items)) c.requires.listed c.requires.followed c.in_ok-course.ensures.course room
