use Rattle.std.proofs.Common.{reverse}
use Rattle.std.specs.Prelude.{Contains}
use Rattle.std.proofs.lemmas.List.Elements.{All-contains}
use Rattle.acc_explore.specs.inner.Searching.{start_of}
use Rattle.acc_explore.specs.Runs.{open_events}
use Rattle.acc_explore.proofs.GoingFirst.{nobody_found}
use Rattle.acc_explore.proofs.SearchEvents.{each_listed}
use Rattle.acc_explore.proofs.search.follow_enough.Goals as goal

pub goes_first-requires : goal.goes_first-requires
goes_first-requires c = λ unasked.
    let t = c.args.task.now in
    rw (c.in_ok-world.ensures.world, c.as_slice.ensures.value)
    (nobody_found (start_of t) (reverse c.args.found.now.arrivals.items) c.args.number (c.requires.asked unasked))

pub follow_one-requires-clause-listed : goal.follow_one-requires-clause-listed
follow_one-requires-clause-listed c =
    let t = c.args.task.now in
    let listed = Contains (open_events t.closing (start_of t)) in
    All-contains listed c.args.events.now c.in-Some.event
    (each_listed t.closing t.config.now t.programs.now t.before.now c.requires.hosts c.args.events.now c.requires.events) c.in-Some.ensures.listed

pub follow_one-requires-clause-first : goal.follow_one-requires-clause-first
follow_one-requires-clause-first c = c.in-Some.ensures.first
