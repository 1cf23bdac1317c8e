use Rattle.std.proofs.Common.{◌≡◌, reverse, sym, subst}
use Rattle.acc_core.specs.Machine.{State}
use Rattle.acc_explore.specs.Alike.{Alike}
use Rattle.acc_explore.specs.Arrivals.{found_at}
use Rattle.acc_explore.specs.inner.Searching.{start_of}
use Rattle.acc_explore.specs.Scripts.{AreOfOneScript}
use Rattle.acc_explore.proofs.SearchEvents.{script_between, script_of_found}
use Rattle.acc_explore.proofs.found_worlds.is_like.Goals as goal

pub are_alike-requires : goal.are_alike-requires
are_alike-requires c =
    let start = start_of c.args.task.now in
    let arrivals = reverse c.args.arrivals.now in
    let old = c.in-Some.old.now in
    let is : old ≡ (found_at start arrivals c.args.number).state = c.in-Some.ensures start arrivals c.requires.worlds in
    script_between start old c.args.world.now (subst (AreOfOneScript start) (sym is) (script_of_found start arrivals c.args.number)) c.requires.script

pub returns-in-Some-clause-like : goal.returns-in-Some-clause-like
returns-in-Some-clause-like c = λ like.
    let start = start_of c.args.task.now in
    let arrivals = reverse c.args.arrivals.now in
    let old = c.in-Some.old.now in
    let is : old ≡ (found_at start arrivals c.args.number).state = c.in-Some.ensures start arrivals c.requires.worlds in
    subst (λ (w : State). Alike w c.args.world.now) is (c.are_alike.ensures like)

pub are_alike-requires-in-None : goal.are_alike-requires-in-None
are_alike-requires-in-None c =
    let start = start_of c.args.task.now in
    let old = c.in_ok-old-in-None.old in
    script_between start old c.args.world.now
    (subst (AreOfOneScript start) (sym c.in_ok-old-in-None.ensures.world) (script_of_found start (reverse c.args.arrivals.now) c.args.number)) c.requires.script

pub returns-in_ok-old-in-None-clause-like : goal.returns-in_ok-old-in-None-clause-like
returns-in_ok-old-in-None-clause-like c = λ like.
    subst (λ (w : State). Alike w c.args.world.now) c.in_ok-old-in-None.ensures.world (c.are_alike-in-None.ensures like)
