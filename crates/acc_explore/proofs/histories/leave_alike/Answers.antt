use Rattle.acc_explore.proofs.ComparedPlaces.{IsPlaceOf, worlds_leave_alike, worlds_own_same}
use Rattle.acc_explore.proofs.histories.leave_alike.Goals as goal

pub returns-then-have_accepted_alike-clause-places : goal.returns-then-have_accepted_alike-clause-places
returns-then-have_accepted_alike-clause-places c = λ same.
    let v = c.args.old.now in
    let w = c.args.new.now in
    let p = c.place.result.now in
    let q = c.place-2.result.now in
    let first : IsPlaceOf v p = record { config = c.place.ensures.config; history = c.place.ensures.history; counts = c.place.ensures.counts } in
    let second : IsPlaceOf w q = record { config = c.place-2.ensures.config; history = c.place-2.ensures.history; counts = c.place-2.ensures.counts } in
    worlds_leave_alike c.hosts.result v w p q c.requires.config first second c.keeps.ensures.legal.accepted c.keeps-2.ensures.legal.accepted (c.have_accepted_alike.ensures same)

pub returns-then-have_accepted_alike-clause-own : goal.returns-then-have_accepted_alike-clause-own
returns-then-have_accepted_alike-clause-own c = λ same.
    let v = c.args.old.now in
    let w = c.args.new.now in
    let p = c.place.result.now in
    let q = c.place-2.result.now in
    let first : IsPlaceOf v p = record { config = c.place.ensures.config; history = c.place.ensures.history; counts = c.place.ensures.counts } in
    let second : IsPlaceOf w q = record { config = c.place-2.ensures.config; history = c.place-2.ensures.history; counts = c.place-2.ensures.counts } in
    worlds_own_same c.hosts.result v w p q c.requires.config first second c.keeps.ensures.legal.accepted c.keeps-2.ensures.legal.accepted (c.have_accepted_alike.ensures same)
