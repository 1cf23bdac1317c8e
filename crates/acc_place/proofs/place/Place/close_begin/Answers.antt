use Rattle.std.proofs.Common.{reverse, sym}
use Rattle.acc_place.proofs.KeptCloses.{begun_by}
use Rattle.acc_place.proofs.place.Place.close_begin.Goals as goal

pub invariant_of-self : goal.invariant_of-self
invariant_of-self c =
    let w = c.self.inside in
    rw c.push_reserved.ensures.capacity
    (begun_by w.config w.history.items c.push_reserved.new.self.items (reverse w.counts.items) w.devices.items w.regions.items w.labels.queues w.closing w.closes.items _ w.labels.room c.self.invariant c.if-not-self.true c.push_reserved.ensures.items)

pub returns-then-not-self-clause-closing : goal.returns-then-not-self-clause-closing
returns-then-not-self-clause-closing c =
    let w = c.self.inside in
    let after = begun_by w.config w.history.items c.push_reserved.new.self.items (reverse w.counts.items) w.devices.items w.regions.items w.labels.queues w.closing w.closes.items _ w.labels.room c.self.invariant c.if-not-self.true c.push_reserved.ensures.items in
    sym after.1.begun
