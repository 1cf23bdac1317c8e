use Rattle.acc_explore.proofs.ApartTold.{told_queue}
use Rattle.acc_explore.proofs.apart.queue_is_clear.Goals as goal

pub returns : goal.returns
returns c = λ clear.
    told_queue c.args.world.now c.args.at c.args.op.now c.args.other c.place.result.now c.place.ensures.config c.place.ensures.history c.place.ensures.counts c.labels_on-labels.result.now c.labels_on-labels.ensures
    c.batches_behind-performed.result c.batches_behind-performed.ensures (c.rest_is_clear.ensures clear)
