-- The queue that the tests open, and that their batches are for.
use Rattle.acc_base.specs.declared.ids.QueueAt.{QueueAt}

abbrev pub here : QueueAt
here = record { device = 0; queue = 2 }
