-- The name of both queues, so that what comes out of either may be placed on the other.
use Rattle.acc_base.specs.declared.ids.QueueAt.{QueueAt}

abbrev pub here : QueueAt
here = record { device = 0; queue = 0 }
