use Rattle.acc_explore.proofs.NamedEvents.{events_named}
use Rattle.acc_explore.proofs.SpelledSchedules.{spelled_is_read}
use Rattle.acc_explore.proofs.WorkedSchedules.{worked_schedule}
use Rattle.acc_explore.proofs.laws.spelled_schedules_are_read.Goals as goal

pub returns-clause-read : goal.returns-clause-read
returns-clause-read c = spelled_is_read

pub returns-clause-named : goal.returns-clause-named
returns-clause-named c = events_named

pub returns-clause-worked : goal.returns-clause-worked
returns-clause-worked c = worked_schedule
