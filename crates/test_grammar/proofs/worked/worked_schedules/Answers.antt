use Rattle.std.proofs.Common.{refl}
use Rattle.test_grammar.proofs.FullSchedules.{full_schedule}
use Rattle.test_grammar.proofs.WorkedSchedules as schedules
use Rattle.test_grammar.proofs.worked.worked_schedules.Goals as goal

pub returns-clause-twenty_rounds : goal.returns-clause-twenty_rounds
returns-clause-twenty_rounds c = schedules.twenty_rounds

pub returns-clause-one_round : goal.returns-clause-one_round
returns-clause-one_round c = schedules.one_round

pub returns-clause-wider_round : goal.returns-clause-wider_round
returns-clause-wider_round c = schedules.wider_round

pub returns-clause-each_line : goal.returns-clause-each_line
returns-clause-each_line c = schedules.each_line

pub returns-clause-each_queue : goal.returns-clause-each_queue
returns-clause-each_queue c = schedules.each_queue

pub returns-clause-faults : goal.returns-clause-faults
returns-clause-faults c = schedules.faulty_lines

pub returns-clause-host_faults : goal.returns-clause-host_faults
returns-clause-host_faults c = schedules.faulty_hosts

pub returns-clause-queue_faults : goal.returns-clause-queue_faults
returns-clause-queue_faults c = schedules.faulty_queues

pub returns-clause-close_faults : goal.returns-clause-close_faults
returns-clause-close_faults c = schedules.faulty_closes

pub returns-clause-full : goal.returns-clause-full
returns-clause-full c = full_schedule

pub returns-clause-limits : goal.returns-clause-limits
returns-clause-limits c = record { times = refl; events = refl }
