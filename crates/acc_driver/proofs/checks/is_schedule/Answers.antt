use Rattle.std.proofs.Common.{refl}
use Rattle.acc_driver.proofs.CheckAnswers.{quiet_where_whole, schedule_told}
use Rattle.acc_driver.proofs.checks.is_schedule.Goals as goal

pub returns-in-Ok-clause-schedule : goal.returns-in-Ok-clause-schedule
returns-in-Ok-clause-schedule g c = schedule_told c.args.hosts c.args.devices c.args.text.now c.in-Ok.whole c.in-Ok.ensures.schedule

pub returns-in-Ok-clause-silent : goal.returns-in-Ok-clause-silent
returns-in-Ok-clause-silent g c = λ is. quiet_where_whole _ _ c.in-Ok.whole _ _ c.in-Ok.ensures.told refl is
