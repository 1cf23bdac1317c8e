use Rattle.std.proofs.Common.{arith}
use Rattle.std.proofs.lemmas.Grind.{common_steps}
use Rattle.acc_host.specs.declared.event.Event.TheVariants.{Host}
use Rattle.acc_schedule.proofs.RepeatedTurns.{map-more}
use Rattle.acc_schedule.proofs.turn.push_hosts.Goals as goal

pub loop-host-preserved : goal.loop-host-preserved
loop-host-preserved c = let more = map-more (λ h. Host h) c.args.events.now.items c.loop-host.host in grind (arith, common_steps, more)
