use Rattle.acc_explore.proofs.ArrivalPaths.{events_lead}
use Rattle.acc_explore.proofs.ReachedArrivals.{all_reached}
use Rattle.acc_explore.proofs.laws.arrivals_are_reached.Goals as goal

pub returns-clause-reached : goal.returns-clause-reached
returns-clause-reached c = all_reached

pub returns-clause-events : goal.returns-clause-events
returns-clause-events c = events_lead
