use Rattle.acc_run.proofs.Refusals.{refused_fault}
use Rattle.acc_run.proofs.runtime.Runtime.place.Goals as goal

pub returns-in-Err-clause-fault : goal.returns-in-Err-clause-fault
returns-in-Err-clause-fault g c = refused_fault c.deref_mut.result.now c.fault_without_memory.new.self c.host-host.result c.items-items_done.result c.args.directive.now c.fault_without_memory.result c.fault_without_memory.ensures
