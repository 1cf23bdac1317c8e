use Rattle.acc_host.specs.Engines.{Wait}
use Rattle.acc_core.proofs.HostCalls.{Makes-lists, Makes-keeps}
use Rattle.acc_core.proofs.accelerator.AcceleratorEngine.wait_for.Goals as goal

pub returns-clause-lists : goal.returns-clause-lists
returns-clause-lists c = Makes-lists c.args.self.now c.args.host (Wait c.args.device c.args.counts c.see.result) c.see.new.self c.keeps.ensures c.see.ensures.makes

pub returns-clause-keeps : goal.returns-clause-keeps
returns-clause-keeps c = Makes-keeps c.args.self.now c.args.host (Wait c.args.device c.args.counts c.see.result) c.see.new.self c.see.ensures.makes
