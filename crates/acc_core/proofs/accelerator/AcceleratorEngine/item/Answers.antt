use Rattle.acc_host.specs.Engines.{Record, without_item}
use Rattle.acc_core.proofs.HostCalls.{Makes-lists, Makes-keeps}
use Rattle.acc_core.proofs.accelerator.AcceleratorEngine.item.Goals as goal

pub returns-clause-lists : goal.returns-clause-lists
returns-clause-lists c = Makes-lists c.args.self.now c.args.host (Record c.args.item (without_item c.record.result)) c.record.new.self c.keeps.ensures c.record.ensures.makes

pub returns-clause-keeps : goal.returns-clause-keeps
returns-clause-keeps c = Makes-keeps c.args.self.now c.args.host (Record c.args.item (without_item c.record.result)) c.record.new.self c.record.ensures.makes
