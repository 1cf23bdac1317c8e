use Rattle.acc_host.specs.Engines.{Place}
use Rattle.acc_core.proofs.HostCalls.{Makes-lists, Makes-keeps, Places-makes}
use Rattle.acc_core.proofs.accelerator.AcceleratorEngine.place.Goals as goal

pub returns-clause-makes : goal.returns-clause-makes
returns-clause-makes c = Places-makes c.args.self.now c.args.host c.args.directive.now c.accept.result c.accept.new.self c.accept.ensures

pub returns-clause-lists : goal.returns-clause-lists
returns-clause-lists c =
    Makes-lists c.args.self.now c.args.host (Place c.args.directive.now c.accept.result) c.accept.new.self c.keeps.ensures
    (Places-makes c.args.self.now c.args.host c.args.directive.now c.accept.result c.accept.new.self c.accept.ensures)

pub returns-clause-keeps : goal.returns-clause-keeps
returns-clause-keeps c =
    Makes-keeps c.args.self.now c.args.host (Place c.args.directive.now c.accept.result) c.accept.new.self
    (Places-makes c.args.self.now c.args.host c.args.directive.now c.accept.result c.accept.new.self c.accept.ensures)
