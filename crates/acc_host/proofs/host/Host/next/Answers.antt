use Rattle.std.proofs.Common.{sym, subst}
use Rattle.acc_host.specs.Following.{Stands}
use Rattle.acc_host.proofs.HostStands.{Steps-stands}
use Rattle.acc_host.proofs.host.Host.next.Goals as goal

pub returns-clause-follows : goal.returns-clause-follows
returns-clause-follows g c = λ st.
    subst (λ n. Stands n c.go_on.new.self (g.E.Engine.entries c.go_on.new.engine c.go_on.new.self.host)) (sym c.go_on.ensures.keeps.same_devices)
    (Steps-stands g.E.Engine.makes g.E.Engine.entries (g.E.Engine.devices c.args.engine.now) c.args.engine.now c.args.self.now c.go_on.result c.go_on.new.engine c.go_on.new.self c.go_on.ensures.steps st)
