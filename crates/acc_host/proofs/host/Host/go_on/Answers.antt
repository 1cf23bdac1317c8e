use Rattle.std.proofs.Common.{◌≡◌, ◌≤◌, length, map, None, arith, subst}
use Rattle.std.specs.Prelude.{slice_get}
use Rattle.std.proofs.lemmas.Option.{slice_get_past}
use Rattle.std.proofs.lemmas.List.{length-map}
use Rattle.acc_host.specs.Hosts.{HostView, bare}
use Rattle.acc_host.proofs.GoOn.{at_the_end}
use Rattle.acc_host.proofs.host.Host.go_on.Goals as goal

pub returns-then-self-len-clause-steps : goal.returns-then-self-len-clause-steps
returns-then-self-len-clause-steps g c =
    let xs = c.self.inside.statements.items in
    let past : length (map bare xs) ≤ c.self.inside.ended = omega (arith, length-map xs bare, c.len.ensures) in
    let none = slice_get_past (map bare xs) c.self.inside.ended past in
    let ended : slice_get c.args.self.now.statements c.args.self.now.ended ≡ None =
    subst (λ (h : HostView). slice_get h.statements h.ended ≡ None) c.self.view_is none in
    at_the_end g.E.Engine.makes g.E.Engine.entries (g.E.Engine.devices c.args.engine.now) c.args.engine.now c.args.self.now ended
