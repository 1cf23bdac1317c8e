use Rattle.std.proofs.Common.{◌-◌, drop, length, map, sym, ap, ◌∙◌, arith}
use Rattle.std.proofs.lemmas.List.{drop-map, length-drop, take_all}
use Rattle.acc_host.specs.Hosts.{HostView, bare}
use Rattle.acc_host.proofs.host.Host.remaining.Goals as goal

pub returns-then-self-len : goal.returns-then-self-len
returns-then-self-len c =
    let ended = c.self.inside.ended in
    let all = c.deref.result.now in
    ap (map bare) (take_all (length all - ended) (drop ended all) (omega (arith, length-drop ended all)))
    ∙ sym (drop-map bare ended all)
    ∙ ap (λ statements. drop ended (map bare statements)) c.deref.ensures.value
    ∙ ap (λ (h : HostView). drop h.ended h.statements) c.self.view_is
