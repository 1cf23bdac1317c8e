use Rattle.std.proofs.Common.{◌∙◌, ap, option_map, sym}
use Rattle.acc_explore.proofs.ApartTold.{told_apart}
use Rattle.acc_explore.proofs.apart.stands_apart.Goals as goal

pub returns-then-hosts_are_clear : goal.returns-then-hosts_are_clear
returns-then-hosts_are_clear c = λ clear.
    told_apart c.args.world.now c.args.at c.in-Some.op.now (sym c.next_op.ensures ∙ ap (λ o. option_map (λ op. op.now) o) c.in-Some.is) (sym c.enabled.ensures ∙ c.if-not-enabled.false)
    (c.is_unasked.ensures c.if-not-is_unasked.false) (c.hosts_are_clear.ensures c.if-hosts_are_clear.true) (c.queues_are_clear.ensures clear)
