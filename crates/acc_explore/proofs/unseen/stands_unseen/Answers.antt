use Rattle.std.proofs.Common.{inl, inr, ◌∙◌, sym, ap, option_map}
use Rattle.acc_explore.proofs.UnseenTests.{told_unseen}
use Rattle.acc_explore.proofs.unseen.stands_unseen.Goals as goal

pub returns-then-unasked : goal.returns-then-unasked
returns-then-unasked c = λ so.
    told_unseen c.args.world.now c.args.at c.in-Some.op.now (sym c.next_op.ensures ∙ ap (λ o. option_map (λ op. op.now) o) c.in-Some.is) (sym c.is_unseen.ensures ∙ c.if-not-is_unseen.false)
    (sym c.enabled.ensures ∙ c.if-not-enabled.false) (inl (c.requires c.if-unasked.true))

pub returns-else-unasked : goal.returns-else-unasked
returns-else-unasked c = λ goes.
    told_unseen c.args.world.now c.args.at c.in-Some.op.now (sym c.next_op.ensures ∙ ap (λ o. option_map (λ op. op.now) o) c.in-Some.is) (sym c.is_unseen.ensures ∙ c.if-not-is_unseen.false)
    (sym c.enabled.ensures ∙ c.if-not-enabled.false) (inr (c.goes_on.ensures goes))
