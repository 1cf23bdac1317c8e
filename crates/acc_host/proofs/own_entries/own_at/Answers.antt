use Rattle.std.proofs.Common.{rules, inl, inr}
use Rattle.acc_host.proofs.OwnRead.{owned-ended, owned-other}
use Rattle.acc_host.proofs.own_entries.own_at.Goals as goal

pub returns-in_err-directive : goal.returns-in_err-directive
returns-in_err-directive c = rw c.from_residual.ensures (owned-other c.args.host c.args.places.now c.args.counts.now c.args.answers.now c.args.index c.index-places-index.result c.requires (search (rules, c.in_err-directive.ensures)))

pub returns-in_err-get : goal.returns-in_err-get
returns-in_err-get c = rw c.from_residual-in_err-get.ensures (owned-ended c.args.host c.args.places.now c.args.counts.now c.args.answers.now c.args.index (inl (search rules)))

pub returns-in_err-get-2 : goal.returns-in_err-get-2
returns-in_err-get-2 c = rw c.from_residual-in_err-get-2.ensures (owned-ended c.args.host c.args.places.now c.args.counts.now c.args.answers.now c.args.index (inr (search rules)))
