use Rattle.acc_host.proofs.OwnRead.{owned_are}
use Rattle.acc_host.proofs.own_entries.OwnDirectives.new.Goals as goal

pub returns : goal.returns
returns c =
    rw (c.history.ensures.history, c.counts.ensures, c.answers.ensures.answers) (owned_are c.args.place.now.config c.args.host c.args.place.now.history c.args.place.now.counts c.answers.ensures.together)
