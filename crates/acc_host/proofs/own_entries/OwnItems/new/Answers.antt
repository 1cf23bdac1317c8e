use Rattle.acc_host.proofs.OwnRead.{items_are}
use Rattle.acc_host.proofs.own_entries.OwnItems.new.Goals as goal

pub returns : goal.returns
returns c = rw c.pages.ensures (items_are c.args.host c.args.works.now.items)
