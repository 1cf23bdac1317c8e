use Rattle.std.proofs.Common.{sym, ◌∙◌}
use Rattle.acc_raw.proofs.Naming.{prev_set_is, prev_set_none}
use Rattle.acc_raw.proofs.Places.{at_is}
use Rattle.acc_raw.proofs.chained.set_prev.Goals as goal

pub get_mut-requires : goal.get_mut-requires
get_mut-requires g c = at_is c.args.store.now.links c.args.index.n c.in-Some.at (sym c.in-Some.is ∙ c.requires)

pub returns-in-Some : goal.returns-in-Some
returns-in-Some g c = prev_set_is c.args.store.now.links c.args.index.n c.in-Some.at.ptr c.get_mut.result.now c.args.to c.get_mut.ensures.value

pub returns-in_default : goal.returns-in_default
returns-in_default g c = prev_set_none c.args.store.now.links c.args.index.n c.args.to (sym c.in_default.is ∙ c.requires)
