use Rattle.std.proofs.Common.{◌∙◌}
use Rattle.acc_raw.proofs.Showing.{none_shown}
use Rattle.acc_raw.proofs.chain.Chain.destroy_empty.Goals as goal

pub drop-requires : goal.drop-requires
drop-requires g c = none_shown c.self.inside.nodes.store.links (c.self.view_is ∙ c.requires)
