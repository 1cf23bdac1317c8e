use Rattle.std.proofs.Common.{[], ◌∷◌, arith}
use Rattle.acc_place.proofs.LoopItems.{take_full}
use Rattle.acc_place.proofs.loops.add_item.Goals as goal

pub returns-else-len-le-MAX_ITEMS-clause-items : goal.returns-else-len-le-MAX_ITEMS-clause-items
returns-else-len-le-MAX_ITEMS-clause-items c = take_full 17 c.args.into.now.items (c.args.item ∷ []) (omega arith)
