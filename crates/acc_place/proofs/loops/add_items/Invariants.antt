use Rattle.std.proofs.Common.{◌≡◌, ◌≤◌, ◌++◌, take, vec_len, vec_capacity}
use Rattle.acc_place.proofs.loops.add_items.Given as goal

abbrev pub invariant-loop-item : goal.invariant-loop-item
invariant-loop-item l =
    record {
      items : l.into.items ≡ take 17 (l.fn.into.items ++ take l.item-index l.items);
      within : vec_len l.into ≤ 17;
      room : vec_capacity l.into ≡ vec_capacity l.fn.into;
    }
