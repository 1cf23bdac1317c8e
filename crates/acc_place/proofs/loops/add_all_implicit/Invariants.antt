use Rattle.std.proofs.Common.{◌≡◌, ◌≤◌, ◌++◌, take, vec_len, vec_capacity}
use Rattle.acc_place.specs.Implicit.{implicit_among}
use Rattle.acc_base.specs.Configurations.{lengths_of}
use Rattle.acc_place.proofs.loops.add_all_implicit.Given as goal

abbrev pub invariant-loop-array : goal.invariant-loop-array
invariant-loop-array l =
    record {
      items : l.into.items ≡ take 17 (l.fn.into.items ++ implicit_among (lengths_of l.config.arrays) l.regions l.host l.directive (take l.array-index l.arrays));
      within : vec_len l.into ≤ 17;
      room : vec_capacity l.into ≡ vec_capacity l.fn.into;
    }
