use Rattle.std.proofs.Common.{◌≡◌, ◌≤◌, length, take, vec_len, vec_capacity}
use Rattle.acc_present.specs.Drafts.{drafted}
use Rattle.acc_place.specs.Loops.{uses_among}
use Rattle.acc_place.proofs.loops.uses_in.Given as goal

abbrev pub invariant-loop-array : goal.invariant-loop-array
invariant-loop-array l =
    record {
      uses : l.uses.items ≡ uses_among l.items (drafted l.table l.draft) (take l.array-index l.arrays);
      few : vec_len l.uses ≤ l.array-index;
      room : length l.arrays ≤ vec_capacity l.uses;
    }
