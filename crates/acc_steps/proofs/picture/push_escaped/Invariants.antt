use Rattle.std.proofs.Common.{◌≡◌, ◌++◌, take}
use Rattle.acc_steps.specs.Pictures.{escaped}
use Rattle.acc_steps.proofs.picture.push_escaped.Given as goal

abbrev pub invariant-loop-byte : goal.invariant-loop-byte
invariant-loop-byte l = l.picture.items ≡ l.fn.picture.items ++ escaped (take l.byte-index l.text)
