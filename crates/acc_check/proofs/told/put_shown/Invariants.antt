use Rattle.std.proofs.Common.{◌≡◌, ◌++◌, take, map}
use Rattle.acc_token.specs.Texts.{shown_byte}
use Rattle.acc_check.proofs.told.put_shown.Given as goal

abbrev pub invariant-loop-byte : goal.invariant-loop-byte
invariant-loop-byte l = l.lines.items ≡ l.fn.lines.items ++ map shown_byte (take l.byte-index l.bytes)
