use Rattle.std.proofs.Common.{map, take}
use Rattle.acc_report.specs.Puts.{Puts, sink}
use Rattle.acc_token.specs.Texts.{shown_byte}
use Rattle.acc_steps.proofs.source.put_shown.Given as goal

abbrev pub invariant-loop-byte : goal.invariant-loop-byte
invariant-loop-byte g l =
    Puts (sink (g.W.Write.contents l.fn.out) l.fn.failed) (sink (g.W.Write.contents l.out) l.failed) (map shown_byte (take l.byte-index l.bytes))
