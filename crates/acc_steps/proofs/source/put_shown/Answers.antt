use Rattle.std.proofs.Common.{[], ◌∷◌, get_or, take}
use Rattle.std.proofs.lemmas.List.{map-append, take_more}
use Rattle.acc_report.proofs.JoinedPuts.{puts_then}
use Rattle.acc_token.specs.Texts.{shown_byte}
use Rattle.acc_steps.proofs.source.put_shown.Goals as goal

pub loop-byte-preserved : goal.loop-byte-preserved
loop-byte-preserved g c =
    let bytes = c.args.bytes.now in
    let i = c.loop-byte.byte-index in
    rw (take_more bytes i 0 c.loop-byte-test.true, map-append shown_byte (take i bytes) (get_or bytes i 0 ∷ []))
    (puts_then c.loop-byte.invariant (rw c.shown.ensures at c.put.ensures))
