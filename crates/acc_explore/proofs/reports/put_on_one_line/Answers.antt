use Rattle.std.proofs.Common.{[], ◌∷◌, append-nil, get_or, take}
use Rattle.std.proofs.lemmas.List.{take_all, take_more}
use Rattle.std.proofs.lemmas.Grind.{flat_map-append}
use Rattle.acc_report.proofs.JoinedPuts.{puts_then}
use Rattle.acc_explore.specs.Endings.{in_line}
use Rattle.acc_explore.proofs.reports.put_on_one_line.Goals as goal

pub loop-byte-preserved : goal.loop-byte-preserved
loop-byte-preserved g c =
    let xs = c.args.report.now in
    let i = c.loop-byte.byte-index in
    let b = get_or xs i 0 in
    rw (take_more xs i 0 c.loop-byte-test.true, flat_map-append in_line (take i xs) (b ∷ []), append-nil (in_line b))
    (puts_then c.loop-byte.invariant c.put_in_line.ensures)

pub returns : goal.returns
returns g c =
    let whole = rw (take_all c.loop-byte.byte-index c.args.report.now c.loop-byte-test.false) at c.loop-byte.invariant in
    puts_then whole c.put.ensures
