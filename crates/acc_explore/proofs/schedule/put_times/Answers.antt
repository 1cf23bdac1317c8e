use Rattle.std.proofs.Common.{◌≡◌, false, ◌==◌, arith}
use Rattle.std.proofs.lemmas.Bool.Decides.{nat_tests}
use Rattle.acc_explore.specs.Spellings.{times_text}
use Rattle.acc_report.proofs.JoinedPuts.{puts_then, puts_nothing}
use Rattle.acc_explore.proofs.schedule.put_times.Goals as goal

pub returns-then-times-ne1 : goal.returns-then-times-ne1
unfolding times_text
returns-then-times-ne1 g c =
    let more : (c.args.times == 1) ≡ false = grind (arith, nat_tests) in
    rw more (puts_then c.put.ensures c.put_number.ensures)

pub returns-else-times-ne1 : goal.returns-else-times-ne1
unfolding times_text
returns-else-times-ne1 g c =
    let once : c.args.times ≡ 1 = omega arith in
    rw once (puts_nothing _)
