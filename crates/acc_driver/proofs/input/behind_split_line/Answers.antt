use Rattle.std.proofs.Common.{◌≤◌, length, sym, ◌∙◌, arith}
use Rattle.std.proofs.lemmas.List.{drop_all}
use Rattle.acc_driver.proofs.SplitText.{behind_split}
use Rattle.acc_driver.proofs.input.behind_split_line.Goals as goal

pub returns-in_default : goal.returns-in_default
returns-in_default c =
    let bs = c.args.bytes.now in
    let short : length bs ≤ 3 = omega (arith, c.in_default.len_below) in
    sym (behind_split bs c.requires ∙ drop_all 3 bs short)
