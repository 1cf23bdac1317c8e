use Rattle.std.proofs.Common.{◌-◌, ◌∙◌, drop, length, map, sym, ap, arith}
use Rattle.std.proofs.lemmas.List.{drop-map, length-drop, take_all}
use Rattle.acc_explore.specs.Takes.{count_directives}
use Rattle.acc_host.specs.Hosts.{bare}
use Rattle.acc_explore.proofs.unplaced.directives_behind.Goals as goal

pub returns : goal.returns
returns c =
    let statements = c.args.statements.now in
    let rest = drop 1 statements in
    c.directives_in.ensures
    ∙ ap (λ ss. count_directives (map bare ss)) (take_all (length statements - 1) rest (omega (arith, length-drop 1 statements)))
    ∙ ap count_directives (sym (drop-map bare 1 statements))
