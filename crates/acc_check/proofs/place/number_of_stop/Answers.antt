use Rattle.std.proofs.Common.{◌≡◌, ◌-◌, length, take, ap, ◌∙◌, arith}
use Rattle.std.proofs.lemmas.List.{take_all}
use Rattle.acc_check.specs.Languages.{may_go_on}
use Rattle.acc_check.specs.Places.{end_of}
use Rattle.acc_check.proofs.Ends.{nothing_goes_on}
use Rattle.acc_check.proofs.place.number_of_stop.Goals as goal

pub loop-low-init : goal.loop-low-init
loop-low-init c =
    let text = c.args.text.now in
    let whole : take (end_of c.args.ends.now (length c.args.ends.now - 1)) text ≡ text = take_all (end_of c.args.ends.now (length c.args.ends.now - 1)) text (omega (arith, c.requires.last)) in
    record {
      ordered = omega arith;
      there = omega (arith, c.requires.some);
      before = nothing_goes_on c.args.language;
      behind = ap (may_go_on c.args.language) whole ∙ c.requires.stops;
    }
