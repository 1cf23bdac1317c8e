use Rattle.std.proofs.Common.{◌++◌}
use Rattle.std.specs.Prelude.{codes}
use Rattle.acc_check.specs.Told.{length_help, length_place, length_text}
use Rattle.acc_check.proofs.Joined.{joined}
use Rattle.acc_check.proofs.told.put_length.Goals as goal

pub returns : goal.returns
unfolding length_text
returns c =
    let place = length_place c.args.name.now c.args.first_line c.args.front.now in
    let told = codes "the text is too long\n" in
    let help = length_help c.args.language in
    let result = c.put_length_help.result in
    let placed = c.put_length_place.new.lines.items in
    let all = c.put_length_help.new.lines.items in
    let behind = joined result placed c.extend_from_slice.new.self.items all told help c.in_ok-extend_from_slice.ensures.items c.put_length_help.ensures in
    joined result c.args.lines.now.items placed all place (told ++ help) c.in_ok-put_length_place.ensures behind
