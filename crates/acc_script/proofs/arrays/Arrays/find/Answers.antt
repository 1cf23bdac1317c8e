use Rattle.std.proofs.Common.{sym, ◌∙◌}
use Rattle.std.specs.Prelude.{bytes_eq}
use Rattle.acc_script.proofs.ArrayNames.{place_of_text}
use Rattle.acc_script.proofs.arrays.Arrays.find.Goals as goal

pub returns-in-Some-clause-index : goal.returns-in-Some-clause-index
returns-in-Some-clause-index c = rw (← c.self.view_is) (c.in-Some.ensures.index ∙ sym (place_of_text (bytes_eq c.args.name.now) c.self.inside.names.keys))

pub returns-in-None-clause-index : goal.returns-in-None-clause-index
returns-in-None-clause-index c = rw (← c.self.view_is) (c.in-None.ensures.index ∙ sym (place_of_text (bytes_eq c.args.name.now) c.self.inside.names.keys))
