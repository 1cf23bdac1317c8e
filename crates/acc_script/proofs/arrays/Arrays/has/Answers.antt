use Rattle.std.proofs.Common.{sym, ◌∙◌}
use Rattle.std.specs.Prelude.{bytes_eq}
use Rattle.acc_script.proofs.ArrayNames.{any_text}
use Rattle.acc_script.proofs.arrays.Arrays.has.Goals as goal

pub returns : goal.returns
returns c = rw (← c.self.view_is) (c.contains.ensures ∙ sym (any_text (bytes_eq c.args.name.now) c.self.inside.names.keys))
