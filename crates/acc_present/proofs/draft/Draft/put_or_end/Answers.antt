use Rattle.std.proofs.lemmas.List.{map-set}
use Rattle.acc_present.specs.Tables.{held_presence}
use Rattle.acc_present.proofs.draft.Draft.put_or_end.Goals as goal

pub returns-then-has_count-clause-changed : goal.returns-then-has_count-clause-changed
returns-then-has_count-clause-changed c = rw (← c.self.view_is) (map-set held_presence c.self.inside.changed.items c.args.index c.args.after)

pub returns-clause-changed : goal.returns-clause-changed
returns-clause-changed c = rw (← c.self.view_is) (map-set held_presence c.self.inside.changed.items c.args.index c.args.after)
