use Rattle.std.proofs.Common.{List, [], ◌∷◌, map, refl, ap, subst}
use Rattle.std.specs.Prelude.{ℕ}
use Rattle.acc_base.specs.declared.range.Range.{Range}
use Rattle.acc_present.specs.declared.entry.Entry.{Entry}
use Rattle.acc_present.specs.Notes.{entry_noted}
use Rattle.acc_present.specs.Tables.{TableView, AreNoted, entry_presence}
use Rattle.acc_present.proofs.table.Table.keeps.Goals as goal

entries_noted : (es : List Entry) → AreNoted (map entry_presence es) (map entry_noted es)
entries_noted [] = refl
entries_noted (e ∷ es) = (let here : Range × ℕ = (e.range, e.block) in ap (λ r. here ∷ r) (entries_noted es))

pub returns-clause-noted : goal.returns-clause-noted
returns-clause-noted c = subst (λ (v : TableView). AreNoted v.presences v.notes) c.self.view_is (entries_noted c.self.inside.entries.items)
