use Rattle.acc_present.proofs.DraftShows.{beside_all}
use Rattle.acc_present.proofs.draft.Draft.begin.Goals as goal

pub returns-clause-drafted : goal.returns-clause-drafted
returns-clause-drafted c = rw c.clear.ensures.items (beside_all c.args.table.now.presences)

pub returns-clause-draft : goal.returns-clause-draft
returns-clause-draft c =
    let ps = c.args.table.now.presences in
    let same = beside_all ps in
    record {
      table = c.keeps.ensures.table;
      after = rw (c.clear.ensures.items, same) c.keeps.ensures.table;
      counted = rw (c.clear.ensures.items, same) c.used_cells-self-inside.ensures;
      within = rw (c.clear.ensures.items, same) c.keeps.ensures.capacity;
    }
