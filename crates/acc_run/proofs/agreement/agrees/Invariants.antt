use Rattle.std.proofs.Common.{◌≤◌, drop}
use Rattle.std.specs.Prelude.{◌↔◌, map}
use Rattle.acc_run.specs.Agreement.{Agrees, histories_by}
use Rattle.acc_run.specs.Tokens.{listed_entry}
use Rattle.acc_run.specs.inner.Reading.{IsListed}
use Rattle.acc_run.proofs.agreement.agrees.Given as goal

abbrev pub invariant-loop-entry : goal.invariant-loop-entry
invariant-loop-entry l = record {
  gone : l.unread.gone ≤ l.entry-index;
  same : IsListed l.unread (map listed_entry (drop l.entry-index l.entry-items)) ↔ Agrees (histories_by l.place l.works.items) l.token.host (map listed_entry l.token.entries);
}
