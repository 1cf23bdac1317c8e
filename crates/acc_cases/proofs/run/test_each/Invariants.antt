use Rattle.std.proofs.Common.{◌≡◌, ◌+◌, List, map, take}
use Rattle.acc_cases.specs.declared.outcome.Outcome.{Outcome}
use Rattle.acc_cases.specs.Runs.{AllTested, tally_of}
use Rattle.acc_cases.proofs.run.test_each.Given as goal

abbrev pub invariant-loop-name : goal.invariant-loop-name
invariant-loop-name g l = record {
  tested : (outcomes : List Outcome) × AllTested (g.F.Folder.files l.initial.folder) l.common l.bless (map (λ n. n.now) (take l.name-index l.names)) outcomes (g.F.Folder.files l.folder) × (l.tally ≡ tally_of outcomes);
  counted : l.tally.passed + l.tally.failed ≡ l.name-index;
}
