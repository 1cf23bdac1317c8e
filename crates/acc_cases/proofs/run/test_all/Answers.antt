use Rattle.std.proofs.Common.{map, ap, subst, ◌∙◌, Option, List}
use Rattle.std.specs.Prelude.{string_bytes}
use Rattle.acc_cases.specs.Folders.{File}
use Rattle.acc_cases.specs.Runs.{AllTested}
use Rattle.acc_cases.proofs.CaseNames.{same_cases}
use Rattle.acc_cases.proofs.run.test_all.Goals as goal

pub returns-in-Ok-writeln-clause-tested : goal.returns-in-Ok-writeln-clause-tested
returns-in-Ok-writeln-clause-tested g c = λ fs known.
    let tested = c.in_ok-tally.ensures.tested in
    record {
      names = map (λ n. n.now) c.as_slice-2.result.now;
      outcomes = tested.0;
      cases =
          same_cases _ _ _ _ c.in-Ok-names_of.ensures (ap (map string_bytes) c.as_slice.ensures.value ∙ c.in-Ok.ensures fs known)
          (ap (map (λ n. n.now)) c.as_slice-2.ensures.value);
      tested = subst (λ (o : Option (List File)). AllTested o c.args.common c.args.bless (map (λ n. n.now) c.as_slice-2.result.now) tested.0 (g.F.Folder.files c.test_each.new.folder)) known tested.1;
      counted = tested.2;
    }
