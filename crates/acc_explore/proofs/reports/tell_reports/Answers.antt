use Rattle.std.proofs.Common.{◌-◌, ◌^◌, [], arith, refl, reverse, take, ◌∙◌}
use Rattle.std.proofs.lemmas.List.{length-reverse}
use Rattle.acc_core.specs.Legality.{IsLegalState}
use Rattle.acc_core.specs.Worlds.{first_state}
use Rattle.acc_report.proofs.JoinedPuts.{puts_then}
use Rattle.acc_explore.specs.Origins.{setting_from}
use Rattle.acc_explore.specs.inner.Telling.{told_of}
use Rattle.acc_explore.proofs.Explored.{legal_after}
use Rattle.acc_explore.proofs.ToldEndings.{are_endings, are_some}
use Rattle.acc_explore.proofs.ToldReports.{count_is}
use Rattle.acc_explore.proofs.reports.tell_reports.Goals as goal

pub returns-in-Err-tell_ends-clause-begun : goal.returns-in-Err-tell_ends-clause-begun
returns-in-Err-tell_ends-clause-begun g c =
    let o = c.args.origin.now in
    let x = setting_from o in
    let found = c.in-Ok.found in
    let arrivals = reverse found.arrivals.items in
    let s = c.in-Ok.ensures.found in
    let begun = rw (c.as_slice.ensures.value, c.as_slice-2.ensures.value) at c.in-Err-tell_ends.ensures.begun in
    let some = are_some x o.most (2 ^ 64 - 1) arrivals found.ends.items found.followed found.whole s begun.0 in
    record { endings = told_of x arrivals (take begun.0 found.ends.items); each = some.0; differ = some.1; told = begun.1 }

pub returns-clause-told : goal.returns-clause-told
returns-clause-told g c =
    let o = c.args.origin.now in
    let x = setting_from o in
    let found = c.in-Ok.found in
    let arrivals = reverse found.arrivals.items in
    let s = c.in-Ok.ensures.found in
    let t = rw (c.as_slice.ensures.value, c.as_slice-2.ensures.value) at c.in-Ok-tell_ends.ensures.told in
    let begun = first_state o.config.now o.script.now.programs.items in
    let legal : IsLegalState begun = (c.runs_are_legal.ensures o.config.now o.script.now.programs.items [] [] begun c.requires.numbered refl).0 in
    let count = length-reverse found.arrivals.items in
    record {
      endings = told_of x arrivals found.ends.items;
      are = are_endings x o.most (2 ^ 64 - 1) arrivals found.ends.items found.followed found.whole s (omega arith) (legal_after o.events.now begun legal);
      few = omega (arith, s.few, count, c.len.ensures);
      stopped = λ not_whole. let all = s.stopped not_whole in omega (arith, all, count, c.len.ensures);
      reports = c.len-reports.ensures.len ∙ count_is t;
      refused = t.refused_is;
      told = puts_then t.told c.put_counts.ensures;
    }
