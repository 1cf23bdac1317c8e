use Rattle.std.proofs.Common.{◌≡◌, ◌+◌, [], arith, length, map, refl, reverse, subst, take}
use Rattle.std.proofs.lemmas.List.{length-map, length-reverse}
use Rattle.acc_core.specs.Legality.{IsLegalState}
use Rattle.acc_core.specs.Worlds.{first_state}
use Rattle.acc_report.proofs.JoinedPuts.{puts_then}
use Rattle.acc_explore.specs.Arrivals.{events_to}
use Rattle.acc_explore.specs.Origins.{setting_from}
use Rattle.acc_explore.specs.inner.Leaves.{HaveLeaves}
use Rattle.acc_explore.proofs.Explored.{legal_after}
use Rattle.acc_explore.proofs.ToldPrefixes.{are_prefixes, first_listed}
use Rattle.acc_explore.proofs.prefixes.tell_prefixes.Goals as goal

pub returns-in-Err-tell_each-clause-begun : goal.returns-in-Err-tell_each-clause-begun
returns-in-Err-tell_each-clause-begun g c =
    let o = c.args.origin.now in
    let x = setting_from o in
    let found = c.in-Ok.found in
    let arrivals = reverse found.arrivals.items in
    let numbers = c.push_leaves.new.numbers.items in
    let begun = rw (c.as_slice.ensures.value, c.as_slice-2.ensures.value) at c.in-Err-tell_each.ensures.begun in
    let count : c.len.result + 1 ≡ length arrivals + 1 = omega (arith, c.len.ensures, length-reverse found.arrivals.items) in
    let h = subst (λ n. HaveLeaves found.followed n found.ends.items numbers) count c.in-Ok-push_leaves.ensures.pushed in
    record {
      prefixes = map (events_to arrivals) (take begun.0 numbers);
      events = first_listed x o.most c.args.depth arrivals found.ends.items found.followed found.whole c.in-Ok.ensures.found numbers h begun.0;
      told = begun.1;
    }

pub returns-clause-told : goal.returns-clause-told
returns-clause-told g c =
    let o = c.args.origin.now in
    let x = setting_from o in
    let found = c.in-Ok.found in
    let arrivals = reverse found.arrivals.items in
    let numbers = c.push_leaves.new.numbers.items in
    let s = c.in-Ok.ensures.found in
    let kept = length-reverse found.arrivals.items in
    let told = rw (c.as_slice.ensures.value, c.as_slice-2.ensures.value) at c.in-Ok-tell_each.ensures.told in
    let count : c.len.result + 1 ≡ length arrivals + 1 = omega (arith, c.len.ensures, length-reverse found.arrivals.items) in
    let h = subst (λ n. HaveLeaves found.followed n found.ends.items numbers) count c.in-Ok-push_leaves.ensures.pushed in
    let begun = first_state o.config.now o.script.now.programs.items in
    let legal : IsLegalState begun = (c.runs_are_legal.ensures o.config.now o.script.now.programs.items [] [] begun c.requires.numbered refl).0 in
    record {
      prefixes = map (events_to arrivals) numbers;
      are = are_prefixes x o.most c.args.depth arrivals found.ends.items found.followed found.whole c.in-Ok.ensures.found numbers h (legal_after o.events.now begun legal);
      few = omega (arith, s.few, kept, c.len-3.ensures);
      stopped = λ not_whole. let all = s.stopped not_whole in omega (arith, all, kept, c.len-3.ensures);
      count_is = omega (arith, c.len-2.ensures, length-map numbers (events_to arrivals));
      told = puts_then told c.put_count.ensures;
    }
