use Rattle.std.proofs.Common.{◌||◌, ap, map, reverse, sym, ◌∙◌}
use Rattle.std.specs.Prelude.{bytes_eq}
use Rattle.std.specs.List.{list_any}
use Rattle.acc_core.specs.Machine.{State}
use Rattle.acc_host.specs.Hosts.{is_refused, state_of}
use Rattle.acc_explore.specs.Origins.{setting_from}
use Rattle.acc_explore.proofs.ArrivalPaths.{events_lead}
use Rattle.acc_explore.proofs.ToldReports.{any_items, one_more_seen, seen_already, told_cut, told_now}
use Rattle.acc_explore.proofs.reports.tell_end.Goals as goal

pub returns-then-contains-clause-told : goal.returns-then-contains-clause-told
returns-then-contains-clause-told g c = λ endings old t.
    let x = setting_from c.args.origin.now in
    let seen = sym (any_items (bytes_eq c.as_slice.result.now) c.args.tally.now.seen.keys) ∙ (sym c.contains.ensures ∙ c.if-contains.true) in
    seen_already x c.args.form c.args.origin.now.schedule.now (reverse c.args.arrivals.now) c.args.end c.args.tally.now endings old _ t
    (rw (c.as_slice.ensures.value, c.in-Ok.ensures.report) at seen)

pub returns-in-Ok-insert-clause-told : goal.returns-in-Ok-insert-clause-told
returns-in-Ok-insert-clause-told g c = λ endings old t.
    let x = setting_from c.args.origin.now in
    let new = rw c.as_slice.ensures.value at (sym (any_items (bytes_eq c.as_slice.result.now) c.args.tally.now.seen.keys) ∙ (sym c.contains.ensures ∙ c.if-contains.false)) in
    let seen = one_more_seen c.args.tally.now.seen.keys c.insert.new.self.keys c.in-Ok.report.0 new c.in-Ok-insert.ensures.keys in
    let refuses = λ (w : State). list_any is_refused (map state_of w.hosts) in
    let there = (events_lead x.start (reverse c.args.arrivals.now) c.args.end).0 in
    told_now x c.args.form c.args.origin.now.schedule.now (reverse c.args.arrivals.now) c.args.end c.args.tally.now endings old _ t _ _
    (rw c.in-Ok.ensures.report at new) (rw c.in-Ok.ensures.report at seen) (ap (λ b. c.args.tally.now.refused || b) (c.in-Ok.ensures.refused ∙ ap refuses (sym there)))
    (rw (c.as_slice-2.ensures.value, c.as_slice-3.ensures.value, c.in-Ok.ensures.report, c.in-Ok-path.ensures.events, c.len-number.ensures.len) at c.put_ending.ensures)

pub returns-clause-begun : goal.returns-clause-begun
returns-clause-begun g c = λ endings old t.
    let x = setting_from c.args.origin.now in
    let new = sym (any_items (bytes_eq c.as_slice.result.now) c.args.tally.now.seen.keys) ∙ (sym c.contains.ensures ∙ c.if-contains.false) in
    told_cut x c.args.form c.args.origin.now.schedule.now (reverse c.args.arrivals.now) c.args.end c.args.tally.now endings old _ t _
    (rw (c.as_slice.ensures.value, c.in-Ok.ensures.report) at new) (rw (c.as_slice-2.ensures.value, c.as_slice-3.ensures.value, c.in-Ok.ensures.report, c.in-Ok-path.ensures.events, c.len-number.ensures.len) at c.put_ending.ensures)
