use Rattle.std.proofs.Common.{◌≡◌, ◌-◌, length, take, drop, arith}
use Rattle.std.proofs.lemmas.Grind.{common_steps}
use Rattle.acc_schedule.specs.Schedules.{lines}
use Rattle.acc_schedule.proofs.LinesAndWords.{lines-last, lines-next}
use Rattle.acc_steps.proofs.EventsByLine.{empty_line, line_at_end, line_before}
use Rattle.acc_steps.proofs.walk.lines_of.Goals as goal

pub loop-preserved : goal.loop-preserved
loop-preserved c =
    let next = lines-next c.loop.rest.now _ c.split_at.result.1.now (rw c.line_len.ensures.value at c.split_at.ensures.front) (rw c.line_len.ensures.value at c.split_at.ensures.back) c.in-len1-up.len_at_least in
    record {
      left = grind (arith, common_steps);
      same = rw c.in_ok-push-in-len1-up.ensures.items (line_before (lines c.args.text.now) c.loop.list.items c.split_at.result.0 c.loop.rest.now (take (length c.split_at.result.1.now - 1) (drop 1 c.split_at.result.1.now)) c.loop.invariant.same next);
    }

pub returns-in-empty-clause-lines : goal.returns-in-empty-clause-lines
returns-in-empty-clause-lines c =
    let last = lines-last c.loop.rest.now _ c.split_at.result.1.now (rw c.line_len.ensures.value at c.split_at.ensures.front) (rw c.line_len.ensures.value at c.split_at.ensures.back) c.in-empty.len_below in
    rw c.in_ok-push-in-empty.ensures.items (line_at_end (lines c.args.text.now) c.loop.list.items c.split_at.result.0 c.loop.rest.now c.loop.invariant.same last)

pub returns-clause-lines : goal.returns-clause-lines
returns-clause-lines c =
    let none : length c.loop.rest.now ≡ 0 = omega (arith, c.loop.invariant.left, c.loop-test.false, c.loop.auto.counter-end) in
    rw c.in_ok-push.ensures.items (line_at_end (lines c.args.text.now) c.loop.list.items _ c.loop.rest.now c.loop.invariant.same (empty_line c.loop.rest.now none))
