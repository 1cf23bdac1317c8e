use Rattle.std.proofs.Common.{◌+◌, ◌≤◌, length, sym, ◌∙◌, arith}
use Rattle.acc_driver.proofs.SplitText.{next_line, split_script, split_schedule, whole_script, no_schedule}
use Rattle.acc_driver.proofs.input.split.Goals as goal

pub returns-then-is_split_line-clause-script : goal.returns-then-is_split_line-clause-script
returns-then-is_split_line-clause-script c =
    c.split_at.ensures.front ∙ sym (split_script c.args.text.now c.split_at.result.1.now c.loop.start c.loop.invariant.begins c.split_at.ensures.back (sym c.if-is_split_line.ensures))

pub returns-then-is_split_line-clause-schedule : goal.returns-then-is_split_line-clause-schedule
returns-then-is_split_line-clause-schedule c =
    c.behind_split_line.ensures ∙ sym (split_schedule c.args.text.now c.split_at.result.1.now c.loop.start c.loop.invariant.begins c.split_at.ensures.back (sym c.if-is_split_line.ensures))

pub returns-then-len-here-clause-script : goal.returns-then-len-here-clause-script
returns-then-len-here-clause-script c =
    let far : length c.args.text.now ≤ c.loop.start + (c.line_len-len.result + 1) = omega (arith, c.if-len-here.true, c.split_at.ensures.back_len) in
    let next = next_line c.args.text.now c.split_at.result.1.now c.loop.start c.line_len-len.result c.loop.invariant.begins c.split_at.ensures.back (sym c.if-is_split_line.ensures) c.line_len-len.ensures.value in
    sym (whole_script c.args.text.now _ next far)

pub returns-then-len-here-clause-schedule : goal.returns-then-len-here-clause-schedule
returns-then-len-here-clause-schedule c =
    let far : length c.args.text.now ≤ c.loop.start + (c.line_len-len.result + 1) = omega (arith, c.if-len-here.true, c.split_at.ensures.back_len) in
    let next = next_line c.args.text.now c.split_at.result.1.now c.loop.start c.line_len-len.result c.loop.invariant.begins c.split_at.ensures.back (sym c.if-is_split_line.ensures) c.line_len-len.ensures.value in
    sym (no_schedule c.args.text.now _ next far)

pub loop-preserved : goal.loop-preserved
loop-preserved c = record {
  begins = next_line c.args.text.now c.split_at.result.1.now c.loop.start c.line_len-len.result c.loop.invariant.begins c.split_at.ensures.back (sym c.if-is_split_line.ensures) c.line_len-len.ensures.value;
  far = omega (arith, c.loop.invariant.far);
  within = omega (arith, c.if-len-here.false, c.line_len-len.ensures.within, c.split_at.ensures.back_len);
}
