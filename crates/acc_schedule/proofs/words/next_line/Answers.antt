use Rattle.acc_schedule.proofs.LinesAndWords.{lines-last, lines-next}
use Rattle.acc_schedule.proofs.words.next_line.Goals as goal

pub returns-in-empty-clause-lines : goal.returns-in-empty-clause-lines
returns-in-empty-clause-lines c =
    lines-last c.args.text.now _ c.split_at.result.1.now (rw c.line_len.ensures.value at c.split_at.ensures.front) (rw c.line_len.ensures.value at c.split_at.ensures.back) c.in-empty.len_below

pub returns-in-len1-up-clause-lines : goal.returns-in-len1-up-clause-lines
returns-in-len1-up-clause-lines c =
    lines-next c.args.text.now _ c.split_at.result.1.now (rw c.line_len.ensures.value at c.split_at.ensures.front) (rw c.line_len.ensures.value at c.split_at.ensures.back) c.in-len1-up.len_at_least
