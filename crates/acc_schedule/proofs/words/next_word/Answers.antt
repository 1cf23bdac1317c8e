use Rattle.std.proofs.Common.{◌≡◌, ◌∙◌}
use Rattle.acc_schedule.proofs.LinesAndWords.{begun, word_len, words-next}
use Rattle.acc_schedule.proofs.words.next_word.Goals as goal

pub returns : goal.returns
returns c =
    let line = c.args.line.now in
    let behind : c.split_at.result.1.now ≡ begun line = rw c.spaces_len.ensures.value at c.split_at.ensures.back in
    let long : c.word_len.result ≡ word_len (begun line) = rw behind at c.word_len.ensures.value in
    words-next line _ _ (rw (behind, long) at c.split_at-2.ensures.front) (rw (behind, long) at c.split_at-2.ensures.back) (c.split_at-2.ensures.front_len ∙ long)
