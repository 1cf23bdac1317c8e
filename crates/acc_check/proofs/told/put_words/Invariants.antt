use Rattle.std.proofs.Common.{◌≡◌, ◌++◌, take}
use Rattle.acc_check.specs.Told.{words_text}
use Rattle.acc_check.proofs.told.put_words.Given as goal

abbrev pub invariant-loop-word : goal.invariant-loop-word
invariant-loop-word l = l.lines.items ≡ l.fn.lines.items ++ words_text (take l.word-index l.words)
